-- A choice of moves at a triple, with the step that it gives. Source: document 02, [6] ("move choices that give a successor").
-- Assumes nothing.
use Rattle.std.specs.Prelude.{ℕ}
use Rattle.triples.specs.declared.Step.{Step}

pub record Choice : Type 0 where
  -- the triple
  pub layer : ℕ
  pub left : ℕ
  pub right : ℕ
  -- what moves, and where it leads
  pub step : Step

abbrev pub choice : ℕ → ℕ → ℕ → Step → Choice
choice f p q s = record { layer = f; left = p; right = q; step = s }
