-- A walk through the one tree of a chart, from the root, children left to right: the frame at hand and those that wait in a stack.
-- Assumes nothing.
use Rattle.std.specs.Prelude.{ℕ, ◌+◌, ◌≤◌, ◌≡◌, List, [], ◌∷◌, ◌++◌, length}
use Rattle.grammar.specs.Limits.{Limits}
use Rattle.grammar.specs.Grammar.{Grammar}
use Rattle.grammar.specs.Tree.{Trees}
use Rattle.trees.specs.Trees.{rules_below}
use Rattle.tree_laws.specs.Spans.{Spans, depth}
use Rattle.tree_laws.specs.Chart.{Places, Chart}

-- where the walk stands: a place, and the part of the row that is still to be derived from there
pub record Frame : Type 0 where
  pub place : ℕ
  pub from : ℕ
  pub to : ℕ

module _ (L : Limits) (G : Grammar) (w : List ℕ) (P : Places L G) (C : Chart) where
  -- the forest f is to be read from a frame, and the chart counts no other
  pub record Pending (x : Frame) (f : Trees) : Type 0 where
    pub spans : Spans L G w (P.rest x.place) f x.from x.to
    pub few : C.item x.place x.from x.to ≤ 1

  -- the frames that wait, the last one first, the rules that come from them, all within a room
  pub data Waiting (room : ℕ) : List Frame → List ℕ → Type 0 where
    none-waits : Waiting room [] []
    waits : {x : Frame} {f : Trees} {stack : List Frame} {rest : List ℕ} → Pending x f → length stack + depth f ≤ room
        → Waiting room stack rest → Waiting room (x ∷ stack) (rules_below f ++ rest)

  -- a walk: what is written, the frame at hand with its forest, and what waits, give all the rules
  pub record Walk (room : ℕ) (all out : List ℕ) (x : Frame) (stack : List Frame) : Type 0 where
    pub now : Trees
    pub rest : List ℕ
    pub pending : Pending x now
    pub fits : length stack + depth now ≤ room
    pub waiting : Waiting room stack rest
    pub written : out ++ (rules_below now ++ rest) ≡ all
