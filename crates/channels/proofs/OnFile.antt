-- The command set is the one on file: its table there is this one, so that what the rows say of it at 0, 1 and 2 callers holds here.
-- Assumes nothing.
use Prim.Native.Nat.{ℕ}
use mathlib.Core.Path.{◌≡◌, refl, sym, subst, ◌∙◌}
use native.Mathlib.Omega.{arith}
use Rattle.grammar.specs.Basics.{Mem}
use Rattle.grammar.specs.Limits.{limits}
use Rattle.grammar.specs.Grammar.{Grammar}
use Rattle.grammar.specs.Table.{encode}
use Rattle.grammar.proofs.Answers.{done_inj}
use Rattle.grammar.proofs.Lists.{place_mem}
use Rattle.automaton.specs.Strings.{Unambiguous}
use Rattle.automaton.specs.Callers.{callers}
use Rattle.automaton.specs.CallerMoves.{moves_with}
use Rattle.triples.specs.Smallest.{size}
use Rattle.on_file.specs.Rows.{unambiguous, Row, Claimed, answer_of, eight_channels, rows}
use Rattle.on_file.proofs.Rows.{every-row}
use Rattle.channels.specs.Commands.{commands, table}
use Rattle.channels.proofs.Closed.{passes}

pub on_file : eight_channels ≡ table
unfolding encode
on_file = refl

-- the row of the command set with m callers: Q and the size
abbrev row_of : ℕ → ℕ → ℕ → Row
row_of m Q k = record { terminals = 8; nonterminals = 3; table = eight_channels; callers = m; states = Q; claim = unambiguous k }

-- with m callers there are Q states, no two strings part, and the smallest set has k triples
abbrev pub Filed : ℕ → ℕ → ℕ → Type 0
Filed m Q k = ((callers limits commands m).states ≡ Q) × Unambiguous (callers limits commands m) × (size (moves_with limits commands m) ≡ k)

filed : (m Q k : ℕ) → Mem (row_of m Q k) rows → Filed m Q k
unfolding encode Claimed answer_of
filed m Q k h =
    let s = every-row (row_of m Q k) h in
    let e : s.grammar ≡ commands = done_inj (sym s.answers ∙ passes) in
    subst (λ (G : Grammar). ((callers limits G m).states ≡ Q) × Unambiguous (callers limits G m) × (size (moves_with limits G m) ≡ k)) e
    (s.count, s.claimed.0, s.claimed.1)

pub filed_0 : Filed 0 27 90
unfolding rows
filed_0 = filed 0 27 90 (place_mem rows 16 (row_of 0 0 0) (omega arith))

pub filed_1 : Filed 1 47 214
unfolding rows
filed_1 = filed 1 47 214 (place_mem rows 17 (row_of 0 0 0) (omega arith))

pub filed_2 : Filed 2 93 694
unfolding rows
filed_2 = filed 2 93 694 (place_mem rows 18 (row_of 0 0 0) (omega arith))
