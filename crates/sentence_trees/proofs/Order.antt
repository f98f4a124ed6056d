-- The order of refusals, and the answers: one law for each way out. Assumes nothing.
use Prim.Native.Nat.{ℕ, ◌≤◌, ◌<◌}
use mathlib.Core.Path.{◌≡◌, refl, sym, ap, subst}
use mathlib.Core.List.{List}
use native.Mathlib.Omega.{arith}
use lib.ListN.{length}
use borrow.Author.Tests.{le-leb, lt-leb}
use Rattle.grammar.specs.Limits.{limits}
use Rattle.grammar.specs.Grammar.{Grammar, state_count}
use Rattle.grammar.specs.Record.{record_of}
use Rattle.grammar.specs.declared.CheckedGrammar.{CheckedGrammar}
use Rattle.grammar.specs.Refusal.{done, refused, refuse_unless, and_then, buffer_too_short, row_wrong}
use Rattle.grammar.specs.TableCheck.{check_table}
use Rattle.grammar.specs.declared.Cause.{Cause}
use Rattle.trees.specs.Trees.{row_fault, max_row, places, work_size, check_row, cleared}
use Rattle.trees.specs.Promise.{FindsTrees, refuses, no_tree, several-trees, one-tree, too_short}
use Rattle.trees.specs.declared.TreesFound.{TreesFound}
use Rattle.trees.specs.declared.TreesFound.TheVariants as found
use Rattle.sentence.specs.Answered.{Answered}
use Rattle.sentence.specs.declared.Outcome.{Outcome}
use Rattle.sentence.specs.declared.Outcome.TheVariants.{Nothing, One, Several}
use Rattle.sentence.specs.declared.ListTooShort.{ListTooShort}
use Rattle.std.proofs.Common.{Result, Ok, Err}
use Rattle.sentence_trees.proofs.Faults.{fault_most}

-- the states and terminals of a grammar's record
pub states-of : (g : CheckedGrammar) (G : Grammar) → g ≡ record_of G → g.states ≡ state_count G.rules
unfolding record_of
states-of g G e = ap (λ g. g.states) e

pub terminals-of : (g : CheckedGrammar) (G : Grammar) → g ≡ record_of G → g.terminals ≡ G.terminals
unfolding record_of
terminals-of g G e = ap (λ g. g.terminals) e

-- what is told of an outcome
abbrev pub told : Result Outcome ListTooShort → TreesFound
told (Ok Nothing) = found.Nothing
told (Ok (One k)) = found.One k
told (Ok Several) = found.Several
told (Err e) = found.Refused buffer_too_short 0

module _ (t n : ℕ) (table w work list : List ℕ) where
  pub table-refused : (cause : Cause) (at : ℕ) → check_table limits t n table ≡ refused cause at
      → FindsTrees t n table w work list (found.Refused cause at) work list
  unfolding check_row and_then
  table-refused cause at e = refuses cause at (rw e refl)

  module _ (G : Grammar) (e : check_table limits t n table ≡ done G) (f : ℕ) (q : f ≡ row_fault t max_row w) where
    of_row : f < length w → check_row limits t n table w work ≡ refused row_wrong f
    unfolding check_row and_then refuse_unless
    of_row h = rw (e, lt-leb (length w) (row_fault t max_row w) (omega arith)) (ap (refused row_wrong) (sym q))

    of_work : length w ≤ f → length work < work_size G → check_row limits t n table w work ≡ refused buffer_too_short 0
    unfolding check_row and_then refuse_unless
    of_work h g = rw (e, le-leb (length w) (row_fault t max_row w) (omega arith), lt-leb (work_size G) (length work) g) refl

    of-done : length w ≤ f → work_size G ≤ length work → check_row limits t n table w work ≡ done G
    unfolding check_row and_then refuse_unless
    of-done h g = rw (e, le-leb (length w) (row_fault t max_row w) (omega arith), le-leb (work_size G) (length work) g) refl

    pub row-refused : f < length w → FindsTrees t n table w work list (found.Refused row_wrong f) work list
    row-refused h = refuses row_wrong f (of_row h)

    pub work_refused : length w ≤ f → length work < work_size G → FindsTrees t n table w work list (found.Refused buffer_too_short 0) work list
    work_refused h g = refuses buffer_too_short 0 (of_work h g)

    -- a row without fault has fewer terminals than places
    pub row-few : length w ≤ f → length w < places
    row-few h = omega (arith, fault_most t max_row w)

    pub answered : length w ≤ f → work_size G ≤ length work → (r : Result Outcome ListTooShort) (list' : List ℕ) → Answered G w list list' r
        → FindsTrees t n table w work list (told r) (cleared G work) list'
    answered h g (Ok Nothing) list' (a, l) =
        subst (FindsTrees t n table w work list found.Nothing (cleared G work)) (sym l) (no_tree G (of-done h g) a)
    answered h g (Ok Several) list' (a, l) =
        subst (FindsTrees t n table w work list found.Several (cleared G work)) (sym l) (several-trees G (of-done h g) a)
    answered h g (Err x) list' (rules, (a, s, l)) =
        subst (FindsTrees t n table w work list (found.Refused buffer_too_short 0) (cleared G work)) (sym l) (too_short G (of-done h g) rules a s)
    answered h g (Ok (One k)) list' (rules, (a, c, s, l)) =
        subst (λ z. FindsTrees t n table w work list (found.One z) (cleared G work) list') (sym c)
        (subst (FindsTrees t n table w work list (found.One (length rules)) (cleared G work)) (sym l)
        (one-tree G (of-done h g) rules a (omega arith)))
