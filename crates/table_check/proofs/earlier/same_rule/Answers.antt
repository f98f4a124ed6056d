-- same_rule meets its contract: left codes first, then the two parts of the table.
use borrow.Author.Tests.{eq-eqb, ne_eqb}
use Prim.Native.Nat.{ℕ, ◌+◌, ◌-◌}
use mathlib.Core.Path.{ap, ◌∙◌}
use lib.ListN.{take, drop}
use native.Mathlib.Nat.{add-sub_cancel_left}
use Rattle.grammar.specs.TableCheck.{same_codes}
use Rattle.table_check.proofs.earlier.same_rule.Goals as goal

pub returns-then-table-o : goal.returns-then-table-o
returns-then-table-o c = simp (ne_eqb _ _ c.if-table-o.true)

pub returns : goal.returns
returns c = let a = c.args in
    simp (eq-eqb _ _ c.if-table-o.false)
    (c.same_codes.ensures
    ∙ ap (λ (j : ℕ). same_codes (take j (drop (a.o + 2) a.table.now)) (take (a.at + 2 + a.k - (a.at + 2)) (drop (a.at + 2) a.table.now)))
    (add-sub_cancel_left (a.o + 2) a.m)
    ∙ ap (λ (j : ℕ). same_codes (take a.m (drop (a.o + 2) a.table.now)) (take j (drop (a.at + 2) a.table.now)))
    (add-sub_cancel_left (a.at + 2) a.k))
