-- is_repeat meets its contract: rules with different left codes differ, and else the rules themselves are compared.
use borrow.Author.Tests.{ne_eqb}
use native.Mathlib.Omega.{arith}
use mathlib.Core.Path.{◌≡◌, ap, sym, subst, ◌∙◌}
use mathlib.Core.Bool.{Bool, false, ◌&&◌}
use Prim.Native.Nat.{ℕ, ◌+◌, ◌≤◌}
use lib.Dec.{eqb}
use lib.ListN.{get_or, take, drop}
use Rattle.grammar.specs.Table.{rule_at}
use Rattle.grammar.specs.TableCheck.{same_codes, same_rule}
use Rattle.table_check.proofs.earlier.is_repeat.Goals as goal

other-left : (x y : ℕ) (b : Bool) → (x ≡ y → ⊥) → false ≡ eqb x y && b
other-left x y b n = simp (ne_eqb x y n)

pub returns-then-lefts-i : goal.returns-then-lefts-i
returns-then-lefts-i c = let e = c in let a = e.args in let xs = a.table.now in let o = get_or a.offsets.now a.i 0 in
    other-left (get_or xs o 0) (get_or xs a.at 0) (same_codes (take (get_or xs (o + 1) 0) (drop (o + 2) xs)) (take a.k (drop (a.at + 2) xs)))
    (λ q. c.if-lefts-i.true (e.requires.left ∙ q))

pub same_rule-requires : goal.same_rule-requires
same_rule-requires c = let e = c in let a = e.args in
    let r = subst (λ (o : ℕ). o + 2 + get_or a.table.now (o + 1) 0 ≤ a.at) (sym c.from-o.ensures) e.requires.room in
    (omega (arith, r, c.from-m.ensures, e.requires.whole), e.requires.whole)

pub returns : goal.returns
returns c = let a = c.args in let p = c.from-o in
    c.same_rule.ensures
    ∙ ap (λ (m : ℕ). same_rule (rule_at a.table.now p.result m) (rule_at a.table.now a.at a.k)) c.from-m.ensures
    ∙ ap (λ (o : ℕ). same_rule (rule_at a.table.now o (get_or a.table.now (o + 1) 0)) (rule_at a.table.now a.at a.k)) p.ensures
