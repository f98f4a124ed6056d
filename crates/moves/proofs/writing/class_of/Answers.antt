-- class_of meets its contract: the tests are the definition's.
use native.Mathlib.Omega.{arith}
use borrow.Author.Tests.{le-leb, lt-leb}
use Prim.Native.Nat.{◌+◌, ◌-◌}
use mathlib.Core.Path.{◌≡◌, sym, ap, ◌∙◌}
use Rattle.grammar.specs.Limits.{limits}
use Rattle.moves.specs.Tables.{class_of, kept}
use Rattle.moves.proofs.writing.class_of.Goals as goal

pub returns-then-not-live : goal.returns-then-not-live
unfolding class_of
returns-then-not-live c = let a = c.args in
    ap (λ t. class_of limits a.from a.none (kept t a.x)) (sym (c.if-not-live.true))

pub returns-then-x-ge-NONTERMINAL_BASE : goal.returns-then-x-ge-NONTERMINAL_BASE
unfolding class_of
returns-then-x-ge-NONTERMINAL_BASE c = let a = c.args in
    let z : a.x - limits.nonterminal_base + a.from ≡ class_of limits a.from a.none a.x =
    simp (le-leb limits.nonterminal_base a.x (omega arith)) in
    z ∙ ap (λ t. class_of limits a.from a.none (kept t a.x)) (sym (c.if-not-live.false))

pub returns : goal.returns
unfolding class_of
returns c = let a = c.args in
    let z : a.none ≡ class_of limits a.from a.none a.x = simp (lt-leb limits.nonterminal_base a.x (omega arith)) in
    z ∙ ap (λ t. class_of limits a.from a.none (kept t a.x)) (sym (c.if-not-live.false))
