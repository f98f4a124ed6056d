-- walk meets its contract: the rest of the row is checked from the entry before, so each turn is one step of the definition.
use native.Mathlib.Omega.{arith}
use mathlib.Core.Path.{◌≡◌, refl, ap, sym, ◌∙◌}
use Prim.Native.Nat.{ℕ, ◌*◌, ◌≤◌}
use native.Mathlib.Nat.{mul-le-mul}
use mathlib.Core.List.{List, [], ◌∷◌}
use lib.ListN.{length}
use Rattle.grammar.specs.Limits.{limits}
use Rattle.grammar.specs.Refusal.{witness_wrong}
use Rattle.triples.specs.Verdict.{check_verdict}
use Rattle.triples.specs.declared.CheckVerdict.TheVariants.{Refused}
use Rattle.witness_check.proofs.WalkLaws.{walk-empty, walk_first, walk_start, walk-beyond, walk_wrong, walk_more, walk-short, walk_ends}
use Rattle.witness_check.proofs.walk.Goals as goal

-- the square of 4 states to the most
square : (q : ℕ) → 4 ≤ q → q ≤ limits.max_states → (16 ≤ q * q) × (q * q ≤ limits.max_states * limits.max_states) × (q ≤ limits.max_states)
square q h k = (mul-le-mul {n₁ = 4} {m₁ = 4} h h, mul-le-mul {n₂ = limits.max_states} {m₂ = limits.max_states} k k, k)

nonempty : (row : List ℕ) → (length row ≡ 0 → ⊥) → 1 ≤ length row
nonempty [] n = absurd (n refl)
nonempty (x ∷ row) n = omega arith

pub returns-then-row-eq0 : goal.returns-then-row-eq0
returns-then-row-eq0 c = let a = c.args in λ G R. ap check_verdict (walk-empty G a.ahead.now a.after.now a.number.now a.member.now a.target.now a.t a.m a.q R a.row.now c.if-row-eq0.true)

pub returns-then-row-ne0 : goal.returns-then-row-ne0
returns-then-row-ne0 c = let a = c.args in λ G R. ap check_verdict (walk_first G a.ahead.now a.after.now a.number.now a.member.now a.target.now a.t a.m a.q R a.row.now c.if-row-eq0.false c.if-row-ne0.true)

pub loop-place-init : goal.loop-place-init
loop-place-init c = let a = c.args in (
  omega arith,
  nonempty a.row.now c.if-row-eq0.false,
  omega (arith, square a.q c.requires.0 c.requires.1),
  λ G R. walk_start G a.ahead.now a.after.now a.number.now a.member.now a.target.now a.t a.m a.q R a.row.now c.if-row-eq0.false c.if-row-ne0.false,
)

pub returns-then-count-next : goal.returns-then-count-next
returns-then-count-next c = let a = c.args in
    let l = c.loop-place in
    λ G R. ap check_verdict (walk-beyond G a.ahead.now a.after.now a.number.now a.member.now a.target.now a.t a.m a.q R a.row.now l.last l.place c.loop-place-test.true l.invariant.2 (omega (arith, c.if-count-next.true)) ∙ l.invariant.3 G R)

pub returns-then-not-is_successor : goal.returns-then-not-is_successor
returns-then-not-is_successor c = let a = c.args in
    let l = c.loop-place in
    λ G R. ap check_verdict (walk_wrong G a.ahead.now a.after.now a.number.now a.member.now a.target.now a.t a.m a.q R a.row.now l.last l.place c.loop-place-test.true l.invariant.2 (omega (arith, c.if-count-next.false))
    (sym c.is_successor.ensures ∙ c.if-not-is_successor.true) ∙ l.invariant.3 G R)

pub loop-place-preserved : goal.loop-place-preserved
loop-place-preserved c = let a = c.args in
    let l = c.loop-place in (
      omega arith,
      omega arith,
      omega (arith, c.if-count-next.false),
      λ G R. walk_more G a.ahead.now a.after.now a.number.now a.member.now a.target.now a.t a.m a.q R a.row.now l.last l.place c.loop-place-test.true l.invariant.2 (omega (arith, c.if-count-next.false))
          (sym c.is_successor.ensures ∙ c.if-not-is_successor.false) ∙ l.invariant.3 G R,
    )

pub returns-then-last-index_of : goal.returns-then-last-index_of
returns-then-last-index_of c = let a = c.args in
    let e : c.loop-place.place ≡ length a.row.now = omega (arith, c.loop-place.invariant.1, c.loop-place-test.false) in
    λ G R. ap (λ (n : ℕ). Refused witness_wrong n) (sym e) ∙ ap check_verdict (walk-short G a.ahead.now a.after.now a.number.now a.member.now a.target.now a.t a.m a.q R a.row.now c.loop-place.last c.loop-place.place c.loop-place-test.false
    (λ e. c.if-last-index_of.true (e ∙ sym c.index_of.ensures)) ∙ c.loop-place.invariant.3 G R)

pub returns : goal.returns
returns c = let a = c.args in
    λ G R. ap check_verdict (walk_ends G a.ahead.now a.after.now a.number.now a.member.now a.target.now a.t a.m a.q R a.row.now c.loop-place.last c.loop-place.place c.loop-place-test.false
    (c.if-last-index_of.false ∙ c.index_of.ensures) ∙ c.loop-place.invariant.3 G R)
