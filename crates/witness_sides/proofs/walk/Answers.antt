-- walk meets its contract: at each step the letters of the record that was found stand at the fronts too.
use native.Mathlib.Omega.{arith}
use mathlib.Core.Path.{refl, ◌∙◌}
use Rattle.steps.specs.Plan.{rows_of}
use Rattle.witness_sides.proofs.WalkLaws.{letters-none, letters-next, letters-all, some-step}
use Rattle.witness_sides.proofs.walk.Goals as goal

pub loop-x-init : goal.loop-x-init
loop-x-init c = let a = c.args in (
  refl,
  refl,
  omega arith,
  omega arith,
  λ M g o. (letters-none M (λ s. s.on_left) a.row.now a.left.now, letters-none M (λ s. s.on_right) a.row.now a.right.now),
)

pub loop-x-preserved-in_default : goal.loop-x-preserved-in_default
loop-x-preserved-in_default c = let a = c.args in let l = c.loop-x in
    let rows = rows_of a.ahead.now a.number.now a.member.now a.first.now a.after.now a.targets.now a.t a.m in (
      l.invariant.0,
      l.invariant.1,
      omega arith,
      omega arith,
      λ M g o. absurd (some-step M rows a.q c.requires.searchable.least g a.row.now o l.x l.auto.x c.loop-x-test.true c.step_to-found.result c.step_to-found.ensures c.in_default.not-Some),
    )

pub loop-x-preserved : goal.loop-x-preserved
loop-x-preserved c = let a = c.args in let l = c.loop-x in
    let rows = rows_of a.ahead.now a.number.now a.member.now a.first.now a.after.now a.targets.now a.t a.m in (
      c.put_letter-lefts.auto.row ∙ l.invariant.0,
      c.put_letter-rights.auto.row ∙ l.invariant.1,
      omega (arith, c.put_letter-lefts.ensures.upper_bound, l.invariant.2),
      omega (arith, c.put_letter-rights.ensures.upper_bound, l.invariant.3),
      λ M g o. let w = l.invariant.4 M g o in (
        letters-next M (λ s. s.on_left) rows a.q c.requires.searchable.least g a.row.now o l.x l.auto.x c.loop-x-test.true _ c.in-Some.ensures
            l.lefts c.put_letter-lefts.result l.left c.put_letter-lefts.new.row c.put_letter-lefts.ensures.appended w.0,
        letters-next M (λ s. s.on_right) rows a.q c.requires.searchable.least g a.row.now o l.x l.auto.x c.loop-x-test.true _ c.in-Some.ensures
            l.rights c.put_letter-rights.result l.right c.put_letter-rights.new.row c.put_letter-rights.ensures.appended w.1,
      ),
    )

pub returns : goal.returns
returns c = let l = c.loop-x in
    let row = c.args.row.now in
    λ M g o.
    let w = l.invariant.4 M g o in
    let u = letters-all M (λ s. s.on_left) row l.x l.lefts l.left c.loop-x-test.false w.0 in
    let v = letters-all M (λ s. s.on_right) row l.x l.rights l.right c.loop-x-test.false w.1 in
    record {
      left-length = u.long;
      right-length = v.long;
      left-front = u.front;
      right-front = v.front;
      left_fits = u.fits;
      right_fits = v.fits;
    }
