-- answer meets its contract: the root's count tells; the walk counts the one tree's rules, then writes them.
use borrow.Author.Rules.{rules}
use native.Mathlib.Omega.{arith}
use mathlib.Core.List.{List}
use mathlib.Core.Path.{◌≡◌, refl, ap}
use mathlib.Core.Logic.{inl, inr}
use Prim.Native.Nat.{ℕ, ◌≤◌, ◌<◌}
use lib.ListN.{length, get_or}
use Rattle.chart.proofs.Cells.{item_few, item_fits}
use Rattle.tree_walk.specs.Charted.{rows_of}
use Rattle.tree_walk.specs.Walking.{Total}
use Rattle.tree_walk.proofs.Answers.{answer-none, answer-several, answer-one}
use Rattle.tree_walk.proofs.Turns.{span_in}
use Rattle.sentence.proofs.answer.Goals as goal

-- as many as all, which the list has room for; or more than it has
fits : {limit size : ℕ} (all : List ℕ) → Total all limit size → size ≤ limit → size ≡ length all
fits all (inl y) h = y.0
fits all (inr y) h = absurd (omega (arith, y.0))

short : {limit size : ℕ} (all : List ℕ) → Total all limit size → limit < size → limit < length all
short all (inl y) h = absurd (omega (arith, y.1))
short all (inr y) h = y.1

pub offset_bounds-work-at : goal.offset_bounds-work-at
offset_bounds-work-at c = let r = c.args.rows.now in
    let q = c.requires.has_chart.charted.ready in
    omega (arith, c.cell-at.ensures, item_few {i = 0} {j = length r.sentence.now} (span_in (rows_of r) c.requires.roomy (omega arith) (omega arith)) 2 (omega (arith, q.four)) q.few)

pub bounds-work-at : goal.bounds-work-at
bounds-work-at c = let r = c.args.rows.now in
    let q = c.requires.has_chart.charted.ready in
    omega (arith, c.cell-at.ensures, item_fits {i = 0} {j = length r.sentence.now} (span_in (rows_of r) c.requires.roomy (omega arith) (omega arith)) 2 (omega (arith, q.four)))

pub returns-then-c-eq0 : goal.returns-then-c-eq0
returns-then-c-eq0 c = λ G P X.
    (answer-none G P (rows_of c.args.rows.now) c.args.work.now X (omega (arith, ap (λ z. get_or c.args.work.now z 0) c.cell-at.ensures, c.if-c-eq0.true)), refl)

pub returns-then-c-gt1 : goal.returns-then-c-gt1
returns-then-c-gt1 c = λ G P X.
    (answer-several G P (rows_of c.args.rows.now) c.args.work.now X (omega (arith, ap (λ z. get_or c.args.work.now z 0) c.cell-at.ensures, c.if-c-gt1.true)), refl)

pub count_rules-size-requires : goal.count_rules-size-requires
count_rules-size-requires c = let h = c.requires.has_chart in
    let o = answer-one h.grammar h.places (rows_of c.args.rows.now) c.args.work.now h.charted (omega (arith, ap (λ z. get_or c.args.work.now z 0) c.cell-at.ensures, c.if-c-eq0.false, c.if-c-gt1.false)) in
    record { starts = record { course = o.course; begun = o.begins c.args.work.now refl o.low }; roomy = c.requires.roomy; limit_bound = search rules }

pub returns-then-limit-size : goal.returns-then-limit-size
returns-then-limit-size c = λ G P X.
    let o = answer-one G P (rows_of c.args.rows.now) c.args.work.now X (omega (arith, ap (λ z. get_or c.args.work.now z 0) c.cell-at.ensures, c.if-c-eq0.false, c.if-c-gt1.false)) in
    let k = c.count_rules-size.ensures o.course (o.begins c.args.work.now refl o.low) in
    (o.course.all, (o.agrees, short o.course.all k.0 c.if-limit-size.true, refl))

pub write_rules-requires : goal.write_rules-requires
write_rules-requires c = let h = c.requires.has_chart in
    let o = answer-one h.grammar h.places (rows_of c.args.rows.now) c.args.work.now h.charted (omega (arith, ap (λ z. get_or c.args.work.now z 0) c.cell-at.ensures, c.if-c-eq0.false, c.if-c-gt1.false)) in
    let k = c.count_rules-size.ensures o.course (o.begins c.args.work.now refl o.low) in record {
      fits = record {
        course = o.course;
        begun = o.begins c.count_rules-size.new.work c.count_rules-size.auto.work k.1;
        fits = omega (arith, fits o.course.all k.0 c.if-limit-size.false, c.if-limit-size.false);
      };
      roomy = record { cells = omega (arith, c.requires.roomy.cells, c.count_rules-size.auto.work); small = c.requires.roomy.small };
    }

pub returns : goal.returns
returns c = λ G P X.
    let o = answer-one G P (rows_of c.args.rows.now) c.args.work.now X (omega (arith, ap (λ z. get_or c.args.work.now z 0) c.cell-at.ensures, c.if-c-eq0.false, c.if-c-gt1.false)) in
    let k = c.count_rules-size.ensures o.course (o.begins c.args.work.now refl o.low) in
    let q = fits o.course.all k.0 c.if-limit-size.false in (
      o.course.all,
      (
        o.agrees,
        q,
        c.if-limit-size.false,
        c.write_rules.ensures o.course (o.begins c.count_rules-size.new.work c.count_rules-size.auto.work k.1) (omega (arith, q, c.if-limit-size.false)),
      ),
    )
