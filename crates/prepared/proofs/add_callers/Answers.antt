-- add_callers meets its contract: what is built fits, and then the rows show the moves, or there are too many states.
use mathlib.Core.Path.{refl}
use Rattle.grammar.specs.Refusal.{too_many_states}
use Rattle.prepared.proofs.Rows.{stopped_for, too_many, with_callers}
use Rattle.prepared.proofs.add_callers.Goals as goal

pub build-b-requires : goal.build-b-requires
build-b-requires c = let p = c.requires in record { le_m = p.le_callers.0; begun = (p.t_value.0, p.t_value.2) }

pub returns-then-b-gt-MAX_STATES : goal.returns-then-b-gt-MAX_STATES
returns-then-b-gt-MAX_STATES c = λ G h B. stopped_for G c.args.callers _ _ too_many_states 0
    (too_many G B.columns.well_formed B.sentence c.args.callers c.requires.le_callers.0 c.requires.le_callers.1 c.build-b.result _ (c.build-b.ensures G B) c.if-b-gt-MAX_STATES.true)
    c.stopped.ensures

pub returns : goal.returns
returns c = λ G h B. with_callers G B.columns.well_formed B.sentence c.args.callers c.requires.le_callers.0 c.requires.le_callers.1 c.build-b.result _ (c.build-b.ensures G B)
    _ c.if-b-gt-MAX_STATES.false refl h refl refl
