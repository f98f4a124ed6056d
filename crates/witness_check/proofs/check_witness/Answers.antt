-- check_witness meets its contract: the table's refusal stays the answer; the rows are those of the definition's grammar.
use mathlib.Core.Path.{ap, sym, ◌∙◌}
use Rattle.grammar.specs.Limits.{limits}
use Rattle.grammar.proofs.Answers.{then-goes, then_stops}
use Rattle.automaton.specs.CallerMoves.{moves_with}
use Rattle.triples.specs.Verdict.{check_verdict}
use Rattle.triples.specs.Witness.{check_row, check_witness}
use Rattle.witness_check.proofs.ReadyLaws.{ready_of}
use Rattle.witness_check.proofs.check_witness.Goals as goal

pub returns-in-Refused : goal.returns-in-Refused
unfolding check_witness
returns-in-Refused c = ap check_verdict (sym (then_stops _ (λ G. check_row (moves_with limits G c.args.callers) c.args.row.now) c.in-Refused.cause c.in-Refused.at
    (c.prepare-w.ensures.refused_as c.in-Refused.cause c.in-Refused.at c.in-Refused.is)))

pub returns-in-Passed : goal.returns-in-Passed
unfolding check_witness
returns-in-Passed c = let p = c.prepare-w.ensures.passed_as c.in-Passed.is in
    let r = p.2 in
    c.walk.ensures _ (ready_of (moves_with limits p.0 c.args.callers) r.regular _ _ _ r.size _ r.shows)
    ∙ ap check_verdict (sym (then-goes _ (λ G. check_row (moves_with limits G c.args.callers) c.args.row.now) p.0 p.1))
