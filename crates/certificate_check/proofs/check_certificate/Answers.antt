-- check_certificate meets its contract: the table's refusal stays the answer; the rows are those of the definition's grammar.
use native.Mathlib.Omega.{arith}
use mathlib.Core.Path.{ap, sym, ◌∙◌}
use Rattle.grammar.specs.Limits.{limits}
use Rattle.grammar.proofs.Answers.{then-goes, then_stops}
use Rattle.automaton.specs.CallerMoves.{moves_with}
use Rattle.triples.specs.Certificate.{check_bytes, check_certificate}
use Rattle.triples.specs.Verdict.{check_verdict}
use Rattle.plans.proofs.PlannedLaws.{verified_of}
use Rattle.plans.proofs.Planned.{planned-of}
use Rattle.certificate_check.proofs.check_certificate.Goals as goal

pub returns-in-Refused : goal.returns-in-Refused
unfolding check_certificate
returns-in-Refused c = ap check_verdict (sym (then_stops _ (λ G. check_bytes (moves_with limits G c.args.callers) c.args.bytes.now) c.in-Refused.cause c.in-Refused.at
    (c.prepare-w.ensures.refused_as c.in-Refused.cause c.in-Refused.at c.in-Refused.is)))

pub check_bits-requires : goal.check_bits-requires
check_bits-requires c = let p = c.prepare-w.ensures.passed_as c.in-Passed.is in
    let r = p.2 in
    verified_of (moves_with limits p.0 c.args.callers) r.regular _ _ _ r.size _ r.shows (omega (arith, r.long))

pub returns-in-Passed : goal.returns-in-Passed
unfolding check_certificate
returns-in-Passed c = let p = c.prepare-w.ensures.passed_as c.in-Passed.is in
    let r = p.2 in
    c.check_bits.ensures _ (planned-of (moves_with limits p.0 c.args.callers) r.regular _ _ _ r.size _ r.shows (omega (arith, r.long)))
    ∙ ap check_verdict (sym (then-goes _ (λ G. check_bytes (moves_with limits G c.args.callers) c.args.bytes.now) p.0 p.1))
