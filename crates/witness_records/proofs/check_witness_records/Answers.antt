-- check_witness_records meets its contract: up to each record the check goes on as the whole one, and its end is the definition's.
use native.Mathlib.Omega.{arith}
use mathlib.Core.Path.{ap, sym, ◌∙◌}
use mathlib.Core.List.{map}
use Rattle.triples.specs.Witness.{entry_of}
use Rattle.witness_records.specs.Records.{triples}
use Rattle.witness_records.specs.Walk.{end_of}
use Rattle.witness_records.proofs.Walks.{entry_at, entries_length, wrong, follow, ended, passed-answer, refused-answer}
use Rattle.witness_records.proofs.check_witness_records.Goals as goal

pub returns-in-Refused : goal.returns-in-Refused
returns-in-Refused c = let a = c.args in
    refused-answer a.t a.n a.table.now a.callers c.begin-w.result a.entries.now c.begin-w.ensures _ _ c.in-Refused.is

pub returns-in_default-step : goal.returns-in_default-step
returns-in_default-step c = let a = c.args in let w = c.begin-w.result in let l = c.loop-place in let es = c.args.entries.now in
    passed-answer a.t a.n a.table.now a.callers w es c.begin-w.ensures c.in_default.not-Refused _
    (λ M r. wrong M w r (map (entry_of w.states) (triples es)) l.last l.place _ (entry_at w.states es l.place c.loop-place-test.true)
    (omega (arith, c.loop-place-test.true, entries_length w.states es)) (l.invariant M r) c.step.result c.step.ensures c.in_default-step.not-Some)

pub loop-place-preserved : goal.loop-place-preserved
loop-place-preserved c = let w = c.begin-w.result in let l = c.loop-place in let es = c.args.entries.now in
    λ M r. follow M w r (map (entry_of w.states) (triples es)) l.last l.place _ (entry_at w.states es l.place c.loop-place-test.true)
    (omega (arith, c.loop-place-test.true, entries_length w.states es)) (l.invariant M r) _ c.in-Some.ensures

pub returns : goal.returns
returns c = let a = c.args in let w = c.begin-w.result in let l = c.loop-place in let es = c.args.entries.now in
    let long = entries_length w.states es in
    passed-answer a.t a.n a.table.now a.callers w es c.begin-w.ensures c.in_default.not-Refused _
    (λ M r. c.end_of.ensures ∙ ap (end_of w.states l.last) (sym long)
    ∙ ended M w r (map (entry_of w.states) (triples es)) l.last l.place (omega (arith, long, c.loop-place-test.false)) (l.invariant M r))
