-- `readings_read::values::check_value` meets its contract: `Checking` holds at the cursor. Assumes nothing.
use Rattle.std.proofs.Common.{sym, ap, ◌∙◌, length, drop, arith}
use Rattle.text.specs.Pieces.{split_on}
use Rattle.text.specs.Spelled.{spelled}
use Rattle.names.specs.Found.{part}
use Rattle.names.proofs.Pieces.{piece_more, piece_last}
use Rattle.readings.specs.Readings.{words_of}
use Rattle.readings_read.specs.Words.{fault_of}
use Rattle.readings_read.proofs.Words.{form_none, pieces_none}
use Rattle.readings_read.proofs.Passes.{checking_start, checking_more, checking_form, checking_count}
use Rattle.readings_read.proofs.values.check_value.Goals as goal

pub returns-then-n-eq0 : goal.returns-then-n-eq0
returns-then-n-eq0 c = let a = c.args in
    let ns = spelled a.text.now a.starts.now a.lengths.now in
    let none = pieces_none a.v.now c.if-n-eq0.true in
    (ap (λ ps. fault_of a.t a.count ns (words_of a.count ps)) none ∙ form_none a.t a.count ns, sym (ap length none))

pub loop-fault-init : goal.loop-fault-init
loop-fault-init c = let a = c.args in
    (omega arith, omega arith, checking_start a.t a.count (spelled a.text.now a.starts.now a.lengths.now) a.v.now (omega (arith, c.if-n-eq0.false)))

pub returns-in-None : goal.returns-in-None
returns-in-None c = let a = c.args in
    let ns = spelled a.text.now a.starts.now a.lengths.now in
    let l = c.loop-fault in
    let h = checking_more a.t a.count ns a.v.now l.fault l.k (split_on 32 (drop l.a a.v.now))
    (part l.a c.find-e.result a.v.now) _ c.read_piece.result
    (piece_last 32 a.v.now l.a c.find-e.result (omega arith) c.find-e.ensures.at c.if-n-e.true) c.read_piece.ensures l.invariant.2 in (
      sym (checking_form a.t a.count ns a.v.now _ _ h) ∙ sym c.with_piece-fault.ensures ∙ c.in-None.is,
      checking_count a.t a.count ns a.v.now _ _ h,
    )

pub returns-in-Some : goal.returns-in-Some
returns-in-Some c = let a = c.args in
    let ns = spelled a.text.now a.starts.now a.lengths.now in
    let l = c.loop-fault in
    let h = checking_more a.t a.count ns a.v.now l.fault l.k (split_on 32 (drop l.a a.v.now))
    (part l.a c.find-e.result a.v.now) _ c.read_piece.result
    (piece_last 32 a.v.now l.a c.find-e.result (omega arith) c.find-e.ensures.at c.if-n-e.true) c.read_piece.ensures l.invariant.2 in
    sym (checking_form a.t a.count ns a.v.now _ _ h) ∙ sym c.with_piece-fault.ensures ∙ c.in-Some.is

pub loop-fault-preserved : goal.loop-fault-preserved
loop-fault-preserved c = let a = c.args in
    let ns = spelled a.text.now a.starts.now a.lengths.now in
    let l = c.loop-fault in
    let h = checking_more a.t a.count ns a.v.now l.fault l.k (split_on 32 (drop l.a a.v.now))
    (part l.a c.find-e.result a.v.now) _ c.read_piece.result
    (piece_more 32 a.v.now l.a c.find-e.result (omega arith) c.find-e.ensures.at c.if-n-e.false) c.read_piece.ensures l.invariant.2 in
    (omega arith, omega arith, rw c.with_piece-fault.ensures h)
