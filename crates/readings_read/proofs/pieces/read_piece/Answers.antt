-- `readings_read::pieces::read_piece` meets its contract: the cases of `word_of`, by the first byte. Assumes nothing.
use native.Mathlib.Omega.{arith}
use mathlib.Core.Path.{sym, ap, ◌∙◌}
use Rattle.text.specs.Spelled.{spelled}
use Rattle.text_read.proofs.Values.{tail-part}
use Rattle.readings_read.specs.Words.{mark_piece}
use Rattle.readings_read.proofs.Words.{piece_none, piece_opening, piece_closing, piece_name}
use Rattle.readings_read.proofs.pieces.read_piece.Goals as goal

pub returns-then-n-eq0 : goal.returns-then-n-eq0
returns-then-n-eq0 c = let a = c.args in
    sym (piece_none a.t a.count (spelled a.text.now a.starts.now a.lengths.now) a.p.now c.if-n-eq0.true)

pub returns-then-p-eq-OPENS : goal.returns-then-p-eq-OPENS
returns-then-p-eq-OPENS c = let a = c.args in
    c.mark.ensures ∙ ap (mark_piece 1 a.count) (tail-part a.p.now 1)
    ∙ sym (piece_opening a.t a.count (spelled a.text.now a.starts.now a.lengths.now) a.p.now
    (omega (arith, c.if-n-eq0.false)) c.if-p-eq-OPENS.true)

pub returns-then-p-eq-CLOSES : goal.returns-then-p-eq-CLOSES
returns-then-p-eq-CLOSES c = let a = c.args in
    c.mark-then-p-eq-CLOSES.ensures ∙ ap (mark_piece 2 a.count) (tail-part a.p.now 1)
    ∙ sym (piece_closing a.t a.count (spelled a.text.now a.starts.now a.lengths.now) a.p.now
    (omega (arith, c.if-n-eq0.false)) c.if-p-eq-CLOSES.true)

pub returns : goal.returns
returns c = let a = c.args in
    c.name.ensures
    ∙ sym (piece_name a.t a.count (spelled a.text.now a.starts.now a.lengths.now) a.p.now
    (omega (arith, c.if-n-eq0.false)) c.if-p-eq-OPENS.false c.if-p-eq-CLOSES.false)
