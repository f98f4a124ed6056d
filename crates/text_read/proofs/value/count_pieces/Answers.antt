-- `text_read::value::count_pieces` meets its contract: the count so far and the pieces from the cursor on make up all. Assumes nothing.
use native.Mathlib.Omega.{arith}
use mathlib.Core.Path.{sym, ap, ◌∙◌}
use mathlib.Core.List.{[]}
use Rattle.names.proofs.Pieces.{piece_more, piece_last, piece_first}
use Rattle.text_read.specs.Values.{counted}
use Rattle.text_read.proofs.Values.{counted_good, counted_bad, counted-end}
use Rattle.text_read.proofs.value.count_pieces.Goals as goal

pub returns-then-n-e : goal.returns-then-n-e
returns-then-n-e c = let e = c.args in
    let l = c.loop-k in
    sym (l.invariant.2 ∙ ap (counted _) (piece_last e.c e.v.now l.a c.find-e.result (omega arith) c.find-e.ensures.at c.if-n-e.true)
    ∙ counted_good _ _ [] (sym c.is_name.ensures ∙ c.if-is_name.true) ∙ counted-end _)

pub loop-k-preserved : goal.loop-k-preserved
loop-k-preserved c = let e = c.args in
    let l = c.loop-k in (
      omega arith,
      omega arith,
      l.invariant.2 ∙ ap (counted _) (piece_more e.c e.v.now l.a c.find-e.result (omega arith) c.find-e.ensures.at c.if-n-e.false)
          ∙ counted_good _ _ _ (sym c.is_name.ensures ∙ c.if-is_name.true),
    )

pub returns-else-is_name : goal.returns-else-is_name
returns-else-is_name c = let e = c.args in
    let l = c.loop-k in
    sym (l.invariant.2 ∙ ap (counted _) (piece_first e.c e.v.now l.a c.find-e.result (omega arith) c.find-e.ensures.at).1
    ∙ counted_bad _ _ _ (sym c.is_name.ensures ∙ c.if-is_name.false))
