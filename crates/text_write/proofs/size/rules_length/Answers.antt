-- `text_write::size::rules_length` meets its contract: the total and what the rules from the offset on give are the whole. Assumes nothing.
use Rattle.std.proofs.Common.{refl, ap, get_or, arith}
use Rattle.text_write.proofs.TableLaws.{turn, known-right, no_rules}
use Rattle.text_write.proofs.LengthLaws.{rules-more, rules-none}
use Rattle.text_write.proofs.size.rules_length.Goals as goal

pub symbol-s-requires : goal.symbol-s-requires
symbol-s-requires c =
    let here = turn _ c.loop-o.invariant.1 c.loop-o-test.true refl in
    ((here.known.each 0 (omega arith)).0, here.known.few)

pub bounds-table-o-in-loop-o : goal.bounds-table-o-in-loop-o
bounds-table-o-in-loop-o c = omega (arith, (turn _ c.loop-o.invariant.1 c.loop-o-test.true refl).whole)

pub offset_bounds-lengths-s : goal.offset_bounds-lengths-s
offset_bounds-lengths-s c =
    let here = turn _ c.loop-o.invariant.1 c.loop-o-test.true refl in
    omega (arith, c.symbol-s.ensures, (here.known.each 0 (omega arith)).1)

pub bounds-lengths-s : goal.bounds-lengths-s
bounds-lengths-s c =
    let here = turn _ c.loop-o.invariant.1 c.loop-o-test.true refl in
    omega (arith, c.symbol-s.ensures, (here.known.each 0 (omega arith)).1)

pub slice_bounds-codes_length-end : goal.slice_bounds-codes_length-end
slice_bounds-codes_length-end c = omega (arith, (turn _ c.loop-o.invariant.1 c.loop-o-test.true refl).whole)

pub codes_length-requires : goal.codes_length-requires
codes_length-requires c =
    let here = turn _ c.loop-o.invariant.1 c.loop-o-test.true refl in (
      known-right here.known,
      omega (arith, rules-more c.args.t c.args.lengths.now _ _ _ here.rules, c.loop-o.invariant.2, c.requires.1),
    )

pub overflow_add-total-in-loop-o-2 : goal.overflow_add-total-in-loop-o-2
overflow_add-total-in-loop-o-2 c =
    let here = turn _ c.loop-o.invariant.1 c.loop-o-test.true refl in
    omega (
      arith,
      rules-more c.args.t c.args.lengths.now _ _ _ here.rules,
      ap (λ s. get_or c.args.lengths.now s 0) c.symbol-s.ensures,
      c.codes_length.ensures,
      c.loop-o.invariant.2,
      c.requires.1,
    )

pub loop-o-preserved : goal.loop-o-preserved
loop-o-preserved c =
    let here = turn _ c.loop-o.invariant.1 c.loop-o-test.true refl in (
      here.whole,
      here.next,
      omega (
        arith,
        rules-more c.args.t c.args.lengths.now _ _ _ here.rules,
        ap (λ s. get_or c.args.lengths.now s 0) c.symbol-s.ensures,
        c.codes_length.ensures,
        c.loop-o.invariant.2,
      ),
    )

pub returns : goal.returns
returns c = let a = c.args in
    let l = c.loop-o in
    omega (arith, rules-none a.t a.lengths.now _ (no_rules a.table.now l.o c.loop-o-test.false), l.invariant.2)
