-- `joining::gathering::gather_names` meets its contract: the rows hold the names of each kind. Assumes nothing.
use native.Mathlib.Omega.{arith}
use mathlib.Core.Path.{sym}
use lib.Seq.{length-take-le}
use Rattle.joining.proofs.GatherLaws.{room-kept}
use Rattle.joining.proofs.Held.{robot_halves, addon_halves, terminals-most, nonterminals-most, first_ready, second_ready, all-gathered}
use Rattle.joining.proofs.gathering.gather_names.Goals as goal

pub overflow_add-m : goal.overflow_add-m
overflow_add-m c = let h = c.requires.held in omega (arith, (robot_halves h).starts-most)

pub overflow_add-k : goal.overflow_add-k
overflow_add-k c = let h = c.requires.held in omega (arith, (addon_halves h).starts-most)

pub slice_bounds-put_kind-end : goal.slice_bounds-put_kind-end
slice_bounds-put_kind-end c = sym (length-take-le _ _ (omega (arith, (robot_halves c.requires.held).starts-most)))

pub slice_bounds-put_kind-end-2 : goal.slice_bounds-put_kind-end-2
slice_bounds-put_kind-end-2 c = sym (length-take-le _ _ (omega (arith, (robot_halves c.requires.held).lengths-most)))

pub slice_bounds-put_kind-end-3 : goal.slice_bounds-put_kind-end-3
slice_bounds-put_kind-end-3 c = sym (length-take-le _ _ (omega (arith, (addon_halves c.requires.held).starts-most)))

pub slice_bounds-put_kind-end-4 : goal.slice_bounds-put_kind-end-4
slice_bounds-put_kind-end-4 c = let h = c.requires.held in
    sym (length-take-le _ _ (omega (arith, (addon_halves h).lengths-most)))

pub slice_bounds-put_kind-end-5 : goal.slice_bounds-put_kind-end-5
slice_bounds-put_kind-end-5 c = sym (length-take-le _ _ (terminals-most c.requires.held))

pub put_kind-requires : goal.put_kind-requires
put_kind-requires c = first_ready c.requires.held c.args.bytes.now c.args.places.now c.args.spans.now c.requires.room

pub offset_bounds-starts-t : goal.offset_bounds-starts-t
offset_bounds-starts-t c = omega (arith, (robot_halves c.requires.held).first-few)

pub slice_bounds-put_kind-end-6 : goal.slice_bounds-put_kind-end-6
slice_bounds-put_kind-end-6 c = omega (arith, (robot_halves c.requires.held).starts-most)

pub offset_bounds-lengths-t : goal.offset_bounds-lengths-t
offset_bounds-lengths-t c = omega (arith, (robot_halves c.requires.held).first-few)

pub slice_bounds-put_kind-end-7 : goal.slice_bounds-put_kind-end-7
slice_bounds-put_kind-end-7 c = omega (arith, (robot_halves c.requires.held).lengths-most)

pub offset_bounds-firsts-u : goal.offset_bounds-firsts-u
offset_bounds-firsts-u c = omega (arith, (addon_halves c.requires.held).first-few)

pub slice_bounds-put_kind-end-8 : goal.slice_bounds-put_kind-end-8
slice_bounds-put_kind-end-8 c = omega (arith, (addon_halves c.requires.held).starts-most)

pub offset_bounds-widths-u : goal.offset_bounds-widths-u
offset_bounds-widths-u c = omega (arith, (addon_halves c.requires.held).first-few)

pub slice_bounds-put_kind-end-9 : goal.slice_bounds-put_kind-end-9
slice_bounds-put_kind-end-9 c = omega (arith, (addon_halves c.requires.held).lengths-most)

pub slice_bounds-put_kind-end-10 : goal.slice_bounds-put_kind-end-10
slice_bounds-put_kind-end-10 c = sym (length-take-le _ _ (nonterminals-most c.requires.held))

pub put_kind-requires-2 : goal.put_kind-requires-2
put_kind-requires-2 c = second_ready c.requires.held c.put_kind.new.bytes c.put_kind.new.places c.put_kind.new.spans (room-kept c.put_kind.auto.bytes c.put_kind.auto.places c.put_kind.auto.spans c.requires.room)

pub returns : goal.returns
returns c = let a = c.args in
    all-gathered c.requires.held a.bytes.now a.places.now a.spans.now c.put_kind.new.bytes c.put_kind.new.places c.put_kind.new.spans c.put_kind-2.new.bytes c.put_kind-2.new.places c.put_kind-2.new.spans
    c.put_kind.ensures c.put_kind-2.ensures
