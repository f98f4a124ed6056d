-- begins meets its contract: the lead and one count are read.
use native.Mathlib.Omega.{arith}
use mathlib.Core.Path.{sym, ap, ◌∙◌}
use Prim.Native.Nat.{◌%◌}
use lib.ListN.{get_or}
use Rattle.grammar.proofs.Answers.{no_bool}
use Rattle.counts.specs.Counts.{item_cell}
use Rattle.chart.proofs.Cells.{item_fits}
use Rattle.chart.proofs.MadeLaws.{plane_in}
use Rattle.tree_walk.specs.Charted.{rows_of, width}
use Rattle.tree_walk.proofs.shown.begins.Goals as goal

pub returns-then-rows-s : goal.returns-then-rows-s
returns-then-rows-s c = record { begins = λ q. no_bool (sym q); fact = λ q x. c.if-rows-s.true x.left }

pub cell-requires : goal.cell-requires
cell-requires c = let r = c.args.rows.now in
    let s = c.requires.span in
    let q = c.requires.states_le_max_states in
    record { width_bound = omega (arith, s.small); in_bounds = (omega (arith, c.plane.ensures, plane_in r.ahead.now c.args.s r.states q.2 q.1, q.0), omega (arith, s.rises, s.inside), omega (arith, s.inside)) }

pub counted-requires : goal.counted-requires
counted-requires c = let r = c.args.rows.now in
    let q = c.requires.states_le_max_states in
    omega (arith, c.cell.ensures, item_fits c.requires.span c.plane.result (omega (arith, c.plane.ensures, plane_in r.ahead.now c.args.s r.states q.2 q.1)))

pub returns : goal.returns
returns c = let a = c.args in
    let read = ap (λ k. get_or a.work.now k 0 % 4) (c.cell.ensures ∙ ap (λ z. item_cell (width (rows_of a.rows.now)) z a.i a.k) c.plane.ensures) in record {
      begins = λ q. record { left = c.if-rows-s.false; count = omega (arith, read, c.counted.ensures.bound q) };
      fact = λ q x. omega (arith, x.count, read, c.counted.ensures.at_bound q);
    }
