-- both meets its contract: two counts are read.
use native.Mathlib.Omega.{arith}
use mathlib.Core.Path.{refl, sym, ap}
use Prim.Native.Nat.{ℕ, ◌%◌}
use lib.ListN.{get_or}
use Rattle.grammar.proofs.Answers.{no_bool}
use Rattle.chart.proofs.Cells.{item_fits, whole_fits}
use Rattle.chart.proofs.MadeLaws.{span_at}
use Rattle.tree_walk.proofs.shown.both.Goals as goal

pub counted-requires : goal.counted-requires
counted-requires c = let a = c.args in
    let s = c.requires.span in
    let b = c.requires.states_le_max_states in
    omega (arith, c.cell.ensures, whole_fits (span_at s refl b.3 (omega (arith, s.inside))) a.h b.1)

pub returns-then-not-counted : goal.returns-then-not-counted
returns-then-not-counted c = record {
  both = λ q. no_bool (sym q);
  fact = λ q x. omega (arith, x.whole, c.counted.ensures.at_bound c.if-not-counted.true, ap (λ k. get_or c.args.work.now k 0 % 4) c.cell.ensures);
}

pub counted-requires-2 : goal.counted-requires-2
counted-requires-2 c = let a = c.args in
    let b = c.requires.states_le_max_states in
    omega (arith, c.cell-2.ensures, item_fits (span_at c.requires.span refl b.4 c.requires.span.inside) a.z b.2)

pub returns : goal.returns
returns c = let at = λ (n : ℕ). get_or c.args.work.now n 0 % 4 in record {
  both = λ q. record {
    whole = omega (arith, ap at c.cell.ensures, c.counted.ensures.bound c.if-not-counted.false);
    rest = omega (arith, ap at c.cell-2.ensures, c.counted-2.ensures.bound q);
  };
  fact = λ q x. omega (arith, x.rest, ap at c.cell-2.ensures, c.counted-2.ensures.at_bound q);
}
