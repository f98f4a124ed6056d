-- made meets its contract: one law for a terminal, one for a nonterminal.
use Prim.Native.Nat.{◌+◌, ◌-◌}
use mathlib.Core.Path.{refl, ap, ◌∙◌}
use native.Mathlib.Omega.{arith}
use lib.ListN.{length, get_or}
use Rattle.tree_laws.specs.Chart.{cap}
use Rattle.chart.proofs.MadeLaws.{plane_in, home_in, span_of, made-leaf, made-node}
use Rattle.chart.proofs.made.Goals as goal

pub made_of_terminal-requires : goal.made_of_terminal-requires
made_of_terminal-requires c = let r = c.args.rows.now in
    record { span = c.requires.span; z_bound = omega (arith, c.plane-z.ensures, plane_in r.ahead.now c.args.q r.states c.requires.le_q.1 r.wired.ready.four) }

pub returns-then-x-lt-NONTERMINAL_BASE : goal.returns-then-x-lt-NONTERMINAL_BASE
returns-then-x-lt-NONTERMINAL_BASE c = let a = c.args in
    let r = a.rows.now in
    c.made_of_terminal.ensures
    ∙ ap cap (made-leaf a.work.now r.ahead.now r.home.now r.sentence.now a.q a.i a.j _ _ refl c.if-x-lt-NONTERMINAL_BASE.true c.plane-z.ensures)

pub home_of-h-requires : goal.home_of-h-requires
home_of-h-requires c = record { limits_bound = c.if-x-lt-NONTERMINAL_BASE.false; b_bound = c.args.rows.now.wired.ready.codes (c.args.q - 1) (omega (arith, c.requires.le_q)) }

pub ways-requires : goal.ways-requires
ways-requires c = let a = c.args in
    let r = a.rows.now in
    let w = r.wired.ready in
    span_of a.work.now r.states (length r.sentence.now + 1) c.home_of-h.result c.plane-z.result a.i a.j c.requires.span w.few
    (omega (arith, c.home_of-h.ensures, home_in r.home.now (get_or r.ahead.now (a.q - 1) 0) r.states w.homes (omega (arith, w.four))))
    (omega (arith, c.plane-z.ensures, plane_in r.ahead.now a.q r.states c.requires.le_q.1 w.four))

pub returns : goal.returns
returns c = let a = c.args in
    let r = a.rows.now in
    c.ways.ensures
    ∙ ap cap (made-node a.work.now r.ahead.now r.home.now r.sentence.now a.q a.i a.j _ _ _ refl c.if-x-lt-NONTERMINAL_BASE.false c.home_of-h.ensures c.plane-z.ensures)
