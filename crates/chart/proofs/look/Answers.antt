-- look meets its contract: one law for each way out.
use mathlib.Core.List.{List}
use Prim.Native.Nat.{ℕ, suc, ◌≤◌, ◌-◌, ◌<◌}
use mathlib.Core.Path.{refl, ◌∙◌}
use native.Mathlib.Omega.{arith}
use lib.ListN.{length, get_or, length-set}
use Rattle.grammar.specs.Limits.{limits}
use Rattle.grammar.specs.Grammar.{Grammar}
use Rattle.tree_laws.specs.Chart.{Places}
use Rattle.chart.specs.Filling.{SpanIn, Shows, Working}
use Rattle.chart.specs.declared.rows.GrammarRows.{GrammarRows}
use Rattle.chart.proofs.Cells.{item_fits}
use Rattle.chart.proofs.MadeLaws.{home_in, span_at}
use Rattle.chart.proofs.Covers.{cover_drop, cover_set}
use Rattle.chart.proofs.Slack.{settles_slack, settles_keeps, raise_slack}
use Rattle.chart.proofs.Staying.{LookAt, looks_end, looks_none}
use Rattle.chart.proofs.Rising.{rises_item}
use Rattle.chart.proofs.Leading.{rises_whole}
use Rattle.chart.proofs.look.Goals as goal

look_at : (R : GrammarRows) {G : Grammar} {P : Places limits G} {row active flags : List ℕ} {q i j : ℕ} → SpanIn R row i j → (1 ≤ q) × (q < R.states)
    → R.states ≤ length active → R.states ≤ length flags → Shows G P R → Working G P R.states R.home.now R.sentence.now row active flags (suc q) i j
    → LookAt G P R.states R.ahead.now R.lead.now R.next.now R.head.now R.home.now R.sentence.now row active flags q i j
look_at R s h a f S K = record { sheet = S; wired = R.wired; span = s; inside = h; long = (a, f); working = K }

pub returns-then-rows-p-eq0 : goal.returns-then-rows-p-eq0
returns-then-rows-p-eq0 c = record { looks = λ G P S K. looks_end (look_at c.args.rows.now c.requires.span c.requires.le_q c.requires.states_in_bounds.0 c.requires.states_in_bounds.1 S K) c.if-rows-p-eq0.true; upper_bound = (omega (arith, c.requires.le_q), omega arith); covered = cover_drop c.args.q (omega (arith, c.requires.le_q, c.requires.states_in_bounds)) }

pub returns-then-rise-eq0 : goal.returns-then-rise-eq0
returns-then-rise-eq0 c = record { looks = λ G P S K. looks_none (look_at c.args.rows.now c.requires.span c.requires.le_q c.requires.states_in_bounds.0 c.requires.states_in_bounds.1 S K) c.settle-rise.new.work c.settle-rise.result c.settle-rise.ensures c.if-rise-eq0.true; upper_bound = (omega (arith, c.requires.le_q), omega (arith, settles_keeps c.settle-rise.ensures)); covered = cover_drop c.args.q (omega (arith, c.requires.le_q, c.requires.states_in_bounds)) }

pub bounds-flags-p : goal.bounds-flags-p
bounds-flags-p c = omega (arith, length-set c.args.flags.now c.args.q 0, c.requires.le_q, c.requires.states_in_bounds)

pub bounds-blocks-p : goal.bounds-blocks-p
bounds-blocks-p c = omega (arith, c.requires.le_q, c.requires.states_in_bounds)

pub returns-then-b-eq0 : goal.returns-then-b-eq0
returns-then-b-eq0 c = let rose = c.if-rise-eq0.false in record { looks = λ G P S K. rises_item (look_at c.args.rows.now c.requires.span c.requires.le_q c.requires.states_in_bounds.0 c.requires.states_in_bounds.1 S K) c.settle-rise.new.work c.settle-rise.result c.settle-rise.ensures (omega (arith, rose)) c.if-rows-p-eq0.false c.if-b-eq0.true; upper_bound = (omega (arith, c.requires.le_q), omega (arith, settles_slack c.settle-rise.ensures (item_fits c.requires.span (c.args.q - 1) (omega (arith, c.requires.le_q))) (omega (arith, rose)))); covered = λ C. cover_set (c.args.q - 1) (omega (arith, c.requires.le_q, c.requires.states_in_bounds)) (cover_drop c.args.q (omega (arith, c.requires.le_q, c.requires.states_in_bounds)) C) }

pub home_of-h-requires : goal.home_of-h-requires
home_of-h-requires c = record { limits_bound = c.args.rows.now.wired.lead_low (c.args.q - 1) (omega (arith, c.requires.le_q)) (omega (arith, c.if-b-eq0.false)); b_bound = c.args.rows.now.wired.lead_high (c.args.q - 1) (omega (arith, c.requires.le_q)) }

pub raise-requires : goal.raise-requires
raise-requires c = let a = c.args in record {
  span = span_at c.requires.span c.settle-rise.auto.work c.requires.span.rises c.requires.span.inside;
  h_bound = omega (arith, c.home_of-h.ensures, home_in a.rows.now.home.now (get_or a.rows.now.lead.now (a.q - 1) 0) a.rows.now.states c.args.rows.now.wired.ready.homes (omega (arith, c.args.rows.now.wired.ready.four)));
}

pub overflow_sub-c : goal.overflow_sub-c
overflow_sub-c c = c.args.rows.now.wired.lead_low (c.args.q - 1) (omega (arith, c.requires.le_q)) (omega (arith, c.if-b-eq0.false))

pub mention-requires : goal.mention-requires
mention-requires c = let a = c.args in record { c_lt_max_nonterminals = omega (arith, c.args.rows.now.wired.lead_high (a.q - 1) (omega (arith, c.requires.le_q))); q_le_states = omega (arith, c.requires.le_q); states_in_bounds = (omega (arith, length-set a.flags.now a.q 0, c.requires.states_in_bounds), c.requires.states_in_bounds.2) }

pub shape_of-flags : goal.shape_of-flags
shape_of-flags c = c.mention.auto.flags ∙ length-set c.args.flags.now c.args.q 0

pub returns : goal.returns
returns c = let rose = c.if-rise-eq0.false in record {
  looks = λ G P S K. rises_whole (look_at c.args.rows.now c.requires.span c.requires.le_q c.requires.states_in_bounds.0 c.requires.states_in_bounds.1 S K) c.settle-rise.new.work c.raise.new.work c.settle-rise.result c.home_of-h.result c.settle-rise.ensures (omega (arith, rose))
      c.if-rows-p-eq0.false c.if-b-eq0.false c.home_of-h.ensures c.raise.ensures c.mention.new.flags _ _ c.mention.result
      refl c.mention.ensures.flagged c.mention.ensures.lower_bound.0 c.mention.ensures.lower_bound.1;
  upper_bound = (
    c.mention.ensures.lower_bound.2,
    omega (
      arith,
      settles_slack c.settle-rise.ensures (item_fits c.requires.span (c.args.q - 1) (omega (arith, c.requires.le_q))) (omega (arith, rose)),
      raise_slack c.settle-rise.new.work _ c.settle-rise.result c.raise.ensures,
      c.mention.ensures.lower_bound.2,
      c.args.rows.now.wired.ready.few,
    ),
  );
  covered = λ C. c.mention.ensures.covered (cover_drop c.args.q (omega (arith, c.requires.le_q, c.requires.states_in_bounds)) C);
}
