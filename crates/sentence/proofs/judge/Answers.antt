-- judge meets its contract: the rows are prepared, the chart is begun and filled, and the answer is read off it.
use native.Mathlib.Omega.{arith}
use mathlib.Core.Path.{sym, subst}
use Rattle.grammar.specs.Limits.{limits}
use Rattle.tree_walk.specs.Charted.{Charted, Roomy}
use Rattle.sentence.specs.Answered.{Answered}
use Rattle.sentence.proofs.Judged.{zeros, same_rows, sow_asks, charted_of}
use Rattle.sentence.proofs.judge.Goals as goal

pub prepare-requires : goal.prepare-requires
prepare-requires c = record { fact = c.requires.fact; zeros = (zeros limits.max_states, zeros limits.max_nonterminals, zeros limits.max_nonterminals) }

pub invariant_of-rows : goal.invariant_of-rows
invariant_of-rows c = let g = c.requires.fact in record { wired = (c.prepare.ensures g.grammar g.well_formed g.same).wired }

pub sow-requires : goal.sow-requires
sow-requires c = let g = c.requires.fact in
    let p = c.prepare.new in record {
      span = record { cells = c.requires.row_in_bounds.0; small = omega (arith, c.requires.row_in_bounds.1); rises = omega arith; inside = omega arith };
      count_le_max_rules = sow_asks g.grammar c.args.g.now p.ahead p.number p.lead p.next p.head p.home (c.prepare.ensures g.grammar g.well_formed g.same);
    }

pub fill-requires : goal.fill-requires
fill-requires c = record { cells = omega (arith, c.requires.row_in_bounds, c.sow.auto.work); small = omega (arith, c.requires.row_in_bounds.1); rises = omega arith; inside = omega arith }

pub answer-requires : goal.answer-requires
answer-requires c = let g = c.requires.fact in
    let p = c.prepare.new in
    let S = c.prepare.ensures g.grammar g.well_formed g.same in
    let t = c.tree-tree.ensures in
    let same = sym (same_rows t.states t.ahead t.lead t.number t.home t.sentence) in record {
      has_chart = record {
        grammar = g.grammar;
        places = S.places;
        charted =
            subst (λ R. Charted g.grammar S.places R c.fill.new.work) same
            (charted_of g.grammar c.args.g.now p.ahead p.number p.lead p.next p.head p.home S c.args.row.now c.args.work.now c.sow.new.work c.fill.new.work c.requires.zeros c.sow.ensures c.fill.ensures);
      };
      roomy =
          subst (λ R. Roomy R c.fill.new.work) same
          (record { cells = omega (arith, c.requires.row_in_bounds, c.sow.auto.work, c.fill.auto.work); small = omega (arith, c.requires.row_in_bounds.1) });
    }

pub returns : goal.returns
returns c = λ G W s.
    let p = c.prepare.new in
    let S = c.prepare.ensures G W s in
    let t = c.tree-tree.ensures in
    subst (λ w. Answered G w c.args.list.now c.answer.new.list c.answer.result) t.sentence
    (c.answer.ensures G S.places
    (subst (λ R. Charted G S.places R c.fill.new.work) (sym (same_rows t.states t.ahead t.lead t.number t.home t.sentence))
    (charted_of G c.args.g.now p.ahead p.number p.lead p.next p.head p.home S c.args.row.now c.args.work.now c.sow.new.work c.fill.new.work c.requires.zeros c.sow.ensures c.fill.ensures)))
