-- `joining::rules::put_rule` meets its contract: the left code, the length, then the codes behind them. Assumes nothing.
use Rattle.std.proofs.Common.{ℕ, ◌+◌, List, ap, sym, subst, ◌∙◌, length, get_or, arith}
use Rattle.std.proofs.Math.ListN.{set, length-set}
use Rattle.grammar.specs.Limits.{limits}
use Rattle.joining.specs.Naming.{recoded, Recoding, AllRecoding}
use Rattle.joining.proofs.OneRule.{one-rule, rule-put}
use Rattle.joining.proofs.rules.put_rule.Goals as goal

pub bounds-rule-0 : goal.bounds-rule-0
bounds-rule-0 c = omega (arith, (one-rule c.args.rule.now c.requires.rule c.requires.entries_are).size)

pub recode-requires : goal.recode-requires
recode-requires c = let a = c.args in
    let e = one-rule a.rule.now c.requires.rule c.requires.entries_are in
    subst (Recoding a.terminals.now a.nonterminals.now) (sym e.head) c.requires.recoding.left

pub bounds-row-at : goal.bounds-row-at
bounds-row-at c = omega (arith, (one-rule c.args.rule.now c.requires.rule c.requires.entries_are).size, c.requires.room)

pub bounds-rule-1 : goal.bounds-rule-1
bounds-rule-1 c = omega (arith, (one-rule c.args.rule.now c.requires.rule c.requires.entries_are).size)

pub bounds-row-at-2 : goal.bounds-row-at-2
bounds-row-at-2 c = let a = c.args in
    omega (
      arith,
      (one-rule a.rule.now c.requires.rule c.requires.entries_are).size,
      c.requires.room,
      length-set a.row.now a.at c.recode.result,
    )

pub slice_bounds-put_recoded-count : goal.slice_bounds-put_recoded-count
slice_bounds-put_recoded-count c = omega (arith, (one-rule c.args.rule.now c.requires.rule c.requires.entries_are).size)

pub slice_bounds-put_recoded-start : goal.slice_bounds-put_recoded-start
slice_bounds-put_recoded-start c = omega (arith, (one-rule c.args.rule.now c.requires.rule c.requires.entries_are).size)

pub put_recoded-requires : goal.put_recoded-requires
put_recoded-requires c = let a = c.args in
    let e = one-rule a.rule.now c.requires.rule c.requires.entries_are in
    let row : List ℕ = set a.row.now a.at c.recode.result in (
      subst (AllRecoding a.terminals.now a.nonterminals.now) (sym e.body) c.requires.recoding.right,
      omega (
        arith,
        ap length e.body,
        e.size,
        c.requires.room,
        length-set a.row.now a.at c.recode.result,
        length-set row (a.at + 1) (get_or a.rule.now 1 0),
      ),
    )

pub returns : goal.returns
returns c = λ rule q. let a = c.args in let e = one-rule a.rule.now rule q in
    let f : ℕ → ℕ = recoded limits a.terminals.now a.nonterminals.now in
    rule-put f a.row.now a.rule.now a.at c.recode.result rule e c.requires.room
    (c.recode.ensures ∙ ap f e.head) _ c.put_recoded.ensures
