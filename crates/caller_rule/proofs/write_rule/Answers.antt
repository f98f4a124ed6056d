-- write_rule meets its contract: a turn writes the states of one dot.
use borrow.Author.Rules.{rules}
use native.Mathlib.Omega.{arith}
use mathlib.Core.Path.{refl}
use Rattle.caller_rule.specs.Lent.{six_of}
use Rattle.caller_rule.proofs.RuleLaws.{rule-small, rule-place, rule-low, rule-next}
use Rattle.std.specs.Option.{is_none, unwrap_or}
use Rattle.caller_rule.proofs.write_rule.Goals as goal

pub write_item-requires-clause-small : goal.write_item-requires-clause-small
write_item-requires-clause-small c = let l = c.loop-d in
    let a = c.args in
    rule-small a.i a.codes.now a.kinds a.callers.now a.ranks.now a.narrow a.low a.at l.d l.l l.p l.invariant.1 l.invariant.0 c.low_before-before.result c.requires.ruled (omega arith) c.low_before-before.ensures

pub loop-d-preserved : goal.loop-d-preserved
loop-d-preserved c = let l = c.loop-d in
    let a = c.args in (
      rule-place a.i a.codes.now a.kinds a.callers.now a.ranks.now a.narrow a.low a.at l.d l.l l.p l.invariant.1 l.invariant.0 _ refl,
      rule-low a.i a.codes.now a.kinds a.callers.now a.ranks.now a.narrow a.low a.at l.d l.l l.p l.invariant.1 l.invariant.0,
      rule-next a.i a.codes.now a.kinds a.callers.now a.ranks.now a.narrow a.low a.at l.d l.l l.p l.invariant.1 l.invariant.0 (unwrap_or c.code_at-x.result 0) (unwrap_or c.code_before-y.result 0) (is_none c.code_before-y.result) (is_none c.code_at-x.result) c.low_before-before.result (six_of a.rows.now) (six_of l.rows) _
          c.code_at-x.ensures.code c.code_before-y.ensures.code c.code_before-y.ensures.begin c.code_at-x.ensures.end c.low_before-before.ensures l.invariant.2 c.write_item.ensures.written,
      search rules,
    )
