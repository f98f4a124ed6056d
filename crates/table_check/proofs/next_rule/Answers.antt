-- next_rule meets its contract: 7 first, then the rule alone, then 6 and 8.
use native.Mathlib.Omega.{arith}
use Prim.Native.Nat.{◌≤◌}
use mathlib.Core.Path.{◌≡◌, ap, sym, ◌∙◌}
use Rattle.grammar.specs.Limits.{limits}
use Rattle.grammar.specs.Refusal.{done}
use Rattle.grammar.specs.TableCheck.{read_rule}
use Rattle.grammar.proofs.Steps.{read_done}
use Rattle.table_check.specs.Clauses.{rule_read}
use Rattle.table_check.proofs.WalkLaws.{before-front, before-total, next-full, next_fault, next-repeated, next-large, next_good, length-read, fault_read}
use Rattle.table_check.proofs.next_rule.Goals as goal
use Rattle.table_check.proofs.next_rule.Lts as lts
use Rattle.table_check.proofs.next_rule.Reads as reads
use Rattle.table_check.proofs.next_rule.Tie as tie

abbrev Place-Past-After-known_told : Type 0
Place-Past-After-known_told = lts.Past-After-known_told tie.the-claims reads.Pre reads.Post

-- the rule alone is without fault, and short
read : (c : Place-Past-After-known_told) → let a = c.args in read_rule limits a.t a.n a.table.now a.at ≡ done c.in-Length.k
read c = length-read _ c.in-Length.k (sym c.read_rule-read.ensures ∙ c.in-Length.is)

short : (c : Place-Past-After-known_told) → c.in-Length.k ≤ limits.max_length
short c = let a = c.args in (read_done limits a.t a.n a.table.now a.at c.in-Length.k (read c)).few

pub returns-then-count-ge-MAX_RULES : goal.returns-then-count-ge-MAX_RULES
returns-then-count-ge-MAX_RULES c = let a = c.args in
    ap rule_read (next-full a.t a.n a.table.now a.count a.at c.if-count-ge-MAX_RULES.true)

pub returns-in_default : goal.returns-in_default
returns-in_default c = let a = c.args in
    let f = fault_read _ c.in_default.field-0 c.in_default.field-1 (sym c.read_rule-read.ensures ∙ c.in_default.is) in
    c.in_default.is ∙ ap rule_read (next_fault a.t a.n a.table.now a.count a.at c.in_default.field-0 c.in_default.field-1 c.if-count-ge-MAX_RULES.false f)

pub repeats-requires : goal.repeats-requires
repeats-requires c = let a = c.args in before-front a.t a.n c.in-Length.k c.requires c.if-count-ge-MAX_RULES.false (read c.before)

pub returns-then-repeats : goal.returns-then-repeats
returns-then-repeats c = let a = c.args in
    ap rule_read
    (next-repeated a.t a.n a.table.now a.count a.at c.in-Length.k c.if-count-ge-MAX_RULES.false (read c.before.before.before)
    (sym c.repeats.ensures ∙ c.if-repeats.true))

pub overflow_add-states : goal.overflow_add-states
overflow_add-states c = omega (arith, short c.before.before.before, c.requires.few)

pub overflow_add-states-2 : goal.overflow_add-states-2
overflow_add-states-2 c = omega (arith, short c.before.before.before, c.requires.few)

pub returns-then-states-k-gt-MAX_STATES : goal.returns-then-states-k-gt-MAX_STATES
returns-then-states-k-gt-MAX_STATES c = let a = c.args in
    ap rule_read
    (next-large a.t a.n a.table.now a.count a.states a.at c.in-Length.k c.if-count-ge-MAX_RULES.false (read c.before.before.before.before)
    (sym c.repeats.ensures ∙ c.if-repeats.false) (before-total c.requires) c.if-states-k-gt-MAX_STATES.true)

pub returns : goal.returns
returns c = let a = c.args in
    ap rule_read
    (next_good a.t a.n a.table.now a.count a.states a.at c.in-Length.k c.if-count-ge-MAX_RULES.false (read c.before.before.before.before)
    (sym c.repeats.ensures ∙ c.if-repeats.false) (before-total c.requires) c.if-states-k-gt-MAX_STATES.false)
