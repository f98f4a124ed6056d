-- `drafts::adding::next_rule` meets its contract: 7 first, then the rule alone, then 6 and 8.
-- Assumes nothing.
use Prim.Native.Nat.{ℕ, ◌+◌, ◌-◌, ◌≤◌}
use mathlib.Core.Path.{◌≡◌, ap, sym, ◌∙◌}
use native.Mathlib.Omega.{arith}
use Rattle.grammar.specs.Limits.{limits}
use Rattle.grammar.specs.Refusal.{done}
use Rattle.grammar.specs.TableCheck.{read_rule}
use Rattle.grammar.proofs.Steps.{read_done}
use Rattle.table_check.specs.Clauses.{rule_read}
use Rattle.table_check.proofs.WalkLaws.{next-full, next_fault, next-repeated, next-large, next_good, length-read, fault_read}
use Rattle.drafts.proofs.Earlier.{led_leading, led-few, led-states}
use Rattle.drafts.proofs.adding.next_rule.Reads as reads
use Rattle.drafts.proofs.adding.next_rule.Lts as lts
use Rattle.drafts.proofs.adding.next_rule.Goals as goal
use Rattle.drafts.proofs.adding.next_rule.Lts as lts
use Rattle.drafts.proofs.adding.next_rule.Reads as reads
use Rattle.drafts.proofs.adding.next_rule.Tie as tie

abbrev Place-Past-After-known_told : Type 0
Place-Past-After-known_told = lts.Past-After-known_told tie.the-claims reads.Pre reads.Post

-- the length that is read
abbrev size : Place-Past-After-known_told → ℕ
size c = c.in-Length.k

-- the rule alone is without fault, and short
read : (c : Place-Past-After-known_told) → let a = c.args in read_rule limits a.t a.n a.table.now a.at ≡ done (size c)
read c = length-read _ (size c) (sym c.read_rule-read.ensures ∙ c.in-Length.is)

short : (c : Place-Past-After-known_told) → size c ≤ limits.max_length
short c = let a = c.args in (read_done limits a.t a.n a.table.now a.at (size c) (read c)).few

pub returns-then-count-ge-MAX_RULES : goal.returns-then-count-ge-MAX_RULES
returns-then-count-ge-MAX_RULES c = let a = c.args in ap rule_read (next-full a.t a.n a.table.now a.count a.at c.if-count-ge-MAX_RULES.true)

pub returns-in_default : goal.returns-in_default
returns-in_default c = let a = c.args in
    let f = fault_read _ c.in_default.field-0 c.in_default.field-1 (sym c.read_rule-read.ensures ∙ c.in_default.is) in
    c.in_default.is ∙ ap rule_read (next_fault a.t a.n a.table.now a.count a.at c.in_default.field-0 c.in_default.field-1 c.if-count-ge-MAX_RULES.false f)

pub stands_before-requires : goal.stands_before-requires
stands_before-requires c = let s = c in let a = s.args in led_leading a.table.now a.count a.at a.t a.n (size c.before) s.requires (read c.before)

pub returns-then-stands_before : goal.returns-then-stands_before
returns-then-stands_before c = let k = c in
    let a = k.args in
    ap rule_read
    (next-repeated a.t a.n a.table.now a.count a.at (size k.before.before.before) k.if-count-ge-MAX_RULES.false (read k.before.before.before)
    (sym c.stands_before.ensures ∙ c.if-stands_before.true))

pub overflow_sub-states : goal.overflow_sub-states
overflow_sub-states c = let s = c in
    let f = led-few s.args.table.now s.args.count s.args.at s.requires in
    omega (arith, f)

pub overflow_add-states-2 : goal.overflow_add-states-2
overflow_add-states-2 c = omega (arith, short c.before.before.before)

pub overflow_add-states-3 : goal.overflow_add-states-3
overflow_add-states-3 c = omega (arith, short c.before.before.before)

pub returns-then-states-k-gt-MAX_STATES : goal.returns-then-states-k-gt-MAX_STATES
returns-then-states-k-gt-MAX_STATES c = let k = c in
    let s = k in
    let a = s.args in
    ap rule_read
    (next-large a.t a.n a.table.now a.count (a.at + 4 - a.count) a.at (size k.before.before.before.before) k.if-count-ge-MAX_RULES.false (read k.before.before.before.before)
    (sym c.stands_before.ensures ∙ c.if-stands_before.false) (led-states a.table.now a.count a.at s.requires) c.if-states-k-gt-MAX_STATES.true)

pub returns : goal.returns
returns c = let k = c in
    let s = k in
    let a = s.args in
    ap rule_read
    (next_good a.t a.n a.table.now a.count (a.at + 4 - a.count) a.at (size k.before.before.before.before) k.if-count-ge-MAX_RULES.false (read k.before.before.before.before)
    (sym c.stands_before.ensures ∙ c.if-stands_before.false) (led-states a.table.now a.count a.at s.requires) c.if-states-k-gt-MAX_STATES.false)
