-- read_rule meets its contract: its early returns are the tests of the definition, in the same order.
use native.Mathlib.Omega.{arith}
use borrow.Author.Tests.{lt-ltb, le-ltb, le-leb, lt-leb}
use Prim.Native.Nat.{ℕ, ◌+◌, ◌≤◌, ◌<◌}
use mathlib.Core.Path.{◌≡◌, ap, ◌∙◌}
use lib.ListN.{take, drop}
use native.Mathlib.Nat.{add-sub_cancel_left}
use Rattle.grammar.specs.Limits.{limits}
use Rattle.grammar.specs.Table.{left_at, length_at}
use Rattle.grammar.specs.Refusal.{refuse_unless}
use Rattle.grammar.specs.TableCheck.{declared_front, declared_front_at, read_rule}
use Rattle.table_check.proofs.reading.read_rule.Goals as goal
use Rattle.table_check.proofs.reading.read_rule.Lts as lts
use Rattle.table_check.proofs.reading.read_rule.Reads as reads
use Rattle.table_check.proofs.reading.read_rule.Tie as tie

abbrev Place-After-declared_front : Type 0
Place-After-declared_front = lts.After-declared_front tie.the-claims reads.Pre reads.Post

-- what the scan answered, over the part as the definition writes it
front : (c : Place-After-declared_front) → let a = c.args in
    c.declared_front-front.result ≡ declared_front_at limits a.t a.n a.table.now a.at
front c =
    let a = c.args in
    c.declared_front-front.ensures
    ∙ ap (λ (m : ℕ). declared_front limits a.t a.n (take m (drop (a.at + 2) a.table.now)))
    (add-sub_cancel_left (a.at + 2) (length_at a.table.now a.at))

pub returns-then-table-at-lt2 : goal.returns-then-table-at-lt2
unfolding read_rule refuse_unless
returns-then-table-at-lt2 c = simp (lt-leb 2 _ c.if-table-at-lt2.true)

pub returns-then-left-lt-NONTERMINAL_BASE : goal.returns-then-left-lt-NONTERMINAL_BASE
unfolding read_rule refuse_unless
returns-then-left-lt-NONTERMINAL_BASE c = simp (le-leb 2 _ c.if-table-at-lt2.false, lt-leb limits.nonterminal_base _ c.if-left-lt-NONTERMINAL_BASE.true)

pub returns-then-n-left : goal.returns-then-n-left
unfolding read_rule refuse_unless
returns-then-n-left c = let a = c.args in
    let x = left_at a.table.now a.at in
    let h : limits.nonterminal_base + a.n ≤ x = omega (arith, c.if-n-left.true, c.if-left-lt-NONTERMINAL_BASE.false) in
    simp (le-leb 2 _ c.if-table-at-lt2.false, le-leb limits.nonterminal_base _ c.if-left-lt-NONTERMINAL_BASE.false, le-ltb x (limits.nonterminal_base + a.n) h)

pub overflow_cast-k : goal.overflow_cast-k
overflow_cast-k c = omega (arith, c.shared_slice_known-3-1.given (c.args.at + 1))

pub returns-then-k-gt-MAX_LENGTH : goal.returns-then-k-gt-MAX_LENGTH
unfolding read_rule refuse_unless
returns-then-k-gt-MAX_LENGTH c = let a = c.args in
    let x = left_at a.table.now a.at in
    let k = length_at a.table.now a.at in
    let h : x < limits.nonterminal_base + a.n = omega (arith, c.if-n-left.false, c.if-left-lt-NONTERMINAL_BASE.false) in
    simp (le-leb 2 _ c.if-table-at-lt2.false, le-leb limits.nonterminal_base x c.if-left-lt-NONTERMINAL_BASE.false, lt-ltb x (limits.nonterminal_base + a.n) h, lt-leb k 12 c.if-k-gt-MAX_LENGTH.true)

pub returns-then-table-start : goal.returns-then-table-start
unfolding read_rule refuse_unless
returns-then-table-start c = let a = c.args in
    let x = left_at a.table.now a.at in
    let k = length_at a.table.now a.at in
    let h : x < limits.nonterminal_base + a.n = omega (arith, c.if-n-left.false, c.if-left-lt-NONTERMINAL_BASE.false) in
    simp (le-leb 2 _ c.if-table-at-lt2.false, le-leb limits.nonterminal_base x c.if-left-lt-NONTERMINAL_BASE.false, lt-ltb x (limits.nonterminal_base + a.n) h, le-leb k 12 c.if-k-gt-MAX_LENGTH.false, lt-leb k _ c.if-table-start.true)

pub returns-then-front-k : goal.returns-then-front-k
unfolding read_rule refuse_unless
returns-then-front-k c = let a = c.args in
    let x = left_at a.table.now a.at in
    let k = length_at a.table.now a.at in
    let h : x < limits.nonterminal_base + a.n = omega (arith, c.if-n-left.false, c.if-left-lt-NONTERMINAL_BASE.false) in
    simp (le-leb 2 _ c.if-table-at-lt2.false, le-leb limits.nonterminal_base x c.if-left-lt-NONTERMINAL_BASE.false, lt-ltb x (limits.nonterminal_base + a.n) h, le-leb k 12 c.if-k-gt-MAX_LENGTH.false, le-leb k _ c.if-table-start.false, ← (front c.before.before), lt-leb k _ c.if-front-k.true)

pub returns : goal.returns
unfolding read_rule refuse_unless
returns c = let a = c.args in
    let x = left_at a.table.now a.at in
    let k = length_at a.table.now a.at in
    let h : x < limits.nonterminal_base + a.n = omega (arith, c.if-n-left.false, c.if-left-lt-NONTERMINAL_BASE.false) in
    simp (le-leb 2 _ c.if-table-at-lt2.false, le-leb limits.nonterminal_base x c.if-left-lt-NONTERMINAL_BASE.false, lt-ltb x (limits.nonterminal_base + a.n) h, le-leb k 12 c.if-k-gt-MAX_LENGTH.false, le-leb k _ c.if-table-start.false, ← (front c.before.before), le-leb k _ c.if-front-k.false)
