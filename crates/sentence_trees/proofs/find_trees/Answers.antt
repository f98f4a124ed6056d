-- find_trees meets its contract: each test is the next of the order, and what is told is the outcome.
use native.Mathlib.Omega.{arith}
use mathlib.Core.Path.{◌≡◌, sym, ap, subst, ◌∙◌}
use Prim.Native.Nat.{ℕ, ◌*◌, ◌≤◌}
use mathlib.Core.List.{List}
use lib.ListN.{length, replicate}
use Rattle.std.proofs.Common.{Result, Ok}
use Rattle.grammar.specs.Basics.{over}
use Rattle.grammar.specs.Limits.{limits}
use Rattle.grammar.proofs.WellFormed.{room}
use Rattle.grammar.proofs.Sentence.{takes_only}
use Rattle.table_check.proofs.Callers.{PassedTable, passed-table, refused-table}
use Rattle.trees.specs.Trees.{row_fault, max_row, places, work_size, cleared}
use Rattle.trees.specs.Promise.{FindsTrees}
use Rattle.sentence.specs.Answered.{Answered, Judges}
use Rattle.sentence.specs.declared.ListTooShort.{ListTooShort}
use Rattle.sentence.specs.declared.Outcome.{Outcome}
use Rattle.sentence_trees.proofs.Order.{told, states-of, terminals-of, table-refused, row-refused, work_refused, row-few, answered}
use Rattle.sentence_trees.proofs.find_trees.Goals as goal
use Rattle.sentence_trees.proofs.find_trees.Goals.{In-Passed}

-- the table passes
passed : (c : In-Passed) → let a = c.args in PassedTable a.t a.n a.table.now c.check_table-checked.result.grammar
passed c = let a = c.args in passed-table a.t a.n a.table.now c.check_table-checked.result c.check_table-checked.ensures c.in-Passed.is

-- the entries of its work row, which are few
states_are : (c : In-Passed) → places * places * c.check_table-checked.result.grammar.states ≡ work_size (passed c).grammar
states_are c = ap (λ q. places * places * q) (states-of c.check_table-checked.result.grammar (passed c).grammar (passed c).same)

-- its terminals are those that were told
abbrev fault : In-Passed → ℕ
fault c = row_fault c.check_table-checked.result.grammar.terminals max_row c.args.row.now

fault_is : (c : In-Passed) → fault c ≡ row_fault c.args.t max_row c.args.row.now
fault_is c = let a = c.args in
    let p = passed c in
    ap (λ z. row_fault z max_row a.row.now)
    (terminals-of c.check_table-checked.result.grammar p.grammar p.same ∙ (takes_only limits room a.t a.n a.table.now p.grammar p.checked).terminals)

pub returns-in-Refused : goal.returns-in-Refused
returns-in-Refused c = let a = c.args in
    table-refused a.t a.n a.table.now a.row.now a.work.now a.list.now c.in-Refused.cause c.in-Refused.at
    (refused-table a.t a.n a.table.now c.check_table-checked.result c.check_table-checked.ensures c.in-Refused.cause c.in-Refused.at c.in-Refused.is)

pub returns-in-Some : goal.returns-in-Some
returns-in-Some c = let a = c.args in
    let d = (goal.at.returns-in-Some c).In-Passed in
    let p = passed d in
    row-refused a.t a.n a.table.now a.row.now a.work.now a.list.now p.grammar p.checked c.in-Some.fault (c.in-Some.ensures.0 ∙ fault_is d) c.in-Some.ensures.1

pub overflow_mul-g : goal.overflow_mul-g
overflow_mul-g c = let d = (goal.at.overflow_mul-g c).In-Passed in omega (arith, states_are d, (passed d).well_formed.size)

pub returns-then-work-g : goal.returns-then-work-g
returns-then-work-g c = let a = c.args in
    let d = (goal.at.returns-then-work-g c).In-Passed in
    let p = passed d in
    work_refused a.t a.n a.table.now a.row.now a.work.now a.list.now p.grammar p.checked (fault d) (fault_is d) c.in_default.ensures (omega (arith, c.if-work-g.true, states_are d))

pub judge_in-requires-clause-fact : goal.judge_in-requires-clause-fact
judge_in-requires-clause-fact c = let p = passed (goal.at.judge_in-requires-clause-fact c).In-Passed in record { grammar = p.grammar; well_formed = p.well_formed; same = p.same }

pub judge_in-requires-clause-states_in_bounds : goal.judge_in-requires-clause-states_in_bounds
judge_in-requires-clause-states_in_bounds c = let a = c.args in
    let d = (goal.at.judge_in-requires-clause-states_in_bounds c).In-Passed in
    let p = passed d in
    (c.if-work-g.false, row-few a.t a.n a.table.now a.row.now a.work.now a.list.now p.grammar p.checked (fault d) (fault_is d) c.in_default.ensures)

-- what is told of the outcome
answer : (c : In-Passed) {r s : Result Outcome ListTooShort} {work' list' : List ℕ} → r ≡ s → let a = c.args in
    let g = c.check_table-checked.result.grammar in
    length a.row.now ≤ fault c → places * places * g.states ≤ length a.work.now → Judges g a.row.now a.list.now list' r
    → work' ≡ over (replicate (places * places * g.states) 0) a.work.now → FindsTrees a.t a.n a.table.now a.row.now a.work.now a.list.now (told s) work' list'
answer c {r} {s} {work'} {list'} e h l j z =
    let a = c.args in
    let p = passed c in
    let cleared-work : work' ≡ cleared p.grammar a.work.now = z ∙ ap (λ k. over (replicate k 0) a.work.now) (states_are c) in
    subst (λ w. FindsTrees a.t a.n a.table.now a.row.now a.work.now a.list.now (told s) w list') (sym cleared-work)
    (answered a.t a.n a.table.now a.row.now a.work.now a.list.now p.grammar p.checked (fault c) (fault_is c) h (omega (arith, l, states_are c)) s list'
    (subst (Answered p.grammar a.row.now a.list.now list') e (j p.grammar p.well_formed p.same)))

pub returns-in-Ok-Nothing : goal.returns-in-Ok-Nothing
returns-in-Ok-Nothing c = let j = c.judge_in.ensures in
    let x = c.in-Ok-Nothing in
    answer (goal.at.returns-in-Ok-Nothing c).In-Passed (x.is ∙ ap Ok x.field-0-is) c.in_default.ensures c.if-work-g.false j.judges j.work_after

pub returns-in-Ok-One : goal.returns-in-Ok-One
returns-in-Ok-One c = let j = c.judge_in.ensures in
    let x = c.in-Ok-One in
    answer (goal.at.returns-in-Ok-One c).In-Passed (x.is ∙ ap Ok x.field-0-is) c.in_default.ensures c.if-work-g.false j.judges j.work_after

pub returns-in-Ok-Several : goal.returns-in-Ok-Several
returns-in-Ok-Several c = let j = c.judge_in.ensures in
    let x = c.in-Ok-Several in
    answer (goal.at.returns-in-Ok-Several c).In-Passed (x.is ∙ ap Ok x.field-0-is) c.in_default.ensures c.if-work-g.false j.judges j.work_after

pub returns-in-Err : goal.returns-in-Err
returns-in-Err c = let j = c.judge_in.ensures in
    answer (goal.at.returns-in-Err c).In-Passed c.in-Err.is c.in_default.ensures c.if-work-g.false j.judges j.work_after
