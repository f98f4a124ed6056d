-- `drafts::new_draft` meets its contract: the table check decides, then the row is begun.
-- Assumes nothing.
use Prim.Native.Nat.{ℕ, ◌≤◌}
use mathlib.Core.Path.{◌≡◌}
use mathlib.Core.List.{List}
use native.Mathlib.Omega.{arith}
use lib.ListN.{length}
use Rattle.grammar.specs.TableCheck.{stored_table, table_checked}
use Rattle.grammar.specs.declared.TableChecked.{TableChecked}
use Rattle.grammar.specs.declared.TableVerdict.TheVariants.{Passed}
use Rattle.grammar.specs.Limits.{limits}
use Rattle.grammar.specs.Refusal.{buffer_too_short}
use Rattle.table_check.proofs.Callers.{passed-answer, refused-answer}
use Rattle.drafts.specs.Row.{new_row, draft_room}
use Rattle.drafts.proofs.Begins.{Starts, starts, new-refused}
use Rattle.drafts.proofs.Opens.{leaves_refused, leaves_done}
use Rattle.drafts.proofs.new_draft.Goals as goal

-- the table passes
stored : (t n : ℕ) (table row : List ℕ) (r : TableChecked) → r ≡ table_checked (stored_table limits t n table) → r.verdict ≡ Passed → Starts t n table row r.grammar
stored t n table row r e v =
    let p = passed-answer (stored_table limits t n table) r e v in
    starts t n table row p.0 _ p.1 p.2

pub returns-in-Refused : goal.returns-in-Refused
returns-in-Refused c = let a = c.args in
    leaves_refused (new_row a.t a.n a.table.now a.draft.now) a.draft.now c.in-Refused.cause c.in-Refused.at
    (new-refused a.t a.n a.table.now a.draft.now c.in-Refused.cause c.in-Refused.at
    (refused-answer (stored_table limits a.t a.n a.table.now) _ c.check_up_to-checked.ensures c.in-Refused.cause c.in-Refused.at c.in-Refused.is))

pub returns-then-draft-lt-DRAFT_ROOM : goal.returns-then-draft-lt-DRAFT_ROOM
returns-then-draft-lt-DRAFT_ROOM c = let a = c.args in
    leaves_refused (new_row a.t a.n a.table.now a.draft.now) a.draft.now buffer_too_short 0
    ((stored _ _ _ a.draft.now _ c.check_up_to-checked.ensures c.in-Passed.is).short c.if-draft-lt-DRAFT_ROOM.true)

pub overflow_add-cell : goal.overflow_add-cell
overflow_add-cell c = let s = (stored _ _ _ c.args.draft.now _ c.check_up_to-checked.ensures c.in-Passed.is).count in omega (arith, s)

pub overflow_cast-t : goal.overflow_cast-t
overflow_cast-t c = let s = (stored _ _ _ c.args.draft.now _ c.check_up_to-checked.ensures c.in-Passed.is).terminals in omega (arith, s)

pub overflow_cast-n : goal.overflow_cast-n
overflow_cast-n c = let s = (stored _ _ _ c.args.draft.now _ c.check_up_to-checked.ensures c.in-Passed.is).nonterminals in omega (arith, s)

pub overflow_cast-cell : goal.overflow_cast-cell
overflow_cast-cell c = let s = (stored _ _ _ c.args.draft.now _ c.check_up_to-checked.ensures c.in-Passed.is).count in omega (arith, s)

pub begin-requires : goal.begin-requires
begin-requires c = (omega arith, (stored _ _ _ c.args.draft.now _ c.check_up_to-checked.ensures c.in-Passed.is).size)

pub returns-in-Passed : goal.returns-in-Passed
returns-in-Passed c = let a = c.args in
    let h : draft_room ≤ length a.draft.now = omega arith in
    leaves_done (new_row a.t a.n a.table.now a.draft.now) a.draft.now _ _ ((stored _ _ _ c.args.draft.now _ c.check_up_to-checked.ensures c.in-Passed.is).begins h) c.begin.ensures
