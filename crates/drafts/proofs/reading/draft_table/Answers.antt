-- `drafts::reading::draft_table` meets its contract: the part of block 0 past its first entry, up to where the rules end.
-- Assumes nothing.
use mathlib.Core.Path.{sym}
use native.Mathlib.Omega.{arith}
use Rattle.drafts.proofs.Opens.{opened_at, shut_at}
use Rattle.drafts.proofs.Readouts.{table_none, table-held, table-room}
use Rattle.drafts.proofs.reading.draft_table.Goals as goal

pub returns-in-Shut : goal.returns-in-Shut
returns-in-Shut c = sym (table_none c.args.draft.now c.in-Shut._cause c.in-Shut._at (shut_at _ _ _ _ c.open_draft.ensures c.in-Shut.is))

pub overflow_add-result : goal.overflow_add-result
overflow_add-result c = let r = table-room c.args.draft.now _ (opened_at _ _ _ c.open_draft.ensures c.in-Opened.is) in omega (arith, r.1)

pub slice_bounds-result-count : goal.slice_bounds-result-count
slice_bounds-result-count c = let r = table-room c.args.draft.now _ (opened_at _ _ _ c.open_draft.ensures c.in-Opened.is) in omega (arith, r.0)

pub slice_bounds-result-start : goal.slice_bounds-result-start
slice_bounds-result-start c = let r = table-room c.args.draft.now _ (opened_at _ _ _ c.open_draft.ensures c.in-Opened.is) in omega (arith, r.0)

pub slice_bounds-result-end-in-Opened : goal.slice_bounds-result-end-in-Opened
slice_bounds-result-end-in-Opened c = let r = table-room c.args.draft.now _ (opened_at _ _ _ c.open_draft.ensures c.in-Opened.is) in omega (arith, r.1, r.2)

pub returns-in-Opened : goal.returns-in-Opened
returns-in-Opened c = table-held c.args.draft.now _ (opened_at _ _ _ c.open_draft.ensures c.in-Opened.is)
