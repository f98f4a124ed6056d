-- `drafts::reading::table_place` meets its contract: where the rules of block 0 end tells how many entries stand there.
-- Assumes nothing.
use mathlib.Core.Path.{ap, sym}
use Rattle.drafts.specs.Reading.{placed}
use Rattle.drafts.proofs.Opens.{opened_at, shut_at, open_refused}
use Rattle.drafts.proofs.Readouts.{counts-held, table-room}
use Rattle.drafts.proofs.reading.table_place.Goals as goal

pub returns-in-Shut : goal.returns-in-Shut
returns-in-Shut c = sym (ap placed (open_refused c.args.draft.now _ _ (shut_at _ _ _ _ c.open_draft-opened.ensures c.in-Shut.is)))

pub overflow_sub-entries : goal.overflow_sub-entries
overflow_sub-entries c = (table-room c.args.draft.now _ (opened_at _ _ _ c.open_draft-opened.ensures c.in-Opened.is)).0

pub returns-in-Opened : goal.returns-in-Opened
returns-in-Opened c = sym (counts-held c.args.draft.now _ (opened_at _ _ _ c.open_draft-opened.ensures c.in-Opened.is)).place
