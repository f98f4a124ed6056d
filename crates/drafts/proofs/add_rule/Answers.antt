-- `drafts::add_rule` meets its contract: the rule is tried, then written past the last one.
-- Assumes nothing.
use mathlib.Core.Path.{sym, ◌∙◌}
use Rattle.table_check.proofs.WalkLaws.{length-read, fault_read}
use Rattle.drafts.specs.Draft.{add}
use Rattle.drafts.specs.Row.{stepped}
use Rattle.drafts.proofs.Adds.{add_fault, add_done}
use Rattle.drafts.proofs.Opens.{opened_at, leaves_shut, leaves_refused, leaves_done}
use Rattle.drafts.proofs.add_rule.Goals as goal

pub returns-in-Shut : goal.returns-in-Shut
returns-in-Shut c = leaves_shut c.args.draft.now (add c.args.entries.now) _ c.in-Shut.cause c.in-Shut.at c.open_draft-opened.ensures c.in-Shut.is

pub try_rule-read-requires : goal.try_rule-read-requires
try_rule-read-requires c = opened_at _ _ _ c.open_draft-opened.ensures c.in-Opened.is

pub returns-in-Fault : goal.returns-in-Fault
returns-in-Fault c = let a = c.args in
    leaves_refused (stepped a.draft.now (add a.entries.now)) a.draft.now c.in-Fault.cause c.in-Fault.at
    (add_fault a.draft.now _ a.entries.now c.in-Fault.cause c.in-Fault.at (opened_at _ _ _ c.open_draft-opened.ensures c.in-Opened.is) (fault_read _ c.in-Fault.cause c.in-Fault.at (sym c.try_rule-read.ensures ∙ c.in-Fault.is)))

pub append-requires : goal.append-requires
append-requires c = (add_done c.args.draft.now _ c.args.entries.now c.in-Length.k (opened_at _ _ _ c.open_draft-opened.ensures c.in-Opened.is) (length-read _ c.in-Length.k (sym c.try_rule-read.ensures ∙ c.in-Length.is))).fits

pub returns-in-Length : goal.returns-in-Length
returns-in-Length c = let a = c.args in
    leaves_done (stepped a.draft.now (add a.entries.now)) a.draft.now _ _
    (add_done a.draft.now _ a.entries.now c.in-Length.k (opened_at _ _ _ c.open_draft-opened.ensures c.in-Opened.is) (length-read _ c.in-Length.k (sym c.try_rule-read.ensures ∙ c.in-Length.is))).leads c.append.ensures
