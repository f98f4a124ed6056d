-- `drafts::return_to_mark` meets its contract: the front of the mark's block is copied to block 0.
-- Assumes nothing.
use Prim.Native.Nat.{◌+◌, ◌-◌, ◌*◌}
use mathlib.Core.Path.{◌≡◌, ap, ◌∙◌}
use native.Mathlib.Omega.{arith}
use lib.ListN.{drop}
use lib.Seq.{paste}
use Rattle.grammar.specs.Refusal.{not_present}
use Rattle.drafts.specs.Draft.{return}
use Rattle.drafts.specs.Row.{block_size, stepped}
use Rattle.drafts.proofs.Opens.{opened_at, leaves_shut, leaves_refused, leaves_done}
use Rattle.drafts.proofs.Marks.{return_unknown, return-nothing, return-done, return_apart, open_holds}
use Rattle.drafts.proofs.return_to_mark.Goals as goal

pub returns-in-Shut : goal.returns-in-Shut
returns-in-Shut c = leaves_shut c.args.draft.now (return c.args.number) _ c.in-Shut.cause c.in-Shut.at c.open_draft-opened.ensures c.in-Shut.is

pub returns-then-number-lt1 : goal.returns-then-number-lt1
returns-then-number-lt1 c = let row = c.args.draft.now in
    let k = c.args.number in
    leaves_refused (stepped row (return k)) row not_present k (return_unknown row _ k (opened_at _ _ _ c.open_draft-opened.ensures c.in-Opened.is) c.then-number-lt1.either)

pub held-requires : goal.held-requires
held-requires c = open_holds c.args.draft.now _ c.args.number (opened_at _ _ _ c.open_draft-opened.ensures c.in-Opened.is) (omega arith)

pub returns-in_default : goal.returns-in_default
returns-in_default c = let row = c.args.draft.now in
    let k = c.args.number in
    leaves_refused (stepped row (return k)) row not_present k (return-nothing row _ k (opened_at _ _ _ c.open_draft-opened.ensures c.in-Opened.is) (omega arith) (omega arith) c.in_default.ensures)

pub copy_within-requires : goal.copy_within-requires
copy_within-requires c = return_apart c.args.draft.now _ c.args.number _ (opened_at _ _ _ c.open_draft-opened.ensures c.in-Opened.is) (omega arith) c.in-Some.ensures

pub returns-in-Opened : goal.returns-in-Opened
returns-in-Opened c = let row = c.args.draft.now in
    let k = c.args.number in
    leaves_done (stepped row (return k)) row _ _
    (return-done row _ k c.in-Some.end (opened_at _ _ _ c.open_draft-opened.ensures c.in-Opened.is) (omega arith) (omega arith) c.in-Some.ensures)
    c.copy_within.ensures
