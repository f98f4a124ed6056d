-- `drafts::set_mark` meets its contract: the front of block 0 is copied to the block of the mark.
-- Assumes nothing.
use Prim.Native.Nat.{◌+◌, ◌-◌, ◌*◌}
use mathlib.Core.Path.{◌≡◌, ap, ◌∙◌}
use native.Mathlib.Omega.{arith}
use lib.ListN.{drop}
use lib.Seq.{paste}
use Rattle.grammar.specs.Refusal.{not_present}
use Rattle.drafts.specs.Draft.{mark}
use Rattle.drafts.specs.Row.{block_size, stepped}
use Rattle.drafts.proofs.Opens.{opened_at, leaves_shut, leaves_refused, leaves_done}
use Rattle.drafts.proofs.Marks.{mark_unknown, mark-done, mark_apart}
use Rattle.drafts.proofs.set_mark.Goals as goal

pub returns-in-Shut : goal.returns-in-Shut
returns-in-Shut c = leaves_shut c.args.draft.now (mark c.args.number) _ c.in-Shut.cause c.in-Shut.at c.open_draft-opened.ensures c.in-Shut.is

pub returns-then-number-lt1 : goal.returns-then-number-lt1
returns-then-number-lt1 c = let row = c.args.draft.now in
    let k = c.args.number in
    leaves_refused (stepped row (mark k)) row not_present k (mark_unknown row _ k (opened_at _ _ _ c.open_draft-opened.ensures c.in-Opened.is) c.then-number-lt1.either)

pub copy_within-requires : goal.copy_within-requires
copy_within-requires c = mark_apart c.args.draft.now _ c.args.number (opened_at _ _ _ c.open_draft-opened.ensures c.in-Opened.is) (omega arith) (omega arith)

pub returns-in-Opened : goal.returns-in-Opened
returns-in-Opened c = let row = c.args.draft.now in
    let k = c.args.number in
    leaves_done (stepped row (mark k)) row _ _
    (mark-done row _ k (opened_at _ _ _ c.open_draft-opened.ensures c.in-Opened.is) (omega arith) (omega arith))
    c.copy_within.ensures
