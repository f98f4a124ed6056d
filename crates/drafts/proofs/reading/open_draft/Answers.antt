-- `drafts::reading::open_draft` meets its contract: 14, then 23, then where the rules end.
-- Assumes nothing.
use mathlib.Core.Path.{ap, sym}
use native.Mathlib.Omega.{arith}
use Rattle.drafts.specs.Edits.{opening}
use Rattle.drafts.proofs.Opens.{open_short, open_ends, open_nothing}
use Rattle.drafts.proofs.reading.open_draft.Goals as goal

pub returns-then-draft-lt-DRAFT_ROOM : goal.returns-then-draft-lt-DRAFT_ROOM
returns-then-draft-lt-DRAFT_ROOM c = sym (ap opening (open_short c.args.draft.now c.if-draft-lt-DRAFT_ROOM.true))

pub returns-in-Some : goal.returns-in-Some
returns-in-Some c = sym (ap opening (open_ends c.args.draft.now _ (omega arith) c.in-Some.ensures))

pub returns-in-None : goal.returns-in-None
returns-in-None c = sym (ap opening (open_nothing c.args.draft.now (omega arith) c.in-None.ensures))
