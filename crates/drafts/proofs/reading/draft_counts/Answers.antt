-- `drafts::reading::draft_counts` meets its contract: t and n lead the row; the first entry of block 0 and where its rules end tell the rest.
-- Assumes nothing.
use Prim.Native.Nat.{ℕ, ◌+◌, ◌-◌}
use mathlib.Core.Path.{ap, ap₂, sym, ◌∙◌}
use native.Mathlib.Omega.{arith}
use lib.ListN.{get_or}
use Rattle.drafts.specs.Reading.{counted}
use Rattle.drafts.specs.declared.DraftCounts.TheVariants.{Counts}
use Rattle.drafts.proofs.Opens.{opened_at, shut_at, open_refused}
use Rattle.drafts.proofs.Readouts.{counts-held, table-room}
use Rattle.drafts.proofs.reading.draft_counts.Goals as goal

pub returns-in-Shut : goal.returns-in-Shut
returns-in-Shut c = sym (ap counted (open_refused c.args.draft.now _ _ (shut_at _ _ _ _ c.open_draft-opened.ensures c.in-Shut.is)))

pub bounds-draft-0 : goal.bounds-draft-0
bounds-draft-0 c = let r = table-room c.args.draft.now _ (opened_at _ _ _ c.open_draft-opened.ensures c.in-Opened.is) in omega (arith, r.2)

pub bounds-draft-1 : goal.bounds-draft-1
bounds-draft-1 c = let r = table-room c.args.draft.now _ (opened_at _ _ _ c.open_draft-opened.ensures c.in-Opened.is) in omega (arith, r.2)

pub bounds-draft-2 : goal.bounds-draft-2
bounds-draft-2 c = let r = table-room c.args.draft.now _ (opened_at _ _ _ c.open_draft-opened.ensures c.in-Opened.is) in omega (arith, r.2)

pub overflow_sub-rules : goal.overflow_sub-rules
overflow_sub-rules c = let k = (counts-held c.args.draft.now _ (opened_at _ _ _ c.open_draft-opened.ensures c.in-Opened.is)).cell in omega (arith, k)

pub overflow_sub-entries : goal.overflow_sub-entries
overflow_sub-entries c = (table-room c.args.draft.now _ (opened_at _ _ _ c.open_draft-opened.ensures c.in-Opened.is)).0

pub overflow_add-states : goal.overflow_add-states
overflow_add-states c = let r = table-room c.args.draft.now _ (opened_at _ _ _ c.open_draft-opened.ensures c.in-Opened.is) in omega (arith, r.1)

pub overflow_sub-states : goal.overflow_sub-states
overflow_sub-states c = let k = (counts-held c.args.draft.now _ (opened_at _ _ _ c.open_draft-opened.ensures c.in-Opened.is)).less in omega (arith, k)

pub returns-in-Opened : goal.returns-in-Opened
returns-in-Opened c = let row = c.args.draft.now in
    let end = c.in-Opened.end in
    let cell = c.from-rules.result in
    ap₂ (λ (t n : ℕ). Counts t n (cell - 1) (end - 1) (end - 1 + 4 - (cell - 1))) c.from-terminals.ensures c.from-nonterminals.ensures
    ∙ ap (λ (cell : ℕ). Counts (get_or row 0 0) (get_or row 1 0) (cell - 1) (end - 1) (end - 1 + 4 - (cell - 1))) c.from-rules.ensures
    ∙ sym (counts-held row end (opened_at _ _ _ c.open_draft-opened.ensures c.in-Opened.is)).counts
