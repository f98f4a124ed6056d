-- `drafts::adding::try_rule` meets its contract: the draft's table and the entries past it lie in one row, where the rule is the next one.
-- Assumes nothing.
use Prim.Native.Nat.{ℕ, ◌-◌}
use mathlib.Core.Path.{ap, ◌∙◌}
use native.Mathlib.Omega.{arith}
use lib.ListN.{length-replicate}
use Rattle.table_check.specs.Clauses.{rule_read}
use Rattle.drafts.specs.Edits.{try_room}
use Rattle.drafts.proofs.Tries.{gathered, trying, part_fits}
use Rattle.drafts.proofs.Readouts.{table-room, counts-held}
use Rattle.drafts.proofs.adding.try_rule.Goals as goal

pub overflow_sub-at : goal.overflow_sub-at
overflow_sub-at c = (table-room c.args.draft.now _ c.requires).0

pub overflow_add-to : goal.overflow_add-to
overflow_add-to c = let r = table-room c.args.draft.now _ c.requires in omega (arith, r.1)

pub slice_bounds-put_entries-count : goal.slice_bounds-put_entries-count
slice_bounds-put_entries-count c = let r = table-room c.args.draft.now _ c.requires in omega (arith, r.0)

pub slice_bounds-put_entries-start : goal.slice_bounds-put_entries-start
slice_bounds-put_entries-start c = let r = table-room c.args.draft.now _ c.requires in omega (arith, r.0)

pub slice_bounds-put_entries-end-2 : goal.slice_bounds-put_entries-end-2
slice_bounds-put_entries-end-2 c = let r = table-room c.args.draft.now _ c.requires in omega (arith, r.1, r.2)

pub put_entries-requires : goal.put_entries-requires
put_entries-requires c = let r = table-room c.args.draft.now _ c.requires in
    (omega (arith, length-replicate {A = ℕ} try_room 0, r.1), part_fits c.args.draft.now c.args.end c.requires)

pub put_entries-requires-2 : goal.put_entries-requires-2
put_entries-requires-2 c = let a = c.args in
    let g = gathered a.draft.now a.entries.now _ _ a.end _ c.requires (length-replicate {A = ℕ} try_room 0) c.put_entries.ensures c.at_most-m.ensures in
    (omega (arith, g.size, g.few.1, g.fits.1), g.few.0)

pub bounds-draft-0 : goal.bounds-draft-0
bounds-draft-0 c = let r = table-room c.args.draft.now _ c.requires in omega (arith, r.2)

pub bounds-draft-1 : goal.bounds-draft-1
bounds-draft-1 c = let r = table-room c.args.draft.now _ c.requires in omega (arith, r.2)

pub bounds-draft-2 : goal.bounds-draft-2
bounds-draft-2 c = let r = table-room c.args.draft.now _ c.requires in omega (arith, r.2)

pub overflow_sub-count : goal.overflow_sub-count
overflow_sub-count c = omega (arith, (counts-held c.args.draft.now _ c.requires).cell, c.from-count.ensures)

pub next_rule-requires : goal.next_rule-requires
next_rule-requires c = let a = c.args in
    let g = gathered a.draft.now a.entries.now _ _ a.end _ c.requires (length-replicate {A = ℕ} try_room 0) c.put_entries.ensures c.at_most-m.ensures in
    let k = ap (λ (cell : ℕ). cell - 1) c.from-count.ensures in
    (trying a.draft.now a.entries.now _ _ a.end _ _ c.requires g c.put_entries-2.ensures k).led

pub returns : goal.returns
returns c = let a = c.args in
    let g = gathered a.draft.now a.entries.now _ _ a.end _ c.requires (length-replicate {A = ℕ} try_room 0) c.put_entries.ensures c.at_most-m.ensures in
    let k = ap (λ (cell : ℕ). cell - 1) c.from-count.ensures in
    c.next_rule.ensures ∙ ap rule_read (trying a.draft.now a.entries.now _ _ a.end _ _ c.requires g c.put_entries-2.ensures k).reads
