-- `drafts::withdraw_rule` meets its contract: the walk leads to the rule, and the entries past it move down.
-- Assumes nothing.
use Prim.Native.Nat.{◌≤◌, ◌<◌}
use mathlib.Core.Logic.{◌⊎◌, inl, inr}
use native.Mathlib.Omega.{arith}
use lib.ListN.{get_or}
use Rattle.grammar.specs.Refusal.{not_present}
use Rattle.drafts.specs.Draft.{withdraw}
use Rattle.drafts.specs.Row.{stepped}
use Rattle.drafts.proofs.Removals.{withdraw_unknown, withdraw-done, reaches, removable}
use Rattle.drafts.proofs.Readouts.{table-room}
use Rattle.drafts.proofs.Opens.{opened_at, leaves_shut, leaves_refused, leaves_done}
use Rattle.drafts.proofs.withdraw_rule.Goals as goal

pub returns-in-Shut : goal.returns-in-Shut
returns-in-Shut c = leaves_shut c.args.draft.now (withdraw c.args.number) _ c.in-Shut.cause c.in-Shut.at c.open_draft-opened.ensures c.in-Shut.is

pub bounds-draft-2 : goal.bounds-draft-2
bounds-draft-2 c = let r = table-room c.args.draft.now _ (opened_at _ _ _ c.open_draft-opened.ensures c.in-Opened.is) in omega (arith, r.2)

pub returns-then-number-lt1 : goal.returns-then-number-lt1
returns-then-number-lt1 c = let row = c.args.draft.now in
    let past : (c.args.number < 1) ⊎ (get_or row 2 0 ≤ c.args.number) =
    elim c.then-number-lt1.either [ inl l ↦ inl l | inr g ↦ inr (omega (arith, c.from-cell.ensures, g.1)) ] in
    leaves_refused (stepped row (withdraw c.args.number)) row not_present c.args.number
    (withdraw_unknown row _ (opened_at _ _ _ c.open_draft-opened.ensures c.in-Opened.is) c.args.number past)

pub rule_place-place-requires : goal.rule_place-place-requires
rule_place-place-requires c = let row = c.args.draft.now in
    ((table-room row _ (opened_at _ _ _ c.open_draft-opened.ensures c.in-Opened.is)).2, reaches row _ (opened_at _ _ _ c.open_draft-opened.ensures c.in-Opened.is) c.args.number (omega arith) (omega (arith, c.from-cell.ensures)))

pub overflow_add-place : goal.overflow_add-place
overflow_add-place c = let row = c.args.draft.now in
    let r = (removable row _ (opened_at _ _ _ c.open_draft-opened.ensures c.in-Opened.is) c.args.number _ (omega arith) (omega (arith, c.from-cell.ensures)) c.rule_place-place.ensures).whole in
    let f = (table-room row _ (opened_at _ _ _ c.open_draft-opened.ensures c.in-Opened.is)).1 in
    omega (arith, r, f)

pub remove-requires : goal.remove-requires
remove-requires c = removable c.args.draft.now _ (opened_at _ _ _ c.open_draft-opened.ensures c.in-Opened.is) c.args.number _ (omega arith) (omega (arith, c.from-cell.ensures)) c.rule_place-place.ensures

pub returns-in-Opened : goal.returns-in-Opened
returns-in-Opened c = let row = c.args.draft.now in
    leaves_done (stepped row (withdraw c.args.number)) row _ _
    (withdraw-done row _ (opened_at _ _ _ c.open_draft-opened.ensures c.in-Opened.is) c.args.number _ (omega arith) (omega (arith, c.from-cell.ensures)) c.rule_place-place.ensures)
    c.remove.ensures
