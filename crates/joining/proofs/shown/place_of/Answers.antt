-- `joining::shown::place_of` meets its contract: case by case, the rows have the place of the robot's name or of the module's. Assumes nothing.
use native.Mathlib.Omega.{arith}
use mathlib.Core.Path.{◌≡◌, sym, ap, subst}
use Prim.Native.Nat.{ℕ, ◌+◌}
use lib.ListN.{get_or}
use lib.Seq.{length-take-le}
use Rattle.grammar.specs.Limits.{limits}
use Rattle.modules.specs.declared.Place.{Place}
use Rattle.modules.specs.declared.Place.TheVariants.{Module}
use Rattle.joining.proofs.ShownNames.{Told}
use Rattle.joining.proofs.Places.{
  robot-room,
  module_room,
  terminals-room,
  nonterminals-room,
  terminal_in,
  nonterminal_in,
  own_terminal-told,
  added-terminal-told,
  own_nonterminal-told,
  added-nonterminal-told,
  past-told,
}
use Rattle.joining.proofs.shown.place_of.Goals as goal
use Rattle.joining.proofs.shown.place_of.Lts as lts
use Rattle.joining.proofs.shown.place_of.Reads as reads
use Rattle.joining.proofs.shown.place_of.Tie as tie

abbrev Start : Type 0
Start = lts.Start tie.the-claims reads.Pre reads.Post

-- what is to be shown of a place
abbrev Shows : Start → Place → Type 0
Shows e p = Told limits e.args.robot.now e.args.addon.now e.args.i p

-- the module's name, by its number
at_name : (e : Start) (p : Place) (j n : ℕ) → p ≡ Module (get_or e.args.firsts.now j 0) (get_or e.args.widths.now j 0) → j ≡ n
    → Shows e (Module (get_or e.args.firsts.now n 0) (get_or e.args.widths.now n 0)) → Shows e p
at_name e p j n q i h =
    subst (Shows e) (sym q) (subst (λ (j : ℕ). Shows e (Module (get_or e.args.firsts.now j 0) (get_or e.args.widths.now j 0))) (sym i) h)

pub robot_at-requires : goal.robot_at-requires
robot_at-requires c = let h = robot-room c.requires in
    (omega (arith, h.0, c.if-i-sizes.true), omega (arith, h.1, c.if-i-sizes.true))

pub returns-then-i-sizes : goal.returns-then-i-sizes
returns-then-i-sizes c = subst (Shows c.before.before.before.before.before.before.before.before.before.before.before.before) (sym c.robot_at.ensures) (own_terminal-told c.requires c.args.i c.if-i-sizes.true)

pub slice_bounds-entry_of-end : goal.slice_bounds-entry_of-end
slice_bounds-entry_of-end c = sym (length-take-le _ _ (terminals-room c.requires))

pub module_at-requires : goal.module_at-requires
module_at-requires c = let h = module_room c.requires in
    let l = terminal_in c.requires c.args.i c.if-i-sizes.false c.if-i-sizes-2.true in
    (omega (arith, h.0, l, c.entry_of.ensures), omega (arith, h.1, l, c.entry_of.ensures))

pub returns-then-i-sizes-2 : goal.returns-then-i-sizes-2
returns-then-i-sizes-2 c = at_name c.before.before.before.before.before.before.before.before.before.before.before.before.before.before.before _ _ _ c.module_at.ensures c.entry_of.ensures
    (added-terminal-told c.requires c.args.i c.if-i-sizes.false c.if-i-sizes-2.true)

pub overflow_add-sizes : goal.overflow_add-sizes
overflow_add-sizes c = let h = robot-room c.requires in
    omega (arith, h.0, c.if-k-sizes.true)

pub robot_at-requires-then-k-sizes : goal.robot_at-requires-then-k-sizes
robot_at-requires-then-k-sizes c = let h = robot-room c.requires in
    (omega (arith, h.0, c.if-k-sizes.true), omega (arith, h.1, c.if-k-sizes.true))

pub returns-then-k-sizes : goal.returns-then-k-sizes
returns-then-k-sizes c = subst (Shows c.before.before.before.before.before.before.before.before.before.before.before.before.before.before.before.before.before.before) (sym c.robot_at-then-k-sizes.ensures) (own_nonterminal-told c.requires c.args.i c.if-i-sizes-2.false c.if-k-sizes.true)

pub slice_bounds-entry_of-end-then-k-sizes-2 : goal.slice_bounds-entry_of-end-then-k-sizes-2
slice_bounds-entry_of-end-then-k-sizes-2 c = sym (length-take-le _ _ (nonterminals-room c.requires))

pub overflow_add-sizes-then-k-sizes-2 : goal.overflow_add-sizes-then-k-sizes-2
overflow_add-sizes-then-k-sizes-2 c = let h = module_room c.requires in
    let l = nonterminal_in c.requires _ c.if-k-sizes.false c.if-k-sizes-2.true in
    omega (arith, h.0, l, c.entry_of-then-k-sizes-2.ensures)

pub module_at-requires-then-k-sizes-2 : goal.module_at-requires-then-k-sizes-2
module_at-requires-then-k-sizes-2 c = let h = module_room c.requires in
    let l = nonterminal_in c.requires _ c.if-k-sizes.false c.if-k-sizes-2.true in
    (omega (arith, h.0, l, c.entry_of-then-k-sizes-2.ensures), omega (arith, h.1, l, c.entry_of-then-k-sizes-2.ensures))

pub returns-then-k-sizes-2 : goal.returns-then-k-sizes-2
returns-then-k-sizes-2 c = at_name c.before.before.before.before.before.before.before.before.before.before.before.before.before.before.before.before.before.before.before.before.before _ _ _ c.module_at-then-k-sizes-2.ensures (ap (λ (j : ℕ). c.args.sizes.u + j) c.entry_of-then-k-sizes-2.ensures)
    (added-nonterminal-told c.requires c.args.i c.if-i-sizes-2.false c.if-k-sizes.false c.if-k-sizes-2.true)

pub returns : goal.returns
returns c = past-told c.requires c.args.i c.if-i-sizes-2.false c.if-k-sizes-2.false
