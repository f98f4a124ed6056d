-- `joining::gathering::put_kind` meets its contract: the module's names follow the robot's. Assumes nothing.
use native.Mathlib.Omega.{arith}
use Prim.Native.Nat.{ℕ, ◌+◌}
use mathlib.Core.Path.{◌≡◌, ap, ◌∙◌}
use mathlib.Core.List.{List, ◌++◌}
use lib.ListN.{length, length-append}
use Rattle.text.specs.Spelled.{spelled}
use Rattle.joining.specs.Gathering.{fresh}
use Rattle.joining.proofs.GatherLaws.{room-kept, puts_more, listed_count}
use Rattle.joining.proofs.gathering.put_kind.Goals as goal
use Rattle.joining.proofs.gathering.put_kind.Lts as lts
use Rattle.joining.proofs.gathering.put_kind.Reads as reads
use Rattle.joining.proofs.gathering.put_kind.Tie as tie

abbrev Start : Type 0
Start = lts.Start tie.the-claims reads.Pre reads.Post

-- the names of each text that are put
abbrev robots : Start → List (List ℕ)
robots e = let a = e.args in spelled a.robot.now a.starts.now a.lengths.now

abbrev addons : Start → List (List ℕ)
addons e = let a = e.args in fresh (length a.starts.now) a.numbers.now (spelled a.addon.now a.firsts.now a.widths.now)

-- how many they are
robot_count : (e : Start) → length (robots e) ≡ length e.args.starts.now
robot_count e = let a = e.args in listed_count a.robot.now a.starts.now a.lengths.now e.requires.robot-listed

count : (e : Start) → length (robots e ++ addons e) ≡ length e.args.starts.now + length (addons e)
count e = length-append (robots e) (addons e) ∙ ap (λ (n : ℕ). n + length (addons e)) (robot_count e)

pub put_all-requires : goal.put_all-requires
put_all-requires c = record { listed = c.requires.robot-listed; room = c.requires.room; few = omega (arith, c.requires.few, count c.before.before.before.before.before.before.before.before.before.before.before.before.before.before) }

pub put_fresh-requires : goal.put_fresh-requires
put_fresh-requires c = record {
  listed = c.requires.addon-listed;
  numbered = c.requires.numbered;
  room = room-kept c.put_all.auto.bytes c.put_all.auto.places c.put_all.auto.spans c.requires.room;
  few = omega (arith, c.requires.few, count c.before.before.before.before.before.before.before.before.before.before.before.before.before.before.before.before.before.before.before.before.before.before.before.before);
}

pub returns : goal.returns
returns c = let a = c.args in
    puts_more (robots c.before.before.before.before.before.before.before.before.before.before.before.before.before.before.before.before.before.before.before.before.before.before.before.before.before.before.before.before.before.before.before) (addons c.before.before.before.before.before.before.before.before.before.before.before.before.before.before.before.before.before.before.before.before.before.before.before.before.before.before.before.before.before.before.before) (a.k + length a.starts.now) (omega (arith, robot_count c.before.before.before.before.before.before.before.before.before.before.before.before.before.before.before.before.before.before.before.before.before.before.before.before.before.before.before.before.before.before.before)) c.put_all.ensures c.put_fresh.ensures
