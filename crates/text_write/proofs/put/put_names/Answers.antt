-- `text_write::put::put_names` meets its contract: no comma stands before the first name. Assumes nothing.
use mathlib.Core.Path.{◌≡◌}
use mathlib.Core.List.{List, [], ◌++◌}
use Prim.Native.Nat.{ℕ, ◌+◌}
use native.Mathlib.Omega.{arith}
use lib.ListN.{get_or}
use lib.Seq.{slice}
use Rattle.text.specs.Pieces.{led_by, join}
use Rattle.text.specs.Spelled.{spelled}
use Rattle.text_write.proofs.Filling.{Filling, filling_start, filling_room, filling_ran, filling_last, filling_all, wrote_none}
use Rattle.text_write.proofs.LentLaws.{names_count}
use Rattle.text_write.proofs.PutLaws.{join-turn, join-end}
use Rattle.text_write.proofs.put.put_names.Goals as goal
use Rattle.text_write.proofs.put.put_names.Lts as lts
use Rattle.text_write.proofs.put.put_names.Reads as reads
use Rattle.text_write.proofs.put.put_names.Tie as tie

abbrev Start : Type 0
Start = lts.Start tie.the-claims reads.Pre reads.Post

abbrev Place-Else1 : Type 0
Place-Else1 = lts.Else1 tie.the-claims reads.Pre reads.Post

abbrev Place-After-put_name : Type 0
Place-After-put_name = lts.After-put_name tie.the-claims reads.Pre reads.Post

abbrev names : Start → List (List ℕ)
names s = spelled s.args.bytes.now s.args.starts.now s.args.lengths.now

-- a name comes first
first : (c : Place-Else1) →
    let s = c in let a = s.args in
    join 44 (slice a.from a.to (names s.before.before.before.before.before)) ≡ get_or (names s.before.before.before.before.before) a.from [] ++ led_by 44
    (slice (a.from + 1) a.to (names s.before.before.before.before.before))
first c =
    join-turn _ _ _ c.if-to-from.false (omega (arith, names_count c.requires.0, c.requires.2))

-- then the others
after_first : (c : Place-After-put_name) →
    let s = c in let a = s.args in
    Filling a.at a.out.now (join 44 (slice a.from a.to (names s.before.before.before.before.before.before.before))) c.put_name-j.result c.put_name-j.new.out
    (led_by 44 (slice (a.from + 1) a.to (names s.before.before.before.before.before.before.before)))
after_first c =
    let a = c.args in
    filling_ran (get_or (names c.before.before.before.before.before.before.before) a.from []) _ (first c.before.before) c.put_name-j.ensures
    (filling_start _ _ _ c.requires.3)

pub returns-then-to-from : goal.returns-then-to-from
returns-then-to-from c = let a = c.args in
    wrote_none _ _ _ (join-end (names c.before.before.before.before.before.before) a.from a.to c.requires.1 c.if-to-from.true) c.requires.3

pub put_name-j-requires : goal.put_name-j-requires
put_name-j-requires c = let a = c.args in (
  c.requires.0,
  omega (arith, c.requires.2),
  filling_room (get_or (names c.before.before.before.before.before.before.before) a.from []) _ (first c.before.before)
      (filling_start a.at a.out.now _ c.requires.3),
)

pub put_led-requires : goal.put_led-requires
put_led-requires c = (c.requires.0, omega arith, c.requires.2, filling_all (after_first c.before.before.before.before))

pub returns : goal.returns
returns c = filling_last c.put_led.ensures (after_first c.before.before.before.before.before.before.before)
