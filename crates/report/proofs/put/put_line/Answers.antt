-- `report::put::put_line` meets its contract: the key, the value, the end. Assumes nothing.
use mathlib.Core.Path.{refl}
use mathlib.Core.List.{List, [], ◌∷◌, ◌++◌}
use Prim.Native.Nat.{ℕ}
use Rattle.text_write.proofs.Filling.{Filling, filling_start, filling_room, filling_ran, filling_last, filling_all}
use Rattle.report.specs.Report.{line}
use Rattle.report.proofs.put.put_line.Goals as goal
use Rattle.report.proofs.put.put_line.Lts as lts
use Rattle.report.proofs.put.put_line.Reads as reads
use Rattle.report.proofs.put.put_line.Tie as tie

abbrev Start : Type 0
Start = lts.Start tie.the-claims reads.Pre reads.Post

abbrev Place-After-put_bytes : Type 0
Place-After-put_bytes = lts.After-put_bytes tie.the-claims reads.Pre reads.Post

abbrev Place-After-put_bytes2 : Type 0
Place-After-put_bytes2 = lts.After-put_bytes2 tie.the-claims reads.Pre reads.Post

-- this is still to come
abbrev Still : Start → ℕ → List ℕ → List ℕ → Type 0
Still s j now rest = Filling s.args.at s.args.out.now (line s.args.key.now s.args.value.now) j now rest

after-key : (c : Place-After-put_bytes) →
    Still c.before.before.before.before.before c.put_bytes-a.result c.put_bytes-a.new.out (c.args.value.now ++ (10 ∷ []))
after-key c =
    filling_ran c.args.key.now _ refl c.put_bytes-a.ensures (filling_start _ _ _ c.requires)

after-value : (c : Place-After-put_bytes2) →
    Still c.before.before.before.before.before.before.before.before.before c.put_bytes-b.result c.put_bytes-b.new.out (10 ∷ [])
after-value c =
    filling_ran c.args.value.now _ refl c.put_bytes-b.ensures (after-key c.before.before.before.before)

pub put_bytes-a-requires : goal.put_bytes-a-requires
put_bytes-a-requires c = filling_room c.args.key.now _ refl (filling_start c.args.at c.args.out.now _ c.requires)

pub put_bytes-b-requires : goal.put_bytes-b-requires
put_bytes-b-requires c = filling_room c.args.value.now _ refl (after-key c.before.before.before.before)

pub put_bytes-requires : goal.put_bytes-requires
put_bytes-requires c = filling_all (after-value c.before.before.before.before.before.before)

pub returns : goal.returns
returns c = filling_last c.put_bytes.ensures (after-value c.before.before.before.before.before.before.before.before.before)
