-- `text_write::lines::put_line` meets its contract: the key, the names, the end. Assumes nothing.
use mathlib.Core.Path.{refl}
use mathlib.Core.List.{List, [], ◌∷◌, ◌++◌}
use Prim.Native.Nat.{ℕ}
use native.Mathlib.Omega.{arith}
use lib.Seq.{slice}
use Rattle.text.specs.Pieces.{join}
use Rattle.text.specs.Keys.{key}
use Rattle.text.specs.Spelled.{spelled}
use Rattle.text_write.specs.Clauses.{line_text}
use Rattle.text_write.proofs.Filling.{Filling, filling_start, filling_room, filling_ran, filling_last, filling_all}
use Rattle.text_write.proofs.PutLaws.{line-parts}
use Rattle.text_write.proofs.lines.put_line.Goals as goal
use Rattle.text_write.proofs.lines.put_line.Lts as lts
use Rattle.text_write.proofs.lines.put_line.Reads as reads
use Rattle.text_write.proofs.lines.put_line.Tie as tie

abbrev Start : Type 0
Start = lts.Start tie.the-claims reads.Pre reads.Post

abbrev Place-After-put_key : Type 0
Place-After-put_key = lts.After-put_key tie.the-claims reads.Pre reads.Post

abbrev Place-After-put_names : Type 0
Place-After-put_names = lts.After-put_names tie.the-claims reads.Pre reads.Post

abbrev value : Start → List ℕ
value s =
    let a = s.args in
    join 44 (slice a.from a.to (spelled a.bytes.now a.starts.now a.lengths.now))

-- this is still to come
abbrev Still : Start → ℕ → List ℕ → List ℕ → Type 0
Still s j now rest = Filling s.args.at s.args.out.now (line_text s.args.k (value s)) j now rest

after-key : (c : Place-After-put_key) →
    let s = c in Still s.before.before.before.before.before.before c.put_key-i.result c.put_key-i.new.out ((value s.before.before.before.before.before.before) ++ (10 ∷ []))
after-key c =
    let a = c.args in
    filling_ran (key a.k ++ (61 ∷ [])) _ (line-parts a.k (value c.before.before.before.before.before.before)) c.put_key-i.ensures
    (filling_start _ _ _ c.requires.4)

after-names : (c : Place-After-put_names) →
    let s = c in Still s.before.before.before.before.before.before.before.before.before.before c.put_names-j.result c.put_names-j.new.out (10 ∷ [])
after-names c =
    filling_ran (value c.before.before.before.before.before.before.before.before.before.before) _ refl c.put_names-j.ensures (after-key c.before.before.before.before)

pub put_key-i-requires : goal.put_key-i-requires
put_key-i-requires c = let a = c.args in (
  c.requires.3,
  filling_room (key a.k ++ (61 ∷ [])) _ (line-parts a.k (value c.before.before.before.before.before.before))
      (filling_start a.at a.out.now _ c.requires.4),
)

pub put_names-j-requires : goal.put_names-j-requires
put_names-j-requires c = (c.requires.0, c.requires.1, c.requires.2, filling_room (value c.before.before.before.before.before.before.before.before.before.before) _ refl (after-key c.before.before.before.before))

pub put_byte-requires : goal.put_byte-requires
put_byte-requires c = omega (arith, filling_all (after-names c.before.before.before.before))

pub returns : goal.returns
returns c = filling_last c.put_byte.ensures (after-names c.before.before.before.before.before.before.before)
