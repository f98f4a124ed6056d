-- `text_write::lines::put_rule` meets its contract: the key, the left name, the colon, the right side, the end. Assumes nothing.
use mathlib.Core.Path.{refl}
use mathlib.Core.List.{List, [], ◌∷◌, ◌++◌}
use Prim.Native.Nat.{ℕ}
use native.Mathlib.Omega.{arith}
use lib.ListN.{get_or}
use Rattle.text.specs.Keys.{key}
use Rattle.text.specs.Spelled.{spelled}
use Rattle.text_write.specs.Clauses.{codes_text, rule_text}
use Rattle.text_write.proofs.Filling.{Filling, filling_start, filling_room, filling_ran, filling_last, filling_all}
use Rattle.text_write.proofs.TableLaws.{known-right}
use Rattle.text_write.proofs.PutLaws.{rule-parts}
use Rattle.text_write.proofs.lines.put_rule.Goals as goal
use Rattle.text_write.proofs.lines.put_rule.Lts as lts
use Rattle.text_write.proofs.lines.put_rule.Reads as reads
use Rattle.text_write.proofs.lines.put_rule.Tie as tie

abbrev Start : Type 0
Start = lts.Start tie.the-claims reads.Pre reads.Post

abbrev Place-After-put_key : Type 0
Place-After-put_key = lts.After-put_key tie.the-claims reads.Pre reads.Post

abbrev Place-After-put_name : Type 0
Place-After-put_name = lts.After-put_name tie.the-claims reads.Pre reads.Post

abbrev Place-After-put_byte : Type 0
Place-After-put_byte = lts.After-put_byte tie.the-claims reads.Pre reads.Post

abbrev Place-After-put_codes : Type 0
Place-After-put_codes = lts.After-put_codes tie.the-claims reads.Pre reads.Post

abbrev names : Start → List (List ℕ)
names s = spelled s.args.bytes.now s.args.starts.now s.args.lengths.now

abbrev right : Start → List ℕ
right s = codes_text s.args.t (names s) s.args.codes.now

-- this is still to come
abbrev Still : Start → ℕ → List ℕ → List ℕ → Type 0
Still s j now rest =
    let a = s.args in
    Filling a.at a.out.now (rule_text a.t (names s) (record { left = a.left; right = a.codes.now })) j now rest

after-key : (c : Place-After-put_key) →
    let s = c in Still s.before.before.before.before.before.before.before.before c.put_key-a.result c.put_key-a.new.out
    ((get_or (names s.before.before.before.before.before.before.before.before) c.symbol-s.result []) ++ ((58 ∷ []) ++ ((right s.before.before.before.before.before.before.before.before) ++ (10 ∷ []))))
after-key c =
    let a = c.args in
    filling_ran (key 2 ++ (61 ∷ [])) _ (rule-parts a.t (names c.before.before.before.before.before.before.before.before) a.left c.symbol-s.result
    a.codes.now c.symbol-s.ensures) c.put_key-a.ensures (filling_start _ _ _ c.requires.2)

after-left : (c : Place-After-put_name) →
    let s = c in Still s.before.before.before.before.before.before.before.before.before.before.before.before c.put_name-b.result c.put_name-b.new.out ((58 ∷ []) ++ ((right s.before.before.before.before.before.before.before.before.before.before.before.before) ++ (10 ∷ [])))
after-left c =
    filling_ran (get_or (names c.before.before.before.before.before.before.before.before.before.before.before.before) c.symbol-s.result []) _ refl
    c.put_name-b.ensures (after-key c.before.before.before.before)

after-colon : (c : Place-After-put_byte) →
    Still c.before.before.before.before.before.before.before.before.before.before.before.before.before.before.before.before c.put_byte-c.result c.put_byte-c.new.out ((right c.before.before.before.before.before.before.before.before.before.before.before.before.before.before.before.before) ++ (10 ∷ []))
after-colon c =
    filling_ran (58 ∷ []) _ refl c.put_byte-c.ensures (after-left c.before.before.before.before)

after-right : (c : Place-After-put_codes) →
    let s = c in Still s.before.before.before.before.before.before.before.before.before.before.before.before.before.before.before.before.before.before.before.before c.put_codes-d.result c.put_codes-d.new.out (10 ∷ [])
after-right c =
    filling_ran (right c.before.before.before.before.before.before.before.before.before.before.before.before.before.before.before.before.before.before.before.before) _ refl c.put_codes-d.ensures (after-colon c.before.before.before.before)

pub put_key-a-requires : goal.put_key-a-requires
put_key-a-requires c = let a = c.args in (
  omega arith,
  filling_room (key 2 ++ (61 ∷ [])) _ (rule-parts a.t (names c.before.before.before.before.before.before.before.before) a.left c.symbol-s.result
      a.codes.now c.symbol-s.ensures) (filling_start a.at a.out.now _ c.requires.2),
)

pub put_name-b-requires : goal.put_name-b-requires
put_name-b-requires c = (
  c.requires.0,
  omega (
    arith,
    c.symbol-s.ensures,
    (c.requires.1.each 0
        (omega arith)).1,
  ),
  filling_room (get_or (names c.before.before.before.before.before.before.before.before.before.before.before.before) c.symbol-s.result []) _ refl
      (after-key c.before.before.before.before),
)

pub put_byte-c-requires : goal.put_byte-c-requires
put_byte-c-requires c = omega (arith, filling_room (58 ∷ []) _ refl (after-left c.before.before.before.before))

pub put_codes-d-requires : goal.put_codes-d-requires
put_codes-d-requires c = (c.requires.0, known-right c.requires.1, filling_room (right c.before.before.before.before.before.before.before.before.before.before.before.before.before.before.before.before.before.before.before.before) _ refl (after-colon c.before.before.before.before))

pub put_byte-requires : goal.put_byte-requires
put_byte-requires c = omega (arith, filling_all (after-right c.before.before.before.before))

pub returns : goal.returns
returns c = filling_last c.put_byte.ensures (after-right c.before.before.before.before.before.before.before)
