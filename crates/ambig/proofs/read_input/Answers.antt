-- What one more read takes follows what was taken. Assumes nothing.
use Rattle.std.proofs.Common.{◌≡◌, ℕ, ◌+◌, ◌≤◌, List, ◌++◌, rules, arith, length, take, sym, ap, ◌∙◌, subst, length-take-le}
use Rattle.std.proofs.lemmas.List.{take-append-le}
use Rattle.std.proofs.Math.Seq.{take-append-add}
use Rattle.std.specs.Io.KnownBytes.{Consumes}
use Rattle.std.proofs.KnownBytes.{Consumes-trans}
use borrow.Rule.Slice.PartMut.{put_mid, post_of}
use Rattle.ambig.proofs.read_input.Goals as goal

-- the front of a text whose part from a on is now ys
front_grows : (a m k : ℕ) (xs ys : List ℕ) → a ≤ length xs → k ≤ length ys → take (a + k) (put_mid a m xs ys) ≡ take a xs ++ take k ys
front_grows a m k xs ys inside fits =
    ap (λ n. take (n + k) (put_mid a m xs ys)) (sym (length-take-le a xs inside))
    ∙ take-append-add (take a xs) (ys ++ post_of a m xs) k
    ∙ ap (λ z. take a xs ++ z) (take-append-le k ys (post_of a m xs) fits)

pub loop-at-preserved : goal.loop-at-preserved
loop-at-preserved g c = record {
  inside = search rules;
  all = search rules;
  read = subst (Consumes _ _) (sym (front_grows c.loop-at.at _ c.in-Ok.k c.loop-at.text c.read.new.buf (omega arith) c.in-Ok.ensures.bound.0))
      (Consumes-trans _ _ _ _ _ c.loop-at.invariant.read c.in-Ok.ensures.bytes.0);
}
