-- What one more write appends follows what was appended. Assumes nothing.
use Rattle.std.proofs.Common.{◌≡◌, ℕ, ◌+◌, ◌-◌, List, ◌++◌, rules, arith, length, take, drop, sym, ap, ◌∙◌, subst, length-drop, length-take, take_all}
use Rattle.std.proofs.Math.Seq.{take-add}
use Rattle.std.specs.Io.KnownBytes.{Appends}
use Rattle.std.proofs.KnownBytes.{Appends-trans}
use Rattle.ambig.proofs.write_bytes.Goals as goal

-- the front of some bytes, and then the front of the rest
front_grows : (a k : ℕ) (bytes : List ℕ) → take (a + k) bytes ≡ take a bytes ++ take k (take (length bytes - a) (drop a bytes))
front_grows a k bytes =
    take-add a k bytes
    ∙ ap (λ z. take a bytes ++ take k z) (sym (take_all (length bytes - a) (drop a bytes) (omega (arith, length-drop a bytes))))

pub loop-at-preserved : goal.loop-at-preserved
loop-at-preserved g c = record {
  inside = omega (arith, c.in-Ok.ensures.bound, length-take {A = ℕ}, length-drop {A = ℕ});
  all = search rules;
  written = subst (Appends _ _) (sym (front_grows c.loop-at.at c.in-Ok.k c.args.bytes.now))
      (Appends-trans _ _ _ _ _ c.loop-at.invariant.written c.in-Ok.ensures.bytes);
}
