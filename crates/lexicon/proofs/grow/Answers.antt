-- `lexicon::grow` meets its contract: a link is written only where none was, so every way stays, and the names passed are apart. Assumes nothing.
use Rattle.std.proofs.Common.{ℕ, ◌≡◌, ◌<◌, ◌+◌, max, zero, suc, Bool, true, false, List, length, eqb, refl, sym, ap, subst, ◌∙◌, arith}
use borrow.Author.Tests.{eqb-true, eqb-false}
use Rattle.text.specs.Names.{same_name}
use Rattle.lexicon.specs.Tree.{name_of, Grown, Gap, Planted}
use Rattle.lexicon.proofs.Tree.{grow, told_same, told_free}
use Rattle.lexicon.proofs.Numbers.{part_is, double_at}
use Rattle.lexicon.proofs.Growth.{Begun, begun-root, begun-later}
use Rattle.lexicon.proofs.grow.Goals as goal
use Rattle.lexicon.proofs.grow.Invariants.{Separate}

-- a gap for the part is one for the name
gap_for : (name : ℕ → List ℕ) (C : List ℕ) (k i : ℕ) (x y : List ℕ) → x ≡ y → Gap name C k x i → Gap name C k y i
gap_for name C k i x y e g = subst (λ (w : List ℕ). Gap name C k w i) e g

-- one name more is apart
separate_more : (f : ℕ → List ℕ) (k : ℕ) → Separate f k → ((i : ℕ) → i < k → same_name (f k) (f i) ≡ false) → Separate f (k + 1)
separate_more f k old new i j h l = go (eqb j k) refl
  where
    go : (t : Bool) → eqb j k ≡ t → same_name (f j) (f i) ≡ false
    go true e = ap (λ (w : ℕ). same_name (f w) (f i)) (eqb-true j k e) ∙ new i (omega (arith, eqb-true j k e))
    go false e = old i j h (omega (arith, eqb-false j k e))

begun : (text starts lengths links : List ℕ) (from k : ℕ) → Planted text starts lengths links from → 0 < length starts → k ≡ max from 1 → Begun text starts lengths links k
begun text starts lengths links zero k p h e = subst (Begun text starts lengths links) (sym e) (begun-root text starts lengths links 0 p refl h)
begun text starts lengths links (suc n) k p h e = let q : suc n ≡ k = omega arith in subst (Begun text starts lengths links) q (begun-later text starts lengths links (suc n) p (omega arith))

pub returns-then-n-eq0 : goal.returns-then-n-eq0
returns-then-n-eq0 c = record {
  value = sym (double_at c.args.text.now c.args.starts.now c.args.lengths.now c.requires.spans 0 (omega arith) (λ i j h l. absurd (omega arith)) (λ h. absurd (omega (arith, h, c.if-n-eq0.true))));
  lexicon = λ q. record {
    spans = c.requires.spans;
    few = c.requires.few;
    room = c.requires.room;
    bare = λ q. c.requires.bare (omega (arith, c.requires.near, c.if-n-eq0.true));
    grown = λ h. absurd (omega (arith, h, c.if-n-eq0.true));
    apart = λ i j h l. absurd (omega (arith, l, c.if-n-eq0.true));
  };
}

pub loop-k-init : goal.loop-k-init
loop-k-init c = let b = begun c.args.text.now c.args.starts.now c.args.lengths.now c.args.links.now c.args.from c.max-k.result c.requires (omega (arith, c.if-n-eq0.false)) c.max-k.ensures in
    record { inside = b.high; grown = b.grown; apart = b.apart }

pub returns-in_default : goal.returns-in_default
returns-in_default c =
    let h = told_same (name_of c.args.text.now c.args.starts.now c.args.lengths.now) c.loop-k.links c.loop-k.k _ c.seek.result c.in_default.field-0 c.in_default.is c.seek.ensures in
    record {
      value = sym (double_at c.args.text.now c.args.starts.now c.args.lengths.now c.requires.spans c.loop-k.k c.loop-k.invariant.inside c.loop-k.invariant.apart
          (λ q. (
            c.in_default.field-0,
            h.inside,
            ap (λ (w : List ℕ). same_name w (name_of c.args.text.now c.args.starts.now c.args.lengths.now c.in_default.field-0))
                (sym (part_is c.args.text.now c.args.starts.now c.args.lengths.now c.loop-k.k)) ∙ h.same,
          )));
      lexicon = λ q. absurd (omega (arith, q, c.loop-k-test.true));
    }

pub loop-k-preserved : goal.loop-k-preserved
loop-k-preserved c =
    let g = gap_for (name_of c.args.text.now c.args.starts.now c.args.lengths.now) c.loop-k.links c.loop-k.k c.in-Err.i _ _ (part_is c.args.text.now c.args.starts.now c.args.lengths.now c.loop-k.k)
    (told_free (name_of c.args.text.now c.args.starts.now c.args.lengths.now) c.loop-k.links c.loop-k.k _ c.seek.result c.in-Err.i c.in-Err.is c.seek.ensures) in
    record {
      inside = omega arith;
      grown = grow (name_of c.args.text.now c.args.starts.now c.args.lengths.now) c.loop-k.links c.loop-k.k c.in-Err.i c.loop-k.invariant.grown g (omega (arith, g.near, c.requires.room));
      apart = separate_more (name_of c.args.text.now c.args.starts.now c.args.lengths.now) c.loop-k.k c.loop-k.invariant.apart g.absent;
    }

pub returns : goal.returns
returns c =
    let z : c.loop-k.k ≡ length c.args.starts.now = omega (arith, c.loop-k-test.false, c.loop-k.invariant.inside) in
    let g = subst (λ (k : ℕ). Grown (name_of c.args.text.now c.args.starts.now c.args.lengths.now) c.loop-k.links k) z c.loop-k.invariant.grown in
    let s = subst (λ (k : ℕ). Separate (name_of c.args.text.now c.args.starts.now c.args.lengths.now) k) z c.loop-k.invariant.apart in
    record {
      value = sym (double_at c.args.text.now c.args.starts.now c.args.lengths.now c.requires.spans (length c.args.starts.now) (omega arith) s (λ h. absurd (omega (arith, h))));
      lexicon = λ q. record {
        spans = c.requires.spans;
        few = c.requires.few;
        room = omega (arith, c.requires.room, c.loop-k.auto.links);
        bare = λ e. absurd (c.if-n-eq0.false e);
        grown = λ h. g;
        apart = s;
      };
    }
