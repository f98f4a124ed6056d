-- The shape of a rule's value: what each way through the code says of the sides.
-- Assumes nothing.
use Prim.Native.Nat.{ℕ, ◌+◌, ◌-◌, ◌≤◌, ◌<◌}
use mathlib.Core.Path.{◌≡◌, refl, ap, sym, ◌∙◌}
use mathlib.Core.List.{List, [], ◌∷◌, append-nil}
use mathlib.Core.Bool.{Bool, true, false}
use mathlib.Core.Option.{some}
use native.Mathlib.Omega.{arith}
use borrow.Author.Tests.{eqb-true, eq-eqb}
use lib.Dec.{eqb}
use lib.ListN.{length, take, drop, get_or}
use Rattle.grammar.specs.Basics.{choose}
use Rattle.grammar.specs.Grammar.{Rule}
use Rattle.grammar.specs.Refusal.{Answer, refused, refuse_unless, malformed}
use Rattle.grammar.proofs.Answers.{both_and}
use Rattle.text.specs.Pieces.{onto, split_on, led_by, join}
use Rattle.text.specs.Names.{all, is_name}
use Rattle.text.specs.Read.{refuse_none, Sides, body_of, sides_of}
use Rattle.text.proofs.Pieces.{other, join-split, split_free, led_free}
use Rattle.text.proofs.Names.{names_free, no_colon}
use Rattle.names.specs.Found.{index, part}
use Rattle.names.proofs.Pieces.{piece_more, piece_last}
use Rattle.std.specs.Prelude.{Some, None}
use Rattle.text_read.specs.Values.{body_counted}
use Rattle.text_read.specs.Lines.{shaped, ShapeAt}
use Rattle.text_read.proofs.Values.{count_bad, count_all}

module _ (at : ℕ) (go : Sides → Answer Rule) where
  head_bad : (l : List ℕ) (ps : List (List ℕ)) → is_name l ≡ false → shaped at (body_of l ps) go ≡ refused malformed at
  unfolding shaped refuse_none refuse_unless body_of
  head_bad l [] g = refl
  head_bad l ([] ∷ names) g = rw g
  head_bad l ((b ∷ p) ∷ names) g = refl

  sides_head : (l : List ℕ) (qs : List (List ℕ)) → is_name l ≡ false → shaped at (sides_of (l ∷ qs)) go ≡ refused malformed at
  unfolding shaped refuse_none sides_of
  sides_head l [] g = refl
  sides_head l (r ∷ []) g = head_bad l (split_on 32 r) g
  sides_head l (r ∷ q ∷ qs) g = refl

  body_bad : (l : List ℕ) (ps : List (List ℕ)) → is_name l ≡ true → body_counted ps ≡ None → shaped at (body_of l ps) go ≡ refused malformed at
  unfolding shaped refuse_none refuse_unless body_of body_counted
  body_bad l [] g h = refl
  body_bad l ([] ∷ names) g h = rw (g, count_bad 0 names h)
  body_bad l ((b ∷ p) ∷ names) g h = refl

  sides-body : (l r : List ℕ) (qs : List (List ℕ)) → is_name l ≡ true → body_counted (split_on 32 r) ≡ None → join 58 qs ≡ r
      → shaped at (sides_of (l ∷ qs)) go ≡ refused malformed at
  unfolding shaped refuse_none sides_of join led_by
  sides-body l r [] g h e = refl
  sides-body l r (p ∷ []) g h e =
      body_bad l (split_on 32 p) g (ap (λ w. body_counted (split_on 32 w)) (sym (append-nil p) ∙ e) ∙ h)
  sides-body l r (p ∷ q ∷ qs) g h e = refl

  sides-none : (v : List ℕ) → shaped at (sides_of (v ∷ [])) go ≡ refused malformed at
  unfolding shaped refuse_none sides_of
  sides-none v = refl

body-names : (ps : List (List ℕ)) (k : ℕ) → body_counted ps ≡ Some k
    → (names : List (List ℕ)) × (ps ≡ [] ∷ names) × (all is_name names ≡ true) × (k ≡ length names)
unfolding body_counted
body-names [] k h = absurd (let z : ◌≡◌ {A = ℕ} 0 1 = cc in omega arith)
body-names ([] ∷ names) k h = let c = count_all k names h in (names, refl, c.0, c.1)
body-names ((b ∷ p) ∷ names) k h = absurd (let z : ◌≡◌ {A = ℕ} 0 1 = cc in omega arith)

-- what follows the colon has none of its own where it is names after spaces
body_free : (r : List ℕ) (names : List (List ℕ)) → split_on 32 r ≡ [] ∷ names → all is_name names ≡ true → all (other 58) r ≡ true
unfolding join
body_free r names e g =
    let q : r ≡ led_by 32 names = sym (join-split 32 r) ∙ ap (join 32) e in
    ap (all (other 58)) q ∙ led_free 58 32 names refl (names_free 58 names no_colon g)

sides_good : (l r : List ℕ) (names : List (List ℕ)) → split_on 32 r ≡ [] ∷ names → all (other 58) r ≡ true
    → sides_of (l ∷ split_on 58 r) ≡ some (record { head = l; body = names })
unfolding sides_of body_of
sides_good l r names e f = rw (split_free 58 r f, e)

module _ (v : List ℕ) (e : ℕ) (found : e ≡ 0 + index 58 (drop 0 v)) where
  pub shape-none : length v ≤ e → (at : ℕ) (go : Sides → Answer Rule) → shaped at (sides_of (split_on 58 v)) go ≡ refused malformed at
  shape-none h at go =
      ap (λ ps. shaped at (sides_of ps) go) (piece_last 58 v 0 e (omega arith) found h) ∙ sides-none at go (part 0 e v)

  module _ (inside : e < length v) where
    cut : split_on 58 v ≡ part 0 e v ∷ split_on 58 (drop (e + 1) v)
    cut = piece_more 58 v 0 e (omega arith) found inside

    pub shape-head : is_name (part 0 e v) ≡ false → (at : ℕ) (go : Sides → Answer Rule)
        → shaped at (sides_of (split_on 58 v)) go ≡ refused malformed at
    shape-head g at go =
        ap (λ ps. shaped at (sides_of ps) go) cut ∙ sides_head at go (part 0 e v) (split_on 58 (drop (e + 1) v)) g

    pub shape-body : is_name (part 0 e v) ≡ true → body_counted (split_on 32 (drop (e + 1) v)) ≡ None
        → (at : ℕ) (go : Sides → Answer Rule) → shaped at (sides_of (split_on 58 v)) go ≡ refused malformed at
    shape-body g h at go =
        ap (λ ps. shaped at (sides_of ps) go) cut
        ∙ sides-body at go (part 0 e v) (drop (e + 1) v) (split_on 58 (drop (e + 1) v)) g h (join-split 58 (drop (e + 1) v))

    pub shape-found : (k : ℕ) → is_name (part 0 e v) ≡ true → body_counted (split_on 32 (drop (e + 1) v)) ≡ Some k → ShapeAt v e k
    shape-found k g h =
        let b = body-names (split_on 32 (drop (e + 1) v)) k h in
        record {
          sides = record { head = part 0 e v; body = b.0 };
          cut = ap sides_of cut
              ∙ sides_good (part 0 e v) (drop (e + 1) v) b.0 b.1 (body_free (drop (e + 1) v) b.0 b.1 b.2);
          named = both_and (is_name (part 0 e v)) (all is_name b.0) g b.2;
          inside = inside;
          head = ap (λ m. take m v) (let q : e - 0 ≡ e = omega arith in q);
          body = b.1;
          counts = b.3;
        }

-- ---- the body's first space

pub split-led : (c : ℕ) (r : List ℕ) → 0 < length r → get_or r 0 0 ≡ c → split_on c r ≡ [] ∷ split_on c (drop 1 r)
unfolding split_on
split-led c [] h e = absurd (omega arith)
split-led c (b ∷ r) h e = rw (eq-eqb b c e)

pub led-first : (c : ℕ) (r : List ℕ) (names : List (List ℕ)) → split_on c r ≡ [] ∷ names → 0 < length r → get_or r 0 0 ≡ c
unfolding split_on
led-first c [] names e h = absurd (omega arith)
led-first c (b ∷ r) names e h = go (eqb b c) refl (split_on c r) e
  where
    go : (t : Bool) → eqb b c ≡ t → (ps : List (List ℕ)) → choose t ([] ∷ split_on c r) (onto b ps) ≡ [] ∷ names → b ≡ c
    go true q ps e = eqb-true b c q
    go false q [] e = absurd (let z : ◌≡◌ {A = ℕ} 0 1 = cc in omega arith)
    go false q (p ∷ ps) e = absurd (let z : ◌≡◌ {A = ℕ} 0 1 = cc in omega arith)

pub empty-body : (c : ℕ) (r : List ℕ) → length r ≡ 0 → drop 1 (split_on c r) ≡ []
unfolding split_on
empty-body c [] h = refl
empty-body c (b ∷ r) h = absurd (omega arith)
