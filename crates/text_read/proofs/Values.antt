-- A line's value and its names: what each way through the code says of the definitions.
-- Assumes nothing.
use Prim.Native.Nat.{ℕ, suc, ◌+◌, ◌-◌, ◌≤◌, ◌<◌}
use mathlib.Core.Path.{◌≡◌, refl, ap, sym, subst, ◌∙◌}
use mathlib.Core.List.{List, [], ◌∷◌, ◌++◌, append-nil}
use mathlib.Core.Bool.{Bool, true, false, ◌&&◌}
use mathlib.Core.Option.{none, some}
use native.Mathlib.Omega.{arith}
use native.Mathlib.Nat.{add-zero}
use native.Mathlib.Numerals.{add-one}
use borrow.Author.Tests.{eq-eqb, ne_eqb, eqb-true, eqb-false, lt-leb}
use lib.Dec.{eqb, leb}
use lib.ListN.{length, take, drop, get_or, drop_of_length-le, length-drop}
use lib.Seq.{drop-cons, take_all}
use Rattle.grammar.specs.Basics.{choose}
use Rattle.grammar.specs.Refusal.{refused, done, refuse_unless, out_of_range, malformed, name_repeated}
use Rattle.text.specs.Pieces.{onto, split_on}
use Rattle.text.specs.Names.{within, all, is_name, has_double}
use Rattle.text.specs.Keys.{key, value_of}
use Rattle.text.specs.Read.{names_of, refuse_none, declaration}
use Rattle.text.proofs.Names.{both-within}
use Rattle.names.specs.Found.{part}
use Rattle.text_read.specs.declared.Split.{Split}
use Rattle.text_read.specs.declared.Split.TheVariants.{Value, Malformed}
use Rattle.std.specs.Prelude.{Some, None}
use Rattle.std.specs.Cmp.Lexicographic.{pointwise}
use Rattle.text_read.specs.Values.{HasValue, SplitTold, counted, body_counted}

-- ---- the key

pub value-short : (k line : List ℕ) → length line ≤ length k → value_of k line ≡ none
unfolding value_of
value-short [] [] h = refl
value-short [] (b ∷ s) h = absurd (omega arith)
value-short (x ∷ k) [] h = refl
value-short (x ∷ k) (b ∷ s) h = go (eqb b x) (value-short k s (omega arith))
  where
    go : (t : Bool) → value_of k s ≡ none → choose t (value_of k s) none ≡ none
    go true e = e
    go false e = refl

-- a line that does not begin with the key
pub value-differ : (k line : List ℕ) → false ≡ pointwise eqb k (take (length k) line) → value_of k line ≡ none
unfolding value_of
value-differ [] line h = cc
value-differ (x ∷ k) [] h = refl
value-differ (x ∷ k) (b ∷ s) h = go (eqb b x) refl (value-differ k s)
  where
    go : (t : Bool) → eqb b x ≡ t → (false ≡ pointwise eqb k (take (length k) s) → value_of k s ≡ none) → choose t (value_of k s) none ≡ none
    go true e again = again (h ∙ rw (eq-eqb x b (sym (eqb-true b x e))))
    go false e again = refl

-- one that does: what follows the key
pub value-past : (k line : List ℕ) → true ≡ pointwise eqb k (take (length k) line) → value_of k line ≡ value_of (drop (length k) k) (drop (length k) line)
unfolding value_of
value-past [] line h = refl
value-past (x ∷ k) [] h = cc
value-past (x ∷ k) (b ∷ s) h = go (eqb b x) refl (value-past k s)
  where
    go : (t : Bool) → eqb b x ≡ t → (true ≡ pointwise eqb k (take (length k) s) → value_of k s ≡ value_of (drop (length k) k) (drop (length k) s))
        → choose t (value_of k s) none ≡ value_of (drop (length k) k) (drop (length k) s)
    go true e again = again (h ∙ rw (eq-eqb x b (sym (eqb-true b x e))))
    go false e again =
        let z : eqb x b ≡ false = ne_eqb x b (λ q. eqb-false b x e (sym q)) in
        let w : ◌≡◌ {A = Bool} true false = h ∙ rw z in
        cc

module _ (k line : List ℕ) (i : ℕ) (past-key : length k ≤ i) (in-line : i < length line) where
  value_sign : value_of (drop i k) (drop i line) ≡ choose (eqb (get_or line i 0) 61) (some (drop (i + 1) line)) none
  unfolding value_of
  value_sign = rw (add-one, drop_of_length-le k, drop-cons line i 0)

  pub value-equals : get_or line i 0 ≡ 61 → value_of (drop i k) (drop i line) ≡ some (drop (i + 1) line)
  value-equals e = value_sign ∙ rw (eq-eqb _ _ e)

  pub value-other : (get_or line i 0 ≡ 61 → ⊥) → value_of (drop i k) (drop i line) ≡ none
  value-other e = value_sign ∙ rw (ne_eqb _ _ e)

-- a part up to the end
pub tail-part : (v : List ℕ) (a : ℕ) → part a (length v) v ≡ drop a v
tail-part v a = take_all (length v - a) (drop a v) (omega (arith, length-drop a v))

-- the split of a line whose key ends at m
pub split-value : (k : ℕ) (line : List ℕ) (m : ℕ) → m ≡ length (key k) → m < length line
    → value_of (key k) line ≡ some (drop (m + 1) line) → HasValue k line (m + 1) (length line)
split-value k line m e h v = record {
  starts = ap (λ m. m + 1) e;
  ends = refl;
  inside = omega arith;
  value = v ∙ ap some (sym (tail-part line (m + 1)));
}

-- what the split's answer tells
pub told-value : (k : ℕ) (line : List ℕ) (r : Split) (start end : ℕ) → r ≡ Value start end → SplitTold k line r → HasValue k line start end
told-value k line r start end e t = subst (λ (r : Split). SplitTold k line r) e t

pub told_none : (k : ℕ) (line : List ℕ) (r : Split) → r ≡ Malformed → SplitTold k line r → value_of (key k) line ≡ none
told_none k line r e t = subst (λ (r : Split). SplitTold k line r) e t

-- ---- names counted

pub counted_good : (k : ℕ) (p : List ℕ) (ps : List (List ℕ)) → is_name p ≡ true → counted k (p ∷ ps) ≡ counted (k + 1) ps
unfolding counted all
counted_good k p ps e = let h : k + suc (length ps) ≡ k + 1 + length ps = omega arith in rw (e, h)

pub counted_bad : (k : ℕ) (p : List ℕ) (ps : List (List ℕ)) → is_name p ≡ false → counted k (p ∷ ps) ≡ None
unfolding counted all
counted_bad k p ps e = rw e

pub counted-end : (k : ℕ) → counted k [] ≡ Some k
unfolding counted all
counted-end k = rw add-zero

-- what the count's answer tells
pub count_bad : (k : ℕ) (ns : List (List ℕ)) → counted k ns ≡ None → all is_name ns ≡ false
unfolding counted
count_bad k ns h = go (all is_name ns) h
  where
    go : (t : Bool) → choose t (Some (k + length ns)) None ≡ None → t ≡ false
    go true h = absurd (let z : ◌≡◌ {A = ℕ} 0 1 = cc in omega arith)
    go false h = refl

pub count_all : (c : ℕ) (ns : List (List ℕ)) → counted 0 ns ≡ Some c → (all is_name ns ≡ true) × (c ≡ length ns)
unfolding counted
count_all c ns h = go (all is_name ns) h
  where
    go : (t : Bool) → choose t (Some (0 + length ns)) None ≡ Some c → (t ≡ true) × (c ≡ length ns)
    go true h = (refl, let e : 0 + length ns ≡ c = cc in omega arith)
    go false h = absurd (let z : ◌≡◌ {A = ℕ} 0 1 = cc in omega arith)

pub body-none : (r : List ℕ) → length r ≡ 0 → body_counted (split_on 32 r) ≡ Some 0
unfolding split_on body_counted
body-none [] h = counted-end 0
body-none (b ∷ r) h = absurd (omega arith)

pub body-other : (r : List ℕ) → 0 < length r → (get_or r 0 0 ≡ 32 → ⊥) → body_counted (split_on 32 r) ≡ None
unfolding split_on body_counted
body-other [] h n = absurd (omega arith)
body-other (b ∷ r) h n = rw (ne_eqb b 32 n) (go (split_on 32 r))
  where
    go : (ps : List (List ℕ)) → body_counted (onto b ps) ≡ None
    go [] = refl
    go (p ∷ ps) = refl

pub body-space : (r : List ℕ) → 0 < length r → get_or r 0 0 ≡ 32 → body_counted (split_on 32 r) ≡ counted 0 (split_on 32 (drop 1 r))
unfolding split_on body_counted
body-space [] h e = absurd (omega arith)
body-space (b ∷ r) h e = rw (eq-eqb b 32 e)

-- ---- a declaring line

within-below : (lo hi n : ℕ) → n < lo → within lo hi n ≡ false
within-below lo hi n h = rw (lt-leb lo n h)

within-above : (lo hi n : ℕ) → hi < n → within lo hi n ≡ false
within-above lo hi n h = rw (lt-leb n hi h) (go (leb lo n))
  where
    go : (t : Bool) → t && false ≡ false
    go true = refl
    go false = refl

module _ (at k lo hi : ℕ) (earlier : List (List ℕ)) (line : List ℕ) where
  pub decl_none : value_of (key k) line ≡ none → declaration at k lo hi earlier line ≡ refused malformed at
  unfolding declaration refuse_none
  decl_none o = rw o

  module _ (v : List ℕ) (h : value_of (key k) line ≡ some v) where
    pub decl_bad : all is_name (names_of v) ≡ false → declaration at k lo hi earlier line ≡ refused malformed at
    unfolding declaration refuse_none refuse_unless
    decl_bad g = rw (h, g)

    module _ (g : all is_name (names_of v) ≡ true) where
      pub decl_double : has_double (earlier ++ names_of v) ≡ true → declaration at k lo hi earlier line ≡ refused name_repeated at
      unfolding declaration refuse_none refuse_unless
      decl_double t = rw (h, g, t)

      decl_out : has_double (earlier ++ names_of v) ≡ false → within lo hi (length (names_of v)) ≡ false → declaration at k lo hi earlier line ≡ refused out_of_range at
      unfolding declaration refuse_none refuse_unless
      decl_out t w = rw (h, g, t, w)

      pub decl_many : hi < length (names_of v) → declaration at k lo hi earlier line ≡ refused (choose (has_double (earlier ++ names_of v)) name_repeated out_of_range) at
      decl_many l = go (has_double (earlier ++ names_of v)) refl
        where
          go : (t : Bool) → has_double (earlier ++ names_of v) ≡ t → declaration at k lo hi earlier line ≡ refused (choose t name_repeated out_of_range) at
          go true t = decl_double t
          go false t = decl_out t (within-above lo hi _ l)

      pub decl_few : length (names_of v) < lo → lo ≤ 1 → has_double earlier ≡ false → declaration at k lo hi earlier line ≡ refused out_of_range at
      decl_few l m t = decl_out (ap has_double (no_more (names_of v) (omega arith)) ∙ t) (within-below lo hi _ l)
        where
          no_more : (ns : List (List ℕ)) → length ns ≡ 0 → earlier ++ ns ≡ earlier
          no_more [] e = append-nil earlier
          no_more (x ∷ ns) e = absurd (omega arith)

      pub decl_done : has_double (earlier ++ names_of v) ≡ false → lo ≤ length (names_of v) → length (names_of v) ≤ hi
          → declaration at k lo hi earlier line ≡ done (names_of v)
      unfolding declaration refuse_none refuse_unless
      decl_done t l m = rw (h, g, t, both-within lo hi (length (names_of v)) l m)
