-- Rules counted and listed one by one. Assumes nothing.
use Prim.Native.Nat.{ℕ, ◌+◌, ◌≤◌, ◌<◌}
use mathlib.Core.Path.{◌≡◌, refl, sym, ap, ap₂, ◌∙◌}
use mathlib.Core.Bool.{true, false}
use mathlib.Core.Logic.{inl, inr}
use mathlib.Core.List.{List, [], ◌∷◌, ◌++◌, append-nil}
use native.Mathlib.Omega.{arith}
use lib.ListN.{length, set, length-append}
use Rattle.std.proofs.Common.{Option, None, Some}
use Rattle.std.specs.Option.{is_some}
use Rattle.grammar.specs.Basics.{over}
use Rattle.grammar.proofs.Answers.{no_bool}
use Rattle.trees.specs.Trees.{rules_below}
use Rattle.tree_walk.specs.Charted.{Rows}
use Rattle.tree_walk.specs.Walking.{Course, Low, Begun, At, Walks, Found, Total}
use Rattle.tree_walk.specs.declared.Walker.{Walker}
use Rattle.tree_walk.proofs.Turns.{at_same}

-- what was found, by whether it is a rule
pub found_none : (R : Rows) (c : Course) (out row : List ℕ) (v : Walker) (r : Option ℕ) → is_some r ≡ false → Found R c out row v r → (out ≡ c.all) × Low c.counts row
found_none R c out row v None e f = f
found_none R c out row v (Some x) e f = no_bool e

pub found_some : (R : Rows) (c : Course) (out row : List ℕ) (v : Walker) (r : Option ℕ) → is_some r ≡ true → Found R c out row v r → (rule : ℕ) × At R c (out ++ (rule ∷ [])) row v
found_some R c out row v None e f = no_bool (sym e)
found_some R c out row v (Some x) e f = (x, f)

-- so many rules are written
pub record Counting (R : Rows) (c : Course) (row : List ℕ) (w : Walker) (n : ℕ) : Type 0 where
  pub written : List ℕ
  pub number : length written ≡ n
  pub at : At R c written row w

-- and stand in front of the list
pub record Listing (R : Rows) (c : Course) (list row list' : List ℕ) (w : Walker) (n : ℕ) : Type 0 where
  pub written : List ℕ
  pub number : length written ≡ n
  pub at : At R c written row w
  pub front : list' ≡ over written list

-- one rule more in front of a list
over-more : (o list : List ℕ) (v : ℕ) → length o < length list → set (over o list) (length o) v ≡ over (o ++ (v ∷ [])) list
unfolding over
over-more [] [] v h = absurd (omega arith)
over-more [] (x ∷ list) v h = refl
over-more (y ∷ o) [] v h = absurd (omega arith)
over-more (y ∷ o) (x ∷ list) v h = ap (λ z. y ∷ z) (over-more o list v (omega arith))

over_none : (list : List ℕ) → list ≡ over [] list
unfolding over
over_none list = refl

-- a front as long as the whole is the whole
whole : (o l a : List ℕ) → o ++ l ≡ a → length a ≤ length o → o ≡ a
whole o [] a e h = sym (append-nil o) ∙ e
whole o (x ∷ l) a e h = absurd (omega (arith, ap length e, length-append o (x ∷ l)))

-- at the root nothing is written
abbrev Root : Rows → Walker → Type 0
Root R w = (w.p ≡ 2) × (w.i ≡ 0) × (w.j ≡ length R.sentence) × (w.depth ≡ 0)

module _ {R : Rows} {c : Course} {row : List ℕ} {w : Walker} where
  -- no more than all is written
  most : {out : List ℕ} → At R c out row w → length out ≤ length c.all
  most {out} W = omega (arith, ap length W.walk.written, length-append out (rules_below W.walk.now ++ W.walk.rest))

  root : Root R w → Begun R c row → At R c [] row w
  root (a, b, d, e) W = at_same R c [] row a b d e W

  pub counting_start : Root R w → Begun R c row → Counting R c row w 0
  counting_start r W = record { written = []; number = refl; at = root r W }

  pub counting_walks : {n : ℕ} → Counting R c row w n → Walks R row w
  counting_walks k = record { course = c; out = k.written; at = k.at }

  pub counting_more : {n : ℕ} {row' : List ℕ} {v : Walker} (rule : ℕ) (k : Counting R c row w n) → At R c (k.written ++ (rule ∷ [])) row' v → Counting R c row' v (n + 1)
  counting_more rule k W = record {
    written = k.written ++ (rule ∷ []);
    number = omega (arith, k.number, length-append k.written (rule ∷ []));
    at = W;
  }

  -- past the limit, or at the end
  pub counting_over : {limit : ℕ} → Counting R c row w (limit + 1) → Total c.all limit (limit + 1) × Low c.counts row
  counting_over k = (inr (refl, omega (arith, k.number, most k.at)), k.at.low)

  pub counting_end : {n : ℕ} (row' : List ℕ) (limit : ℕ) (k : Counting R c row w n) → n ≤ limit → (k.written ≡ c.all) × Low c.counts row' → Total c.all limit n × Low c.counts row'
  counting_end row' limit k h (e, l) = (inl (sym k.number ∙ ap length e, h), l)

  module _ {list : List ℕ} where
    pub listing_start : Root R w → Begun R c row → Listing R c list row list w 0
    listing_start r W = record { written = []; number = refl; at = root r W; front = over_none list }

    pub listing_walks : {list' : List ℕ} {n : ℕ} → Listing R c list row list' w n → Walks R row w
    listing_walks k = record { course = c; out = k.written; at = k.at }

    pub listing_more : {n : ℕ} {list' row' : List ℕ} {v : Walker} (rule : ℕ) (k : Listing R c list row list' w n) → n < length list
        → At R c (k.written ++ (rule ∷ [])) row' v → Listing R c list row' (set list' n rule) v (n + 1)
    listing_more rule k h W = record {
      written = k.written ++ (rule ∷ []);
      number = omega (arith, k.number, length-append k.written (rule ∷ []));
      at = W;
      front = ap₂ (λ l n. set l n rule) k.front (sym k.number) ∙ over-more k.written list rule (omega (arith, k.number));
    }

    -- all are written, or the list is full
    pub listing_end : {list' : List ℕ} {n : ℕ} (k : Listing R c list row list' w n) → k.written ≡ c.all → list' ≡ over c.all list
    listing_end k e = k.front ∙ ap (λ o. over o list) e

    pub listing_full : {list' : List ℕ} {n : ℕ} → Listing R c list row list' w n → length c.all ≤ length list → length list ≤ n → list' ≡ over c.all list
    listing_full k h g = listing_end k (whole k.written (rules_below k.at.walk.now ++ k.at.walk.rest) c.all k.at.walk.written (omega (arith, k.number)))
