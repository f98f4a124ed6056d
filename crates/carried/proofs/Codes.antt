-- Moved codes: equal ones stay equal, unequal ones unequal, and kinds are kept. Assumes nothing.
use Prim.Native.Nat.{ℕ, zero, suc, ◌+◌, ◌-◌, ◌≤◌, ◌<◌}
use mathlib.Core.Path.{◌≡◌, refl, ap, sym, ◌∙◌}
use mathlib.Core.Bool.{Bool, true, false, ◌&&◌}
use mathlib.Core.List.{List, [], ◌∷◌, map}
use mathlib.Core.Logic.{inl, inr}
use native.Mathlib.Omega.{arith}
use lib.Dec.{eqb, leb}
use lib.ListN.{get_or}
use borrow.Author.Tests.{lt-ltb, le-ltb, le-leb, lt-leb, eq-eqb, ne_eqb, eqb-true, eqb-false}
use Rattle.grammar.specs.TableCheck.{is_terminal}
use Rattle.grammar.proofs.Lists.{lt_or_le}
use Rattle.carried.specs.Carried.{moved}

pub moved-low : (b d x : ℕ) → x < b → moved b d x ≡ x
unfolding moved
moved-low b d x h = rw (lt-ltb x b h)

pub moved-high : (b d x : ℕ) → b ≤ x → moved b d x ≡ x + d
unfolding moved
moved-high b d x h = rw (le-ltb x b h)

-- two tests agree where what they test does
test-same : (x y u v : ℕ) → (x ≡ y → u ≡ v) → (u ≡ v → x ≡ y) → eqb u v ≡ eqb x y
test-same x y u v f g = go (eqb x y) refl
  where
    go : (c : Bool) → eqb x y ≡ c → eqb u v ≡ c
    go true e = eq-eqb u v (f (eqb-true x y e))
    go false e = ne_eqb u v (λ q. eqb-false x y e (g q))

pub moved_back : (b d x y : ℕ) → moved b d x ≡ moved b d y → x ≡ y
moved_back b d x y e =
    elim (lt_or_le x b) [
      | inl h ↦ elim (lt_or_le y b) [
        | inl k ↦ sym (moved-low b d x h) ∙ e ∙ moved-low b d y k
        | inr k ↦ let z : x ≡ y + d = sym (moved-low b d x h) ∙ e ∙ moved-high b d y k in omega (arith, z, h, k)
      ]
      | inr h ↦ elim (lt_or_le y b) [
        | inl k ↦ let z : x + d ≡ y = sym (moved-high b d x h) ∙ e ∙ moved-low b d y k in omega (arith, z, h, k)
        | inr k ↦ let z : x + d ≡ y + d = sym (moved-high b d x h) ∙ e ∙ moved-high b d y k in omega (arith, z)
      ]
    ]

-- equal codes, by the test
pub moved_same : (b d x y : ℕ) → eqb (moved b d x) (moved b d y) ≡ eqb x y
moved_same b d x y = test-same x y (moved b d x) (moved b d y) (λ e. ap (moved b d) e) (moved_back b d x y)

-- a terminal stays one, and nothing becomes one
pub moved-terminal : (b d t x : ℕ) → t < b → is_terminal t (moved b d x) ≡ is_terminal t x
moved-terminal b d t x h =
    elim (lt_or_le x b) [
      | inl k ↦ ap (λ (y : ℕ). is_terminal t y) (moved-low b d x k)
      | inr k ↦ ap (λ (y : ℕ). is_terminal t y) (moved-high b d x k)
          ∙ ap (λ (c : Bool). leb 1 (x + d) && c) (lt-leb (x + d) t (omega arith))
          ∙ and_none (leb 1 (x + d)) ∙ sym (ap (λ (c : Bool). leb 1 x && c) (lt-leb x t (omega arith)) ∙ and_none (leb 1 x))
    ]
  where
    and_none : (c : Bool) → c && false ≡ false
    and_none true = refl
    and_none false = refl

-- a code that is none stays none
pub moved-some : (b d x : ℕ) → 0 < b → leb 1 (moved b d x) ≡ leb 1 x
moved-some b d x h =
    elim (lt_or_le x b) [
      | inl k ↦ ap (λ (y : ℕ). leb 1 y) (moved-low b d x k)
      | inr k ↦ ap (λ (y : ℕ). leb 1 y) (moved-high b d x k) ∙ le-leb 1 (x + d) (omega arith) ∙ sym (le-leb 1 x (omega arith))
    ]

-- the entry of a moved row, past its end too
pub moved-entry : (b d : ℕ) → 0 < b → (xs : List ℕ) (p : ℕ) → get_or (map (moved b d) xs) p 0 ≡ moved b d (get_or xs p 0)
moved-entry b d h [] p = sym (moved-low b d 0 h)
moved-entry b d h (x ∷ xs) zero = refl
moved-entry b d h (x ∷ xs) (suc p) = moved-entry b d h xs p

-- a code from the base on is one from the new base on, and no other is
pub moved-from : (b c x : ℕ) → b ≤ c → leb c (moved b (c - b) x) ≡ leb b x
moved-from b c x h =
    elim (lt_or_le x b) [
      | inl k ↦ ap (λ (y : ℕ). leb c y) (moved-low b (c - b) x k) ∙ lt-leb c x (omega (arith, k, h)) ∙ sym (lt-leb b x k)
      | inr k ↦ ap (λ (y : ℕ). leb c y) (moved-high b (c - b) x k) ∙ le-leb c (x + (c - b)) (omega (arith, k, h)) ∙ sym (le-leb b x k)
    ]
