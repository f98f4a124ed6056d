-- The parents' row as the search finds it and leaves it: cleared top bytes, and entries past 2Q² as they were. Assumes nothing.
use Prim.Native.Nat.{ℕ, zero, suc, ◌+◌, ◌*◌, ◌/◌, ◌%◌, ◌^◌, ◌≤◌, ◌<◌}
use mathlib.Core.Path.{◌≡◌, refl, ap, ap₂, sym, subst, ◌∙◌}
use mathlib.Core.Bool.{false}
use mathlib.Core.List.{List, [], ◌∷◌, map}
use native.Mathlib.Omega.{arith}
use native.Mathlib.Nat.{mul-le-mul, zero-div}
use lib.Dec.{eqb}
use lib.ListN.{length, get_or, drop, length-map}
use Rattle.triples.specs.Index.{triple_count}
use Rattle.triples.specs.Certificate.{is_set}
use Rattle.tops.specs.Tops.{top, low, tops, lows}
use Rattle.tops.proofs.Laws.{get_d_map}
use Rattle.explore.specs.State.{Zero}

drop-map : (f : ℕ → ℕ) (n : ℕ) (l : List ℕ) → drop n (map f l) ≡ map f (drop n l)
drop-map f zero l = refl
drop-map f (suc n) [] = refl
drop-map f (suc n) (x ∷ l) = drop-map f n l

entry_is : (x y : ℕ) → low x ≡ low y → top x ≡ top y → x ≡ y
entry_is x y a b = omega (arith, a, b)

first : List ℕ → ℕ
first [] = 0
first (x ∷ l) = x

rest : List ℕ → List ℕ
rest [] = []
rest (x ∷ l) = l

-- an entry is its top byte and its place
row_is : (p q : List ℕ) → lows p ≡ lows q → tops p ≡ tops q → p ≡ q
unfolding first rest
row_is [] [] a b = refl
row_is [] (y ∷ q) a b = absurd (omega (arith, let z : 0 ≡ suc (length (map low q)) = ap length a in z))
row_is (x ∷ p) [] a b = absurd (omega (arith, let z : suc (length (map low p)) ≡ 0 = ap length a in z))
row_is (x ∷ p) (y ∷ q) a b =
    ap₂ (λ (u : ℕ) (v : List ℕ). u ∷ v) (entry_is x y (ap first a) (ap first b)) (row_is p q (ap rest a) (ap rest b))

-- the row past its first n entries, by its places and its top bytes
pub rest_is : (n : ℕ) (p q : List ℕ) → drop n (lows p) ≡ drop n (lows q) → drop n (tops p) ≡ drop n (tops q) → drop n p ≡ drop n q
rest_is n p q a b =
    row_is (drop n p) (drop n q) (sym (drop-map low n p) ∙ a ∙ drop-map low n q) (sym (drop-map top n p) ∙ b ∙ drop-map top n q)

-- no bit of zeros is set
clear_bit : (marks : List ℕ) (x : ℕ) → get_or marks (x / 8) 0 ≡ 0 → is_set marks x ≡ false
clear_bit marks x e = ap (λ (z : ℕ). eqb (z / 2 ^ (x % 8) % 2) 1) e ∙ ap (λ (z : ℕ). eqb (z % 2) 1) (zero-div (2 ^ (x % 8)))

-- half of the row, and one entry more, is enough for the marks and flags
pub zero_marks : (Q : ℕ) (row : List ℕ) → 4 ≤ Q → triple_count Q ≤ length row → ((i : ℕ) → get_or row i 0 < 4294967296)
    → ((i : ℕ) → i < Q * Q + 1 → get_or row i 0 ≡ 0) → Zero Q (tops row)
zero_marks Q row four long small clear =
    let w : 16 ≤ Q * Q = mul-le-mul {n₁ = 4} {m₁ = 4} four four in
    record {
      room = omega (arith, length-map row top);
      small = λ b. subst (λ (x : ℕ). x < 256) (sym (get_d_map top refl row b)) (omega (arith, small b));
      clear = λ x l. clear_bit (tops row) x (get_d_map top refl row (x / 8) ∙ ap top (clear (x / 8) (omega (arith, l))));
    }
