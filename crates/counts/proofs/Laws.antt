-- Sums of products of counts up to 2, and the parts of the work row that they are taken over. Assumes nothing.
use Prim.Native.Nat.{ℕ, zero, suc, ◌+◌, ◌-◌, ◌*◌, ◌≤◌, ◌<◌}
use mathlib.Core.Path.{◌≡◌, refl, sym, ap, ap₂, ◌∙◌}
use mathlib.Core.List.{List, [], ◌∷◌, ◌++◌}
use native.Mathlib.Omega.{arith}
use native.Mathlib.Nat.{mul-le-mul, zero-mul, mul-zero}
use lib.ListN.{length, get_or, set, take, drop, length-drop, drop_of_length-le}
use lib.Seq.{drop-cons, take-suc, get_or-drop, length-take-le}
use Rattle.grammar.specs.Limits.{limits}
use Rattle.trees.specs.Trees.{places}
use Rattle.tree_laws.specs.Chart.{cap}
use Rattle.tree_laws.proofs.Cap.{cap-same, cap_many, cap-most, cap_early, cap_late}
use Rattle.counts.specs.Counts.{dot, item_cell, whole_cell, splits_at}

-- products
pub no_left : (a b : ℕ) → a ≡ 0 → 0 ≡ cap (a * b)
unfolding cap
no_left a b e = rw (e, zero-mul b) refl

pub no_right : (a b : ℕ) → b ≡ 0 → 0 ≡ cap (a * b)
unfolding cap
no_right a b e = rw (e, mul-zero a) refl

pub many_left : (a b : ℕ) → 2 ≤ a → 1 ≤ b → 2 ≡ cap (a * b)
many_left a b h g = sym (cap_many (a * b) (omega (arith, mul-le-mul h g)))

pub many_right : (a b : ℕ) → 1 ≤ a → 2 ≤ b → 2 ≡ cap (a * b)
many_right a b h g = sym (cap_many (a * b) (omega (arith, mul-le-mul h g)))

pub one_each : (a b : ℕ) → a ≡ 1 → b ≡ 1 → 1 ≡ cap (a * b)
unfolding cap
one_each a b e d = rw (e, d) refl

-- one turn, t the product and s the new sum: what the sum and the rest of the rows give stays
pub turn : {x y t s W : ℕ} {xs ys l r : List ℕ} (sum : ℕ) → l ≡ x ∷ xs → r ≡ y ∷ ys → t ≡ cap (x * y) → s ≡ cap (sum + t)
    → cap (sum + dot l r) ≡ W → cap (s + dot xs ys) ≡ W
unfolding dot
turn {x} {y} {xs = xs} {ys} sum d e p q g =
    let z : sum + x * y + dot xs ys ≡ sum + (x * y + dot xs ys) = omega arith in
    ap (λ k. cap (k + dot xs ys)) (q ∙ ap (λ k. cap (sum + k)) p)
    ∙ cap_early (sum + cap (x * y)) (dot xs ys) ∙ cap_late sum (x * y) (dot xs ys)
    ∙ ap cap (z ∙ ap (λ k. sum + k) (sym (ap₂ dot d e))) ∙ g

pub full : {s W : ℕ} (r : ℕ) → s ≡ 2 → cap (s + r) ≡ W → 2 ≡ W
full {s} r h e = sym (cap_many (s + r) (omega arith)) ∙ e

-- no row is left
pub ended : {sum W : ℕ} {l r : List ℕ} → l ≡ [] → r ≡ [] → sum ≤ 1 → cap (sum + dot l r) ≡ W → sum ≡ W
unfolding dot
ended {sum} d e h g =
    let z : sum ≡ sum + 0 = omega arith in
    sym (cap-same sum (omega arith)) ∙ ap cap (z ∙ ap (λ k. sum + k) (sym (ap₂ dot d e))) ∙ g

pub small : (n s : ℕ) → s ≡ cap n → (s ≡ 2 → ⊥) → s ≤ 1
small n s e h = omega (arith, cap-most n)

-- one place more at the end
dot_snoc : (xs ys : List ℕ) (x y : ℕ) → length xs ≡ length ys → dot (xs ++ (x ∷ [])) (ys ++ (y ∷ [])) ≡ dot xs ys + x * y
unfolding dot
dot_snoc [] [] x y e = omega arith
dot_snoc [] (b ∷ ys) x y e = absurd (omega arith)
dot_snoc (a ∷ xs) [] x y e = absurd (omega arith)
dot_snoc (a ∷ xs) (b ∷ ys) x y e = let q = dot_snoc xs ys x y (omega arith) in omega (arith, q)

part-more : (row : List ℕ) (x n : ℕ) → x + suc n ≤ length row → take (suc n) (drop x row) ≡ take n (drop x row) ++ (get_or row (x + n) 0 ∷ [])
part-more row x n h = take-suc (drop x row) n 0 (omega (arith, length-drop x row)) ∙ ap (λ z. take n (drop x row) ++ (z ∷ [])) (get_or-drop x row n 0)

part_length : (row : List ℕ) (x n : ℕ) → x + n ≤ length row → length (take n (drop x row)) ≡ n
part_length row x n h = length-take-le n (drop x row) (omega (arith, length-drop x row))

-- the products of two parts of the work row are the splits
pub parts-splits : (row : List ℕ) (m h p i j n : ℕ) → whole_cell m h i i + n ≤ length row → item_cell m p i j + n ≤ length row
    → dot (take n (drop (whole_cell m h i i) row)) (take n (drop (item_cell m p i j) row)) ≡ splits_at row m h p i j n
unfolding dot splits_at
parts-splits row m h p i j zero g l = refl
parts-splits row m h p i j (suc n) g l =
    let e : whole_cell m h i i + n ≡ whole_cell m h i (i + n) = omega arith in
    let f : item_cell m p i j + n ≡ item_cell m p (i + n) j = omega arith in
    ap₂ dot (part-more row (whole_cell m h i i) n g) (part-more row (item_cell m p i j) n l)
    ∙ dot_snoc (take n (drop (whole_cell m h i i) row)) (take n (drop (item_cell m p i j) row)) _ _
    (part_length row (whole_cell m h i i) n (omega arith) ∙ sym (part_length row (item_cell m p i j) n (omega arith)))
    ∙ ap₂ (λ u v. u + v) (parts-splits row m h p i j n (omega arith) (omega arith)) (ap₂ (λ u v. get_or row u 0 * get_or row v 0) e f)

-- cells do not pass what a machine number holds
pub few-cells : (h m : ℕ) → h < limits.max_states → m ≤ places → h * m ≤ places * limits.max_states
few-cells h m a b = let q : h ≤ limits.max_states = omega arith in omega (arith, mul-le-mul q b)

-- the same with the parts' lengths as the code has them
pub parts_all : (row : List ℕ) (m h p i j : ℕ) → i ≤ j → j < m → whole_cell m h i m ≤ length row → item_cell m p m j ≤ length row
    → dot (take ((h * m + i) * m + j + 1 - whole_cell m h i i) (drop (whole_cell m h i i) row)) (take ((p * m + j) * m + j + 1 - item_cell m p i j) (drop (item_cell m p i j) row))
    ≡ splits_at row m h p i j (suc (j - i))
parts_all row m h p i j g l a b =
    let e : (h * m + i) * m + j + 1 - whole_cell m h i i ≡ suc (j - i) = omega arith in
    let f : (p * m + j) * m + j + 1 - item_cell m p i j ≡ suc (j - i) = omega arith in
    ap₂ (λ u v. dot (take u (drop (whole_cell m h i i) row)) (take v (drop (item_cell m p i j) row))) e f ∙ parts-splits row m h p i j (suc (j - i)) (omega arith) (omega arith)

pub set_same : (l : List ℕ) (k : ℕ) → set l k (get_or l k 0) ≡ l
set_same [] k = refl
set_same (x ∷ l) zero = refl
set_same (x ∷ l) (suc k) = ap (λ z. x ∷ z) (set_same l k)
