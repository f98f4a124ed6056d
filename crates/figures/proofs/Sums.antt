-- Sums over lists and over the numbers below n. Assumes nothing.
use Prim.Native.Nat.{ℕ, zero, suc, ◌+◌, ◌*◌, ◌≤◌, ◌<◌}
use mathlib.Core.Path.{◌≡◌, refl, sym, ap, subst, ◌∙◌}
use mathlib.Core.Bool.{Bool, true, false}
use mathlib.Core.Logic.{◌↔◌}
use mathlib.Core.List.{List, [], ◌∷◌, ◌++◌}
use native.Mathlib.Omega.{arith}
use native.Mathlib.Numerals.{add-one}
use native.Mathlib.Nat.{mul-add, suc-mul, add-zero}
use native.Mathlib.Decide.{ℕ_discrete}
use lib.ListN.{length, length-append}
use borrow.Author.Tests.{ne_eqb}
use Rattle.grammar.specs.Basics.{choose, each, Mem, here, there, Distinct, more}
use Rattle.automaton.specs.AllMoves.{numbers}
use Rattle.triples.specs.Smallest.{is_element}
use Rattle.triples.specs.Looked.{total}
use Rattle.triple_laws.proofs.Explore.{is_element_lem, not_element}
use Rattle.figures.specs.Sum.{sum}

-- the sum over two lists, one after the other
pub total_append : (f : ℕ → ℕ) (l m : List ℕ) → total f (l ++ m) ≡ total f l + total f m
unfolding total
total_append f [] m = omega arith
total_append f (i ∷ l) m = omega (arith, total_append f l m)

-- over the numbers below n
pub total-numbers : (f : ℕ → ℕ) (n : ℕ) → total f (numbers n) ≡ sum f n
unfolding total numbers sum
total-numbers f zero = refl
total-numbers f (suc n) = omega (arith, total_append f (numbers n) (n ∷ []), total-numbers f n)

-- the length of what f gives for each element
pub each-length : {B : Type 0} (l : List ℕ) (f : ℕ → List B) → length (each l f) ≡ total (λ i. length (f i)) l
unfolding each total
each-length [] f = refl
each-length (i ∷ l) f = omega (arith, length-append (f i) (each l f), each-length l f)

-- sums term by term
pub sum_le : (f g : ℕ → ℕ) (n : ℕ) → ((i : ℕ) → i < n → f i ≤ g i) → sum f n ≤ sum g n
unfolding sum
sum_le f g zero h = omega arith
sum_le f g (suc n) h = omega (arith, sum_le f g n (λ i l. h i (omega arith)), h n (omega arith))

pub sum_same : (f g : ℕ → ℕ) (n : ℕ) → ((i : ℕ) → i < n → f i ≡ g i) → sum f n ≡ sum g n
unfolding sum
sum_same f g zero h = refl
sum_same f g (suc n) h = omega (arith, sum_same f g n (λ i l. h i (omega arith)), h n (omega arith))

pub sum-add : (f g : ℕ → ℕ) (n : ℕ) → sum (λ i. f i + g i) n ≡ sum f n + sum g n
unfolding sum
sum-add f g zero = refl
sum-add f g (suc n) = omega (arith, sum-add f g n)

pub sum_times : (k : ℕ) (f : ℕ → ℕ) (n : ℕ) → sum (λ i. k * f i) n ≡ k * sum f n
unfolding sum
sum_times k f zero = omega arith
sum_times k f (suc n) = omega (arith, sum_times k f n, mul-add k (sum f n) (f n))

pub sum_constant : (k n : ℕ) → sum (λ i. k) n ≡ n * k
unfolding sum
sum_constant k zero = omega arith
sum_constant k (suc n) = omega (arith, sum_constant k n, suc-mul n k)

-- one summand more
pub sum_more : (f : ℕ → ℕ) (n : ℕ) → sum f (n + 1) ≡ sum f n + f n
unfolding sum
sum_more f n = rw (add-one n) refl

-- a sum over m + n numbers
pub sum-split : (f : ℕ → ℕ) (m n : ℕ) → sum f (m + n) ≡ sum f m + sum (λ i. f (m + i)) n
unfolding sum
sum-split f m zero = ap (sum f) (add-zero m) ∙ omega arith
sum-split f m (suc n) = ap (sum f) (let q : m + suc n ≡ suc (m + n) = omega arith in q) ∙ omega (arith, sum-split f m n)

-- a sum over p × Q + q
pub sum_rows : (f : ℕ → ℕ) (n Q : ℕ) → sum f (n * Q) ≡ sum (λ p. sum (λ q. f (p * Q + q)) Q) n
unfolding sum
sum_rows f zero Q = ap (sum f) (let q : 0 * Q ≡ 0 = omega arith in q)
sum_rows f (suc n) Q = ap (sum f) (suc-mul n Q) ∙ sum-split f (n * Q) Q ∙ ap (λ (z : ℕ). z + sum (λ q. f (n * Q + q)) Q) (sum_rows f n Q)

-- a number added at one place
pub sum-place : (f g : ℕ → ℕ) (x k n : ℕ) → x < n → g x ≡ f x + k → ((i : ℕ) → ¬ (i ≡ x) → g i ≡ f i) → sum g n ≡ sum f n + k
unfolding sum
sum-place f g x k zero h e o = absurd (omega arith)
sum-place f g x k (suc n) h e o = elim (ℕ_discrete n x) [
  | yes q ↦
      let s = sum_same g f n (λ i l. o i (λ z. omega arith)) in
      let y : g n ≡ f n + k = subst (λ (z : ℕ). g z ≡ f z + k) (sym q) e in
      omega (arith, s, y)
  | no q ↦ omega (arith, sum-place f g x k n (omega (arith, q)) e o, o n q)
]

-- f where a list has the number, else 0
abbrev pub held : (ℕ → ℕ) → List ℕ → ℕ → ℕ
held f l i = choose (is_element i l) (f i) 0

-- the sum over a list without doubles, by its numbers
pub total-held : (f : ℕ → ℕ) (l : List ℕ) (n : ℕ) → Distinct l → ((i : ℕ) → Mem i l → i < n) → total f l ≡ sum (held f l) n
unfolding total is_element
total-held f [] n d b = sym (sum_constant 0 n ∙ omega arith)
total-held f (x ∷ l) n (more new d) b =
    let again = total-held f l n d (λ i m. b i (there m)) in
    let at : held f (x ∷ l) x ≡ held f l x + f x =
    ap (λ (t : Bool). choose {A = ℕ} t (f x) 0) ((is_element_lem x (x ∷ l)).1 here)
    ∙ (let z : f x ≡ 0 + f x = omega arith in z) ∙ ap (λ (t : Bool). choose {A = ℕ} t (f x) 0 + f x) (sym ((not_element x l).1 new)) in
    let other : (i : ℕ) → ¬ (i ≡ x) → held f (x ∷ l) i ≡ held f l i =
    λ i ne. ap (λ (t : Bool). choose {A = ℕ} t (f i) 0) (same i ne) in
    omega (arith, sum-place (held f l) (held f (x ∷ l)) x (f x) n (b x here) at other, again)
  where
    same : (i : ℕ) → ¬ (i ≡ x) → is_element i (x ∷ l) ≡ is_element i l
    same i ne = rw (ne_eqb i x ne) refl

-- lists without doubles that have the same numbers have the same sum
pub total-same : (f : ℕ → ℕ) (l k : List ℕ) (n : ℕ) → Distinct l → Distinct k → ((i : ℕ) → Mem i l → i < n) → ((i : ℕ) → Mem i l ↔ Mem i k) → total f l ≡ total f k
total-same f l k n d e b h =
    total-held f l n d b ∙ sum_same (held f l) (held f k) n (λ i m. ap (λ (t : Bool). choose {A = ℕ} t (f i) 0) (same i))
    ∙ sym (total-held f k n e (λ i m. b i ((h i).1 m)))
  where
    same : (i : ℕ) → is_element i l ≡ is_element i k
    same i = go (is_element i l) refl
      where
        go : (t : Bool) → is_element i l ≡ t → t ≡ is_element i k
        go true q = sym ((is_element_lem i k).1 ((h i).0 ((is_element_lem i l).0 q)))
        go false q = sym ((not_element i k).1 (λ m. (not_element i l).0 q ((h i).1 m)))
