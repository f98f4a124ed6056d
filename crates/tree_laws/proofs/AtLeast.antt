-- Counts up to 2 without counting: a number is at most the count of the forests of a set when a 1 has one of them and a 2 two
-- unequal ones. Sums over parts without a common forest and products over pairs keep this. The first forest's depth, which is the
-- room that a walk through it needs, is within a bound. Assumes nothing.
use Prim.Native.Nat.{ℕ, zero, suc, ◌+◌, ◌*◌, ◌≤◌, ◌<◌}
use mathlib.Core.Path.{◌≡◌, subst}
use native.Mathlib.Omega.{arith}
use Rattle.grammar.specs.Tree.{Trees}
use Rattle.tree_laws.specs.Spans.{max_of, depth, AtLeast}

pub max_left : (a b : ℕ) → a ≤ max_of a b
unfolding max_of
max_left zero b = omega arith
max_left (suc a) zero = omega arith
max_left (suc a) (suc b) = omega (arith, max_left a b)

pub max_right : (a b : ℕ) → b ≤ max_of a b
unfolding max_of
max_right zero b = omega arith
max_right (suc a) zero = omega arith
max_right (suc a) (suc b) = omega (arith, max_right a b)

pub max_both : (a b c : ℕ) → a ≤ c → b ≤ c → max_of a b ≤ c
unfolding max_of
max_both zero b c h g = g
max_both (suc a) zero c h g = h
max_both (suc a) (suc b) zero h g = absurd (omega arith)
max_both (suc a) (suc b) (suc c) h g = omega (arith, max_both a b c (omega arith) (omega arith))

pub least_zero : {X : Trees → Type 0} (d v : ℕ) → v < 1 → AtLeast d v X
least_zero d v h = record { first = λ p. absurd (omega arith); second = λ p. absurd (omega arith) }

pub least_one : {X : Trees → Type 0} (d v : ℕ) → v < 2 → (f : Trees) → X f → depth f ≤ d → AtLeast d v X
least_one d v h f x q = record { first = λ p. (f, (x, q)); second = λ p. absurd (omega arith) }

-- a smaller number, a larger bound
pub least_le : {X : Trees → Type 0} (d e v u : ℕ) → v ≤ u → d ≤ e → AtLeast d u X → AtLeast e v X
least_le d e v u h l a = record {
  first = λ p. let x = a.first (omega arith) in (x.0, (x.1.0, omega (arith, x.1.1)));
  second = λ p. a.second (omega arith);
}

-- a number that rises from 1 or more keeps its first forest
pub least_keep : {X : Trees → Type 0} (d e v u : ℕ) → 1 ≤ v → AtLeast d v X → AtLeast e u X → AtLeast d u X
least_keep d e v u h a b = record { first = λ p. a.first h; second = b.second }

-- along a map that keeps unequal forests apart
pub least_map : {X Y : Trees → Type 0} (d e v : ℕ) (h : Trees → Trees) → ((f g : Trees) → h f ≡ h g → f ≡ g) → ((f : Trees) → X f → Y (h f))
    → ((f : Trees) → depth f ≤ d → depth (h f) ≤ e) → AtLeast d v X → AtLeast e v Y
least_map d e v h apart to deep a = record {
  first = λ p. let x = a.first p in (h x.0, (to x.0 x.1.0, deep x.0 x.1.1));
  second = λ p. let x = a.second p in
      (h x.0, (h x.1.0, (to x.0 x.1.1.0, to x.1.0 x.1.1.1, λ e. x.1.1.2 (apart x.0 x.1.0 e))));
}

-- into a larger set
pub least_in : {X Y : Trees → Type 0} (d v : ℕ) → ((f : Trees) → X f → Y f) → AtLeast d v X → AtLeast d v Y
least_in d v to a = least_map d d v (λ f. f) (λ f g e. e) to (λ f q. q) a

-- a sum over two parts of a set that have no common forest
pub least_add : {X Y Z : Trees → Type 0} (d u v : ℕ) → ((f : Trees) → X f → Z f) → ((f : Trees) → Y f → Z f) → ((f : Trees) → X f → Y f → ⊥)
    → AtLeast d u X → AtLeast d v Y → AtLeast d (u + v) Z
least_add d zero v to_x toY apart a b = least_le d d (zero + v) v (omega arith) (omega arith) (least_in d v toY b)
least_add d (suc u) zero to_x toY apart a b = least_le d d (suc u + zero) (suc u) (omega arith) (omega arith) (least_in d (suc u) to_x a)
least_add {X} d (suc u) (suc v) to_x toY apart a b =
    let x = a.first (omega arith) in
    let y = b.first (omega arith) in
    record {
      first = λ p. (x.0, (to_x x.0 x.1.0, x.1.1));
      second = λ p. (x.0, (y.0, (to_x x.0 x.1.0, toY y.0 y.1.0, λ e. apart y.0 (subst X e x.1.0) y.1.0)));
    }

-- a product over pairs
pub least_mul : {X Y Z : Trees → Type 0} (d e c u v : ℕ) (pair : Trees → Trees → Trees)
    → ((f g f' g' : Trees) → X f → X f' → pair f g ≡ pair f' g' → (f ≡ f') × (g ≡ g'))
    → ((f g : Trees) → X f → Y g → Z (pair f g)) → ((f g : Trees) → X f → depth f ≤ d → depth g ≤ e → depth (pair f g) ≤ c)
    → AtLeast d u X → AtLeast e v Y → AtLeast c (u * v) Z
least_mul d e c zero v pair apart to deep a b = least_zero c (zero * v) (omega arith)
least_mul d e c (suc u) zero pair apart to deep a b = least_zero c (suc u * zero) (omega arith)
least_mul d e c (suc zero) (suc v) pair apart to deep a b =
    let x = a.first (omega arith) in
    least_le c c (suc zero * suc v) (suc v) (omega arith) (omega arith)
    (least_map e c (suc v) (λ g. pair x.0 g) (λ f g q. (apart x.0 f x.0 g x.1.0 x.1.0 q).1) (λ g y. to x.0 g x.1.0 y)
    (λ g q. deep x.0 g x.1.0 x.1.1 q) b)
least_mul d e c (suc (suc u)) (suc v) pair apart to deep a b =
    let o = a.first (omega arith) in
    let y = b.first (omega arith) in
    let x = a.second (omega arith) in
    record {
      first = λ p. (pair o.0 y.0, (to o.0 y.0 o.1.0 y.1.0, deep o.0 y.0 o.1.0 o.1.1 y.1.1));
      second = λ p. (
        pair x.0 y.0,
        (
          pair x.1.0 y.0,
          (
            to x.0 y.0 x.1.1.0 y.1.0,
            to x.1.0 y.0 x.1.1.1 y.1.0,
            λ q. x.1.1.2 (apart x.0 y.0 x.1.0 y.0 x.1.1.0 x.1.1.1 q).0,
          ),
        ),
      );
    }
