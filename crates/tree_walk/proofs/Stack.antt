-- Places in the upper bits of the work row. Assumes nothing.
use Prim.Native.Nat.{ℕ, zero, suc, ◌+◌, ◌-◌, ◌*◌, ◌/◌, ◌%◌, ◌≤◌, ◌<◌}
use mathlib.Core.Path.{◌≡◌, refl, ap, ap₂, ◌∙◌}
use mathlib.Core.List.{List, [], ◌∷◌}
use native.Mathlib.Omega.{arith}
use native.Mathlib.Nat.{mul-add-mod_self_right, mul-add-div_right, mod-eq_of_lt, div-eq_of_lt}
use lib.ListN.{length, get_or, set}
use lib.Seq.{get_or-set_other}
use Rattle.counts.specs.Counts.{item_cell}
use Rattle.tree_walk.specs.Walking.{frame, decode, stack_of}

pub stack_length : (m : ℕ) (row : List ℕ) (d : ℕ) → length (stack_of m row d) ≡ d
unfolding stack_of
stack_length m row zero = refl
stack_length m row (suc d) = ap suc (stack_length m row d)

pub stack_other : (m : ℕ) (row : List ℕ) (s v d : ℕ) → d ≤ s → stack_of m (set row s v) d ≡ stack_of m row d
unfolding stack_of
stack_other m row s v zero h = refl
stack_other m row s v (suc d) h = ap₂ (λ x l. decode m (x / 4) ∷ l) (get_or-set_other row s d v 0 (λ e. omega arith)) (stack_other m row s v d (omega arith))

pub stack_last : (m : ℕ) (row : List ℕ) (d : ℕ) → 1 ≤ d → stack_of m row d ≡ decode m (get_or row (d - 1) 0 / 4) ∷ stack_of m row (d - 1)
unfolding stack_of
stack_last m row zero h = absurd (omega arith)
stack_last m row (suc d) h = let e : d ≡ suc d - 1 = omega arith in ap (λ z. decode m (get_or row z 0 / 4) ∷ stack_of m row z) e

pub stack_none : (m : ℕ) (row : List ℕ) → stack_of m row 0 ≡ []
unfolding stack_of
stack_none m row = refl

-- a place as one number, and back
pub decode-code : (m p i j : ℕ) → i < m → j < m → decode m (item_cell m p i j) ≡ frame p i j
decode-code m p i j h g =
    let a : ((p * m + j) * m + i) % m ≡ i = mul-add-mod_self_right (p * m + j) m i ∙ mod-eq_of_lt h in
    let b : ((p * m + j) * m + i) / m ≡ p * m + j = quotient (p * m + j) i h in
    let c : (p * m + j) % m ≡ j = mul-add-mod_self_right p m j ∙ mod-eq_of_lt g in
    let d : (p * m + j) / m ≡ p = quotient p j g in
    λ t. record { place = (ap (λ z. z / m) b ∙ d) t; from = a t; to = (ap (λ z. z % m) b ∙ c) t }
  where
    quotient : (x y : ℕ) → y < m → (x * m + y) / m ≡ x
    quotient x y l = mul-add-div_right (omega arith) x y ∙ ap (λ z. x + z) (div-eq_of_lt l) ∙ omega arith

-- the upper bits, and the count below them
pub upper : (x f : ℕ) → (x % 4 + 4 * f) / 4 ≡ f
upper x f = omega arith

pub lower : (x f : ℕ) → (x % 4 + 4 * f) % 4 ≡ x % 4
lower x f = omega arith
