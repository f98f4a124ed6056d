-- Which name of the module is shown for a joined symbol: the one whose number it is. Assumes nothing.
use Prim.Native.Nat.{ℕ, zero, suc, ◌+◌, ◌-◌, ◌≤◌, ◌<◌}
use mathlib.Core.Path.{◌≡◌, refl, ap, sym, ◌∙◌}
use mathlib.Core.Bool.{Bool, true, false}
use mathlib.Core.List.{List, [], ◌∷◌, ◌++◌, append_assoc}
use native.Mathlib.Omega.{arith}
use lib.ListN.{length, get_or, length-append}
use Rattle.grammar.specs.Basics.{choose}
use Rattle.grammar.proofs.Answers.{no_bool}
use Rattle.grammar.proofs.Lists.{lt_or_le}
use mathlib.Core.Logic.{inl, inr}
use Rattle.text.specs.Names.{any, same_name, place}
use Rattle.modules.specs.Joined.{added}
use Rattle.joining.specs.Numbers.{numbered}
use Rattle.modules.proofs.Named.{place-some, get_d_past}

-- the first element after two lists
after_two : (names before : List (List ℕ)) (x : List ℕ) (xs : List (List ℕ)) (k : ℕ) → k ≡ length names + length before → get_or (names ++ (before ++ (x ∷ xs))) k [] ≡ x
after_two names before x xs k e =
    get_d_past names (before ++ (x ∷ xs)) k (omega (arith, e))
    ∙ get_d_past before (x ∷ xs) (k - length names) (omega (arith, e))
    ∙ ap (λ (j : ℕ). get_or (x ∷ xs) j []) (let z : k - length names - length before ≡ 0 = omega (arith, e) in z)

-- a name that the robot lacks stands at its number, byte for byte
stands : (names before xs : List (List ℕ)) (next j : ℕ) → next ≡ length names + length before → j < length xs → any (same_name (get_or xs j [])) names ≡ false
    → get_or (names ++ (before ++ added names xs)) (get_or (numbered names next xs) j 0) [] ≡ get_or xs j []
unfolding numbered added
stands names before [] next j e h k = absurd (omega arith)
stands names before (x ∷ xs) next zero e h k = go (any (same_name x) names) k
  where
    go : (c : Bool) → c ≡ false
        → get_or (names ++ (before ++ choose c (added names xs) (x ∷ added names xs))) (get_or (choose c (place (same_name x) names ∷ numbered names next xs) (next ∷ numbered names (next + 1) xs)) 0 0) [] ≡ x
    go true f = no_bool f
    go false f = after_two names before x (added names xs) next e
stands names before (x ∷ xs) next (suc j) e h k =
    go (any (same_name x) names) (stands names before xs next j e (omega arith) k)
    (stands names (before ++ (x ∷ [])) xs (next + 1) j (omega (arith, e, length-append before (x ∷ []))) (omega arith) k)
  where
    go : (c : Bool) → get_or (names ++ (before ++ added names xs)) (get_or (numbered names next xs) j 0) [] ≡ get_or xs j []
        → get_or (names ++ ((before ++ (x ∷ [])) ++ added names xs)) (get_or (numbered names (next + 1) xs) j 0) [] ≡ get_or xs j []
        → get_or (names ++ (before ++ choose c (added names xs) (x ∷ added names xs)))
        (get_or (choose c (place (same_name x) names ∷ numbered names next xs) (next ∷ numbered names (next + 1) xs)) (suc j) 0) [] ≡ get_or xs j []
    go true p q = p
    go false p q = ap (λ (l : List (List ℕ)). get_or (names ++ l) (get_or (numbered names (next + 1) xs) j 0) []) (sym (append_assoc before (x ∷ []) (added names xs))) ∙ q

pub added-stands : (names xs : List (List ℕ)) (j : ℕ) → j < length xs → any (same_name (get_or xs j [])) names ≡ false
    → get_or (names ++ added names xs) (get_or (numbered names (length names) xs) j 0) [] ≡ get_or xs j []
added-stands names xs j h k = stands names [] xs (length names) j (omega arith) h k

-- a name that the robot has has its number there
pub number_low : (names xs : List (List ℕ)) (next j : ℕ) → j < length xs → any (same_name (get_or xs j [])) names ≡ true → get_or (numbered names next xs) j 0 < length names
unfolding numbered
number_low names [] next j h k = absurd (omega arith)
number_low names (x ∷ xs) next zero h k = go (any (same_name x) names) k (place-some (same_name x) names k)
  where
    go : (c : Bool) → c ≡ true → place (same_name x) names < length names
        → get_or (choose c (place (same_name x) names ∷ numbered names next xs) (next ∷ numbered names (next + 1) xs)) 0 0 < length names
    go true f l = l
    go false f l = no_bool (sym f)
number_low names (x ∷ xs) next (suc j) h k = go (any (same_name x) names) (number_low names xs next j (omega arith) k) (number_low names xs (next + 1) j (omega arith) k)
  where
    go : (c : Bool) → get_or (numbered names next xs) j 0 < length names → get_or (numbered names (next + 1) xs) j 0 < length names
        → get_or (choose c (place (same_name x) names ∷ numbered names next xs) (next ∷ numbered names (next + 1) xs)) (suc j) 0 < length names
    go true p q = p
    go false p q = q

-- so the module's name whose number is past the robot's is the name shown
pub number_shown : (names xs : List (List ℕ)) (i j : ℕ) → length names ≤ i → j < length xs → get_or (numbered names (length names) xs) j 0 ≡ i
    → get_or (names ++ added names xs) i [] ≡ get_or xs j []
number_shown names xs i j h l e = go (any (same_name (get_or xs j [])) names) refl
  where
    go : (c : Bool) → any (same_name (get_or xs j [])) names ≡ c → get_or (names ++ added names xs) i [] ≡ get_or xs j []
    go true k = absurd (omega (arith, e, number_low names xs (length names) j l k))
    go false k = ap (λ (i : ℕ). get_or (names ++ added names xs) i []) (sym e) ∙ added-stands names xs j l k

-- each symbol past the robot's has such a name of the module
pub record Counted (names xs : List (List ℕ)) (next i : ℕ) : Type 0 where
  pub number : ℕ
  pub inside : number < length xs
  pub is : get_or (numbered names next xs) number 0 ≡ i

pub added-counted : (names xs : List (List ℕ)) (next i : ℕ) → next ≤ i → i < next + length (added names xs) → Counted names xs next i
unfolding numbered added
added-counted names [] next i h l = absurd (omega arith)
added-counted names (x ∷ xs) next i h l = go (any (same_name x) names) refl l (λ l. added-counted names xs next i h l) (λ h l. added-counted names xs (next + 1) i h l)
  where
    go : (c : Bool) → any (same_name x) names ≡ c → i < next + length (choose c (added names xs) (x ∷ added names xs))
        → (i < next + length (added names xs) → Counted names xs next i)
        → (next + 1 ≤ i → i < next + 1 + length (added names xs) → Counted names xs (next + 1) i) → Counted names (x ∷ xs) next i
    go true e l p q =
        let z = p l in
        record {
          number = suc z.number;
          inside = omega (arith, z.inside);
          is = ap (λ (c : Bool). get_or (choose c (place (same_name x) names ∷ numbered names next xs) (next ∷ numbered names (next + 1) xs)) (suc z.number) 0) e ∙ z.is;
        }
    go false e l p q = elim (lt_or_le next i) [
      | inl k ↦
          let z = q (omega arith) (omega arith) in
          record {
            number = suc z.number;
            inside = omega (arith, z.inside);
            is = ap (λ (c : Bool). get_or (choose c (place (same_name x) names ∷ numbered names next xs) (next ∷ numbered names (next + 1) xs)) (suc z.number) 0) e ∙ z.is;
          }
      | inr k ↦
          record {
            number = 0;
            inside = omega arith;
            is = ap (λ (c : Bool). get_or (choose c (place (same_name x) names ∷ numbered names next xs) (next ∷ numbered names (next + 1) xs)) 0 0) e ∙ (let z : next ≡ i = omega arith in z);
          }
    ]
