-- A number in decimal says that number, without leading zeros; and nothing else says it so. Assumes nothing.
use Prim.Native.Nat.{ℕ, zero, suc, ◌+◌, ◌-◌, ◌*◌, ◌/◌, ◌%◌, ◌≤◌, ◌<◌}
use mathlib.Core.Path.{◌≡◌, refl, sym, ap, ◌∙◌}
use mathlib.Core.Bool.{Bool, true, false, not, ◌||◌}
use mathlib.Core.List.{List, [], ◌∷◌, ◌++◌, append-nil}
use native.Mathlib.Omega.{arith}
use native.Mathlib.Nat.{mod-lt}
use lib.Dec.{eqb, leb, ltb}
use lib.ListN.{length, get_or, length-append}
use lib.Seq.{append_snoc}
use borrow.Author.Tests.{ltb-true, ltb-false, lt-ltb, le-ltb, le-leb, ne_eqb, eqb-false, not-true}
use Rattle.grammar.specs.Basics.{choose}
use Rattle.grammar.proofs.Answers.{no_bool, and_both, both_and}
use Rattle.grammar.proofs.Lists.{lt_or_le}
use mathlib.Core.Logic.{◌⊎◌, inl, inr}
use Rattle.text.specs.Names.{within, all}
use Rattle.text.proofs.Pieces.{all_append, all_cons, all_none, all_head, all_tail}
use Rattle.text.proofs.Names.{within_both}
use Rattle.text.specs.Numbers.{decimal_to, decimal, number_from, is_decimal}

from_append : (before : ℕ) (s : List ℕ) (d : ℕ) → number_from before (s ++ (d ∷ [])) ≡ number_from before s * 10 + (d - 48)
unfolding number_from
from_append before [] d = refl
from_append before (b ∷ s) d = from_append (before * 10 + (b - 48)) s d

-- what is known of the digits of x
record Digits (x : ℕ) (s : List ℕ) : Type 0 where
  value : number_from 0 s ≡ x
  some : 0 < length s
  digits : all (within 48 57) s ≡ true
  lead : 1 ≤ x → ¬ (get_or s 0 0 ≡ 48)
  single : x < 10 → length s ≡ 1

digit : (d : ℕ) → d < 10 → within 48 57 (48 + d) ≡ true
digit d h = both_and (leb 48 (48 + d)) (leb (48 + d) 57) (le-leb 48 (48 + d) (omega arith)) (le-leb (48 + d) 57 (omega arith))

front : (s : List ℕ) (d : ℕ) → 0 < length s → get_or (s ++ (d ∷ [])) 0 0 ≡ get_or s 0 0
front [] d h = absurd (omega arith)
front (b ∷ s) d h = refl

one : (x : ℕ) → x < 10 → Digits x ((48 + x) ∷ [])
unfolding number_from
one x l = record {
  value = omega arith;
  some = omega arith;
  digits = all_cons (within 48 57) (48 + x) [] (digit x l) (all_none (within 48 57));
  lead = λ p e. omega arith;
  single = λ l. refl;
}

more : (x : ℕ) (s : List ℕ) → 10 ≤ x → Digits (x / 10) s → Digits x (s ++ ((48 + x % 10) ∷ []))
more x s l d =
    let r = mod-lt x (let p : 0 < 10 = omega arith in p) in
    record {
      value = from_append 0 s (48 + x % 10) ∙ (let z : number_from 0 s * 10 + (48 + x % 10 - 48) ≡ x = omega (arith, d.value) in z);
      some = omega (arith, length-append s ((48 + x % 10) ∷ []));
      digits = all_append (within 48 57) s ((48 + x % 10) ∷ []) d.digits (all_cons (within 48 57) (48 + x % 10) [] (digit (x % 10) r) (all_none (within 48 57)));
      lead = λ p e. d.lead (omega arith) (sym (front s (48 + x % 10) d.some) ∙ e);
      single = λ h. absurd (omega arith);
    }

digits_of : (m x : ℕ) → x ≤ m → Digits x (decimal_to (suc m) x)
unfolding decimal_to
digits_of zero x h = go (ltb x 10) refl
  where
    go : (b : Bool) → ltb x 10 ≡ b → Digits x (choose b ((48 + x) ∷ []) ([] ++ ((48 + x % 10) ∷ [])))
    go true e = one x (omega arith)
    go false e = absurd (omega (arith, ltb-false x 10 e))
digits_of (suc m) x h = go (ltb x 10) refl (λ l. digits_of m (x / 10) (omega arith))
  where
    go : (b : Bool) → ltb x 10 ≡ b → (10 ≤ x → Digits (x / 10) (decimal_to (suc m) (x / 10)))
        → Digits x (choose b ((48 + x) ∷ []) (decimal_to (suc m) (x / 10) ++ ((48 + x % 10) ∷ [])))
    go true e again = one x (ltb-true x 10 e)
    go false e again = more x (decimal_to (suc m) (x / 10)) (ltb-false x 10 e) (again (ltb-false x 10 e))

-- digits say the number that they are the decimal of
pub number_decimal : (x : ℕ) → number_from 0 (decimal x) ≡ x
number_decimal x = (digits_of x x (omega arith)).value

-- they are digits
pub decimal-digits : (x : ℕ) → all (within 48 57) (decimal x) ≡ true
decimal-digits x = (digits_of x x (omega arith)).digits

-- and without leading zeros
pub decimal_form : (x : ℕ) → is_decimal (decimal x) ≡ true
unfolding is_decimal
decimal_form x = go (decimal x) (digits_of x x (omega arith))
  where
    leading : (b : ℕ) (s : List ℕ) → Digits x (b ∷ s) → (z : ℕ) → length s ≡ z → eqb z 0 || not (eqb b 48) ≡ true
    leading b s d zero e = refl
    leading b s d (suc z) e = ap (λ (c : Bool). c || not (eqb b 48)) (ne_eqb (suc z) 0 (λ q. omega arith)) ∙ ap not (ne_eqb b 48 (elim (ltb10 x) [
      | inl l ↦ λ q. omega (arith, d.single l)
      | inr l ↦ d.lead (omega arith)
    ]))
      where
        ltb10 : (x : ℕ) → (x < 10) ⊎ (10 ≤ x)
        ltb10 x = lt_or_le x 10

    go : (s : List ℕ) → Digits x s → is_decimal s ≡ true
    go [] d = absurd (omega (arith, d.some))
    go (b ∷ s) d = both_and (all (within 48 57) (b ∷ s)) (eqb (length s) 0 || not (eqb b 48)) d.digits (leading b s d (length s) refl)

-- ---- what digits without leading zeros say, in decimal, is those digits

-- more room for digits than there are changes nothing
room-more : (m n x : ℕ) → x < m → x < n → decimal_to m x ≡ decimal_to n x
unfolding decimal_to
room-more zero n x h k = absurd (omega arith)
room-more (suc m) zero x h k = absurd (omega arith)
room-more (suc m) (suc n) x h k = go (ltb x 10) refl (λ l. room-more m n (x / 10) (omega arith) (omega arith))
  where
    go : (b : Bool) → ltb x 10 ≡ b → (10 ≤ x → decimal_to m (x / 10) ≡ decimal_to n (x / 10))
        → choose b ((48 + x) ∷ []) (decimal_to m (x / 10) ++ ((48 + x % 10) ∷ []))
        ≡ choose b ((48 + x) ∷ []) (decimal_to n (x / 10) ++ ((48 + x % 10) ∷ []))
    go true e again = refl
    go false e again = ap (λ (s : List ℕ). s ++ ((48 + x % 10) ∷ [])) (again (ltb-false x 10 e))

-- a number of one digit
decimal-one : (b x : ℕ) → 48 + x ≡ b → x < 10 → decimal x ≡ b ∷ []
unfolding decimal_to
decimal-one b x e h = rw (lt-ltb x 10 h, e)

-- a digit more at the end
decimal-more : (x b : ℕ) → 1 ≤ x → within 48 57 b ≡ true → decimal (x * 10 + (b - 48)) ≡ decimal x ++ (b ∷ [])
unfolding decimal_to
decimal-more x b h d =
    let w = within_both 48 57 b d in
    let y = x * 10 + (b - 48) in
    let q : y / 10 ≡ x = omega (arith, w.0, w.1) in
    let r : 48 + y % 10 ≡ b = omega (arith, w.0, w.1) in
    rw (le-ltb y 10 (omega arith), q, r) (ap (λ (s : List ℕ). s ++ (b ∷ [])) (room-more y (suc x) x (omega arith) (omega arith)))

-- digits after those of a number that is not 0
decimal-after : (x : ℕ) (s : List ℕ) → 1 ≤ x → all (within 48 57) s ≡ true → decimal (number_from x s) ≡ decimal x ++ s
unfolding number_from
decimal-after x [] h d = sym (append-nil (decimal x))
decimal-after x (b ∷ s) h d =
    let e = all_head (within 48 57) b s d in
    decimal-after (x * 10 + (b - 48)) s (omega arith) (all_tail (within 48 57) b s d)
    ∙ ap (λ (p : List ℕ). p ++ s) (decimal-more x b h e) ∙ append_snoc (decimal x) b s

-- so nothing but the decimal of a number is read as that number
pub decimal_number : (s : List ℕ) → is_decimal s ≡ true → decimal (number_from 0 s) ≡ s
unfolding is_decimal number_from
decimal_number [] h = no_bool (sym h)
decimal_number (b ∷ s) h =
    let c = and_both (all (within 48 57) (b ∷ s)) (eqb (length s) 0 || not (eqb b 48)) h in
    let w = within_both 48 57 b (all_head (within 48 57) b s c.0) in
    go s (all_tail (within 48 57) b s c.0) c.1 w.0 w.1
  where
    go : (s : List ℕ) → all (within 48 57) s ≡ true → eqb (length s) 0 || not (eqb b 48) ≡ true → 48 ≤ b → b ≤ 57
        → decimal (number_from (0 * 10 + (b - 48)) s) ≡ b ∷ s
    go [] d e l m = decimal-one b (0 * 10 + (b - 48)) (omega arith) (omega arith)
    go (a ∷ s) d e l m =
        let z : eqb (length (a ∷ s)) 0 ≡ false = ne_eqb (length (a ∷ s)) 0 (λ q. omega arith) in
        let n = eqb-false b 48 (not-true (eqb b 48) (sym (ap (λ (c : Bool). c || not (eqb b 48)) z) ∙ e)) in
        decimal-after (0 * 10 + (b - 48)) (a ∷ s) (elim (lt_or_le b 49) [ inl h ↦ absurd (n (omega arith)) | inr h ↦ omega arith ]) d
        ∙ ap (λ (p : List ℕ). p ++ (a ∷ s)) (decimal-one b (0 * 10 + (b - 48)) (omega arith) (omega arith))
