-- The classes of states tell which rules they end and begin. Assumes nothing.
use Prim.Native.Nat.{ℕ, zero, suc, ◌+◌, ◌-◌, ◌*◌, ◌≤◌, ◌<◌}
use mathlib.Core.Path.{◌≡◌, refl, sym, ap, ap₂, subst, ◌∙◌}
use mathlib.Core.List.{List}
use mathlib.Core.Logic.{◌⊎◌, inl, inr}
use native.Mathlib.Omega.{arith}
use native.Mathlib.Decide.{ℕ_discrete}
use lib.ListN.{length, get_or}
use borrow.Author.Tests.{le-leb}
use Rattle.grammar.specs.Basics.{choose}
use Rattle.grammar.specs.Limits.{limits}
use Rattle.grammar.specs.Grammar.{Rule, Grammar, IsRule, rule, start, WellFormed}
use Rattle.grammar.proofs.Lists.{lt_or_le}
use Rattle.automaton.specs.Items.{base, states}
use Rattle.moves.specs.Tables.{row_from, class_of, member_line, target_line, kinds, all_lines}
use Rattle.moves.proofs.Lines.{left, right, line_base, at_every, known, other, coded, Coded, member_inside, member_end, target-start, target_past}
use Rattle.moves.proofs.Links.{lines-states, same-right, same_base}
use Rattle.chart_rows.proofs.PlaceLaws.{most-at, left-low}

-- a class is that of no code, or that of a code from the start on
code_class : (a e x y : ℕ) → Coded limits a e x y → (y ≡ e) ⊎ ((start limits ≤ x) × (y ≡ x - start limits + a))
code_class a e x y (known h q) = inr (h, q)
code_class a e x y (other h q) = inl q

class_known : (a e x y : ℕ) → y ≡ class_of limits a e x → (y ≡ e) ⊎ ((start limits ≤ x) × (y ≡ x - start limits + a))
class_known a e x y q = code_class a e x y (subst (Coded limits a e x) (sym q) (coded limits a e x))

class_is : (a e x : ℕ) → start limits ≤ x → class_of limits a e x ≡ x - start limits + a
unfolding class_of
class_is a e x h = ap (λ t. choose t (x - start limits + a) e) (le-leb (start limits) x h)

-- the rows of classes: which each state is of, and which leads to it
abbrev pub members : Grammar → List ℕ
members G = row_from (member_line limits (kinds G)) 0 (all_lines limits G)

abbrev pub targets : Grammar → List ℕ
targets G = row_from (target_line limits (kinds G)) 0 (all_lines limits G)

-- s ends a rule of the nonterminal of number c
pub record EndOf (G : Grammar) (s c : ℕ) : Type 0 where
  pub number : ℕ
  pub stored : IsRule G number
  pub state : s ≡ base limits G number + length (rule limits G number).right
  pub left : (rule limits G number).left ≡ start limits + c

-- s begins a rule of the nonterminal that class z leads to
pub record BeginOf (G : Grammar) (s z : ℕ) : Type 0 where
  pub number : ℕ
  pub stored : IsRule G number
  pub state : base limits G number ≡ s
  pub left : (rule limits G number).left ≡ z - kinds G + start limits

module _ (G : Grammar) (W : WellFormed limits G) where
  abbrev n : ℕ
  n = G.nonterminals

  -- lines: line 0 is S" → S', line 1 is rule 0, and so on
  abbrev ls : List Rule
  ls = all_lines limits G

  abbrev m : ℕ
  m = kinds G

  line-left : (i : ℕ) → left ls (suc (suc i)) ≡ (rule limits G (suc i)).left
  unfolding all_lines rule
  line-left i = refl

  line_count : length ls ≡ 2 + length G.rules
  unfolding all_lines
  line_count = omega arith

  left-zero : left ls 0 ≡ 0
  unfolding all_lines
  left-zero = refl

  left_one : left ls 1 ≡ start limits + n
  unfolding all_lines
  left_one = refl

  end_line : (s c k : ℕ) → k < length ls → s ≡ line_base ls k + length (right ls k) → c < n → (start limits ≤ left ls k) × (c ≡ left ls k - start limits + 0) → EndOf G s c
  end_line s c zero h e g q = absurd (omega (arith, q.0, left-zero))
  end_line s c (suc zero) h e g q = absurd (omega (arith, q.1, left_one))
  end_line s c (suc (suc i)) h e g q = record {
    number = suc i;
    stored = (omega arith, omega (arith, line_count));
    state = e ∙ ap₂ (λ x y. x + y) (same_base limits G (suc i) (omega (arith, line_count))) (ap length (same-right limits G (suc i)));
    left = omega (arith, q.0, q.1, line-left i);
  }

  pub end-of : (s c : ℕ) → s < states G → get_or (members G) s 0 ≡ c → c < n → EndOf G s c
  end-of s c h e g =
      let a = at_every ls s (omega (arith, lines-states limits G)) in
      elim (lt_or_le a.d (length (right ls a.k))) [
        | inl o ↦
            let z = class_known m (2 * m) (get_or (right ls a.k) a.d 0) c (sym e ∙ ap (λ k. get_or (members G) k 0) a.state ∙ member_inside limits m ls a.k a.d a.rule o) in
            elim z [ inl y ↦ absurd (omega arith) | inr y ↦ absurd (omega (arith, y.1)) ]
        | inr o ↦
            let d : s ≡ line_base ls a.k + length (right ls a.k) = omega (arith, a.state, a.inside) in
            let z = class_known 0 (2 * m) (left ls a.k) c (sym e ∙ ap (λ k. get_or (members G) k 0) d ∙ member_end limits m ls a.k a.rule) in
            elim z [ inl y ↦ absurd (omega arith) | inr y ↦ end_line s c a.k a.rule d g y ]
      ]

  begin-line : (s z k : ℕ) → k < length ls → s ≡ line_base ls k → z < m + n → (start limits ≤ left ls k) × (z ≡ left ls k - start limits + m) → BeginOf G s z
  begin-line s z zero h e g q = absurd (omega (arith, q.0, left-zero))
  begin-line s z (suc zero) h e g q = absurd (omega (arith, q.1, left_one))
  begin-line s z (suc (suc i)) h e g q = record {
    number = suc i;
    stored = (omega arith, omega (arith, line_count));
    state = sym (e ∙ same_base limits G (suc i) (omega (arith, line_count)));
    left = omega (arith, q.0, q.1, line-left i);
  }

  top_right : (d : ℕ) → d < length (right ls 0) → get_or (right ls 0) d 0 ≡ start limits + n
  unfolding all_lines
  top_right zero h = refl
  top_right (suc d) h = absurd (omega arith)

  past-most : (k d : ℕ) → k < length ls → d < length (right ls k) → get_or (right ls k) d 0 ≤ start limits + n
  past-most zero d h g = omega (arith, top_right d g)
  past-most (suc i) d h g =
      omega (arith, most-at G W i d (omega (arith, line_count)) (omega (arith, ap length (same-right limits G i))), ap (λ l. get_or l d 0) (same-right limits G i))

  pub begin-of : (s z : ℕ) → s < states G → get_or (targets G) s 0 ≡ z → m ≤ z → z < m + n → BeginOf G s z
  begin-of s z h e l g =
      let a = at_every ls s (omega (arith, lines-states limits G)) in
      elim (ℕ_discrete a.d 0) [
        | yes o ↦
            let d : s ≡ line_base ls a.k = omega (arith, a.state) in
            let y = class_known m (2 * m + 1) (left ls a.k) z (sym e ∙ ap (λ k. get_or (targets G) k 0) d ∙ target-start limits m ls a.k a.rule) in
            elim y [ inl x ↦ absurd (omega arith) | inr x ↦ begin-line s z a.k a.rule d g x ]
        | no o ↦
            let d : s ≡ line_base ls a.k + suc (a.d - 1) = omega (arith, a.state) in
            let i : a.d - 1 < length (right ls a.k) = omega (arith, a.inside) in
            let y = class_known 0 (2 * m + 1) (get_or (right ls a.k) (a.d - 1) 0) z (sym e ∙ ap (λ k. get_or (targets G) k 0) d ∙ target_past limits m ls a.k (a.d - 1) a.rule i) in
            elim y [ inl x ↦ absurd (omega arith) | inr x ↦ absurd (omega (arith, x.1, past-most a.k (a.d - 1) a.rule i)) ]
      ]

  pub end_class : (r : ℕ) → IsRule G r → get_or (members G) (base limits G r + length (rule limits G r).right) 0 ≡ (rule limits G r).left - start limits
  end_class zero h = absurd (omega (arith, h))
  end_class (suc i) h =
      let a : base limits G (suc i) + length (rule limits G (suc i)).right ≡ line_base ls (suc (suc i)) + length (right ls (suc (suc i))) =
      sym (ap₂ (λ x y. x + y) (same_base limits G (suc i) (omega (arith, h))) (ap length (same-right limits G (suc i)))) in
      ap (λ k. get_or (members G) k 0) a ∙ member_end limits m ls (suc (suc i)) (omega (arith, line_count, h))
      ∙ class_is 0 (2 * m) (left ls (suc (suc i))) (omega (arith, line-left i, left-low G W (suc i) h)) ∙ omega (arith, line-left i)

  pub begin_class : (r : ℕ) → IsRule G r → get_or (targets G) (base limits G r) 0 ≡ (rule limits G r).left - start limits + m
  begin_class zero h = absurd (omega (arith, h))
  begin_class (suc i) h =
      ap (λ k. get_or (targets G) k 0) (sym (same_base limits G (suc i) (omega (arith, h)))) ∙ target-start limits m ls (suc (suc i)) (omega (arith, line_count, h))
      ∙ class_is m (2 * m + 1) (left ls (suc (suc i))) (omega (arith, line-left i, left-low G W (suc i) h)) ∙ ap (λ z. z - start limits + m) (line-left i)

  line-zero : (0 < length (right ls 0)) × (line_base ls 0 + 0 ≡ 0)
  unfolding all_lines line_base
  line-zero = (omega arith, omega arith)

  pub member_zero : n ≤ get_or (members G) 0 0
  member_zero =
      let a = ap (λ k. get_or (members G) k 0) (sym line-zero.1) ∙ member_inside limits m ls 0 0 (omega (arith, line_count)) line-zero.0 in
      let b = class_is m (2 * m) (get_or (right ls 0) 0 0) (omega (arith, top_right 0 line-zero.0)) in
      omega (arith, a, b)
