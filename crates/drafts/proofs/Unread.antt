-- Entries past an added rule's last code are not read: fewer of them give the same answer. Assumes nothing.
use Prim.Native.Nat.{ℕ, zero, suc, ◌+◌, ◌-◌, ◌≤◌}
use mathlib.Core.Path.{◌≡◌, refl, ap, ap₂, sym, ◌∙◌}
use mathlib.Core.Bool.{Bool, true, false, not}
use mathlib.Core.List.{List, [], ◌∷◌, ◌++◌}
use mathlib.Core.Logic.{inl, inr}
use native.Mathlib.Omega.{arith}
use lib.Dec.{leb, ltb}
use lib.ListN.{length, get_or, take, drop, length-append, get_or-append}
use lib.Seq.{get_or-take, get_or-append-add, drop-append-add, length-take-le, take-append-le, take_all, take-take}
use borrow.Author.Tests.{le-leb, leb-true}
use Rattle.grammar.specs.Limits.{Limits}
use Rattle.grammar.specs.Grammar.{Rule, state_count}
use Rattle.grammar.specs.Table.{encode, left_at, length_at, rule_at}
use Rattle.grammar.specs.Refusal.{Answer, done, refused, refuse_unless, and_then, truncated, left_undeclared, rule_too_long, code_undeclared, rule_repeated, too_many_rules, too_many_states}
use Rattle.grammar.specs.TableCheck.{is_among, is_nonterminal, declared_front, read_rule, next_rule}
use Rattle.grammar.proofs.Answers.{unless_fails, unless_done, then-done, then-goes, then_stops}
use Rattle.grammar.proofs.Lists.{lt_or_le}
use Rattle.grammar.proofs.Rules.{rule_path}
use Rattle.grammar.proofs.Steps.{read_done, next-done}
use Rattle.drafts.specs.Draft.{Draft, with_rules, add_rule}

-- ---- answers and lists

-- two answers that go on alike
then_same : {A B : Type 0} (o p : Answer A) (F G : A → Answer B) → o ≡ p → ((a : A) → p ≡ done a → F a ≡ G a) → and_then o F ≡ and_then p G
unfolding and_then
then_same o (done a) F G e h = then-goes o F a e ∙ h a refl
then_same o (refused c p) F G e h = then_stops o F c p e

past_first : (E xs : List ℕ) → get_or (E ++ xs) (length E) 0 ≡ get_or xs 0 0
past_first E xs = let z : length E ≡ length E + 0 = omega arith in ap (λ (j : ℕ). get_or (E ++ xs) j 0) z ∙ get_or-append-add E xs 0 0

-- two entries and j more, of a front that has them
front-drop : (m j : ℕ) (xs : List ℕ) → 2 + j ≤ m → take j (drop 2 (take m xs)) ≡ take j (drop 2 xs)
front-drop zero j xs h = absurd (omega (arith, h))
front-drop (suc zero) j xs h = absurd (omega (arith, h))
front-drop (suc (suc m)) j [] h = refl
front-drop (suc (suc m)) j (x ∷ []) h = refl
front-drop (suc (suc m)) j (x ∷ y ∷ xs) h = take-take j m xs (omega (arith, h))

-- ---- a rule read from the front of what follows a table

module _ (L : Limits) (t n : ℕ) (E xs : List ℕ) (m : ℕ) (two : 2 ≤ m) (rest : get_or xs 1 0 ≤ L.max_length → 2 + get_or xs 1 0 ≤ m) where
  abbrev at : ℕ
  at = length E

  abbrev all : List ℕ
  all = E ++ xs

  abbrev front : List ℕ
  front = E ++ take m xs

  abbrev k : ℕ
  k = get_or xs 1 0

  -- the faults in their order, of what they look at
  abbrev faults : Bool → ℕ → ℕ → Bool → List ℕ → Answer ℕ
  faults two x k whole codes =
      refuse_unless truncated at two
      (refuse_unless left_undeclared at (is_nonterminal L n x)
      (refuse_unless rule_too_long at (leb k L.max_length)
      (refuse_unless truncated at whole
      (refuse_unless code_undeclared (at + 2 + declared_front L t n codes) (leb k (declared_front L t n codes))
      (done k)))))

  left-same : left_at front at ≡ left_at all at
  left-same = past_first E (take m xs) ∙ get_or-take m xs 0 0 (omega (arith, two)) ∙ sym (past_first E xs)

  length-all : length_at all at ≡ k
  length-all = get_or-append-add E xs 1 0

  length_front : length_at front at ≡ k
  length_front = get_or-append-add E (take m xs) 1 0 ∙ get_or-take m xs 1 0 (omega (arith, two))

  codes_same : (j : ℕ) → 2 + j ≤ m → take j (drop (at + 2) front) ≡ take j (drop (at + 2) all)
  codes_same j h = ap (take j) (drop-append-add E (take m xs) 2) ∙ front-drop m j xs h ∙ sym (ap (take j) (drop-append-add E xs 2))

  -- a bound within the front tells the same of both
  bound_same : (i j : ℕ) → at ≤ j → i + j ≤ at + m → leb i (length front - j) ≡ leb i (length all - j)
  bound_same i j g h = elim (lt_or_le (length xs) m) [
    | inl b ↦ ap (λ (l : List ℕ). leb i (length (E ++ l) - j)) (take_all m xs (omega (arith, b)))
    | inr b ↦
        let p = length-append E (take m xs) in
        let q = length-append E xs in
        let z : length (take m xs) ≡ m = length-take-le m xs b in
        le-leb i (length front - j) (omega (arith, p, z, h, g)) ∙ sym (le-leb i (length all - j) (omega (arith, q, b, h, g)))
  ]

  rest-same : (c : Bool) → leb k L.max_length ≡ c → (a : Bool) (x : ℕ)
      → faults a x k (leb k (length front - (at + 2))) (take k (drop (at + 2) front)) ≡ faults a x k (leb k (length all - (at + 2))) (take k (drop (at + 2) all))
  rest-same true e a x =
      let h = rest (leb-true k L.max_length e) in
      ap₂ (λ (w : Bool) (l : List ℕ). faults a x k w l) (bound_same k (at + 2) (omega arith) (omega (arith, h))) (codes_same k h)
  rest-same false e a x =
      ap (λ (o : Answer ℕ). refuse_unless truncated at a (refuse_unless left_undeclared at (is_nonterminal L n x) o))
      (unless_fails rule_too_long at (leb k L.max_length) _ e ∙ sym (unless_fails rule_too_long at (leb k L.max_length) _ e))

  read_same : read_rule L t n front at ≡ read_rule L t n all at
  unfolding read_rule
  read_same =
      ap (λ (j : ℕ). faults (leb 2 (length front - at)) (left_at front at) j (leb j (length front - (at + 2))) (take j (drop (at + 2) front))) length_front
      ∙ ap₂ (λ (a : Bool) (x : ℕ). faults a x k (leb k (length front - (at + 2))) (take k (drop (at + 2) front))) (bound_same 2 at (omega arith) (omega (arith, two))) left-same
      ∙ rest-same (leb k L.max_length) refl (leb 2 (length all - at)) (left_at all at)
      ∙ sym (ap (λ (j : ℕ). faults (leb 2 (length all - at)) (left_at all at) j (leb j (length all - (at + 2))) (take j (drop (at + 2) all))) length-all)

  rule-same : (j : ℕ) → read_rule L t n all at ≡ done j → rule_at front at j ≡ rule_at all at j
  rule-same j e =
      let r = read_done L t n all at j e in
      let c : j ≡ k = sym r.count ∙ length-all in
      let f = r.few in
      let h : k ≤ L.max_length = omega (arith, c, f) in
      let g = rest h in
      rule_path left-same (codes_same j (omega (arith, g, c)))

  next-same : (earlier : List Rule) → next_rule L t n front earlier at ≡ next_rule L t n all earlier at
  unfolding next_rule
  next-same earlier = then_same (read_rule L t n front at) (read_rule L t n all at) _ _ read_same (λ j e.
      ap (λ (r : Rule). refuse_unless rule_repeated at (not (is_among r earlier)) (refuse_unless too_many_states at (leb (state_count earlier + (j + 1)) L.max_states) (done j))) (rule-same j e))

-- an added rule is told by the entries up to its last code
module _ (L : Limits) (d : Draft) (entries : List ℕ) where
  pub unread : (m : ℕ) → 2 ≤ m → (get_or entries 1 0 ≤ L.max_length → 2 + get_or entries 1 0 ≤ m) → add_rule L d (take m entries) ≡ add_rule L d entries
  unfolding add_rule
  unread m two rest =
      let t = d.terminals in
      let n = d.nonterminals in
      let rules = d.rules in
      let E = encode rules in
      ap (refuse_unless too_many_rules (length E) (ltb (length rules) L.max_rules))
      (then_same (next_rule L t n (E ++ take m entries) rules (length E)) (next_rule L t n (E ++ entries) rules (length E)) _ _ (next-same L t n E entries m two rest rules) (λ j e.
      ap (λ (r : Rule). done (with_rules d (rules ++ (r ∷ [])))) (rule-same L t n E entries m two rest j (next-done L t n (E ++ entries) rules (length E) j e).read)))

  -- no rule has more than two entries and the most codes
  pub unread_longest : add_rule L d (take (2 + L.max_length) entries) ≡ add_rule L d entries
  unread_longest = unread (2 + L.max_length) (omega arith) (λ h. omega (arith, h))

-- entries that a rule is added from may be followed by any others
pub unread_more : (L : Limits) (d e : Draft) (entries more : List ℕ) → add_rule L d entries ≡ done e → add_rule L d (entries ++ more) ≡ done e
unfolding add_rule
unread_more L d e entries more q =
    let rules = d.rules in
    let E = encode rules in
    let at = length E in
    let u = unless_done too_many_rules at (ltb (length rules) L.max_rules) _ e q in
    let v = then-done (next_rule L d.terminals d.nonterminals (E ++ entries) rules at) _ e u.1 in
    let x = next-done L d.terminals d.nonterminals (E ++ entries) rules at v.0 v.1 in
    let r = read_done L d.terminals d.nonterminals (E ++ entries) at v.0 x.read in
    let k : get_or entries 1 0 ≡ v.0 = sym (get_or-append-add E entries 1 0) ∙ r.count in
    let w = r.whole in
    let n = length-append E entries in
    let m = 2 + get_or entries 1 0 in
    let h : m ≤ length entries = omega (arith, k, w, n) in
    let same : get_or (entries ++ more) 1 0 ≡ get_or entries 1 0 = get_or-append entries more 0 1 (omega (arith, h)) in
    sym (unread L d (entries ++ more) m (omega arith) (λ z. omega (arith, same)))
    ∙ ap (add_rule L d) (take-append-le m entries more h) ∙ unread L d entries m (omega arith) (λ z. omega arith) ∙ q
