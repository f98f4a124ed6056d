-- The places of a grammar's rules, by the row of codes ahead: what stands after each dot, and which codes these are. Assumes nothing.
use Prim.Native.Nat.{ℕ, zero, suc, ◌+◌, ◌≤◌, ◌<◌}
use mathlib.Core.Path.{◌≡◌, refl, sym, ap, subst, ◌∙◌}
use mathlib.Core.List.{List, [], ◌∷◌}
use mathlib.Core.Logic.{◌⊎◌, inl, inr}
use native.Mathlib.Omega.{arith}
use native.Mathlib.Decide.{ℕ_discrete}
use lib.ListN.{length, get_or, drop, length-append}
use lib.Seq.{drop-cons, drop-length}
use Rattle.grammar.specs.Basics.{Mem}
use Rattle.grammar.specs.Limits.{limits}
use Rattle.grammar.specs.Grammar.{Rule, Grammar, IsRule, rule, start, Terminal, Nonterminal, WellFormed, state_count}
use Rattle.grammar.proofs.Lists.{place_mem, lt_or_le}
use Rattle.grammar.proofs.Derives.{rule-listed}
use Rattle.automaton.specs.Items.{base, Item, states}
use Rattle.automaton.proofs.Items.{base-low, base_apart, item_at, item_below}
use Rattle.tree_laws.specs.Chart.{Places}
use Rattle.tree_laws.proofs.Places.{aheads, ahead_row, until_zero, places_of, rest_is, first_is}
use Rattle.chart.specs.Filling.{code_of}

-- the first code after a place
code_until : (l : List ℕ) (p : ℕ) → code_of (until_zero (drop p l)) ≡ get_or l p 0
unfolding until_zero code_of
code_until [] zero = refl
code_until [] (suc p) = refl
code_until (zero ∷ l) zero = refl
code_until (suc x ∷ l) zero = refl
code_until (x ∷ l) (suc p) = code_until l p

inside-row : (l : List ℕ) (p : ℕ) → 1 ≤ get_or l p 0 → p < length l
inside-row [] p h = absurd (omega arith)
inside-row (x ∷ l) zero h = omega arith
inside-row (x ∷ l) (suc p) h = omega (arith, inside-row l p h)

aheads-long : (rs : List Rule) → 4 + length (aheads rs) ≡ state_count rs
unfolding aheads state_count
aheads-long [] = refl
aheads-long (r ∷ rs) = omega (arith, aheads-long rs, length-append r.right (0 ∷ aheads rs))

until_one : (l : List ℕ) (x : ℕ) (α : List ℕ) → until_zero l ≡ x ∷ α → 1 ≤ x
unfolding until_zero
until_one [] x α e = absurd (let z : length {A = ℕ} [] ≡ suc (length α) = ap length e in omega arith)
until_one (zero ∷ l) x α e = absurd (let z : length {A = ℕ} [] ≡ suc (length α) = ap length e in omega arith)
until_one (suc y ∷ l) x α e = let z : suc y ≡ x = cc e in omega arith

-- the first q entries of two rows are the same
abbrev pub Same : ℕ → List ℕ → List ℕ → Type 0
Same q row row' = (p : ℕ) → p < q → get_or row p 0 ≡ get_or row' p 0

-- place p is before the symbol x, inside a rule
pub record Inside (G : Grammar) (p x : ℕ) : Type 0 where
  pub number : ℕ
  pub place : ℕ
  pub rules : number ≤ length G.rules
  pub dot : place < length (rule limits G number).right
  pub state : p ≡ base limits G number + place
  pub symbol : get_or (rule limits G number).right place 0 ≡ x

module _ (G : Grammar) (W : WellFormed limits G) where
  pub ahead-long : length (ahead_row limits G) ≡ states G
  unfolding ahead_row
  ahead-long = omega (arith, aheads-long G.rules)

  declared : (r : Rule) → Mem r G.rules → (x : ℕ) → Mem x r.right → 1 ≤ x
  declared r m x q = elim (W.codes r m x q) [ inl t ↦ t.0 | inr t ↦ omega (arith, t.0) ]

  pub P : Places limits G
  P = places_of limits G declared

  P-rest : (p : ℕ) → P.rest p ≡ until_zero (drop p (ahead_row limits G))
  unfolding P
  P-rest p = rest_is limits G declared p

  pub P-first : (r : ℕ) → P.first r ≡ base limits G r
  unfolding P
  P-first r = first_is limits G declared r

  pub code_at : (p : ℕ) → code_of (P.rest p) ≡ get_or (ahead_row limits G) p 0
  code_at p = ap code_of (P-rest p) ∙ code_until (ahead_row limits G) p

  -- codes are at least 1
  pub one : (p x : ℕ) (α : List ℕ) → P.rest p ≡ x ∷ α → 1 ≤ x
  one p x α e = until_one (drop p (ahead_row limits G)) x α (sym (P-rest p) ∙ e)

  -- what stands after an item's dot
  pub rest-root : P.rest 2 ≡ start limits ∷ []
  unfolding until_zero ahead_row
  rest-root = P-rest 2

  pub rest-zero : P.rest 0 ≡ []
  unfolding until_zero ahead_row
  rest-zero = P-rest 0

  rest-one : P.rest 1 ≡ []
  unfolding until_zero ahead_row
  rest-one = P-rest 1

  rest-first : (i : ℕ) → i ≤ length G.rules → P.rest (base limits G i) ≡ (rule limits G i).right
  unfolding base rule
  rest-first zero h = rest-root
  rest-first (suc i) h = ap P.rest (sym (P-first (suc i))) ∙ P.begins (suc i) (omega arith, h)

  rest_item : (p d : ℕ) (α : List ℕ) → P.rest p ≡ α → d ≤ length α → P.rest (p + d) ≡ drop d α
  rest_item p zero α e h = let z : p + zero ≡ p = omega arith in ap P.rest z ∙ e
  rest_item p (suc d) [] e h = absurd (omega arith)
  rest_item p (suc d) (x ∷ α) e h = let z : p + suc d ≡ suc p + d = omega arith in ap P.rest z ∙ rest_item (suc p) d α (P.on p x α e) (omega arith)

  pub rest_end : (i : ℕ) → i ≤ length G.rules → P.rest (base limits G i + length (rule limits G i).right) ≡ []
  rest_end i h = rest_item (base limits G i) (length (rule limits G i).right) (rule limits G i).right (rest-first i h) (omega arith) ∙ drop-length (rule limits G i).right

  code_cons : (p x : ℕ) (α : List ℕ) → P.rest p ≡ x ∷ α → get_or (ahead_row limits G) p 0 ≡ x
  unfolding code_of
  code_cons p x α e = sym (code_at p) ∙ ap code_of e

  pub code-none : (p : ℕ) → P.rest p ≡ [] → get_or (ahead_row limits G) p 0 ≡ 0
  unfolding code_of
  code-none p e = sym (code_at p) ∙ ap code_of e

  low : (p x : ℕ) (α : List ℕ) → p < 2 → P.rest p ≡ x ∷ α → 1 ≤ x → ⊥
  low zero x α o e h = omega (arith, code_cons 0 x α e, code-none 0 rest-zero)
  low (suc zero) x α o e h = omega (arith, code_cons 1 x α e, code-none 1 rest-one)
  low (suc (suc p)) x α o e h = omega arith

  inside_item : (p x : ℕ) (α : List ℕ) → P.rest p ≡ x ∷ α → (i d : ℕ) → Item limits G p i d → Inside G p x
  inside_item p x α e i d t = elim (lt_or_le d (length (rule limits G i).right)) [
    | inl o ↦ record { number = i; place = d; rules = t.rule; dot = o; state = t.state; symbol = cc (split o) }
    | inr o ↦ absurd (not_more (sym (at o) ∙ e))
  ]
    where
      split : d < length (rule limits G i).right → get_or (rule limits G i).right d 0 ∷ drop (suc d) (rule limits G i).right ≡ x ∷ α
      split o =
          sym (drop-cons (rule limits G i).right d 0 o) ∙ sym (ap P.rest t.state ∙ rest_item (base limits G i) d (rule limits G i).right (rest-first i t.rule) t.dot) ∙ e

      at : length (rule limits G i).right ≤ d → P.rest p ≡ []
      at o = let z : d ≡ length (rule limits G i).right = omega (arith, t.dot) in ap P.rest (t.state ∙ ap (λ k. base limits G i + k) z) ∙ rest_end i t.rule

      not_more : [] ≡ x ∷ α → ⊥
      not_more q = let z : length {A = ℕ} [] ≡ suc (length α) = ap length q in omega arith

  pub inside_of : (p x : ℕ) (α : List ℕ) → P.rest p ≡ x ∷ α → Inside G p x
  inside_of p x α e = elim (lt_or_le p 2) [
    | inl o ↦ absurd (low p x α o e (one p x α e))
    | inr o ↦
        let i = item_at limits G p o (omega (arith, ahead-long, inside-row (ahead_row limits G) p (omega (arith, code_cons p x α e, one p x α e)))) in
        inside_item p x α e i.0 i.1 i.2
  ]

  pub inside-code : (p : ℕ) → (get_or (ahead_row limits G) p 0 ≡ 0 → ⊥) → Inside G p (get_or (ahead_row limits G) p 0)
  inside-code p o = go (P.rest p) refl
    where
      go : (α : List ℕ) → P.rest p ≡ α → Inside G p (get_or (ahead_row limits G) p 0)
      go [] e = absurd (o (code-none p e))
      go (x ∷ α) e = subst (Inside G p) (sym (code_cons p x α e)) (inside_of p x α e)

  pub inside_range : (p x : ℕ) → Inside G p x → (2 ≤ p) × (suc p < states G)
  inside_range p x t = (
    omega (arith, t.state, base-low limits G t.number),
    item_below limits G {p = suc p} {i = t.number} {d = suc t.place}
        (record { rule = t.rules; dot = omega (arith, t.dot); state = omega (arith, t.state) }),
  )

  -- the codes of right sides are declared
  stored-code : (i d : ℕ) → suc i ≤ length G.rules → d < length (rule limits G (suc i)).right
      → Terminal G.terminals (get_or (rule limits G (suc i)).right d 0) ⊎ Nonterminal limits G.nonterminals (get_or (rule limits G (suc i)).right d 0)
  stored-code i d h g =
      W.codes (rule limits G (suc i)) (rule-listed limits G (suc i) (omega arith, h)) (get_or (rule limits G (suc i)).right d 0) (place_mem (rule limits G (suc i)).right d 0 g)

  root-code : (d : ℕ) → d < length (rule limits G 0).right → get_or (rule limits G 0).right d 0 ≡ start limits
  unfolding rule
  root-code zero h = refl
  root-code (suc d) h = absurd (omega arith)

  symbol-at : (i d : ℕ) → i ≤ length G.rules → d < length (rule limits G i).right → get_or (rule limits G i).right d 0 < start limits
      → Terminal G.terminals (get_or (rule limits G i).right d 0)
  symbol-at zero d h g o = absurd (omega (arith, root-code d g))
  symbol-at (suc i) d h g o = elim (stored-code i d h g) [ inl y ↦ y | inr y ↦ absurd (omega (arith, y.0)) ]

  pub most-at : (i d : ℕ) → i ≤ length G.rules → d < length (rule limits G i).right
      → get_or (rule limits G i).right d 0 < start limits + G.nonterminals
  most-at zero d h g = omega (arith, root-code d g, W.nonterminals)
  most-at (suc i) d h g = elim (stored-code i d h g) [
    | inl y ↦ omega (arith, y.1, W.terminals, W.nonterminals)
    | inr y ↦ y.1
  ]

  pub inside-symbol : (p x : ℕ) → Inside G p x → x < start limits → Terminal G.terminals x
  inside-symbol p x t o =
      subst (Terminal G.terminals) t.symbol (symbol-at t.number t.place t.rules t.dot (omega (arith, t.symbol)))

  pub codes-of : (ahead : List ℕ) → Same (states G) ahead (ahead_row limits G) → (p : ℕ) → p < states G
      → get_or ahead p 0 < start limits + limits.max_nonterminals
  codes-of ahead ra p h = elim (ℕ_discrete (get_or ahead p 0) 0) [
    | yes o ↦ omega arith
    | no o ↦
        let t = inside-code p (λ z. o (ra p h ∙ z)) in
        omega (arith, ra p h, t.symbol, most-at t.number t.place t.rules t.dot, W.nonterminals.1)
  ]

  pub ahead-zero : get_or (ahead_row limits G) 0 0 ≡ 0
  ahead-zero = code-none 0 rest-zero

  pub left-low : (i : ℕ) → IsRule G i → (start limits ≤ (rule limits G i).left) × ((rule limits G i).left < start limits + G.nonterminals)
  left-low i h = W.lefts (rule limits G i) (rule-listed limits G i h)

  -- where rules begin
  pub base-below : (r : ℕ) → r ≤ length G.rules → base limits G r < states G
  base-below r h = item_below limits G {p = base limits G r} {i = r} {d = 0} (record { rule = h; dot = omega arith; state = omega arith })

  pub first_once : (r s : ℕ) → P.first r ≡ P.first s → r ≡ s
  first_once r s e =
      let z : base limits G r ≡ base limits G s = sym (P-first r) ∙ e ∙ P-first s in
      elim (lt_or_le r s) [
        | inl h ↦ absurd (omega (arith, base_apart limits G r s h))
        | inr h ↦ elim (ℕ_discrete r s) [ yes o ↦ o | no o ↦ absurd (omega (arith, base_apart limits G s r (omega arith))) ]
      ]

  pub before-first : (r p : ℕ) → IsRule G r → P.first r ≡ suc p → P.rest p ≡ []
  unfolding base
  before-first zero p h e = absurd (omega (arith, h))
  before-first (suc r) p h e =
      let z : p ≡ base limits G r + length (rule limits G r).right = omega (arith, P-first (suc r), e) in
      ap P.rest z ∙ rest_end r (omega (arith, h))
