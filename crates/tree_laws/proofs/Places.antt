-- The places of a chart are the states of the position automaton: what stands after a state's dot is read off the row of codes ahead,
-- in which 0 ends a rule. Assumes nothing.
use Prim.Native.Nat.{ℕ, zero, suc, ◌+◌, ◌≤◌, ◌<◌}
use mathlib.Core.Path.{◌≡◌, refl, ap, ◌∙◌}
use mathlib.Core.List.{List, [], ◌∷◌, ◌++◌}
use native.Mathlib.Omega.{arith}
use lib.ListN.{length, get_or, drop}
use Rattle.grammar.specs.Basics.{Mem, here, there}
use Rattle.grammar.specs.Limits.{Limits}
use Rattle.grammar.specs.Grammar.{Rule, Grammar, IsRule, start, rule}
use Rattle.automaton.specs.Items.{base}
use Rattle.tree_laws.specs.Chart.{Places}

-- the codes ahead of the dots of some rules' items, 0 at a rule's end
unfoldable pub aheads : List Rule → List ℕ
aheads [] = []
aheads (r ∷ rs) = r.right ++ (0 ∷ aheads rs)

-- of each state the code ahead of its dot, or 0: every rule is taken, live or not
unfoldable pub ahead_row : Limits → Grammar → List ℕ
ahead_row L G = 0 ∷ 0 ∷ start L ∷ 0 ∷ aheads G.rules

-- the codes before the first 0
unfoldable pub until_zero : List ℕ → List ℕ
until_zero [] = []
until_zero (zero ∷ l) = []
until_zero (suc x ∷ l) = suc x ∷ until_zero l

not_more : (x : ℕ) (α : List ℕ) → [] ≡ x ∷ α → ⊥
not_more x α e = let q : length {A = ℕ} [] ≡ suc (length α) = ap length e in omega arith

until_on : (l : List ℕ) (x : ℕ) (α : List ℕ) → until_zero l ≡ x ∷ α → until_zero (drop 1 l) ≡ α
unfolding until_zero
until_on [] x α e = absurd (not_more x α e)
until_on (zero ∷ l) x α e = absurd (not_more x α e)
until_on (suc y ∷ l) x α e = cc e

drop-on : (p : ℕ) (l : List ℕ) → drop (suc p) l ≡ drop 1 (drop p l)
drop-on zero l = refl
drop-on (suc p) [] = refl
drop-on (suc p) (x ∷ l) = drop-on p l

until_append : (α l : List ℕ) → ((x : ℕ) → Mem x α → 1 ≤ x) → until_zero (α ++ (0 ∷ l)) ≡ α
unfolding until_zero
until_append [] l h = refl
until_append (zero ∷ α) l h = absurd (omega (arith, h zero here))
until_append (suc x ∷ α) l h = ap (λ z. suc x ∷ z) (until_append α l (λ y m. h y (there m)))

drop_past : (n : ℕ) (α l : List ℕ) → drop (length α + suc n) (α ++ (0 ∷ l)) ≡ drop n l
drop_past n [] l = let e : length {A = ℕ} [] + suc n ≡ suc n = omega arith in ap (λ z. drop z (0 ∷ l)) e
drop_past n (x ∷ α) l = let e : suc (length α) + suc n ≡ suc (length α + suc n) = omega arith in ap (λ z. drop z (x ∷ (α ++ (0 ∷ l)))) e ∙ drop_past n α l

-- where the items of the i-th rule begin, from 0
unfoldable offset : ℕ → List Rule → ℕ
offset i [] = 0
offset zero (r ∷ rs) = 0
offset (suc i) (r ∷ rs) = length r.right + suc (offset i rs)

at_offset : (i : ℕ) (rs : List Rule) → i < length rs → ((r : Rule) → Mem r rs → (x : ℕ) → Mem x r.right → 1 ≤ x)
    → until_zero (drop (offset i rs) (aheads rs)) ≡ (get_or rs i (record { left = 0; right = [] })).right
unfolding offset aheads
at_offset i [] h c = absurd (omega arith)
at_offset zero (r ∷ rs) h c = until_append r.right (aheads rs) (c r here)
at_offset (suc i) (r ∷ rs) h c = ap until_zero (drop_past (offset i rs) r.right (aheads rs)) ∙ at_offset i rs (omega arith) (λ s m. c s (there m))

offset-zero : (rs : List Rule) → offset zero rs ≡ 0
unfolding offset
offset-zero [] = refl
offset-zero (r ∷ rs) = refl

offset-suc : (i : ℕ) (rs : List Rule) → i < length rs → offset (suc i) rs ≡ offset i rs + suc (length (get_or rs i (record { left = 0; right = [] })).right)
unfolding offset
offset-suc i [] h = absurd (omega arith)
offset-suc zero (r ∷ []) h = omega arith
offset-suc zero (r ∷ s ∷ rs) h = omega arith
offset-suc (suc i) (r ∷ rs) h = omega (arith, offset-suc i rs (omega arith))

module _ (L : Limits) (G : Grammar) where
  base-offset : (i : ℕ) → i < length G.rules → base L G (suc i) ≡ 4 + offset i G.rules
  unfolding base rule
  base-offset zero h = omega (arith, offset-zero G.rules)
  base-offset (suc i) h = omega (arith, base-offset i (omega arith), offset-suc i G.rules (omega arith))

  -- the states of a grammar whose codes are not 0
  pub places_of : ((r : Rule) → Mem r G.rules → (x : ℕ) → Mem x r.right → 1 ≤ x) → Places L G
  unfolding ahead_row rule
  places_of c = record {
    rest = λ p. until_zero (drop p (ahead_row L G));
    first = base L G;
    on = λ p x α e. ap until_zero (drop-on p (ahead_row L G)) ∙ until_on (drop p (ahead_row L G)) x α e;
    begins = begins;
  }
    where
      past_four : (n : ℕ) (l : List ℕ) → drop (4 + n) (0 ∷ 0 ∷ start L ∷ 0 ∷ l) ≡ drop n l
      past_four n l = let e : 4 + n ≡ suc (suc (suc (suc n))) = omega arith in ap (λ z. drop z (0 ∷ 0 ∷ start L ∷ 0 ∷ l)) e

      begins : (r : ℕ) → IsRule G r → until_zero (drop (base L G r) (ahead_row L G)) ≡ (rule L G r).right
      begins zero h = absurd (omega arith)
      begins (suc i) h =
          ap (λ z. until_zero (drop z (ahead_row L G))) (base-offset i (omega arith))
          ∙ ap until_zero (past_four (offset i G.rules) (aheads G.rules))
          ∙ at_offset i G.rules (omega arith) c

  pub rest_is : (c : (r : Rule) → Mem r G.rules → (x : ℕ) → Mem x r.right → 1 ≤ x) (p : ℕ) → (places_of c).rest p ≡ until_zero (drop p (ahead_row L G))
  unfolding places_of
  rest_is c p = refl

  pub first_is : (c : (r : Rule) → Mem r G.rules → (x : ℕ) → Mem x r.right → 1 ≤ x) (r : ℕ) → (places_of c).first r ≡ base L G r
  unfolding places_of
  first_is c r = refl
