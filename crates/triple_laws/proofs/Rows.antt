-- The rows along the rules from which the moves are listed: codes ahead, rules of a code, the rule that ends in a state, the
-- states past a code. Each law says what stands in a row, from its rule and its state on.
-- Assumes nothing.
use Prim.Native.Nat.{ℕ, zero, suc, ◌+◌, ◌-◌, ◌≤◌, ◌<◌}
use mathlib.Core.Path.{◌≡◌, refl, sym, ap, subst, ◌∙◌}
use mathlib.Core.Bool.{Bool, true, false, ◌&&◌}
use mathlib.Core.List.{List, [], ◌∷◌, ◌++◌, map}
use mathlib.Core.Logic.{inl, inr}
use native.Mathlib.Omega.{arith}
use native.Mathlib.Decide.{ℕ_discrete, dec_lt}
use lib.Dec.{eqb}
use lib.ListN.{length, get_or, replicate, length-replicate, get_or-append}
use borrow.Author.Tests.{eqb-true, eq-eqb}
use Rattle.grammar.specs.Basics.{choose, when, Mem}
use Rattle.grammar.specs.Limits.{Limits}
use Rattle.grammar.specs.Grammar.{Rule, Grammar, rule}
use Rattle.grammar.proofs.Answers.{and_both, both_and}
use Rattle.automaton.specs.Items.{length_of, base}
use Rattle.automaton.proofs.Items.{base_apart}
use Rattle.automaton.specs.PositionMoves.{shown, aheads, rules_of, completed, past}
use Rattle.triple_laws.proofs.Members.{no_element, only_one, one_only, mem_left, mem_right, mem_either, under-test}

-- the element past the one in the middle
beyond : {A : Type 0} (xs : List A) (x : A) (ys : List A) (d : A) (k : ℕ)
    → get_or (xs ++ (x ∷ ys)) (length xs + suc k) d ≡ get_or ys k d
beyond [] x ys d k = ap (λ j. get_or (x ∷ ys) j d) (let q : 0 + suc k ≡ suc k = omega arith in q)
beyond (a ∷ xs) x ys d k =
    ap (λ j. get_or (a ∷ (xs ++ (x ∷ ys))) j d) (let q : suc (length xs) + suc k ≡ suc (length xs + suc k) = omega arith in q)
    ∙ beyond xs x ys d k

middle : {A : Type 0} (xs : List A) (x : A) (ys : List A) (d : A) → get_or (xs ++ (x ∷ ys)) (length xs) d ≡ x
middle [] x ys d = refl
middle (a ∷ xs) x ys d = middle xs x ys d

-- what is shown of a rule has its length, and is the rule's right side if it is taken, else 0
module _ (taken : ℕ → Bool) where
  pub shown-length : (i : ℕ) (r : Rule) → length (shown taken i r) ≡ length r.right
  unfolding shown
  shown-length i r = go (taken i)
    where
      go : (b : Bool) → length (choose b r.right (replicate (length r.right) 0)) ≡ length r.right
      go true = refl
      go false = length-replicate (length r.right) 0

  shown-taken : (i : ℕ) (r : Rule) → taken i ≡ true → shown taken i r ≡ r.right
  unfolding shown
  shown-taken i r e = ap (λ b. choose b r.right (replicate (length r.right) 0)) e

  zeros : (n k : ℕ) → ◌≡◌ {A = ℕ} (get_or (replicate n 0) k 0) 0
  zeros zero k = refl
  zeros (suc n) zero = refl
  zeros (suc n) (suc k) = zeros n k

  -- a code that is shown is the rule's, and the rule is taken
  shown-code : (i : ℕ) (r : Rule) (k : ℕ) → 1 ≤ get_or (shown taken i r) k 0 → (taken i ≡ true) × (get_or r.right k 0 ≡ get_or (shown taken i r) k 0)
  unfolding shown
  shown-code i r k = go (taken i) refl
    where
      go : (b : Bool) → taken i ≡ b → 1 ≤ get_or (choose b r.right (replicate (length r.right) 0)) k 0
          → (taken i ≡ true) × (get_or r.right k 0 ≡ get_or (choose b r.right (replicate (length r.right) 0)) k 0)
      go true e h = (e, refl)
      go false e h = absurd (omega (arith, zeros (length r.right) k))

module _ (L : Limits) (G : Grammar) (taken : ℕ → Bool) where
  -- the rules of l are those of the grammar from rule n on
  abbrev pub Run : ℕ → List Rule → Type 0
  Run n [] = Unit {0}
  Run n (r ∷ l) = (r ≡ rule L G n) × Run (n + 1) l

  run-all : (n : ℕ) (l : List Rule)
      → ((j : ℕ) → j < length l → get_or l j (record { left = 0; right = [] }) ≡ rule L G (n + j)) → Run n l
  run-all n [] e = tt
  run-all n (r ∷ l) e = (
    e 0 (omega arith) ∙ ap (rule L G) (let q : n + 0 ≡ n = omega arith in q),
    run-all (n + 1) l (λ j h. e (suc j) (omega arith) ∙ ap (rule L G) (let q : n + suc j ≡ n + 1 + j = omega arith in q)),
  )

  -- the stored rules run from 1 on
  pub run-rules : Run 1 G.rules
  unfolding rule
  run-rules = run-all 1 G.rules (λ j h. ap (rule L G) (let q : suc j ≡ 1 + j = omega arith in q))

  -- with rule 0 in front they run from 0 on
  pub run-zero : Run 0 (rule L G 0 ∷ G.rules)
  run-zero = (refl, run-rules)

  -- the base after a rule
  pub base-next : (n : ℕ) → base L G (n + 1) ≡ base L G n + suc (length_of L G n)
  unfolding base
  base-next n = ap (base L G) (let q : n + 1 ≡ suc n = omega arith in q)

  -- the length of a rule of a run
  pub length_as : (r : Rule) (n : ℕ) → r ≡ rule L G n → length r.right ≡ length_of L G n
  length_as r n e = ap (λ (r : Rule). length r.right) e

  -- the code ahead of an item stands in the row of codes ahead, of the rules from rule n on
  pub item_ahead : (n : ℕ) (l : List Rule) → Run n l → (i d k : ℕ) → n ≤ i → i < n + length l → d < length_of L G i
      → base L G n + k ≡ base L G i + d → taken i ≡ true → get_or (aheads taken n l) k 0 ≡ get_or (rule L G i).right d 0
  unfolding aheads
  item_ahead n [] e i d k h u t q y = absurd (omega arith)
  item_ahead n (r ∷ l) e i d k h u t q y = elim (ℕ_discrete i n) [
    | yes s ↦
        let z = ap (base L G) s in
        let w : k ≡ d = omega arith in
        let v = ap (length_of L G) s in
        let m = length_as r n e.0 in
        let c : taken n ≡ true = subst (λ i. taken i ≡ true) s y in
        get_or-append (shown taken n r) (0 ∷ aheads taken (n + 1) l) 0 k (omega (arith, shown-length taken n r))
        ∙ ap (λ l. get_or l k 0) (shown-taken taken n r c) ∙ ap (λ j. get_or r.right j 0) w
        ∙ ap (λ (r : Rule). get_or r.right d 0) (e.0 ∙ ap (rule L G) (sym s))
    | no s ↦
        let b = base_apart L G n i (omega arith) in
        let m = length_as r n e.0 in
        let o = k - suc (length r.right) in
        let w : k ≡ length (shown taken n r) + suc o = omega (arith, shown-length taken n r) in
        ap (λ j. get_or (shown taken n r ++ (0 ∷ aheads taken (n + 1) l)) j 0) w ∙ beyond (shown taken n r) 0 (aheads taken (n + 1) l) 0 o
        ∙ item_ahead (n + 1) l e.1 i d o (omega arith) (omega arith) t (omega (arith, base-next n)) y
  ]

  -- the item of rule n or a later one with k states before it stands before x
  pub record Stands (n k x : ℕ) (l : List Rule) : Type 0 where
    pub number : ℕ
    pub place : ℕ
    pub least : n ≤ number
    pub most : number < n + length l
    pub inside : place < length_of L G number
    pub symbol : get_or (rule L G number).right place 0 ≡ x
    pub state : base L G n + k ≡ base L G number + place
    pub shows : taken number ≡ true

  -- a code in the row, not 0, is that ahead of an item
  pub ahead_item : (n : ℕ) (l : List Rule) → Run n l → (k x : ℕ) → 1 ≤ x → get_or (aheads taken n l) k 0 ≡ x → Stands n k x l
  unfolding aheads
  ahead_item n [] e k x h q = absurd (omega arith)
  ahead_item n (r ∷ l) e k x h q = elim (dec_lt k (length r.right)) [
    | yes s ↦
        let m = length_as r n e.0 in
        let z = sym (get_or-append (shown taken n r) (0 ∷ aheads taken (n + 1) l) 0 k (omega (arith, shown-length taken n r))) ∙ q in
        let c = shown-code taken n r k (omega (arith, z)) in
        record {
          number = n;
          place = k;
          least = omega arith;
          most = omega arith;
          inside = omega arith;
          symbol = ap (λ (r : Rule). get_or r.right k 0) (sym e.0) ∙ c.1 ∙ z;
          state = refl;
          shows = c.0;
        }
    | no s ↦ elim (ℕ_discrete k (length r.right)) [
      | yes t ↦
          let z = middle (shown taken n r) 0 (aheads taken (n + 1) l) 0 in
          let y = ap (λ j. get_or (shown taken n r ++ (0 ∷ aheads taken (n + 1) l)) j 0) (t ∙ sym (shown-length taken n r)) in
          absurd (omega (arith, z, y, q))
      | no t ↦
          let m = length_as r n e.0 in
          let o = k - suc (length r.right) in
          let w : length (shown taken n r) + suc o ≡ k = omega (arith, shown-length taken n r) in
          let y = sym (beyond (shown taken n r) 0 (aheads taken (n + 1) l) 0 o)
          ∙ ap (λ j. get_or (shown taken n r ++ (0 ∷ aheads taken (n + 1) l)) j 0) w ∙ q in
          let a = ahead_item (n + 1) l e.1 o x h y in
          record {
            number = a.number;
            place = a.place;
            least = omega (arith, a.least);
            most = omega (arith, a.most);
            inside = a.inside;
            symbol = a.symbol;
            state = omega (arith, a.state, base-next n);
            shows = a.shows;
          }
    ]
  ]

  -- what stands in the row of the rules of b, from rule n on
  pub rules-out : (b n p : ℕ) (l : List Rule) → Run n l → p ≡ base L G n → (i q : ℕ) → Mem {A = ℕ × ℕ} (i, q) (rules_of taken b n p l)
      → (n ≤ i) × (i < n + length l) × ((rule L G i).left ≡ b) × (q ≡ base L G i) × (taken i ≡ true)
  unfolding rules_of
  rules-out b n p [] e z i q m = absurd (no_element m)
  rules-out b n p (r ∷ l) e z i q m =
      elim (mem_either (when (taken n && eqb r.left b) ((n, p) ∷ [])) (rules_of taken b (n + 1) (p + length r.right + 1) l) m) [
        | inl k ↦
            let u = (under-test {A = ℕ × ℕ} (taken n && eqb r.left b) ((n, p) ∷ [])).0 k in
            let v = only_one u.1 in
            let s : i ≡ n = ap (λ (c : ℕ × ℕ). c.0) v in
            let t : q ≡ p = ap (λ (c : ℕ × ℕ). c.1) v in
            let y : (rule L G i).left ≡ r.left = ap (λ (r : Rule). r.left) (ap (rule L G) s ∙ sym e.0) in
            let a = and_both (taken n) (eqb r.left b) u.0 in
            (omega arith, omega arith, y ∙ eqb-true r.left b a.1, t ∙ z ∙ ap (base L G) (sym s), subst (λ i. taken i ≡ true) (sym s) a.0)
        | inr k ↦
            let w = length_as r n e.0 in
            let o = rules-out b (n + 1) (p + length r.right + 1) l e.1 (omega (arith, base-next n)) i q k in
            (omega arith, omega arith, o.2, o.3, o.4)
      ]

  -- every rule of b stands in its row
  pub rules_in_lem : (b n p : ℕ) (l : List Rule) → Run n l → p ≡ base L G n → (i q : ℕ) → n ≤ i → i < n + length l
      → (rule L G i).left ≡ b → q ≡ base L G i → taken i ≡ true → Mem {A = ℕ × ℕ} (i, q) (rules_of taken b n p l)
  unfolding rules_of
  rules_in_lem b n p [] e z i q h u s t k = absurd (omega arith)
  rules_in_lem b n p (r ∷ l) e z i q h u s t k = elim (ℕ_discrete i n) [
    | yes y ↦
        let x : r.left ≡ b = ap (λ (r : Rule). r.left) (e.0 ∙ ap (rule L G) (sym y)) ∙ s in
        let v : ◌≡◌ {A = ℕ × ℕ} (i, q) (n, p) = cc (ap (base L G) y) in
        mem_left (rules_of taken b (n + 1) (p + length r.right + 1) l)
        ((under-test (taken n && eqb r.left b) ((n, p) ∷ [])).1 (both_and (taken n) (eqb r.left b) (subst (λ i. taken i ≡ true) y k) (eq-eqb r.left b x), one_only v))
    | no y ↦
        let w = length_as r n e.0 in
        mem_right (when (taken n && eqb r.left b) ((n, p) ∷ []))
        (rules_in_lem b (n + 1) (p + length r.right + 1) l e.1 (omega (arith, base-next n)) i q (omega arith) (omega arith) s t k)
  ]

  -- what stands in the row of the rule that ends in state c
  pub ends-out : (c n p : ℕ) (l : List Rule) → Run n l → p ≡ base L G n → (i b : ℕ) → Mem {A = ℕ × ℕ} (i, b) (completed taken c n p l)
      → (n ≤ i) × (i < n + length l) × (c ≡ base L G i + length_of L G i) × (b ≡ (rule L G i).left) × (taken i ≡ true)
  unfolding completed
  ends-out c n p [] e z i b m = absurd (no_element m)
  ends-out c n p (r ∷ l) e z i b m =
      elim (mem_either (when (taken n && eqb (p + length r.right) c) ((n, r.left) ∷ []))
      (completed taken c (n + 1) (p + length r.right + 1) l) m) [
        | inl k ↦
            let u = (under-test {A = ℕ × ℕ} (taken n && eqb (p + length r.right) c) ((n, r.left) ∷ [])).0 k in
            let v = only_one u.1 in
            let s : i ≡ n = ap (λ (c : ℕ × ℕ). c.0) v in
            let t : b ≡ r.left = ap (λ (c : ℕ × ℕ). c.1) v in
            let w = length_as r n e.0 in
            let a = and_both (taken n) (eqb (p + length r.right) c) u.0 in
            let x = eqb-true (p + length r.right) c a.1 in
            let y = ap (λ i. base L G i + length_of L G i) s in
            (omega arith, omega arith, omega arith, t ∙ ap (λ (r : Rule). r.left) (e.0 ∙ ap (rule L G) (sym s)), subst (λ i. taken i ≡ true) (sym s) a.0)
        | inr k ↦
            let w = length_as r n e.0 in
            let o = ends-out c (n + 1) (p + length r.right + 1) l e.1 (omega (arith, base-next n)) i b k in
            (omega arith, omega arith, o.2, o.3, o.4)
      ]

  -- the rule that ends in state c stands in its row
  pub ends_in : (c n p : ℕ) (l : List Rule) → Run n l → p ≡ base L G n → (i : ℕ) → n ≤ i → i < n + length l
      → c ≡ base L G i + length_of L G i → taken i ≡ true → Mem {A = ℕ × ℕ} (i, (rule L G i).left) (completed taken c n p l)
  unfolding completed
  ends_in c n p [] e z i h u s k = absurd (omega arith)
  ends_in c n p (r ∷ l) e z i h u s k = elim (ℕ_discrete i n) [
    | yes y ↦
        let w = length_as r n e.0 in
        let x = ap (λ i. base L G i + length_of L G i) y in
        let t : (rule L G i).left ≡ r.left = ap (λ (r : Rule). r.left) (ap (rule L G) y ∙ sym e.0) in
        let v : ◌≡◌ {A = ℕ × ℕ} (i, (rule L G i).left) (n, r.left) = cc (y, t) in
        mem_left (completed taken c (n + 1) (p + length r.right + 1) l)
        ((under-test (taken n && eqb (p + length r.right) c) ((n, r.left) ∷ [])).1
        (both_and (taken n) (eqb (p + length r.right) c) (subst (λ i. taken i ≡ true) y k) (eq-eqb (p + length r.right) c (omega arith)), one_only v))
    | no y ↦
        let w = length_as r n e.0 in
        mem_right (when (taken n && eqb (p + length r.right) c) ((n, r.left) ∷ []))
        (ends_in c (n + 1) (p + length r.right + 1) l e.1 (omega (arith, base-next n)) i (omega arith) (omega arith) s k)
  ]

-- what stands in the row of the states just past a b
pub past-out : (b p : ℕ) (xs : List ℕ) (q : ℕ) → Mem q (past b p xs) → (k : ℕ) × (get_or xs k 0 ≡ b) × (q ≡ suc (p + k))
unfolding past
past-out b p [] q m = absurd (no_element m)
past-out b p (x ∷ xs) q m = elim (mem_either (when (eqb x b) ((p + 1) ∷ [])) (past b (p + 1) xs) m) [
  | inl k ↦
      let u = (under-test (eqb x b) ((p + 1) ∷ [])).0 k in
      let v = only_one u.1 in
      (0, eqb-true x b u.0, omega arith)
  | inr k ↦ let o = past-out b (p + 1) xs q k in (suc o.0, o.1, omega arith)
]

-- every state just past a b stands in its row
pub past_in : (b p : ℕ) (xs : List ℕ) (k : ℕ) → 1 ≤ b → get_or xs k 0 ≡ b → Mem (suc (p + k)) (past b p xs)
unfolding past
past_in b p [] k h e = absurd (omega arith)
past_in b p (x ∷ xs) zero h e =
    mem_left (past b (p + 1) xs) ((under-test (eqb x b) ((p + 1) ∷ [])).1 (eq-eqb x b e, one_only (omega arith)))
past_in b p (x ∷ xs) (suc k) h e =
    mem_right (when (eqb x b) ((p + 1) ∷ []))
    (subst (λ q. Mem q (past b (p + 1) xs)) (let z : suc (p + 1 + k) ≡ suc (p + suc k) = omega arith in z)
    (past_in b (p + 1) xs k h e))

-- the closings by a rule with a left code, along the row of codes ahead
abbrev pub pasts : List ℕ → ℕ × ℕ → List (ℕ × ℕ)
pasts row e = map (λ q. (e.0, q)) (past e.1 0 row)
