-- Where a state stands among the others: the states of an item are one block, in the order of its chains; the blocks of a rule follow
-- one another by dot, and the rules by number. So a state's number is told by its rule, its dot and the rank of its chain
-- (`item_number`), and what holds of all these states holds of each number (`each-state`). Assumes nothing.
use Prim.Native.Nat.{ℕ, zero, suc, ◌+◌, ◌-◌, ◌*◌, ◌≤◌, ◌<◌}
use mathlib.Core.Path.{◌≡◌, refl, sym, ap, subst, ◌∙◌}
use mathlib.Core.Bool.{Bool, true}
use mathlib.Core.List.{List, [], ◌∷◌, ◌++◌, map, append-nil}
use mathlib.Core.Logic.{inl, inr}
use native.Mathlib.Omega.{arith}
use native.Mathlib.Decide.{ℕ_discrete}
use native.Mathlib.Nat.{suc-mul, mul-le-mul_right}
use lib.ListN.{length, get_or, length-append, get_or-append}
use lib.Seq.{get_or-append-add}
use Rattle.grammar.specs.Basics.{each, Mem}
use Rattle.grammar.specs.Limits.{Limits}
use Rattle.grammar.specs.Grammar.{Rule, Grammar, rule, WellFormed}
use Rattle.grammar.proofs.Plain.{mem_cases}
use Rattle.automaton.specs.Items.{length_of}
use Rattle.automaton.specs.Callers.{Spot, first, last, spot, up_to, items_from, items, chains_of, spots, number_of}
use Rattle.triple_laws.proofs.Members.{place_mem}
use Rattle.triple_laws.proofs.Rows.{Run, run-zero, length_as}
use Rattle.triple_laws.proofs.Callers.{items_exact}
use Rattle.triple_laws.proofs.Spots.{place-of-at, spots_distinct, in_rest}
use Rattle.triple_laws.proofs.CallerMoves.{number_first, number_last}
use Rattle.triple_laws.proofs.CallerOrder.{map-append, each_append}
use Rattle.caller_laws.specs.Classes.{rank}
use Rattle.caller_laws.proofs.Walk.{Chain, rank-found}

-- an image has as many elements
pub map_many : {A B : Type 0} (f : A → B) (l : List A) → length (map f l) ≡ length l
map_many f [] = refl
map_many f (a ∷ l) = omega (arith, map_many f l)

-- the state of a chain at a place
map-spot : (i d : ℕ) (k : List Chain) (r : ℕ) → r < length k → get_or (map (spot i d) k) r last ≡ spot i d (get_or k r [])
map-spot i d [] r h = absurd (omega arith)
map-spot i d (cs ∷ k) zero h = refl
map-spot i d (cs ∷ k) (suc r) h = map-spot i d k r (omega arith)

module _ (L : Limits) (G : Grammar) (m : ℕ) where
  -- every rule has items
  any : ℕ → Bool
  any i = true

  -- how many chains a rule has
  abbrev pub width : ℕ → ℕ
  width i = length (chains_of L G m i)

  -- where the states of rule i begin
  unfoldable pub begins : ℕ → ℕ
  begins zero = 2
  begins (suc i) = begins i + suc (length_of L G i) * width i

  -- rule 0 after the start and the end, the next rule after the dots of the one before
  pub begins-next : (i : ℕ) → begins (suc i) ≡ begins i + suc (length_of L G i) * width i
  unfolding begins
  begins-next i = refl

  pub begins_two : begins 0 ≡ 2
  unfolding begins
  begins_two = refl

  -- later rules begin no earlier
  begins_up : (i j : ℕ) → i ≤ j → begins i ≤ begins j
  begins_up i zero h = let e : begins i ≡ begins 0 = ap begins (let q : i ≡ 0 = omega arith in q) in omega (arith, e)
  begins_up i (suc j) h = elim (ℕ_discrete i (suc j)) [
    | yes q ↦ let e = ap begins q in omega (arith, e)
    | no q ↦ omega (arith, begins_up i j (omega (arith, h, q)), begins-next j)
  ]

  -- the states of an item, and those of a rule with the dot from 0 to k
  abbrev block : ℕ × ℕ → List Spot
  block c = map (spot c.0 c.1) (chains_of L G m c.0)

  abbrev dots : ℕ → ℕ → List Spot
  dots n k = each (map (λ d. (n, d)) (up_to k)) block

  -- by dots: the first, and one more
  dots-zero : (n : ℕ) → dots n 0 ≡ block (n, 0)
  unfolding up_to each
  dots-zero n = append-nil (block (n, 0))

  dots-next : (n k : ℕ) → dots n (suc k) ≡ dots n k ++ block (n, suc k)
  unfolding up_to each
  dots-next n k =
      ap (λ l. each l block) (map-append (λ d. (n, d)) (up_to k) (suc k ∷ []))
      ∙ each_append block (map (λ d. (n, d)) (up_to k)) ((n, suc k) ∷ [])
      ∙ ap (λ l. dots n k ++ l) (append-nil (block (n, suc k)))

  -- how many they are, and which stands where
  dots-length : (n k : ℕ) → length (dots n k) ≡ suc k * width n
  dots-length n zero = ap length (dots-zero n) ∙ map_many (spot n 0) (chains_of L G m n) ∙ (let z : width n ≡ suc 0 * width n = omega arith in z)
  dots-length n (suc k) =
      let z = ap length (dots-next n k) ∙ length-append (dots n k) (block (n, suc k)) in
      omega (arith, z, dots-length n k, map_many (spot n (suc k)) (chains_of L G m n), suc-mul (suc k) (width n))

  dots-at : (n k d r : ℕ) → d ≤ k → r < width n → get_or (dots n k) (d * width n + r) last ≡ spot n d (get_or (chains_of L G m n) r [])
  dots-at n zero d r h u =
      let e : d ≡ 0 = omega arith in
      subst (λ d. get_or (dots n 0) (d * width n + r) last ≡ spot n d (get_or (chains_of L G m n) r [])) (sym e)
      (ap (λ l. get_or l (0 * width n + r) last) (dots-zero n) ∙ ap (λ k. get_or (block (n, 0)) k last) (let q : 0 * width n + r ≡ r = omega arith in q)
      ∙ map-spot n 0 (chains_of L G m n) r u)
  dots-at n (suc k) d r h u = ap (λ l. get_or l (d * width n + r) last) (dots-next n k) ∙ elim (ℕ_discrete d (suc k)) [
    | yes q ↦
        let z : d * width n + r ≡ length (dots n k) + r = ap (λ d. d * width n + r) q ∙ ap (λ w. w + r) (sym (dots-length n k)) in
        ap (λ p. get_or (dots n k ++ block (n, suc k)) p last) z ∙ get_or-append-add (dots n k) (block (n, suc k)) r last
        ∙ map-spot n (suc k) (chains_of L G m n) r u ∙ ap (λ d. spot n d (get_or (chains_of L G m n) r [])) (sym q)
    | no q ↦
        let z = mul-le-mul_right {m = suc d} {n = suc k} (width n) (omega (arith, h, q)) in
        get_or-append (dots n k) (block (n, suc k)) last (d * width n + r) (omega (arith, z, suc-mul d (width n), dots-length n k, u))
        ∙ dots-at n k d r (omega (arith, h, q)) u
  ]

  -- by rules: what is left after one
  run_on : (n : ℕ) (r : Rule) (l : List Rule) → Run L G any n (r ∷ l) → Run L G any (suc n) l
  run_on n r l e = subst (λ k. Run L G any k l) (let q : n + 1 ≡ suc n = omega arith in q) e.1

  rest-next : (n : ℕ) (r : Rule) (l : List Rule) → each (items_from n (r ∷ l)) block ≡ dots n (length r.right) ++ each (items_from (suc n) l) block
  unfolding items_from
  rest-next n r l = each_append block (map (λ d. (n, d)) (up_to (length r.right))) (items_from (suc n) l)

  rule-length : (n : ℕ) (r : Rule) (l : List Rule) → Run L G any n (r ∷ l) → begins n + length (dots n (length r.right)) ≡ begins (suc n)
  rule-length n r l e =
      let w = ap (λ k. suc k * width n) (length_as L G any r n e.0) in
      omega (arith, w, dots-length n (length r.right), begins-next n)

  -- how many the states of the rules from n on are, and which stands where
  rest-length : (n : ℕ) (l : List Rule) → Run L G any n l → begins n + length (each (items_from n l) block) ≡ begins (n + length l)
  unfolding items_from each
  rest-length n [] e = let z : begins (n + 0) ≡ begins n = ap begins (let q : n + 0 ≡ n = omega arith in q) in omega (arith, z)
  rest-length n (r ∷ l) e =
      let a = dots n (length r.right) in
      let b = each (items_from (suc n) l) block in
      let z = ap length (rest-next n r l) ∙ length-append a b in
      let w : begins (n + suc (length l)) ≡ begins (suc n + length l) = ap begins (let q : n + suc (length l) ≡ suc n + length l = omega arith in q) in
      omega (arith, z, w, rule-length n r l e, rest-length (suc n) l (run_on n r l e))

  rest_at : (n : ℕ) (l : List Rule) → Run L G any n l → (i d r : ℕ) → n ≤ i → i < n + length l → d ≤ length_of L G i → r < width i
      → (p : ℕ) → begins n + p ≡ begins i + d * width i + r → get_or (each (items_from n l) block) p last ≡ spot i d (get_or (chains_of L G m i) r [])
  rest_at n [] e i d r h u k v p q = absurd (omega (arith, h, u))
  rest_at n (s ∷ l) e i d r h u k v p q =
      let a = dots n (length s.right) in
      let b = each (items_from (suc n) l) block in
      let z = rule-length n s l e in
      ap (λ l. get_or l p last) (rest-next n s l) ∙ elim (ℕ_discrete i n) [
        | yes y ↦
            let t : p ≡ d * width n + r = omega (arith, q, ap begins y, ap (λ i. d * width i) y) in
            let x : d ≤ length s.right = omega (arith, k, length_as L G any s n e.0, ap (length_of L G) y) in
            let v' = subst (λ i. r < width i) y v in
            let g = mul-le-mul_right {m = suc d} {n = suc (length s.right)} (width n) (omega (arith, x)) in
            get_or-append a b last p (omega (arith, t, g, suc-mul d (width n), dots-length n (length s.right), v'))
            ∙ ap (λ p. get_or a p last) t ∙ dots-at n (length s.right) d r x v'
            ∙ ap (λ i. spot i d (get_or (chains_of L G m i) r [])) (sym y)
        | no y ↦
            let g = begins_up (suc n) i (omega (arith, h, y)) in
            let t : p ≡ length a + (p - length a) = omega (arith, q, z, g) in
            ap (λ p. get_or (a ++ b) p last) t ∙ get_or-append-add a b (p - length a) last
            ∙ rest_at (suc n) l (run_on n s l e) i d r (omega (arith, h, y)) (omega (arith, u)) k v (p - length a) (omega (arith, t, q, z))
      ]

  -- how many states there are
  pub states_are : length (spots L G m) ≡ begins (suc (length G.rules))
  unfolding spots items
  states_are =
      let z = rest-length 0 (rule L G 0 ∷ G.rules) (run-zero L G any) in
      let w : begins (0 + suc (length G.rules)) ≡ begins (suc (length G.rules)) = ap begins (let q : 0 + suc (length G.rules) ≡ suc (length G.rules) = omega arith in q) in
      omega (arith, z, w, begins_two)

  -- past the start and the end
  past_two : (l : List Spot) (p : ℕ) → 2 ≤ p → get_or (first ∷ last ∷ l) p last ≡ get_or l (p - 2) last
  past_two l p h = ap (λ p. get_or (first ∷ last ∷ l) p last) (let q : p ≡ suc (suc (p - 2)) = omega (arith, h) in q)

  -- the state at a place of an item's block
  pub item_at : (i d r : ℕ) → i ≤ length G.rules → d ≤ length_of L G i → r < width i
      → get_or (spots L G m) (begins i + d * width i + r) last ≡ spot i d (get_or (chains_of L G m i) r [])
  unfolding spots items
  item_at i d r h k v =
      let z = begins_up 0 i (omega arith) in
      let p = begins i + d * width i + r in
      past_two (each (items L G) block) p (omega (arith, z, begins_two))
      ∙ rest_at 0 (rule L G 0 ∷ G.rules) (run-zero L G any) i d r (omega arith) (omega (arith, h)) k v (p - 2) (omega (arith, z, begins_two))

  -- it is a state's number
  item_below : (i d r : ℕ) → i ≤ length G.rules → d ≤ length_of L G i → r < width i → begins i + d * width i + r < length (spots L G m)
  item_below i d r h k v =
      let g = mul-le-mul_right {m = suc d} {n = suc (length_of L G i)} (width i) (omega (arith, k)) in
      let z = begins_up (suc i) (suc (length G.rules)) (omega (arith, h)) in
      omega (arith, g, z, suc-mul d (width i), begins-next i, states_are, v)

module _ (L : Limits) (G : Grammar) (W : WellFormed L G) (apart : L.max_terminals < L.nonterminal_base) (m : ℕ) where
  -- the number of a state
  pub item_number : (i d : ℕ) (cs : Chain) → i ≤ length G.rules → d ≤ length_of L G i → Mem cs (chains_of L G m i)
      → number_of L G m (spot i d cs) ≡ begins L G m i + d * width L G m i + rank cs (chains_of L G m i)
  item_number i d cs h k w =
      let f = rank-found w in
      let p = begins L G m i + d * width L G m i + rank cs (chains_of L G m i) in
      let e : get_or (spots L G m) p last ≡ spot i d cs = item_at L G m i d (rank cs (chains_of L G m i)) h k f.0 ∙ ap (spot i d) f.1 in
      ap (number_of L G m) (sym e)
      ∙ place-of-at (spots L G m) (spots_distinct L G W apart m) p (item_below L G m i d (rank cs (chains_of L G m i)) h k f.0)

  -- a shift leads on by the number of the rule's chains
  pub after_number : (i d : ℕ) (cs : Chain) → i ≤ length G.rules → d < length_of L G i → Mem cs (chains_of L G m i)
      → number_of L G m (spot i (suc d) cs) ≡ number_of L G m (spot i d cs) + width L G m i
  after_number i d cs h k w =
      let x = item_number i d cs h (omega arith) w in
      let y = item_number i (suc d) cs h (omega arith) w in
      omega (arith, x, y, suc-mul d (width L G m i))

  -- what holds of the start, of the end and of each item with its chains, by their numbers, holds of each number
  pub each-state : (P : ℕ → Spot → Type 0) → P 0 first → P 1 last
      → ((i d : ℕ) (cs : Chain) → i ≤ length G.rules → d ≤ length_of L G i → Mem cs (chains_of L G m i)
      → P (begins L G m i + d * width L G m i + rank cs (chains_of L G m i)) (spot i d cs))
      → (p : ℕ) → p < length (spots L G m) → P p (get_or (spots L G m) p last)
  unfolding spots
  each-state P start end item p h =
      subst (λ q. P q (get_or (spots L G m) p last)) (place-of-at (spots L G m) (spots_distinct L G W apart m) p h)
      (go (get_or (spots L G m) p last) (place_mem (spots L G m) p last h))
    where
      go : (s : Spot) → Mem s (spots L G m) → P (number_of L G m s) s
      go s k = elim (mem_cases k) [
        | inl e ↦ subst (λ s. P (number_of L G m s) s) e (subst (λ n. P n first) (sym (number_first L G W apart m)) start)
        | inr k ↦ elim (mem_cases k) [
          | inl e ↦ subst (λ s. P (number_of L G m s) s) e (subst (λ n. P n last) (sym (number_last L G W apart m)) end)
          | inr k ↦
              let o = in_rest L G W apart m s k in
              let t = (items_exact L G W apart o.0 o.1).0 o.3 in
              subst (λ s. P (number_of L G m s) s) (sym o.5)
              (subst (λ n. P n (spot o.0 o.1 o.2)) (sym (item_number o.0 o.1 o.2 t.0 t.1 o.4))
              (item o.0 o.1 o.2 t.0 t.1 o.4))
        ]
      ]
