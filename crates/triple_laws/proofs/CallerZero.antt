-- With no caller remembered the numbers are those of the items: rule i with the dot at d is base i + d. Assumes nothing.
use Prim.Native.Nat.{ℕ, zero, suc, ◌+◌, ◌≤◌, ◌<◌}
use mathlib.Core.Path.{◌≡◌, refl, sym, ap, subst, ◌∙◌}
use mathlib.Core.Bool.{Bool, true, false}
use mathlib.Core.List.{List, [], ◌∷◌, ◌++◌, map}
use mathlib.Core.Logic.{inl, inr}
use native.Mathlib.Omega.{arith}
use native.Mathlib.Decide.{ℕ_discrete}
use lib.ListN.{length, length-append}
use Rattle.grammar.specs.Basics.{choose, each, Mem, here, there}
use Rattle.grammar.specs.Limits.{Limits}
use Rattle.grammar.specs.Grammar.{Rule, Grammar, rule}
use Rattle.grammar.proofs.Answers.{no_bool}
use Rattle.grammar.proofs.Plain.{mem_cases}
use Rattle.automaton.specs.Items.{states, length_of, base}
use Rattle.automaton.proofs.Items.{base-end}
use Rattle.automaton.specs.Callers.{Spot, spot, up_to, items_from, same_spot, place_of, items, spots, number_of}
use Rattle.triple_laws.proofs.Members.{no_element, only_one, of-each, of_map}
use Rattle.triple_laws.proofs.Rows.{Run, run-zero, base-next, length_as}
use Rattle.triple_laws.proofs.Callers.{upto_in, upto-out}
use Rattle.triple_laws.proofs.Spots.{spot-same, spot_self}
use Rattle.triple_laws.proofs.CallerOrder.{map-append, each_append}

pub place-front : (s : Spot) (a b : List Spot) → Mem s a → place_of s (a ++ b) ≡ place_of s a
unfolding place_of
place-front s [] b h = absurd (no_element h)
place-front s (u ∷ a) b h = go (same_spot u s) refl (place-front s a b)
  where
    go : (x : Bool) → same_spot u s ≡ x → (Mem s a → place_of s (a ++ b) ≡ place_of s a) → choose x 0 (suc (place_of s (a ++ b))) ≡ choose x 0 (suc (place_of s a))
    go true e again = refl
    go false e again = elim (mem_cases h) [
      | inl q ↦ no_bool (sym (subst (λ z. same_spot u z ≡ true) q (spot_self u)) ∙ e)
      | inr n ↦ ap suc (again n)
    ]

pub place-back : (s : Spot) (a b : List Spot) → ¬ Mem s a → place_of s (a ++ b) ≡ length a + place_of s b
unfolding place_of
place-back s [] b h = let q : place_of s b ≡ 0 + place_of s b = omega arith in q
place-back s (u ∷ a) b h = go (same_spot u s) refl (place-back s a b (λ m. h (there m)))
  where
    go : (x : Bool) → same_spot u s ≡ x → place_of s (a ++ b) ≡ length a + place_of s b → choose x 0 (suc (place_of s (a ++ b))) ≡ suc (length a) + place_of s b
    go true e again = absurd (h (subst (λ z. Mem z (u ∷ a)) (spot-same u s e) here))
    go false e again = omega (arith, again)

-- an item without callers
abbrev bare : ℕ × ℕ → List Spot
bare c = spot c.0 c.1 [] ∷ []

rule-same : (i j d e : ℕ) → spot i d [] ≡ spot j e [] → i ≡ j
rule-same i j d e q = cc

dot-same : (i j d e : ℕ) → spot i d [] ≡ spot j e [] → d ≡ e
dot-same i j d e q = cc

block_mem : (n k i d : ℕ) → Mem (spot i d []) (each (map (λ d. (n, d)) (up_to k)) bare) → (i ≡ n) × (d ≤ k)
block_mem n k i d h =
    let o = (of-each (map (λ d. (n, d)) (up_to k)) bare).0 h in
    let p = (of_map {B = ℕ × ℕ} (up_to k) (λ d. (n, d))).0 o.1 in
    let e = only_one o.2 in
    let a : o.0.0 ≡ n = ap (λ (c : ℕ × ℕ). c.0) p.2 in
    let b : o.0.1 ≡ p.0 = ap (λ (c : ℕ × ℕ). c.1) p.2 in
    let u = rule-same i o.0.0 d o.0.1 e in
    let v = dot-same i o.0.0 d o.0.1 e in
    let w = upto-out k p.0 p.1 in
    (u ∙ a, omega (arith, v, b, w))

mem_block : (n k d : ℕ) → d ≤ k → Mem (spot n d []) (each (map (λ d. (n, d)) (up_to k)) bare)
mem_block n k d h = (of-each (map (λ d. (n, d)) (up_to k)) bare).1 ((n, d), (of_map {B = ℕ × ℕ} (up_to k) (λ d. (n, d))).1 (d, upto_in k d h, refl), here)

block-length : (n k : ℕ) → length (each (map (λ d. (n, d)) (up_to k)) bare) ≡ suc k
unfolding up_to each
block-length n zero = refl
block-length n (suc k) =
    ap (λ l. length (each l bare)) (map-append (λ d. (n, d)) (up_to k) (suc k ∷ []))
    ∙ ap length (each_append bare (map (λ d. (n, d)) (up_to k)) ((n, suc k) ∷ []))
    ∙ length-append (each (map (λ d. (n, d)) (up_to k)) bare) (spot n (suc k) [] ∷ []) ∙ omega (arith, block-length n k)

block-place : (n k d : ℕ) → d ≤ k → place_of (spot n d []) (each (map (λ d. (n, d)) (up_to k)) bare) ≡ d
unfolding up_to each place_of
block-place n zero d h = let e : d ≡ 0 = omega arith in subst (λ d. place_of (spot n d []) (spot n 0 [] ∷ []) ≡ d) (sym e) (ap (λ b. choose b 0 1) (spot_self (spot n 0 [])))
block-place n (suc k) d h =
    let a = each (map (λ d. (n, d)) (up_to k)) bare in
    let e = ap (λ l. each l bare) (map-append (λ d. (n, d)) (up_to k) (suc k ∷ [])) ∙ each_append bare (map (λ d. (n, d)) (up_to k)) ((n, suc k) ∷ []) in
    ap (place_of (spot n d [])) e ∙ elim (ℕ_discrete d (suc k)) [
      | yes q ↦
          let z = place-back (spot n d []) a (spot n (suc k) [] ∷ []) (λ m. let o = block_mem n k n d m in let t : ⊥ = omega (arith, o.1, q) in t) in
          let w : place_of (spot n d []) (spot n (suc k) [] ∷ []) ≡ 0 =
          ap (λ d. place_of (spot n d []) (spot n (suc k) [] ∷ [])) q ∙ ap (λ b. choose b 0 1) (spot_self (spot n (suc k) [])) in
          omega (arith, z, w, block-length n k, q)
      | no q ↦ place-front (spot n d []) a (spot n (suc k) [] ∷ []) (mem_block n k d (omega arith)) ∙ block-place n k d (omega arith)
    ]

module _ (L : Limits) (G : Grammar) where
  any : ℕ → Bool
  any i = true

  items-place : (n : ℕ) (l : List Rule) → Run L G any n l → (i d : ℕ) → n ≤ i → i < n + length l → d ≤ length_of L G i
      → base L G n + place_of (spot i d []) (each (items_from n l) bare) ≡ base L G i + d
  unfolding items_from
  items-place n [] e i d h u k = absurd (omega arith)
  items-place n (r ∷ l) e i d h u k =
      let a = each (map (λ d. (n, d)) (up_to (length r.right))) bare in
      let b = each (items_from (suc n) l) bare in
      let z = ap (place_of (spot i d [])) (each_append bare (map (λ d. (n, d)) (up_to (length r.right))) (items_from (suc n) l)) in
      elim (ℕ_discrete i n) [
        | yes s ↦
            let w : length r.right ≡ length_of L G i = ap (λ (r : Rule). length r.right) (e.0 ∙ ap (rule L G) (sym s)) in
            let y : place_of (spot i d []) (a ++ b) ≡ d =
            ap (λ i. place_of (spot i d []) (a ++ b)) s ∙ place-front (spot n d []) a b (mem_block n (length r.right) d (omega (arith, w)))
            ∙ block-place n (length r.right) d (omega (arith, w)) in
            omega (arith, z, y, ap (base L G) s)
        | no s ↦
            let y = place-back (spot i d []) a b (λ m. s (block_mem n (length r.right) i d m).0) in
            let f = subst (λ k. Run L G any k l) (let q : n + 1 ≡ suc n = omega arith in q) e.1 in
            let g = items-place (suc n) l f i d (omega arith) (omega arith) k in
            let q : base L G (suc n) ≡ base L G (n + 1) = ap (base L G) (let q : suc n ≡ n + 1 = omega arith in q) in
            omega (arith, z, y, g, q, base-next L G any n, length_as L G any r n e.0, block-length n (length r.right))
      ]

  items-length : (n : ℕ) (l : List Rule) → Run L G any n l → base L G n + length (each (items_from n l) bare) ≡ base L G (n + length l)
  unfolding items_from each
  items-length n [] e = let z : base L G (n + 0) ≡ base L G n = ap (base L G) (let q : n + 0 ≡ n = omega arith in q) in omega (arith, z)
  items-length n (r ∷ l) e =
      let a = each (map (λ d. (n, d)) (up_to (length r.right))) bare in
      let b = each (items_from (suc n) l) bare in
      let z = ap length (each_append bare (map (λ d. (n, d)) (up_to (length r.right))) (items_from (suc n) l)) ∙ length-append a b in
      let f = subst (λ k. Run L G any k l) (let q : n + 1 ≡ suc n = omega arith in q) e.1 in
      let g = items-length (suc n) l f in
      let q : base L G (suc n) ≡ base L G (n + 1) = ap (base L G) (let q : suc n ≡ n + 1 = omega arith in q) in
      let w : base L G (n + suc (length l)) ≡ base L G (suc n + length l) = ap (base L G) (let q : n + suc (length l) ≡ suc n + length l = omega arith in q) in
      omega (arith, z, g, q, w, base-next L G any n, length_as L G any r n e.0, block-length n (length r.right))

  -- at m = 0 there are as many states
  pub zero-states : length (spots L G 0) ≡ states G
  unfolding spots items base
  zero-states =
      let z = items-length 0 (rule L G 0 ∷ G.rules) (run-zero L G any) in
      let w : base L G (0 + suc (length G.rules)) ≡ base L G (suc (length G.rules)) = ap (base L G) (let q : 0 + suc (length G.rules) ≡ suc (length G.rules) = omega arith in q) in
      omega (arith, z, w, base-end L G)

  -- at m = 0 the numbering is that of the items
  pub zero_number : (i d : ℕ) → i ≤ length G.rules → d ≤ length_of L G i → number_of L G 0 (spot i d []) ≡ base L G i + d
  unfolding spots place_of items base
  zero_number i d h k = let z = items-place 0 (rule L G 0 ∷ G.rules) (run-zero L G any) i d (omega arith) (omega arith) k in omega (arith, z)
