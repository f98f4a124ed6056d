-- The states with m callers are numbered in the order of items, then of callers: the list of the states ascends by it, and
-- in such a list the places ascend as the elements do. Assumes nothing.
use Prim.Native.Nat.{ℕ, zero, suc, ◌≤◌, ◌<◌}
use mathlib.Core.Path.{◌≡◌, refl, sym, ap, subst, subst₂, ◌∙◌}
use mathlib.Core.Bool.{Bool, true, false}
use mathlib.Core.List.{List, [], ◌∷◌, map}
use mathlib.Core.Logic.{inl, inr, ◌↔◌}
use native.Mathlib.Omega.{arith}
use native.Mathlib.Decide.{ℕ_discrete, dec_lt}
use lib.Dec.{eqb}
use lib.ListN.{length}
use Rattle.grammar.specs.Basics.{choose, when, each, Mem}
use Rattle.grammar.specs.Limits.{limits}
use Rattle.grammar.specs.Grammar.{Rule, Grammar, rule, WellFormed}
use Rattle.grammar.specs.Live.{is_live}
use Rattle.grammar.proofs.Answers.{no_bool}
use Rattle.automaton.specs.Callers.{Spot, first, last, spot, up_to, items_from, same_spot, place_of, items, code_at, items_before, chains, chains_of, spots, number_of}
use Rattle.triple_laws.proofs.Members.{no_element, only_one, mem_either, under-test, of_map, first_or}
use Rattle.triple_laws.proofs.Callers.{upto-out, before-out}
use Rattle.triple_laws.proofs.Spots.{spot-same, spot_self, place_mem_below, at, in_rest, one_number}
use Rattle.ambiguity.specs.Callers.{IsState, ItemBefore, CallersBefore, missing, nearest, farther, SpotBefore, start-end, start_item, end_item, by_item, by-callers}
use Rattle.ambiguity.proofs.Ascending.{Ascending, none, more, ascending_one, ascending_append, ascending_when, ascending_map, ascending_each}
use Rattle.ambiguity.proofs.States.{listed-state}

-- no two items are before each other, and none is before itself
items_apart : (b c : ℕ × ℕ) → ItemBefore b c → ItemBefore c b → ⊥
items_apart b c (inl h) (inl k) = omega arith
items_apart b c (inl h) (inr k) = omega (arith, k.0)
items_apart b c (inr h) (inl k) = omega (arith, h.0)
items_apart b c (inr h) (inr k) = omega (arith, h.1, k.1)

item_itself : (b c : ℕ × ℕ) → b ≡ c → ItemBefore b c → ⊥
item_itself b c e (inl h) = let z : b.0 ≡ c.0 = ap (λ (c : ℕ × ℕ). c.0) e in omega (arith, z)
item_itself b c e (inr h) = let z : b.1 ≡ c.1 = ap (λ (c : ℕ × ℕ). c.1) e in omega (arith, z, h.1)

-- nor two rows of callers, nor two states
callers_apart : {bs cs : List (ℕ × ℕ)} → CallersBefore bs cs → CallersBefore cs bs → ⊥
callers_apart (nearest {b = b} {c = c} h) (nearest k) = items_apart b c h k
callers_apart (nearest {b = b} {c = c} h) (farther e k) = item_itself b c (sym e) h
callers_apart (farther {b = b} {c = c} e h) (nearest k) = item_itself c b (sym e) k
callers_apart (farther e h) (farther z k) = callers_apart h k
callers_apart missing x = elim x [ ]

spots_apart : {s t : Spot} → SpotBefore s t → SpotBefore t s → ⊥
spots_apart (by_item {i = i} {d = d} {j = j} {e = e} h) (by_item k) = items_apart (i, d) (j, e) h k
spots_apart (by_item (inl h)) (by-callers p q k) = omega arith
spots_apart (by_item (inr h)) (by-callers p q k) = omega (arith, h.1)
spots_apart (by-callers p q h) (by_item (inl k)) = omega arith
spots_apart (by-callers p q h) (by_item (inr k)) = omega (arith, k.1)
spots_apart (by-callers p q h) (by-callers x y k) = callers_apart h k
spots_apart start-end x = elim x [ ]
spots_apart start_item x = elim x [ ]
spots_apart end_item x = elim x [ ]

-- in a list that ascends, what has a lower place is before
place-before : (s t : Spot) (l : List Spot) → Ascending SpotBefore l → Mem t l → place_of s l < place_of t l → SpotBefore s t
unfolding place_of
place-before s t [] none h k = absurd (no_element h)
place-before s t (u ∷ l) (more low d) h k = go (same_spot u s) refl (same_spot u t) refl k (place-before s t l d)
  where
    rest : same_spot u t ≡ false → Mem t l
    rest e = elim (first_or h) [ inl q ↦ no_bool (sym (spot_self u) ∙ ap (same_spot u) (sym q) ∙ e) | inr m ↦ m ]

    go : (x : Bool) → same_spot u s ≡ x → (y : Bool) → same_spot u t ≡ y → choose x 0 (suc (place_of s l)) < choose y 0 (suc (place_of t l))
        → (Mem t l → place_of s l < place_of t l → SpotBefore s t) → SpotBefore s t
    go x e true f k again = absurd (omega arith)
    go true e false f k again = subst (λ (s : Spot). SpotBefore s t) (spot-same u s e) (low t (rest f))
    go false e false f k again = again (rest f) (omega arith)

-- 0 to n ascends
upto_ascends : (n : ℕ) → Ascending ◌<◌ (up_to n)
unfolding up_to
upto_ascends zero = ascending_one ◌<◌ 0
upto_ascends (suc n) = ascending_append ◌<◌ (up_to n) (suc n ∷ []) (upto_ascends n) (ascending_one ◌<◌ (suc n)) (λ a c h k.
    let e = only_one k in let z = upto-out n a h in omega (arith, e, z))

-- the items ascend, and begin at rule n
items-from : (n : ℕ) (l : List Rule) → Ascending ItemBefore (items_from n l) × ((c : ℕ × ℕ) → Mem c (items_from n l) → n ≤ c.0)
unfolding items_from
items-from n [] = (none, λ c h. absurd (no_element h))
items-from n (r ∷ l) =
    let front : List (ℕ × ℕ) = map (λ d. (n, d)) (up_to (length r.right)) in
    let rest = items-from (suc n) l in (
      ascending_append ItemBefore front (items_from (suc n) l)
          (ascending_map ◌<◌ ItemBefore (λ d. (n, d)) (up_to (length r.right)) (upto_ascends (length r.right)) (λ a c h. inr (refl, h)))
          rest.0 (λ a c h k. let e = rule-of h in let z = rest.1 c k in inl (omega (arith, e, z))),
      λ c h. elim (mem_either front (items_from (suc n) l) h) [
        | inl k ↦ let e = rule-of k in omega (arith, e)
        | inr k ↦ let z = rest.1 c k in omega (arith, z)
      ],
    )
  where
    rule-of : {c : ℕ × ℕ} → Mem c (map (λ d. (n, d)) (up_to (length r.right))) → c.0 ≡ n
    rule-of h = ap (λ (c : ℕ × ℕ). c.0) ((of_map {B = ℕ × ℕ} (up_to (length r.right)) (λ d. (n, d))).0 h).2

module _ (G : Grammar) (W : WellFormed limits G) where
  -- the items of the grammar
  items_ascend : Ascending ItemBefore (items limits G)
  unfolding items
  items_ascend = (items-from 0 (rule limits G 0 ∷ G.rules)).0

  -- and those before x
  before_ascend : (x : ℕ) (l : List (ℕ × ℕ)) → Ascending ItemBefore l → Ascending ItemBefore (items_before limits G x l)
  unfolding items_before
  before_ascend x [] none = none
  before_ascend x (c ∷ l) (more low d) =
      let b = eqb (code_at limits G c) x in
      ascending_append ItemBefore (when b (c ∷ [])) (items_before limits G x l)
      (ascending_when ItemBefore b (c ∷ []) (ascending_one ItemBefore c)) (before_ascend x l d)
      (λ a e h k.
      let z = only_one ((under-test b (c ∷ [])).0 h).1 in
      subst (λ (a : ℕ × ℕ). ItemBefore a e) (sym z) (low e (before-out limits G W (omega arith) x e l k).0))

  -- the chains of a rule
  chains_ascend : (m i : ℕ) → Ascending CallersBefore (chains limits G m i)
  unfolding chains
  chains_ascend zero i = ascending_one CallersBefore []
  chains_ascend (suc m) zero = ascending_one CallersBefore []
  chains_ascend (suc m) (suc i) =
      let x = (rule limits G (suc i)).left in
      ascending_each ItemBefore CallersBefore (λ c. map (λ cs. c ∷ cs) (chains limits G m c.0)) (items_before limits G x (items limits G))
      (before_ascend x (items limits G) items_ascend)
      (λ c. ascending_map CallersBefore CallersBefore (λ cs. c ∷ cs) (chains limits G m c.0) (chains_ascend m c.0) (λ a b h. farther refl h))
      (λ a c bs cs h u v.
      let p = (of_map (chains limits G m a.0) (λ cs. a ∷ cs)).0 u in
      let q = (of_map (chains limits G m c.0) (λ cs. c ∷ cs)).0 v in
      subst (CallersBefore bs) (sym q.2) (subst (λ bs. CallersBefore bs (c ∷ q.0)) (sym p.2) (nearest h)))

  module _ (m : ℕ) where
    -- those of an item, which has none above m = 0 unless its rule is live
    of_item : (i : ℕ) → Ascending CallersBefore (chains_of limits G m i)
    of_item i = go m
      where
        go : (m : ℕ) → Ascending CallersBefore (chains_of limits G m i)
        go zero = ascending_one CallersBefore []
        go (suc m) = ascending_when CallersBefore (is_live limits G i) (chains limits G (suc m) i) (chains_ascend (suc m) i)

    -- the states of an item
    abbrev block : ℕ × ℕ → List Spot
    block = at limits G W (omega arith) m

    -- the states after 0 and 1, then all
    rest_ascends : Ascending SpotBefore (each (items limits G) block)
    rest_ascends =
        ascending_each ItemBefore SpotBefore block (items limits G) items_ascend
        (λ c. ascending_map CallersBefore SpotBefore (spot c.0 c.1) (chains_of limits G m c.0) (of_item c.0) (λ a b h. by-callers refl refl h))
        (λ a c s t h u v.
        let p = (of_map (chains_of limits G m a.0) (spot a.0 a.1)).0 u in
        let q = (of_map (chains_of limits G m c.0) (spot c.0 c.1)).0 v in
        subst (SpotBefore s) (sym q.2) (subst (λ (s : Spot). SpotBefore s (spot c.0 c.1 q.0)) (sym p.2) (by_item h)))

    spots_ascend : Ascending SpotBefore (spots limits G m)
    unfolding spots
    spots_ascend =
        more {a = first} {l = last ∷ each (items limits G) block}
        (λ s h. elim (first_or h) [
          | inl e ↦ subst (SpotBefore first) (sym e) start-end
          | inr k ↦ let o = in_rest limits G W (omega arith) m s k in subst (SpotBefore first) (sym o.5) start_item
        ])
        (more {a = last} {l = each (items limits G) block}
        (λ s h. let o = in_rest limits G W (omega arith) m s h in subst (SpotBefore last) (sym o.5) end_item) rest_ascends)

    -- the numbers of states ascend exactly as the states
    pub ordered : (s t : Spot) → IsState G m s → IsState G m t → SpotBefore s t ↔ (number_of limits G m s < number_of limits G m t)
    ordered s t h k = (from, place-before s t (spots limits G m) spots_ascend (listed-state G W m k))
      where
        from : SpotBefore s t → number_of limits G m s < number_of limits G m t
        from b = elim (dec_lt (number_of limits G m s) (number_of limits G m t)) [
          | yes l ↦ l
          | no l ↦ elim (ℕ_discrete (number_of limits G m s) (number_of limits G m t)) [
            | yes e ↦
                let q = one_number limits G W (omega arith) m s t (place_mem_below (listed-state G W m h)) e in
                absurd (spots_apart b (subst₂ SpotBefore q (sym q) b))
            | no e ↦ absurd (spots_apart b (place-before t s (spots limits G m) spots_ascend (listed-state G W m h) (omega arith)))
          ]
        ]
