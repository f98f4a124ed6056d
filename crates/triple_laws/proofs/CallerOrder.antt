-- The lists of the automaton with m callers are regular, if there is a sentence. Assumes nothing.
use Prim.Native.Nat.{ℕ, zero, suc, ◌+◌, ◌≤◌, ◌<◌}
use mathlib.Core.Path.{◌≡◌, refl, sym, ap, subst, ◌∙◌}
use mathlib.Core.Bool.{Bool, true, false}
use mathlib.Core.List.{List, [], ◌∷◌, ◌++◌, map, append_assoc, append-nil}
use mathlib.Core.Logic.{inl, inr}
use native.Mathlib.Omega.{arith}
use native.Mathlib.Decide.{ℕ_discrete}
use lib.ListN.{length}
use Rattle.grammar.specs.Basics.{choose, each, Mem, here, there}
use Rattle.grammar.specs.Limits.{Limits}
use Rattle.grammar.specs.Grammar.{Rule, Grammar, rule, WellFormed}
use Rattle.grammar.proofs.Answers.{no_bool}
use Rattle.grammar.proofs.Plain.{mem_cases}
use Rattle.automaton.specs.Items.{length_of}
use Rattle.automaton.specs.Callers.{Spot, first, last, spot, up_to, items_from, same_spot, place_of, items, chains_of, spots, number_of}
use Rattle.triple_laws.proofs.Members.{no_element, mem_right, mem_either, of-each, of_map}
use Rattle.triple_laws.proofs.Rows.{Run, run-zero}
use Rattle.triple_laws.proofs.Callers.{upto_in, upto-out}
use Rattle.triple_laws.proofs.Spots.{spot-same, spot_self, same-rule, same-dot, no_first, no_last, at}

-- an element of the front stands before one that is not in the front
front-place : (s t : Spot) (a b : List Spot) → Mem s a → ¬ Mem t a → place_of s (a ++ b) < place_of t (a ++ b)
unfolding place_of
front-place s t [] b h k = absurd (no_element h)
front-place s t (u ∷ a) b h k = go (same_spot u s) refl (same_spot u t) refl (front-place s t a b)
  where
    go : (x : Bool) → same_spot u s ≡ x → (y : Bool) → same_spot u t ≡ y → (Mem s a → ¬ Mem t a → place_of s (a ++ b) < place_of t (a ++ b))
        → choose x 0 (suc (place_of s (a ++ b))) < choose y 0 (suc (place_of t (a ++ b)))
    go true e true f again = absurd (k (subst (λ z. Mem z (u ∷ a)) (spot-same u t f) here))
    go true e false f again = omega arith
    go false e true f again = absurd (k (subst (λ z. Mem z (u ∷ a)) (spot-same u t f) here))
    go false e false f again = elim (mem_cases h) [
      | inl q ↦ no_bool (sym (subst (λ z. same_spot u z ≡ true) q (spot_self u)) ∙ e)
      | inr n ↦ let z = again n (λ i. k (there i)) in omega (arith, z)
    ]

upto-split : (d n : ℕ) → d ≤ n → (rest : List ℕ) × (up_to n ≡ up_to d ++ rest)
unfolding up_to
upto-split d zero h = ([], ap up_to (let q : zero ≡ d = omega arith in q) ∙ sym (append-nil (up_to d)))
upto-split d (suc n) h = elim (ℕ_discrete d (suc n)) [
  | yes e ↦ ([], ap up_to (sym e) ∙ sym (append-nil (up_to d)))
  | no e ↦
      let o = upto-split d n (omega arith) in
      (o.0 ++ (suc n ∷ []), ap (λ l. l ++ (suc n ∷ [])) o.1 ∙ append_assoc (up_to d) o.0 (suc n ∷ []))
]

pub map-append : {A B : Type 0} (f : A → B) (a b : List A) → map f (a ++ b) ≡ map f a ++ map f b
map-append f [] b = refl
map-append f (x ∷ a) b = ap (λ l. f x ∷ l) (map-append f a b)

pub each_append : {A B : Type 0} (f : A → List B) (a b : List A) → each (a ++ b) f ≡ each a f ++ each b f
unfolding each
each_append f [] b = refl
each_append f (x ∷ a) b = ap (λ l. f x ++ l) (each_append f a b) ∙ sym (append_assoc (f x) (each a f) (each b f))

-- the items up to one of them
record Split (i d : ℕ) (l : List (ℕ × ℕ)) : Type 0 where
  front : List (ℕ × ℕ)
  rest : List (ℕ × ℕ)
  whole : l ≡ front ++ rest
  has : Mem {A = ℕ × ℕ} (i, d) front
  lacks : ¬ Mem {A = ℕ × ℕ} (i, suc d) front

module _ (L : Limits) (G : Grammar) (W : WellFormed L G) (apart : L.max_terminals < L.nonterminal_base) where
  any : ℕ → Bool
  any i = true

  split-items : (n : ℕ) (l : List Rule) → Run L G any n l → (i d : ℕ) → n ≤ i → i < n + length l → d ≤ length_of L G i → Split i d (items_from n l)
  unfolding items_from
  split-items n [] e i d h u k = absurd (omega arith)
  split-items n (r ∷ l) e i d h u k = elim (ℕ_discrete i n) [
    | yes s ↦
        let w : length r.right ≡ length_of L G i = ap (λ (r : Rule). length r.right) (e.0 ∙ ap (rule L G) (sym s)) in
        let o = upto-split d (length r.right) (omega (arith, w)) in
        let v : ◌≡◌ {A = ℕ × ℕ} (i, d) (n, d) = cc s in
        record {
          front = map (λ d. (n, d)) (up_to d);
          rest = map (λ d. (n, d)) o.0 ++ items_from (suc n) l;
          whole = ap (λ x. map (λ d. (n, d)) x ++ items_from (suc n) l) o.1
              ∙ ap (λ x. x ++ items_from (suc n) l) (map-append (λ d. (n, d)) (up_to d) o.0)
              ∙ append_assoc (map (λ d. (n, d)) (up_to d)) (map (λ d. (n, d)) o.0) (items_from (suc n) l);
          has = (of_map {B = ℕ × ℕ} (up_to d) (λ d. (n, d))).1 (d, upto_in d d (omega arith), v);
          lacks = λ z.
              let q = (of_map {B = ℕ × ℕ} (up_to d) (λ d. (n, d))).0 z in
              let t : suc d ≡ q.0 = ap (λ (c : ℕ × ℕ). c.1) q.2 in
              let y = upto-out d q.0 q.1 in
              omega (arith, t, y);
        }
    | no s ↦
        let o = split-items (suc n) l (subst (λ k. Run L G any k l) (let q : n + 1 ≡ suc n = omega arith in q) e.1) i d (omega arith) (omega arith) k in
        let b : List (ℕ × ℕ) = map (λ d. (n, d)) (up_to (length r.right)) in
        record {
          front = b ++ o.front;
          rest = o.rest;
          whole = ap (λ x. b ++ x) o.whole ∙ sym (append_assoc b o.front o.rest);
          has = mem_right b o.has;
          lacks = λ z. elim (mem_either b o.front z) [
            | inl y ↦
                let q = (of_map {B = ℕ × ℕ} (up_to (length r.right)) (λ d. (n, d))).0 y in
                s (ap (λ (c : ℕ × ℕ). c.0) q.2)
            | inr y ↦ o.lacks y
          ];
        }
  ]

  -- an item's state comes before that of the same item with the dot one further
  pub later_number : (m i d : ℕ) (cs : List (ℕ × ℕ)) → i ≤ length G.rules → d ≤ length_of L G i → Mem cs (chains_of L G m i)
      → number_of L G m (spot i d cs) < number_of L G m (spot i (suc d) cs)
  unfolding spots items
  later_number m i d cs h k c =
      let o = split-items 0 (rule L G 0 ∷ G.rules) (run-zero L G any) i d (omega arith) (omega arith) k in
      let f : ℕ × ℕ → List Spot = at L G W apart m in
      let a : List Spot = first ∷ last ∷ each o.front f in
      let e : spots L G m ≡ a ++ each o.rest f = ap (λ l. first ∷ last ∷ each l f) o.whole ∙ ap (λ l. first ∷ last ∷ l) (each_append f o.front o.rest) in
      subst (λ l. place_of (spot i d cs) l < place_of (spot i (suc d) cs) l) (sym e)
      (front-place (spot i d cs) (spot i (suc d) cs) a (each o.rest f)
      (there (there ((of-each o.front f).1 ((i, d), o.has, (of_map (chains_of L G m i) (spot i d)).1 (cs, c, refl)))))
      (λ z. absent o.front o.lacks z))
    where
      absent : (front : List (ℕ × ℕ)) → ¬ Mem {A = ℕ × ℕ} (i, suc d) front → Mem (spot i (suc d) cs) (first ∷ last ∷ each front (at L G W apart m)) → ⊥
      absent front gone z = elim (mem_cases z) [
        | inl q ↦ no_first L G W apart i (suc d) cs q
        | inr z ↦ elim (mem_cases z) [
          | inl q ↦ no_last L G W apart i (suc d) cs q
          | inr z ↦
              let x = (of-each front (at L G W apart m)).0 z in
              let y = (of_map (chains_of L G m x.0.0) (spot x.0.0 x.0.1)).0 x.2 in
              let p = same-rule L G W apart i x.0.0 (suc d) x.0.1 cs y.0 y.2 in
              let q = same-dot L G W apart i x.0.0 (suc d) x.0.1 cs y.0 y.2 in
              let v : ◌≡◌ {A = ℕ × ℕ} x.0 (i, suc d) = λ k. (sym p k, sym q k) in
              gone (subst (λ c. Mem c front) v x.1)
        ]
      ]
