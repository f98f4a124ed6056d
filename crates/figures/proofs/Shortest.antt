-- The row of fewest indices, computed, comes before every other row to the goal. Assumes nothing.
use Prim.Native.Nat.{ℕ, zero, suc, ◌+◌, ◌≤◌, ◌<◌}
use mathlib.Core.Path.{◌≡◌, refl, sym, ap, subst, ◌∙◌}
use mathlib.Core.Bool.{Bool, true, false}
use mathlib.Core.Logic.{◌⊎◌, inl, inr}
use mathlib.Core.List.{List, [], ◌∷◌, ◌++◌}
use mathlib.Core.Option.{Option, none, some}
use native.Mathlib.Omega.{arith}
use native.Mathlib.Decide.{ℕ_discrete}
use lib.Dec.{eqb}
use lib.ListN.{length}
use borrow.Author.Tests.{eqb-true, eq-eqb}
use Rattle.grammar.specs.Basics.{choose, Mem, here, there, Distinct, more, none as no-doubles}
use Rattle.triple_laws.proofs.Members.{no_element, first_or, distinct_below}
use Rattle.triple_laws.proofs.Pairs.{Pairs, pairs-more}
use Rattle.triples.specs.Shortest.{Lower, ComesBefore, in_front, or_else, first_row, row_of, fewest}

some_inj : {u v : List ℕ} → ◌≡◌ {A = Option (List ℕ)} (some u) (some v) → u ≡ v
some_inj {u} {v} e = ap (λ (o : Option (List ℕ)). get o) e
  where
    get : Option (List ℕ) → List ℕ
    get none = u
    get (some w) = w

no_option : {A : Type 0} {u : List ℕ} → ◌≡◌ {A = Option (List ℕ)} none (some u) → A
no_option {A} e = absurd (subst (λ (o : Option (List ℕ)). is o) e tt)
  where
    is : Option (List ℕ) → Type 0
    is none = Unit {0}
    is (some w) = ⊥

module _ (successors : ℕ → List ℕ) (goal : ℕ) where
  -- the row leads on from i to the goal
  abbrev pub Leads : ℕ → List ℕ → Type 0
  Leads i [] = i ≡ goal
  Leads i (j ∷ w) = Mem j (successors i) × Leads j w

  -- where the first row is found
  record FirstAt (f : ℕ → Option (List ℕ)) (l w : List ℕ) : Type 0 where
    early : List ℕ
    at : ℕ
    late : List ℕ
    rest : List ℕ
    split : l ≡ early ++ (at ∷ late)
    row : w ≡ at ∷ rest
    found : f at ≡ some rest
    before : (j : ℕ) → Mem j early → f j ≡ none

  first-at : (f : ℕ → Option (List ℕ)) (l w : List ℕ) → first_row f l ≡ some w → FirstAt f l w
  unfolding first_row
  first-at f [] w e = no_option e
  first-at f (j ∷ l) w e = go (f j) refl e (first-at f l w)
    where
      go : (o : Option (List ℕ)) → f j ≡ o → or_else (in_front j o) (first_row f l) ≡ some w → (first_row f l ≡ some w → FirstAt f l w) → FirstAt f (j ∷ l) w
      go none q e again =
          let a = again e in
          record {
            early = j ∷ a.early;
            at = a.at;
            late = a.late;
            rest = a.rest;
            split = ap (λ (l : List ℕ). j ∷ l) a.split;
            row = a.row;
            found = a.found;
            before = λ k m. elim (first_or m) [ inl z ↦ ap f z ∙ q | inr n ↦ a.before k n ];
          }
      go (some v) q e again = record {
        early = [];
        at = j;
        late = l;
        rest = v;
        split = refl;
        row = sym (some_inj e);
        found = q;
        before = λ k m. absurd (no_element m);
      }

  first_some : (f : ℕ → Option (List ℕ)) (l : List ℕ) (j : ℕ) (v : List ℕ) → Mem j l → f j ≡ some v → (w : List ℕ) × (first_row f l ≡ some w)
  unfolding first_row
  first_some f (k ∷ l) j v m e = go (f k) refl (first_or m) (λ m. first_some f l j v m e)
    where
      go : (o : Option (List ℕ)) → f k ≡ o → (j ≡ k) ⊎ Mem j l → (Mem j l → (w : List ℕ) × (first_row f l ≡ some w))
          → (w : List ℕ) × (or_else (in_front k o) (first_row f l) ≡ some w)
      go none q (inl z) again = no_option (sym q ∙ ap f (sym z) ∙ e)
      go none q (inr m) again = again m
      go (some u) q m again = (k ∷ u, refl)
  first_some f [] j v m e = elim m [ ]

  -- a row that is found leads to the goal
  row_leads : (m i : ℕ) (w : List ℕ) → row_of successors goal m i ≡ some w → Leads i w × (length w ≡ m)
  unfolding row_of
  row_leads zero i w e = go (eqb i goal) refl e
    where
      go : (b : Bool) → eqb i goal ≡ b → choose b (some []) none ≡ some w → Leads i w × (length w ≡ 0)
      go true q e = subst (λ (w : List ℕ). Leads i w × (length w ≡ 0)) (some_inj e) (eqb-true i goal q, refl)
      go false q e = no_option e
  row_leads (suc m) i w e =
      let a = first-at (row_of successors goal m) (successors i) w e in
      let r = row_leads m a.at a.rest a.found in
      subst (λ (w : List ℕ). Leads i w × (length w ≡ suc m)) (sym a.row) (
        (subst (Mem a.at) (sym a.split) (in-middle a.early a.at a.late), r.0),
        ap suc r.1,
      )
    where
      in-middle : (l : List ℕ) (x : ℕ) (k : List ℕ) → Mem x (l ++ (x ∷ k))
      in-middle [] x k = here
      in-middle (y ∷ l) x k = there (in-middle l x k)

  -- a row that leads to the goal is found, or an earlier one of its length
  leads_row : (w : List ℕ) (i : ℕ) → Leads i w → (v : List ℕ) × (row_of successors goal (length w) i ≡ some v)
  unfolding row_of
  leads_row [] i e = ([], ap (λ (b : Bool). choose b (some []) none) (eq-eqb i goal e))
  leads_row (j ∷ w) i h =
      let r = leads_row w j h.1 in
      first_some (row_of successors goal (length w)) (successors i) j r.0 h.0 r.1

  -- no row from i has fewer than m indices
  abbrev pub NoneBelow : ℕ → ℕ → Type 0
  NoneBelow m i = (w : List ℕ) → Leads i w → m ≤ length w

  -- successors ascend but for the index itself
  abbrev pub Ascend : ℕ → Type 0
  Ascend N = (i : ℕ) → i < N → Pairs (λ a b. ¬ (a ≡ i) → a ≤ b) (successors i)

  later_ones : (R : ℕ → ℕ → Type 0) (l : List ℕ) (x : ℕ) (k : List ℕ) → Pairs R (l ++ (x ∷ k)) → (y : ℕ) → Mem y k → R x y
  later_ones R [] x k (pairs-more r p) y m = r y m
  later_ones R (z ∷ l) x k (pairs-more r p) y m = later_ones R l x k p y m

  where_in : (l : List ℕ) (x : ℕ) (k : List ℕ) (y : ℕ) → Mem y (l ++ (x ∷ k)) → Mem y l ⊎ ((y ≡ x) ⊎ Mem y k)
  where_in [] x k y m = inr (first_or m)
  where_in (z ∷ l) x k y m = elim (first_or m) [
    | inl e ↦ inl (subst (λ (a : ℕ). Mem y (a ∷ l)) e here)
    | inr n ↦ elim (where_in l x k y n) [ inl h ↦ inl (there h) | inr h ↦ inr h ]
  ]

  -- where no row has fewer indices, the row found is the lowest
  row-lowest : (N : ℕ) → Ascend N → ((i j : ℕ) → i < N → Mem j (successors i) → j < N) → (m i : ℕ) (w : List ℕ) → i < N → row_of successors goal m i ≡ some w → NoneBelow m i
      → (v : List ℕ) → Leads i v → length v ≡ m → (w ≡ v) ⊎ Lower w v
  unfolding row_of
  row-lowest N up below zero i w lt e n v h l = none_left w v (row_leads zero i w e).1 l
    where
      none_left : (w v : List ℕ) → length w ≡ 0 → length v ≡ 0 → (w ≡ v) ⊎ Lower w v
      none_left [] [] a b = inl refl
      none_left [] (y ∷ v) a b = absurd (omega arith)
      none_left (x ∷ w) v a b = absurd (omega arith)
  row-lowest N up below (suc m) i w lt e n [] h l = absurd (omega arith)
  row-lowest N up below (suc m) i w lt e n (k ∷ v) h l =
      let a = first-at (row_of successors goal m) (successors i) w e in
      let found = row_leads m a.at a.rest a.found in
      let inside : Mem a.at (successors i) = (row_leads (suc m) i (a.at ∷ a.rest) (subst (λ (w : List ℕ). first_row (row_of successors goal m) (successors i) ≡ some w) a.row e)).0.0 in
      let low : NoneBelow m a.at = λ u q. omega (arith, n (a.at ∷ u) (inside, q)) in
      let self : ¬ (a.at ≡ i) = λ z. omega (arith, n a.rest (subst (λ (x : ℕ). Leads x a.rest) z found.0), found.1) in
      go a low self (where_in a.early a.at a.late k (subst (Mem k) a.split h.0)) (row-lowest N up below m a.at a.rest (below i a.at lt inside) a.found low)
    where
      same : (a : FirstAt (row_of successors goal m) (successors i) w) → k ≡ a.at
          → ((v : List ℕ) → Leads a.at v → length v ≡ m → (a.rest ≡ v) ⊎ Lower a.rest v) → (w ≡ k ∷ v) ⊎ Lower w (k ∷ v)
      same a z again =
          let r = again v (subst (λ (x : ℕ). Leads x v) z h.1) (omega arith) in
          subst (λ (w : List ℕ). (w ≡ k ∷ v) ⊎ Lower w (k ∷ v)) (sym a.row)
          (elim r [ inl q ↦ inl (ap (λ (u : List ℕ). a.at ∷ u) q ∙ ap (λ (x : ℕ). x ∷ v) (sym z)) | inr q ↦ inr (inr (sym z, q)) ])

      go : (a : FirstAt (row_of successors goal m) (successors i) w) → NoneBelow m a.at → ¬ (a.at ≡ i) → Mem k a.early ⊎ ((k ≡ a.at) ⊎ Mem k a.late)
          → ((v : List ℕ) → Leads a.at v → length v ≡ m → (a.rest ≡ v) ⊎ Lower a.rest v) → (w ≡ k ∷ v) ⊎ Lower w (k ∷ v)
      go a low self (inl c) again =
          let r = leads_row v k h.1 in
          let len : length v ≡ m = omega arith in
          no_option (sym (a.before k c) ∙ subst (λ (z : ℕ). row_of successors goal z k ≡ some r.0) len r.1)
      go a low self (inr (inl z)) again = same a z again
      go a low self (inr (inr c)) again =
          let le : a.at ≤ k = later_ones (λ x y. ¬ (x ≡ i) → x ≤ y) a.early a.at a.late (subst (Pairs (λ x y. ¬ (x ≡ i) → x ≤ y)) a.split (up i lt)) k c self in
          elim (ℕ_discrete a.at k) [
            | yes q ↦ same a (sym q) again
            | no q ↦ subst (λ (w : List ℕ). (w ≡ k ∷ v) ⊎ Lower w (k ∷ v)) (sym a.row) (inr (inl (omega (arith, le, q))))
          ]

  -- the rest of a row from the place of one of its indices on
  cut : (x : ℕ) (w : List ℕ) (i : ℕ) → Leads i w → Mem x w → (v : List ℕ) × Leads x v × (length v < length w) × ((y : ℕ) → Mem y v → Mem y w)
  cut x (j ∷ w) i h m = elim (first_or m) [
    | inl e ↦ (w, subst (λ (y : ℕ). Leads y w) (sym e) h.1, omega arith, λ y n. there n)
    | inr n ↦ let c = cut x w j h.1 n in (c.0, c.1, omega (arith, c.2), λ y k. there (c.3 y k))
  ]
  cut x [] i h m = elim m [ ]

  -- a row with as few indices as there can be has none twice
  least_distinct : (w : List ℕ) (i : ℕ) → Leads i w → NoneBelow (length w) i → Distinct (i ∷ w)
  least_distinct [] i h n = more (λ m. no_element m) no-doubles
  least_distinct (j ∷ w) i h n =
      more (λ m. let c = cut i (j ∷ w) i h m in omega (arith, n c.0 c.1, c.2))
      (least_distinct w j h.1 (λ u q. omega (arith, n (j ∷ u) (h.0, q))))

  -- where a row has as few indices as there can be, that many trials find one
  fewest-at : (d m i : ℕ) (w : List ℕ) → Leads i w → length w ≡ m + d → NoneBelow (length w) i → (trials : ℕ) → d < trials
      → fewest successors goal trials m i ≡ row_of successors goal (length w) i
  unfolding fewest
  fewest-at d m i w h e n zero l = absurd (omega arith)
  fewest-at zero m i w h e n (suc trials) l =
      let q : length w ≡ m = omega arith in
      let r = leads_row w i h in
      let z : row_of successors goal m i ≡ some r.0 = subst (λ (k : ℕ). row_of successors goal k i ≡ some r.0) q r.1 in
      ap (λ (o : Option (List ℕ)). or_else o (fewest successors goal trials (suc m) i)) z ∙ sym r.1
  fewest-at (suc d) m i w h e n (suc trials) l = go (row_of successors goal m i) refl (fewest-at d (suc m) i w h (omega arith) n trials (omega arith))
    where
      go : (o : Option (List ℕ)) → row_of successors goal m i ≡ o → fewest successors goal trials (suc m) i ≡ row_of successors goal (length w) i
          → or_else o (fewest successors goal trials (suc m) i) ≡ row_of successors goal (length w) i
      go none q again = again
      go (some v) q again = let r = row_leads m i v q in absurd (omega (arith, n v r.0, r.1))

  -- some row has as few indices as there can be
  fewest-row : (b : ℕ) (w : List ℕ) (i : ℕ) → Leads i w → length w ≤ b → (v : List ℕ) × Leads i v × NoneBelow (length v) i
  fewest-row b w i h l = search b 0 (λ u q. omega arith) (omega arith)
    where
      search : (d m : ℕ) → NoneBelow m i → length w ≤ m + d → (v : List ℕ) × Leads i v × NoneBelow (length v) i
      search zero m n l = (w, h, λ u q. omega (arith, n u q))
      search (suc d) m n l = go (row_of successors goal m i) refl (λ n. search d (suc m) n (omega arith))
        where
          go : (o : Option (List ℕ)) → row_of successors goal m i ≡ o → (NoneBelow (suc m) i → (v : List ℕ) × Leads i v × NoneBelow (length v) i)
              → (v : List ℕ) × Leads i v × NoneBelow (length v) i
          go none q again = again (λ u z. elim (ℕ_discrete (length u) m) [
            | yes e ↦ let r = leads_row u i z in no_option (sym q ∙ subst (λ (k : ℕ). row_of successors goal k i ≡ some r.0) e r.1)
            | no e ↦ omega (arith, n u z, e)
          ])
          go (some v) q again = let r = row_leads m i v q in (v, r.0, λ u z. omega (arith, n u z, r.1))

  -- the row leads on from i to the goal, and comes before every other that does
  pub record Fewest (i : ℕ) (w : List ℕ) : Type 0 where
    pub leads : Leads i w
    pub least : (v : List ℕ) → Leads i v → (w ≡ v) ⊎ ComesBefore w v

  module _ (N : ℕ) (up : Ascend N) (inside : (i j : ℕ) → i < N → Mem j (successors i) → j < N) where
    within : (w : List ℕ) (i : ℕ) → i < N → Leads i w → (y : ℕ) → Mem y (i ∷ w) → y < N
    within [] i l h y m = elim (first_or m) [ inl e ↦ subst (λ (z : ℕ). z < N) (sym e) l | inr n ↦ absurd (no_element n) ]
    within (j ∷ w) i l h y m =
        let again = within w j (inside i j l h.0) h.1 y in
        elim (first_or m) [ inl e ↦ subst (λ (z : ℕ). z < N) (sym e) l | inr n ↦ again n ]

    -- it has no index twice, and all are below N
    pub fewest_distinct : (i : ℕ) → i < N → (w : List ℕ) → Fewest i w → Distinct (i ∷ w) × ((x : ℕ) → Mem x (i ∷ w) → x < N)
    fewest_distinct i l w f =
        (least_distinct w i f.leads (λ v h. elim (f.least v h) [ inl e ↦ omega (arith, ap length e) | inr (inl e) ↦ omega arith | inr (inr e) ↦ omega (arith, e.0) ]), within w i l f.leads)

    pub fewest-found : (i : ℕ) → i < N → (w : List ℕ) → Leads i w → (v : List ℕ) × (fewest successors goal N 0 i ≡ some v) × Fewest i v
    fewest-found i l w h =
        let s = fewest-row (length w) w i h (omega arith) in
        let few : length (i ∷ s.0) ≤ N = distinct_below N (i ∷ s.0) (least_distinct s.0 i s.1 s.2) (within s.0 i l s.1) in
        let r = leads_row s.0 i s.1 in
        let e = fewest-at (length s.0) 0 i s.0 s.1 (omega arith) s.2 N (omega (arith, few)) ∙ r.1 in
        let f = row_leads (length s.0) i r.0 r.1 in (
          r.0,
          e,
          record {
            leads = f.0;
            least = λ v q. elim (ℕ_discrete (length v) (length s.0)) [
              | yes z ↦ elim (row-lowest N up inside (length s.0) i r.0 l r.1 s.2 v q z) [ inl a ↦ inl a | inr a ↦ inr (inr (f.1 ∙ sym z, a)) ]
              | no z ↦ inr (inl (omega (arith, s.2 v q, f.1, z)))
            ];
          },
        )

-- two rows of which each comes before the other
lower_not : (u v : List ℕ) → Lower u v → Lower v u → ⊥
lower_not [] v a b = a
lower_not (x ∷ u) [] a b = a
lower_not (x ∷ u) (y ∷ v) (inl a) (inl b) = omega arith
lower_not (x ∷ u) (y ∷ v) (inl a) (inr b) = omega (arith, b.0)
lower_not (x ∷ u) (y ∷ v) (inr a) (inl b) = omega (arith, a.0)
lower_not (x ∷ u) (y ∷ v) (inr a) (inr b) = lower_not u v a.1 b.1

pub before-not : (u v : List ℕ) → ComesBefore u v → ComesBefore v u → ⊥
before-not u v (inl a) (inl b) = omega arith
before-not u v (inl a) (inr b) = omega (arith, b.0)
before-not u v (inr a) (inl b) = omega (arith, a.0)
before-not u v (inr a) (inr b) = lower_not u v a.1 b.1

-- there is one such row
pub one-fewest : (successors : ℕ → List ℕ) (goal i : ℕ) (u v : List ℕ) → Fewest successors goal i u → Fewest successors goal i v → u ≡ v
one-fewest successors goal i u v a b = elim (a.least v b.leads) [
  | inl e ↦ e
  | inr x ↦ elim (b.least u a.leads) [ inl e ↦ sym e | inr y ↦ absurd (before-not u v x y) ]
]
