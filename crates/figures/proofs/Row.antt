-- The way to the goal in a queue that is in order, turned round, is the row that comes before every other. Assumes nothing.
use mathlib.Core.Path.{◌≡◌, refl, sym, ap, ◌∙◌, subst}
use mathlib.Core.Logic.{◌⊎◌, inl, inr}
use mathlib.Core.List.{List, [], ◌∷◌, ◌++◌, append_assoc}
use Prim.Native.Nat.{ℕ, ◌<◌}
use native.Mathlib.Omega.{arith}
use lib.ListN.{get_or}
use Rattle.grammar.specs.Basics.{Mem}
use Rattle.triples.specs.Shortest.{ComesBefore}
use Rattle.figures.specs.Queue.{InOrder}
use Rattle.figures.proofs.Shortest.{Leads, Fewest}
use Rattle.figures.proofs.Found.{Less, Walk, here, next, Way, way_unique, Best, walk_least, turned, less_before}

-- a row turned round onto another
abbrev pub onto : List ℕ → List ℕ → List ℕ
onto [] u = u
onto (x ∷ v) u = onto v (x ∷ u)

turned-onto : (v u : List ℕ) → turned (onto v u) ≡ turned u ++ v
turned-onto [] u = sym (append_none (turned u))
  where
    append_none : (l : List ℕ) → l ++ [] ≡ l
    append_none [] = refl
    append_none (x ∷ l) = ap (λ (k : List ℕ). x ∷ k) (append_none l)
turned-onto (x ∷ v) u = turned-onto v (x ∷ u) ∙ append_assoc (turned u) (x ∷ []) v

module _ (successors : ℕ → List ℕ) (goal N : ℕ) (inside : (i j : ℕ) → i < N → Mem j (successors i) → j < N) (Next : ℕ → ℕ → Type 0)
    (listed : (i j : ℕ) → i < N → Mem j (successors i) → Next i j) where
  walked : (v : List ℕ) (i : ℕ) → i < N → Leads successors goal i v → (u : List ℕ) → Walk Next i u → Walk Next goal (onto v u)
  walked [] i l h u w = subst (λ (x : ℕ). Walk Next x u) h w
  walked (j ∷ v) i l h u w = walked v j (inside i j l h.0) h.1 (j ∷ u) (next w (listed i j l h.0))

  -- if the way to the goal, turned round, is 0 and a rest, that rest comes before every other
  pub row-fewest : (queue parents : List ℕ) (count : ℕ) → InOrder Next queue parents count → ((k l : ℕ) → k < count → l < count → get_or queue k 0 ≡ get_or queue l 0 → k ≡ l)
      → 0 < N → (place : ℕ) → place < count → get_or queue place 0 ≡ goal → (rest : List ℕ) → Way queue parents place (onto rest (0 ∷ [])) → Leads successors goal 0 rest
      → Fewest successors goal 0 rest
  row-fewest queue parents count o apart some place l e rest way leads = record {
    leads = leads;
    least = λ v h. compare v (walk_least queue parents Next count o (walked v 0 some h (0 ∷ []) here));
  }
    where
      front : (u v : List ℕ) → ComesBefore (0 ∷ u) (0 ∷ v) → ComesBefore u v
      front u v (inl h) = inl (omega arith)
      front u v (inr (h, inl k)) = absurd (omega arith)
      front u v (inr (h, inr k)) = inr (omega arith, k.1)

      tail : (u v : List ℕ) → ◌≡◌ {A = List ℕ} (0 ∷ u) (0 ∷ v) → u ≡ v
      tail u v q = ap rest_of q
        where
          rest_of : List ℕ → List ℕ
          rest_of [] = []
          rest_of (x ∷ w) = w

      compare : (v : List ℕ) → Best queue parents Next count o goal (onto v (0 ∷ [])) → (rest ≡ v) ⊎ ComesBefore rest v
      compare v b =
          let same : b.place ≡ place = apart b.place place b.inside l (b.entry ∙ sym e) in
          let w : b.way ≡ onto rest (0 ∷ []) = way_unique queue parents (subst (λ (k : ℕ). Way queue parents k b.way) same b.is_way) way in
          elim b.least [
            | inl h ↦ inr (front rest v (subst (λ (x : List ℕ). ComesBefore x (0 ∷ v)) (turned-onto rest (0 ∷ [])) (subst (ComesBefore (turned (onto rest (0 ∷ [])))) (turned-onto v (0 ∷ []))
                (less_before (onto rest (0 ∷ [])) (onto v (0 ∷ [])) (subst (λ (x : List ℕ). Less x (onto v (0 ∷ []))) w h)))))
            | inr h ↦ inl (tail rest v (sym (turned-onto rest (0 ∷ [])) ∙ ap turned (sym w ∙ h) ∙ turned-onto v (0 ∷ [])))
          ]
