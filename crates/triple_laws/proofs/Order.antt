-- The step records of a triple stand in ascending order of their key, and ordering neither adds nor drops nor doubles a record.
-- Assumes nothing.
use Prim.Native.Nat.{ℕ, ◌≤◌, ◌<◌}
use mathlib.Core.Path.{◌≡◌, refl, sym, ap, subst}
use mathlib.Core.Bool.{Bool, true, false, ◌&&◌}
use mathlib.Core.List.{List, [], ◌∷◌}
use mathlib.Core.Logic.{◌⊎◌, inl, inr, ◌↔◌}
use native.Mathlib.Omega.{arith}
use lib.Dec.{leb, ltb}
use borrow.Author.Tests.{leb-true, leb-false}
use Rattle.grammar.specs.Basics.{choose, Mem, here, there, Distinct, none, more, when}
use Rattle.automaton.specs.Moves.{Moves}
use Rattle.triples.specs.Index.{index}
use Rattle.triples.specs.Records.{choices, key, insert, ordered, records}
use Rattle.triples.specs.declared.Step.{Step}
use Rattle.triple_laws.proofs.Members.{no_element, first_or, one_only}
use Rattle.triple_laws.proofs.Pairs.{Pairs, pairs-none, pairs-more, Ascending}

module _ (M : Moves) where
  insert-out : (i : ℕ) (a s : Step) (l : List Step) → Mem a (insert M i s l) → (a ≡ s) ⊎ Mem a l
  unfolding insert
  insert-out i a s [] m = first_or m
  insert-out i a s (t ∷ ts) m = go (leb (key M i s) (key M i t)) m (insert-out i a s ts)
    where
      back : (a ≡ s) ⊎ Mem a ts → (a ≡ s) ⊎ Mem a (t ∷ ts)
      back (inl e) = inl e
      back (inr k) = inr (there k)

      on : (a ≡ t) ⊎ Mem a (insert M i s ts) → (Mem a (insert M i s ts) → (a ≡ s) ⊎ Mem a ts) → (a ≡ s) ⊎ Mem a (t ∷ ts)
      on (inl e) again = inr (subst (λ t. Mem a (t ∷ ts)) e here)
      on (inr k) again = back (again k)

      go : (b : Bool) → Mem a (choose b (s ∷ t ∷ ts) (t ∷ insert M i s ts)) → (Mem a (insert M i s ts) → (a ≡ s) ⊎ Mem a ts)
          → (a ≡ s) ⊎ Mem a (t ∷ ts)
      go true m again = first_or m
      go false m again = on (first_or m) again

  insert_in : (i : ℕ) (a s : Step) (l : List Step) → (a ≡ s) ⊎ Mem a l → Mem a (insert M i s l)
  unfolding insert
  insert_in i a s [] (inl e) = one_only e
  insert_in i a s [] (inr m) = there m
  insert_in i a s (t ∷ ts) m = go (leb (key M i s) (key M i t)) m (insert_in i a s ts)
    where
      first : (b : Step) (l : List Step) → (a ≡ b) ⊎ Mem a l → Mem a (b ∷ l)
      first b l (inl e) = subst (λ b. Mem a (b ∷ l)) e here
      first b l (inr k) = there k

      on : (a ≡ s) ⊎ Mem a (t ∷ ts) → (a ≡ t) ⊎ ((a ≡ s) ⊎ Mem a ts)
      on (inl e) = inr (inl e)
      on (inr k) = elim (first_or k) [ inl e ↦ inl e | inr k ↦ inr (inr k) ]

      rest : (a ≡ t) ⊎ ((a ≡ s) ⊎ Mem a ts) → ((a ≡ s) ⊎ Mem a ts → Mem a (insert M i s ts)) → Mem a (t ∷ insert M i s ts)
      rest (inl e) again = first t (insert M i s ts) (inl e)
      rest (inr k) again = there (again k)

      go : (b : Bool) → (a ≡ s) ⊎ Mem a (t ∷ ts) → ((a ≡ s) ⊎ Mem a ts → Mem a (insert M i s ts))
          → Mem a (choose b (s ∷ t ∷ ts) (t ∷ insert M i s ts))
      go true m again = first s (t ∷ ts) m
      go false m again = rest (on m) again

  ordered-out : (i : ℕ) (a : Step) (l : List Step) → Mem a (ordered M i l) → Mem a l
  unfolding ordered
  ordered-out i a [] m = m
  ordered-out i a (s ∷ l) m = elim (insert-out i a s (ordered M i l) m) [
    | inl e ↦ subst (λ s. Mem a (s ∷ l)) e here
    | inr k ↦ there (ordered-out i a l k)
  ]

  ordered_in : (i : ℕ) (a : Step) (l : List Step) → Mem a l → Mem a (ordered M i l)
  unfolding ordered
  ordered_in i a (s ∷ l) m = insert_in i a s (ordered M i l) (go (first_or m) (ordered_in i a l))
    where
      go : (a ≡ s) ⊎ Mem a l → (Mem a l → Mem a (ordered M i l)) → (a ≡ s) ⊎ Mem a (ordered M i l)
      go (inl e) again = inl e
      go (inr k) again = inr (again k)
  ordered_in i a [] m = elim m [ ]

  -- the ordered list has the same elements
  pub of-ordered : (i : ℕ) (a : Step) (l : List Step) → Mem a (ordered M i l) ↔ Mem a l
  of-ordered i a l = (ordered-out i a l, ordered_in i a l)

  insert_ascends : (i : ℕ) (s : Step) (l : List Step) → Ascending (key M i) l → Ascending (key M i) (insert M i s l)
  unfolding insert
  insert_ascends i s [] pairs-none = pairs-more (λ b m. absurd (no_element m)) pairs-none
  insert_ascends i s (t ∷ ts) (pairs-more low up) =
      go (leb (key M i s) (key M i t)) refl (insert_ascends i s ts up)
    where
      above : (n : ℕ) → n ≤ key M i t → (b : Step) → (b ≡ t) ⊎ Mem b ts → n ≤ key M i b
      above n h b (inl e) = subst (λ b. n ≤ key M i b) (sym e) h
      above n h b (inr m) = let k = low b m in omega arith

      between : key M i t ≤ key M i s → (b : Step) → (b ≡ s) ⊎ Mem b ts → key M i t ≤ key M i b
      between h b (inl e) = subst (λ b. key M i t ≤ key M i b) (sym e) h
      between h b (inr m) = low b m

      go : (b : Bool) → leb (key M i s) (key M i t) ≡ b → Ascending (key M i) (insert M i s ts)
          → Ascending (key M i) (choose b (s ∷ t ∷ ts) (t ∷ insert M i s ts))
      go true e again =
          let h = leb-true (key M i s) (key M i t) e in
          pairs-more (λ b m. above (key M i s) h b (first_or m)) (pairs-more low up)
      go false e again =
          let h = leb-false (key M i s) (key M i t) e in
          pairs-more (λ b m. between (omega arith) b (insert-out i b s ts m)) again

  -- the ordered list ascends
  pub ordered_ascends : (i : ℕ) (l : List Step) → Ascending (key M i) (ordered M i l)
  unfolding ordered
  ordered_ascends i [] = pairs-none
  ordered_ascends i (s ∷ l) = insert_ascends i s (ordered M i l) (ordered_ascends i l)

  -- the step records of a triple ascend by their key: first those that lead back to the triple, then the others by next index
  pub records_ascend : (f p q : ℕ) → Ascending (key M (index M.states f p q)) (records M f p q)
  unfolding records
  records_ascend f p q = go (index M.states f p q) (ltb p M.states && ltb q M.states)
    where
      go : (i : ℕ) (b : Bool) → Ascending (key M i) (when b (ordered M i (choices M f p q)))
      go i true = ordered_ascends i (choices M f p q)
      go i false = pairs-none

  insert_keeps : (R : Step → Step → Type 0) (i : ℕ) (s : Step) (l : List Step)
      → ((t : Step) → Mem t l → key M i s ≡ key M i t → R s t)
      → Pairs (λ s t. key M i s ≡ key M i t → R s t) l → Pairs (λ s t. key M i s ≡ key M i t → R s t) (insert M i s l)
  unfolding insert
  insert_keeps R i s [] r pairs-none = pairs-more (λ t m. absurd (no_element m)) pairs-none
  insert_keeps R i s (t ∷ ts) r (pairs-more low up) =
      go (leb (key M i s) (key M i t)) refl (insert_keeps R i s ts (λ u m. r u (there m)) up)
    where
      past : key M i t < key M i s → (u : Step) → (u ≡ s) ⊎ Mem u ts → key M i t ≡ key M i u → R t u
      past h u (inl e) q = let z : key M i u ≡ key M i s = ap (key M i) e in absurd (omega arith)
      past h u (inr m) q = low u m q

      go : (b : Bool) → leb (key M i s) (key M i t) ≡ b → Pairs (λ s t. key M i s ≡ key M i t → R s t) (insert M i s ts)
          → Pairs (λ s t. key M i s ≡ key M i t → R s t) (choose b (s ∷ t ∷ ts) (t ∷ insert M i s ts))
      go true e again = pairs-more r (pairs-more low up)
      go false e again = pairs-more (λ u m. past (leb-false (key M i s) (key M i t) e) u (insert-out i u s ts m)) again

  -- records of one key keep their order
  pub ordered_keeps : (R : Step → Step → Type 0) (i : ℕ) (l : List Step) → Pairs (λ s t. key M i s ≡ key M i t → R s t) l
      → Pairs (λ s t. key M i s ≡ key M i t → R s t) (ordered M i l)
  unfolding ordered
  ordered_keeps R i [] pairs-none = pairs-none
  ordered_keeps R i (s ∷ l) (pairs-more r up) =
      insert_keeps R i s (ordered M i l) (λ t m. r t (ordered-out i t l m)) (ordered_keeps R i l up)

  insert_distinct : (i : ℕ) (s : Step) (l : List Step) → ¬ Mem s l → Distinct l → Distinct (insert M i s l)
  unfolding insert
  insert_distinct i s [] new none = more (λ m. no_element m) none
  insert_distinct i s (t ∷ ts) new (more old d) =
      go (leb (key M i s) (key M i t)) (insert_distinct i s ts (λ m. new (there m)) d)
    where
      fresh : (t ≡ s) ⊎ Mem t ts → ⊥
      fresh (inl e) = new (subst (λ t. Mem s (t ∷ ts)) (sym e) here)
      fresh (inr m) = old m

      go : (b : Bool) → Distinct (insert M i s ts) → Distinct (choose b (s ∷ t ∷ ts) (t ∷ insert M i s ts))
      go true again = more new (more old d)
      go false again = more (λ m. fresh (insert-out i t s ts m)) again

  -- a list without doubles is ordered to one without doubles
  pub ordered_distinct : (i : ℕ) (l : List Step) → Distinct l → Distinct (ordered M i l)
  unfolding ordered
  ordered_distinct i [] none = none
  ordered_distinct i (s ∷ l) (more new d) =
      insert_distinct i s (ordered M i l) (λ m. new (ordered-out i s l m)) (ordered_distinct i l d)
