-- The list of moves alone and of the shift has just those, and, if a shift leads on, rises by any number that puts records that
-- lead back first, left before right, and then goes by the next triple. Assumes nothing.
use Prim.Native.Nat.{ℕ, suc, ◌+◌, ◌*◌, ◌≤◌, ◌<◌}
use mathlib.Core.Path.{◌≡◌, refl, sym, ap, ◌∙◌}
use mathlib.Core.Bool.{Bool, true, false}
use mathlib.Core.List.{List, [], ◌∷◌, ◌++◌}
use mathlib.Core.Logic.{inl, inr}
use native.Mathlib.Omega.{arith}
use lib.Dec.{leb}
use lib.ListN.{get_or}
use borrow.Author.Tests.{leb-true, le-leb}
use Rattle.grammar.specs.Basics.{Mem, here, there, choose}
use Rattle.grammar.specs.Limits.{limits}
use Rattle.grammar.proofs.Answers.{no_bool}
use Rattle.grammar.proofs.Lists.{lt_or_le}
use Rattle.triples.specs.declared.Step.{Step}
use Rattle.triple_laws.proofs.Members.{no_element, first_or, mem_either, mem_left, mem_right, of_map}
use Rattle.triple_laws.proofs.Pairs.{Rising}
use Rattle.moves.specs.Tables.{Ascends}
use Rattle.steps.specs.declared.Sides.{Sides}
use Rattle.steps.specs.Plan.{between, left_to, right_to, shift_of, lefts, rights, above, from_shift, shifted, below, alone}
use Rattle.steps.proofs.Between.{of-between, between_ascends}
use Rattle.steps.proofs.Windows.{Window, window_none, window_append, window_more, window_map}

-- an element of two lists, one after the other
pub either : {A : Type 0} {C : Type 0} {a : A} (l m : List A) → (Mem a l → C) → (Mem a m → C) → Mem a (l ++ m) → C
either l m f g h = elim (mem_either l m h) [ inl k ↦ f k | inr k ↦ g k ]

-- a shift leads on, among Q states
pub record LeadsOn (after : List ℕ) (p q Q : ℕ) : Type 0 where
  pub left-on : p < get_or after p 0
  pub left_in : get_or after p 0 < Q
  pub right-on : q < get_or after q 0
  pub right_in : get_or after q 0 < Q

module _ (number after ls rs : List ℕ) (s : Sides) (x : ℕ) where
  -- a record of a move alone, or of the shift
  pub data Lone (t : Step) : Type 0 where
    lone_left : (u : ℕ) → Mem u ls → t ≡ left_to number s u → Lone t
    lone_right : (v : ℕ) → Mem v rs → t ≡ right_to number s v → Lone t
    lone_shift : 1 ≤ x → t ≡ shift_of after s x → Lone t

  abbrev L' : ℕ → ℕ → List Step
  L' a b = lefts number ls s a b

  abbrev R' : ℕ → ℕ → List Step
  R' a b = rights number rs s a b

  lefts-out : (a b : ℕ) (t : Step) → Mem t (L' a b) → Lone t
  lefts-out a b t m =
      let r = (of_map (between a b ls) (left_to number s)).0 m in lone_left r.0 ((of-between a b ls r.0).0 r.1).0 r.2

  rights-out : (a b : ℕ) (t : Step) → Mem t (R' a b) → Lone t
  rights-out a b t m =
      let r = (of_map (between a b rs) (right_to number s)).0 m in lone_right r.0 ((of-between a b rs r.0).0 r.1).0 r.2

  lefts_in : (a b u : ℕ) → Mem u ls → a ≤ u → u < b → Mem (left_to number s u) (L' a b)
  lefts_in a b u m h k = (of_map (between a b ls) (left_to number s)).1 (u, (of-between a b ls u).1 (m, h, k), refl)

  rights_in : (a b v : ℕ) → Mem v rs → a ≤ v → v < b → Mem (right_to number s v) (R' a b)
  rights_in a b v m h k = (of_map (between a b rs) (right_to number s)).1 (v, (of-between a b rs v).1 (m, h, k), refl)

  -- the state after the left one
  abbrev n : ℕ
  n = get_or after s.left 0

  abbrev A' : ℕ → List Step
  A' a = above number ls s a

  abbrev F' : List Step
  F' = from_shift number after ls s x

  abbrev S' : List Step
  S' = shifted number after ls s x

  abbrev B' : List Step
  B' = below number after ls rs s x

  above-out : (a : ℕ) (t : Step) → Mem t (A' a) → Lone t
  unfolding above
  above-out a t = either (L' a limits.max_states) [] (lefts-out a limits.max_states t) (λ m. absurd (no_element m))

  shift_out : (t : Step) → 1 ≤ x → Mem t F' → Lone t
  unfolding from_shift
  shift_out t h m = elim (first_or m) [ inl e ↦ lone_shift h e | inr m ↦ above-out (n + 1) t m ]

  shifted-out : (t : Step) → Mem t S' → Lone t
  unfolding shifted
  shifted-out t m = go (leb 1 x) refl m
    where
      go : (b : Bool) → leb 1 x ≡ b → Mem t (choose b (L' (s.left + 1) (n + 1) ++ F') (A' (s.left + 1))) → Lone t
      go true e = either (L' (s.left + 1) (n + 1)) F' (lefts-out (s.left + 1) (n + 1) t) (shift_out t (leb-true 1 x e))
      go false e = above-out (s.left + 1) t

  abbrev beyond : List Step
  beyond = R' (s.right + 1) limits.max_states ++ S'

  below_out : (t : Step) → Mem t B' → Lone t
  unfolding below
  below_out t = either (L' 0 s.left) (R' 0 s.right ++ beyond) (lefts-out 0 s.left t)
      (either (R' 0 s.right) beyond (rights-out 0 s.right t)
      (either (R' (s.right + 1) limits.max_states) S' (rights-out (s.right + 1) limits.max_states t) (shifted-out t)))

  -- each record of the list is one of these
  pub alone-out : (t : Step) → Mem t (alone number after ls rs s x) → Lone t
  unfolding alone
  alone-out t = either (L' s.left (s.left + 1)) (R' s.right (s.right + 1) ++ B') (lefts-out s.left (s.left + 1) t)
      (either (R' s.right (s.right + 1)) B' (rights-out s.right (s.right + 1) t) (below_out t))

  -- and each of these is in the list
  below_in : (t : Step) → Mem t B' → Mem t (alone number after ls rs s x)
  unfolding alone
  below_in t m = mem_right (L' s.left (s.left + 1)) (mem_right (R' s.right (s.right + 1)) m)

  shifted_in : (t : Step) → Mem t S' → Mem t (alone number after ls rs s x)
  unfolding below
  shifted_in t m = below_in t (mem_right (L' 0 s.left) (mem_right (R' 0 s.right) (mem_right (R' (s.right + 1) limits.max_states) m)))

  above_in : (a u : ℕ) → Mem u ls → a ≤ u → u < limits.max_states → Mem (left_to number s u) (A' a)
  unfolding above
  above_in a u m h k = mem_left [] (lefts_in a limits.max_states u m h k)

  -- above the state
  left-on : (u : ℕ) → Mem u ls → s.left + 1 ≤ u → u < limits.max_states → Mem (left_to number s u) S'
  unfolding shifted from_shift
  left-on u m h k = go (leb 1 x)
    where
      go : (b : Bool) → Mem (left_to number s u) (choose b (L' (s.left + 1) (n + 1) ++ (shift_of after s x ∷ A' (n + 1))) (A' (s.left + 1)))
      go true = elim (lt_or_le u (n + 1)) [
        | inl i ↦ mem_left (shift_of after s x ∷ A' (n + 1)) (lefts_in (s.left + 1) (n + 1) u m h i)
        | inr i ↦ mem_right (L' (s.left + 1) (n + 1)) (there (above_in (n + 1) u m i k))
      ]
      go false = above_in (s.left + 1) u m h k

  pub alone-left : (u : ℕ) → Mem u ls → u < limits.max_states → Mem (left_to number s u) (alone number after ls rs s x)
  unfolding alone below
  alone-left u m k = elim (lt_or_le u s.left) [
    | inl h ↦ below_in (left_to number s u) (mem_left (R' 0 s.right ++ beyond) (lefts_in 0 s.left u m (omega arith) h))
    | inr h ↦ elim (lt_or_le u (s.left + 1)) [
      | inl i ↦ mem_left (R' s.right (s.right + 1) ++ B') (lefts_in s.left (s.left + 1) u m h i)
      | inr i ↦ shifted_in (left_to number s u) (left-on u m i k)
    ]
  ]

  pub alone-right : (v : ℕ) → Mem v rs → v < limits.max_states → Mem (right_to number s v) (alone number after ls rs s x)
  unfolding alone below
  alone-right v m k = elim (lt_or_le v s.right) [
    | inl h ↦ below_in (right_to number s v) (mem_right (L' 0 s.left) (mem_left beyond (rights_in 0 s.right v m (omega arith) h)))
    | inr h ↦ elim (lt_or_le v (s.right + 1)) [
      | inl i ↦ mem_right (L' s.left (s.left + 1)) (mem_left B' (rights_in s.right (s.right + 1) v m h i))
      | inr i ↦ below_in (right_to number s v)
          (mem_right (L' 0 s.left) (mem_right (R' 0 s.right) (mem_left S' (rights_in (s.right + 1) limits.max_states v m i k))))
    ]
  ]

  shift_in : 1 ≤ x → Mem (shift_of after s x) S'
  unfolding shifted from_shift
  shift_in h = go (leb 1 x) refl
    where
      go : (b : Bool) → leb 1 x ≡ b → Mem (shift_of after s x) (choose b (L' (s.left + 1) (n + 1) ++ (shift_of after s x ∷ A' (n + 1))) (A' (s.left + 1)))
      go true e = mem_right (L' (s.left + 1) (n + 1)) here
      go false e = no_bool (sym (le-leb 1 x h) ∙ e)

  pub alone_shift : 1 ≤ x → Mem (shift_of after s x) (alone number after ls rs s x)
  alone_shift h = shifted_in (shift_of after s x) (shift_in h)

  -- a number for each record: 0 and 1 lead back; else X, the number of the next triple, counts
  pub record Ranked (P : Step → ℕ) (Q : ℕ) : Type 0 where
    pub X : ℕ → ℕ → ℕ
    pub row : (u u' v v' : ℕ) → u < u' → v < Q → X u v < X u' v'
    pub col : (u v v' : ℕ) → v < v' → X u v < X u v'
    pub top : (u v : ℕ) → u ≤ Q → v ≤ Q → X u v ≤ X Q Q
    pub left_self : P (left_to number s s.left) ≡ 0
    pub right_self : P (right_to number s s.right) ≡ 1
    pub left_other : (u : ℕ) → ¬ (u ≡ s.left) → P (left_to number s u) ≡ 2 * suc (X u s.right)
    pub right-other : (v : ℕ) → ¬ (v ≡ s.right) → P (right_to number s v) ≡ 2 * suc (X s.left v) + 1
    pub shift_rank : 1 ≤ x → P (shift_of after s x) ≡ 2 * suc (X n (get_or after s.right 0))

  module _ (P : Step → ℕ) (Q : ℕ) (K : Ranked P Q) (hp : s.left < Q) (hq : s.right < Q) (al : Ascends 0 Q ls) (ar : Ascends 0 Q rs)
      (on : 1 ≤ x → LeadsOn after s.left s.right Q) where
    abbrev p : ℕ
    p = s.left

    abbrev q : ℕ
    q = s.right

    -- the state after the right one
    abbrev o : ℕ
    o = get_or after s.right 0

    -- twice one more than the number of the triple
    abbrev c : ℕ → ℕ → ℕ
    c u v = 2 * suc (K.X u v)

    level : (u v w : ℕ) → v ≤ w → K.X u v ≤ K.X u w
    level u v w h = elim (lt_or_le v w) [
      | inl k ↦ omega (arith, K.col u v w k)
      | inr k ↦ let e : v ≡ w = omega arith in omega (arith, ap (K.X u) e)
    ]

    left_window : (a b d e lo hi : ℕ) → Ascends d e (between a b ls) → ((u : ℕ) → d ≤ u → u < e → ¬ (u ≡ p))
        → ((u : ℕ) → d ≤ u → u < e → (lo ≤ c u q) × (c u q < hi)) → Window P lo hi (L' a b)
    left_window a b d e lo hi w n h = window_map P (left_to number s) lo hi d e (between a b ls) w
        (λ u i j. let z = K.left_other u (n u i j) in let y = h u i j in (omega (arith, z, y.0), omega (arith, z, y.1)))
        (λ u v i j k. omega (arith, K.left_other u (n u i (omega arith)), K.left_other v (n v (omega arith) k), K.row u v q q j hq))

    right_window : (a b d e lo hi : ℕ) → Ascends d e (between a b rs) → ((v : ℕ) → d ≤ v → v < e → ¬ (v ≡ q))
        → ((v : ℕ) → d ≤ v → v < e → (lo ≤ c p v + 1) × (c p v + 1 < hi)) → Window P lo hi (R' a b)
    right_window a b d e lo hi w n h = window_map P (right_to number s) lo hi d e (between a b rs) w
        (λ v i j. let z = K.right-other v (n v i j) in let y = h v i j in (omega (arith, z, y.0), omega (arith, z, y.1)))
        (λ u v i j k. omega (arith, K.right-other u (n u i (omega arith)), K.right-other v (n v (omega arith) k), K.col p u v j))

    self_left : Window P 0 1 (L' p (p + 1))
    self_left = window_map P (left_to number s) 0 1 p (p + 1) (between p (p + 1) ls)
        (between_ascends p (p + 1) ls p (p + 1) 0 Q al (inr (omega arith)) (inr (omega arith)))
        (λ u i j. let e : u ≡ p = omega arith in let z = ap (λ (u : ℕ). P (left_to number s u)) e in
        (omega arith, omega (arith, z, K.left_self)))
        (λ u v i j k. absurd (omega arith))

    self_right : Window P 1 2 (R' q (q + 1))
    self_right = window_map P (right_to number s) 1 2 q (q + 1) (between q (q + 1) rs)
        (between_ascends q (q + 1) rs q (q + 1) 0 Q ar (inr (omega arith)) (inr (omega arith)))
        (λ v i j. let e : v ≡ q = omega arith in let z = ap (λ (v : ℕ). P (right_to number s v)) e in
        (omega (arith, z, K.right_self), omega (arith, z, K.right_self)))
        (λ u v i j k. absurd (omega arith))

    left_below : Window P 2 (c p 0) (L' 0 p)
    left_below = left_window 0 p 0 p 2 (c p 0) (between_ascends 0 p ls 0 p 0 Q al (inr (omega arith)) (inr (omega arith)))
        (λ u i j e. omega arith) (λ u i j. (omega arith, omega (arith, K.row u p q 0 j hq)))

    right-below : Window P (c p 0) (c p q) (R' 0 q)
    right-below = right_window 0 q 0 q (c p 0) (c p q) (between_ascends 0 q rs 0 q 0 Q ar (inr (omega arith)) (inr (omega arith)))
        (λ v i j e. omega arith) (λ v i j. (omega (arith, level p 0 v i), omega (arith, K.col p v q j)))

    right-above : Window P (c p q) (c (p + 1) 0) (R' (q + 1) limits.max_states)
    right-above = right_window (q + 1) limits.max_states (q + 1) Q (c p q) (c (p + 1) 0)
        (between_ascends (q + 1) limits.max_states rs (q + 1) Q 0 Q ar (inr (omega arith)) (inl (omega arith)))
        (λ v i j e. omega arith) (λ v i j. (omega (arith, K.col p q v (omega arith)), omega (arith, K.row p (p + 1) v 0 (omega arith) j)))

    -- from a on, above p
    left-above : (a lo : ℕ) → p < a → ((u : ℕ) → a ≤ u → lo ≤ c u q) → lo ≤ c Q Q + 1 → Window P lo (c Q Q + 1) (A' a)
    unfolding above
    left-above a lo l h k = window_append (L' a limits.max_states) [] k (omega arith)
        (left_window a limits.max_states a Q lo (c Q Q + 1)
        (between_ascends a limits.max_states ls a Q 0 Q al (inr (omega arith)) (inl (omega arith)))
        (λ u i j e. omega arith)
        (λ u i j. (h u i, omega (arith, K.top u q (omega arith) (omega arith)))))
        (window_none P (c Q Q + 1) (c Q Q + 1))

    onward : (u : ℕ) → p + 1 ≤ u → c (p + 1) 0 ≤ c u q
    onward u h = elim (lt_or_le (p + 1) u) [
      | inl k ↦ omega (arith, K.row (p + 1) u 0 q k (omega arith))
      | inr k ↦ let e : p + 1 ≡ u = omega arith in omega (arith, level (p + 1) 0 q (omega arith), ap (λ (u : ℕ). K.X u q) e)
    ]

    up_to : (u v : ℕ) → u ≤ v → c u q ≤ c v q
    up_to u v h = elim (lt_or_le u v) [
      | inl k ↦ omega (arith, K.row u v q q k hq)
      | inr k ↦ let e : u ≡ v = omega arith in omega (arith, ap (λ (u : ℕ). K.X u q) e)
    ]

    -- the left side moves as far as the shift does
    left_near : p < n → Window P (c (p + 1) 0) (c n q + 1) (L' (p + 1) (n + 1))
    left_near h = left_window (p + 1) (n + 1) (p + 1) (n + 1) (c (p + 1) 0) (c n q + 1)
        (between_ascends (p + 1) (n + 1) ls (p + 1) (n + 1) 0 Q al (inr (omega arith)) (inr (omega arith)))
        (λ u i j e. omega arith) (λ u i j. (onward u i, omega (arith, up_to u n (omega arith))))

    -- the shift, and what is past it
    from_shift_lem : 1 ≤ x → LeadsOn after p q Q → Window P (c n q + 1) (c Q Q + 1) F'
    unfolding from_shift
    from_shift_lem h w =
        let r = K.shift_rank h in
        let k = K.top n o (omega (arith, w.left_in)) (omega (arith, w.right_in)) in
        let j = K.col n q o w.right-on in
        window_more {b = c n o + 1} (shift_of after s x) (A' (n + 1)) (omega (arith, r, j)) (omega (arith, r))
        (left-above (n + 1) (c n o + 1) (omega (arith, w.left-on)) (λ u i. omega (arith, K.row n u o q (omega arith) w.right_in)) (omega (arith, k))) (omega (arith, k))

    all_above : Window P (c (p + 1) 0) (c Q Q + 1) S'
    unfolding shifted
    all_above = go (leb 1 x) refl
      where
        go : (b : Bool) → leb 1 x ≡ b → Window P (c (p + 1) 0) (c Q Q + 1) (choose b (L' (p + 1) (n + 1) ++ F') (A' (p + 1)))
        go true e =
            let h = leb-true 1 x e in
            let w = on h in
            window_append (L' (p + 1) (n + 1)) F' (omega (arith, onward n (omega (arith, w.left-on))))
            (omega (arith, K.top n q (omega (arith, w.left_in)) (omega arith))) (left_near w.left-on) (from_shift_lem h w)
        go false e =
            left-above (p + 1) (c (p + 1) 0) (omega arith) onward (omega (arith, K.top (p + 1) 0 (omega arith) (omega arith)))

    -- the list rises
    pub alone_rises : Rising P (alone number after ls rs s x)
    unfolding alone below
    alone_rises =
        let k0 = K.top (p + 1) 0 (omega arith) (omega arith) in
        let k2 = K.row p (p + 1) q 0 (omega arith) hq in
        let k3 = level p 0 q (omega arith) in
        let a1 = window_append (R' (q + 1) limits.max_states) S' (omega arith) (omega arith) right-above all_above in
        let a2 = window_append (R' 0 q) beyond (omega arith) (omega arith) right-below a1 in
        let a3 = window_append (L' 0 p) (R' 0 q ++ beyond) (omega arith) (omega arith) left_below a2 in
        let a4 = window_append (R' q (q + 1)) B' (omega arith) (omega arith) self_right a3 in
        let a5 = window_append (L' p (p + 1)) (R' q (q + 1) ++ B') (omega arith) (omega arith) self_left a4 in
        a5.rises
