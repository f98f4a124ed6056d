-- The step records of a triple are exactly its steps, and its listed successors are exactly its successors, which are in range.
-- A law in `↔` is a pair, `.0` from the list to the steps and `.1` back.
-- Assumes nothing.
use Prim.Native.Nat.{ℕ, zero, suc, ◌<◌}
use mathlib.Core.Path.{◌≡◌, refl, sym, ap, subst, ◌∙◌}
use mathlib.Core.Bool.{true, not, ◌&&◌}
use mathlib.Core.List.{List, [], ◌∷◌, ◌++◌}
use mathlib.Core.Logic.{◌⊎◌, inl, inr, ◌↔◌}
use native.Mathlib.Omega.{arith}
use lib.Dec.{eqb, leb}
use borrow.Author.Tests.{leb-true, eqb-true, eqb-false, le-leb, eq-eqb, ne_eqb, not-true}
use Rattle.grammar.specs.Basics.{Mem, here, when, each}
use Rattle.grammar.specs.Grammar.{Terminal}
use Rattle.grammar.proofs.Answers.{and_both, both_and}
use Rattle.grammar.proofs.Plain.{is_terminal_lem}
use Rattle.automaton.specs.Moves.{Moves, terminal_ahead, listed}
use Rattle.triples.specs.Successor.{BeforeTerminal, StepTo, open_left, open_right, shift_both, part-both, part_left, part_right}
use Rattle.triples.specs.Successor.{close-left, close-right, read-both}
use Rattle.triples.specs.Records.{step, left_alone, right_alone, both_shift, both_close, choices}
use Rattle.triples.specs.declared.Move.{Move}
use Rattle.triples.specs.declared.Move.TheVariants.{Opening, Closing, Symbol, Still}
use Rattle.triples.specs.declared.Step.{Step}
use Rattle.triple_laws.proofs.Members.{only_one, one_only, mem_left, mem_right, mem_either, under-test, of-each, of_map}

-- five lists, and six, one after the other
of_five : {A : Type 0} {x : A} (a b c d e : List A)
    → Mem x (a ++ b ++ c ++ d ++ e) ↔ (Mem x a ⊎ Mem x b ⊎ Mem x c ⊎ Mem x d ⊎ Mem x e)
of_five {A} {x} a b c d e = (to, from)
  where
    to : Mem x (a ++ b ++ c ++ d ++ e) → Mem x a ⊎ Mem x b ⊎ Mem x c ⊎ Mem x d ⊎ Mem x e
    to h = elim (mem_either (a ++ b ++ c ++ d) e h) [
      | inr k ↦ inr (inr (inr (inr k)))
      | inl h ↦ elim (mem_either (a ++ b ++ c) d h) [
        | inr k ↦ inr (inr (inr (inl k)))
        | inl h ↦ elim (mem_either (a ++ b) c h) [
          | inr k ↦ inr (inr (inl k))
          | inl h ↦ elim (mem_either a b h) [ inr k ↦ inr (inl k) | inl k ↦ inl k ]
        ]
      ]
    ]

    from : Mem x a ⊎ Mem x b ⊎ Mem x c ⊎ Mem x d ⊎ Mem x e → Mem x (a ++ b ++ c ++ d ++ e)
    from (inl k) = mem_left e (mem_left d (mem_left c (mem_left b k)))
    from (inr (inl k)) = mem_left e (mem_left d (mem_left c (mem_right a k)))
    from (inr (inr (inl k))) = mem_left e (mem_left d (mem_right (a ++ b) k))
    from (inr (inr (inr (inl k)))) = mem_left e (mem_right (a ++ b ++ c) k)
    from (inr (inr (inr (inr k)))) = mem_right (a ++ b ++ c ++ d) k

of-six : {A : Type 0} {x : A} (a b c d e f : List A)
    → Mem x (a ++ b ++ c ++ d ++ e ++ f) ↔ (Mem x f ⊎ Mem x a ⊎ Mem x b ⊎ Mem x c ⊎ Mem x d ⊎ Mem x e)
of-six {A} {x} a b c d e f = (to, from)
  where
    to : Mem x (a ++ b ++ c ++ d ++ e ++ f) → Mem x f ⊎ Mem x a ⊎ Mem x b ⊎ Mem x c ⊎ Mem x d ⊎ Mem x e
    to h = elim (mem_either (a ++ b ++ c ++ d ++ e) f h) [ inr k ↦ inl k | inl k ↦ inr ((of_five a b c d e).0 k) ]

    from : Mem x f ⊎ Mem x a ⊎ Mem x b ⊎ Mem x c ⊎ Mem x d ⊎ Mem x e → Mem x (a ++ b ++ c ++ d ++ e ++ f)
    from (inl k) = mem_right (a ++ b ++ c ++ d ++ e) k
    from (inr k) = mem_left f ((of_five a b c d e).1 k)

-- the record in which both close, unequal rules
abbrev pub closes_both : ℕ × ℕ → ℕ × ℕ → List Step
closes_both m n = when (not (eqb m.0 n.0)) (step 1 m.1 n.1 (Closing m.0) (Closing n.0) ∷ [])

module _ (M : Moves) where
  -- the records of moves of the left side alone
  pub left_alone_lem : {s : Step} (f q : ℕ) (kind : ℕ → Move) (moves : List (ℕ × ℕ))
      → Mem s (left_alone f q kind moves) ↔ ((m : ℕ × ℕ) × Mem m moves × (s ≡ step f m.1 q (kind m.0) Still))
  unfolding left_alone
  left_alone_lem f q kind moves = of_map moves (λ m. step f m.1 q (kind m.0) Still)

  -- the records of moves of the right side alone
  pub right-alone : {s : Step} (f p : ℕ) (kind : ℕ → Move) (moves : List (ℕ × ℕ))
      → Mem s (right_alone f p kind moves) ↔ ((m : ℕ × ℕ) × Mem m moves × (s ≡ step f p m.1 Still (kind m.0)))
  unfolding right_alone
  right-alone f p kind moves = of_map moves (λ m. step f p m.1 Still (kind m.0))

  -- of a triple's choices the part in which the left side opens
  abbrev pub opens_left : ℕ → ℕ → ℕ → List Step
  opens_left f p q = left_alone f q (λ i. Opening i) (M.openings p)

  -- the right side opens
  abbrev pub opens_right : ℕ → ℕ → ℕ → List Step
  opens_right f p q = right_alone f p (λ i. Opening i) (M.openings q)

  -- the left side closes
  abbrev pub closes_left : ℕ → ℕ → List Step
  closes_left p q = left_alone 1 q (λ i. Closing i) (M.closings p)

  -- the right side closes
  abbrev pub closes_right : ℕ → ℕ → List Step
  closes_right p q = right_alone 1 p (λ i. Closing i) (M.closings q)

  -- a step record as a step
  abbrev Goes : ℕ → ℕ → ℕ → Step → Type 0
  Goes f p q s = StepTo (listed M) f p q s.layer s.left s.right s.on_left s.on_right

  -- a terminal is ahead of a state exactly where the state stands before a terminal
  pub terminal-ahead : (p : ℕ) → (terminal_ahead M p ≡ true) ↔ BeforeTerminal (listed M) p
  terminal-ahead p = (to, from)
    where
      to : terminal_ahead M p ≡ true → BeforeTerminal (listed M) p
      to e = let t = (is_terminal_lem M.terminals (M.ahead p)).0 e in (M.ahead p, t, (M.after p, (refl, t.0, refl)))

      from : BeforeTerminal (listed M) p → terminal_ahead M p ≡ true
      from (a, t, (q, s)) = (is_terminal_lem M.terminals (M.ahead p)).1 (subst (Terminal M.terminals) (sym s.0) t)

  opens-left : (f p q : ℕ) (s : Step) → Mem s (opens_left f p q) → Goes f p q s
  opens-left f p q s h =
      let o = (left_alone_lem f q (λ i. Opening i) (M.openings p)).0 h in
      subst (Goes f p q) (sym o.2) (open_left o.1)

  opens-right : (f p q : ℕ) (s : Step) → Mem s (opens_right f p q) → Goes f p q s
  opens-right f p q s h =
      let o = (right-alone f p (λ i. Opening i) (M.openings q)).0 h in
      subst (Goes f p q) (sym o.2) (open_right o.1)

  closes-left : (p q : ℕ) (s : Step) → Mem s (closes_left p q)
      → (i p' : ℕ) × (listed M).Closes i p p' × (s ≡ step 1 p' q (Closing i) Still)
  closes-left p q s h =
      let o = (left_alone_lem 1 q (λ i. Closing i) (M.closings p)).0 h in
      (o.0.0, o.0.1, o.1, o.2)

  closes-right : (p q : ℕ) (s : Step) → Mem s (closes_right p q)
      → (i q' : ℕ) × (listed M).Closes i q q' × (s ≡ step 1 p q' Still (Closing i))
  closes-right p q s h =
      let o = (right-alone 1 p (λ i. Closing i) (M.closings q)).0 h in
      (o.0.0, o.0.1, o.1, o.2)

  opens-left_in : (f p q i p' : ℕ) → Mem {A = ℕ × ℕ} (i, p') (M.openings p)
      → Mem (step f p' q (Opening i) Still) (opens_left f p q)
  opens-left_in f p q i p' m = (left_alone_lem f q (λ i. Opening i) (M.openings p)).1 ((i, p'), m, refl)

  opens-right_in : (f p q i q' : ℕ) → Mem {A = ℕ × ℕ} (i, q') (M.openings q)
      → Mem (step f p q' Still (Opening i)) (opens_right f p q)
  opens-right_in f p q i q' m = (right-alone f p (λ i. Opening i) (M.openings q)).1 ((i, q'), m, refl)

  closes-left_in : (p q i p' : ℕ) → (listed M).Closes i p p' → Mem (step 1 p' q (Closing i) Still) (closes_left p q)
  closes-left_in p q i p' c =
      (left_alone_lem 1 q (λ i. Closing i) (M.closings p)).1 ((i, p'), c, refl)

  closes-right_in : (p q i q' : ℕ) → (listed M).Closes i q q' → Mem (step 1 p q' Still (Closing i)) (closes_right p q)
  closes-right_in p q i q' c =
      (right-alone 1 p (λ i. Closing i) (M.closings q)).1 ((i, q'), c, refl)

  -- both shift the code ahead
  shift_out : (f p q : ℕ) (s : Step) → Mem s (both_shift M f p q)
      → (listed M).Shifts (M.ahead p) p (M.after p) × (listed M).Shifts (M.ahead p) q (M.after q)
      × (s ≡ step f (M.after p) (M.after q) (Symbol (M.ahead p)) (Symbol (M.ahead p)))
  unfolding both_shift
  shift_out f p q s h =
      let x = M.ahead p in
      let u = (under-test (leb 1 x && eqb x (M.ahead q)) (step f (M.after p) (M.after q) (Symbol x) (Symbol x) ∷ [])).0 h in
      let a = and_both (leb 1 x) (eqb x (M.ahead q)) u.0 in
      let one = leb-true 1 x a.0 in
      let e = eqb-true x (M.ahead q) a.1 in
      ((refl, one, refl), (sym e, one, refl), only_one u.1)

  shift_in : (f p q x p' q' : ℕ) → (listed M).Shifts x p p' → (listed M).Shifts x q q'
      → Mem (step f p' q' (Symbol x) (Symbol x)) (both_shift M f p q)
  unfolding both_shift
  shift_in f p q x p' q' u v =
      let y = M.ahead p in
      let c : y ≡ x = u.0 in
      let d : M.ahead q ≡ x = v.0 in
      let e : step f p' q' (Symbol x) (Symbol x) ≡ step f (M.after p) (M.after q) (Symbol y) (Symbol y) = cc (sym c, u.2, v.2) in
      (under-test (leb 1 y && eqb y (M.ahead q)) (step f (M.after p) (M.after q) (Symbol y) (Symbol y) ∷ [])).1 (
        both_and (leb 1 y) (eqb y (M.ahead q)) (le-leb 1 y (omega (arith, c, u.1))) (eq-eqb y (M.ahead q) (c ∙ sym d)),
        one_only e,
      )

  close-out : (p q : ℕ) (s : Step) → Mem s (both_close M p q) → Goes 0 p q s
  unfolding both_close
  close-out p q s h =
      let a = (of-each (M.closings p) (λ m. each (M.closings q) (closes_both m))).0 h in
      let m = a.0 in
      let b = (of-each (M.closings q) (closes_both m)).0 a.2 in
      let n = b.0 in
      let u = (under-test (not (eqb m.0 n.0)) (step 1 m.1 n.1 (Closing m.0) (Closing n.0) ∷ [])).0 b.2 in
      let d = eqb-false m.0 n.0 (not-true (eqb m.0 n.0) u.0) in
      let c = a.1 in
      subst (Goes 0 p q) (sym (only_one u.1)) (part-both d c b.1)

  close_in : (p q i j p' q' : ℕ) → ¬ (i ≡ j) → (listed M).Closes i p p' → (listed M).Closes j q q'
      → Mem (step 1 p' q' (Closing i) (Closing j)) (both_close M p q)
  unfolding both_close
  close_in p q i j p' q' d c e =
      let t : not (eqb i j) ≡ true = ap not (ne_eqb i j d) in
      (of-each (M.closings p) (λ m. each (M.closings q) (closes_both m))).1 (
        (i, p'),
        c,
        (of-each (M.closings q) (closes_both (i, p'))).1 (
          (j, q'),
          e,
          (under-test (not (eqb i j)) (step 1 p' q' (Closing i) (Closing j) ∷ [])).1 (t, here),
        ),
      )

  -- the choices of either layer
  zero-out : (p q : ℕ) (s : Step) → Mem s (choices M 0 p q) → Goes 0 p q s
  unfolding choices
  zero-out p q s h = go ((of-six (opens_left 0 p q) (opens_right 0 p q) (both_shift M 0 p q) (both_close M p q)
      (when (terminal_ahead M q) (closes_left p q)) (when (terminal_ahead M p) (closes_right p q))).0 h)
    where
      go : Mem s (when (terminal_ahead M p) (closes_right p q)) ⊎ Mem s (opens_left 0 p q) ⊎ Mem s (opens_right 0 p q)
          ⊎ Mem s (both_shift M 0 p q) ⊎ Mem s (both_close M p q) ⊎ Mem s (when (terminal_ahead M q) (closes_left p q))
          → Goes 0 p q s
      go (inl k) =
          let u = (under-test (terminal_ahead M p) (closes_right p q)).0 k in
          let o = closes-right p q s u.1 in
          subst (Goes 0 p q) (sym o.3) (part_right o.2 ((terminal-ahead p).0 u.0))
      go (inr (inl k)) = opens-left 0 p q s k
      go (inr (inr (inl k))) = opens-right 0 p q s k
      go (inr (inr (inr (inl k)))) = let o = shift_out 0 p q s k in subst (Goes 0 p q) (sym o.2) (shift_both o.0 o.1)
      go (inr (inr (inr (inr (inl k))))) = close-out p q s k
      go (inr (inr (inr (inr (inr k))))) =
          let u = (under-test (terminal_ahead M q) (closes_left p q)).0 k in
          let o = closes-left p q s u.1 in
          subst (Goes 0 p q) (sym o.3) (part_left o.2 ((terminal-ahead q).0 u.0))

  one_out : (p q : ℕ) (s : Step) → Mem s (choices M 1 p q) → Goes 1 p q s
  unfolding choices
  one_out p q s h = go ((of_five (opens_left 1 p q) (closes_left p q) (opens_right 1 p q) (closes_right p q)
      (when (terminal_ahead M p) (both_shift M 1 p q))).0 h)
    where
      go : Mem s (opens_left 1 p q) ⊎ Mem s (closes_left p q) ⊎ Mem s (opens_right 1 p q) ⊎ Mem s (closes_right p q)
          ⊎ Mem s (when (terminal_ahead M p) (both_shift M 1 p q)) → Goes 1 p q s
      go (inl k) = opens-left 1 p q s k
      go (inr (inl k)) = let o = closes-left p q s k in subst (Goes 1 p q) (sym o.3) (close-left o.2)
      go (inr (inr (inl k))) = opens-right 1 p q s k
      go (inr (inr (inr (inl k)))) = let o = closes-right p q s k in subst (Goes 1 p q) (sym o.3) (close-right o.2)
      go (inr (inr (inr (inr k)))) =
          let u = (under-test (terminal_ahead M p) (both_shift M 1 p q)).0 k in
          let o = shift_out 1 p q s u.1 in
          let t = (is_terminal_lem M.terminals (M.ahead p)).0 u.0 in
          subst (Goes 1 p q) (sym o.2) (read-both t o.0 o.1)

  zero_in : {p q g p' q' : ℕ} {l r : Move} → StepTo (listed M) 0 p q g p' q' l r
      → Mem (step g p' q' l r) (choices M 0 p q)
  unfolding choices
  zero_in {p} {q} {g} {p'} {q'} {l} {r} t =
      (of-six (opens_left 0 p q) (opens_right 0 p q) (both_shift M 0 p q) (both_close M p q)
      (when (terminal_ahead M q) (closes_left p q)) (when (terminal_ahead M p) (closes_right p q))).1 (go p q t)
    where
      go : (p q : ℕ) {g p' q' : ℕ} {l r : Move} → StepTo (listed M) 0 p q g p' q' l r
          → Mem (step g p' q' l r) (when (terminal_ahead M p) (closes_right p q))
          ⊎ Mem (step g p' q' l r) (opens_left 0 p q) ⊎ Mem (step g p' q' l r) (opens_right 0 p q)
          ⊎ Mem (step g p' q' l r) (both_shift M 0 p q) ⊎ Mem (step g p' q' l r) (both_close M p q)
          ⊎ Mem (step g p' q' l r) (when (terminal_ahead M q) (closes_left p q))
      go p q (open_left {i = i} {p' = p'} o) = inr (inl (opens-left_in 0 p q i p' o))
      go p q (open_right {i = i} {q' = q'} o) =
          inr (inr (inl (opens-right_in 0 p q i q' o)))
      go p q (shift_both {x = x} {p' = p'} {q' = q'} u v) = inr (inr (inr (inl (shift_in 0 p q x p' q' u v))))
      go p q (part-both {i = i} {j = j} {p' = p'} {q' = q'} d c e) = inr (inr (inr (inr (inl (close_in p q i j p' q' d c e)))))
      go p q (part_left {i = i} {p' = p'} c b) =
          inr (inr (inr (inr (inr
          ((under-test (terminal_ahead M q) (closes_left p q)).1 ((terminal-ahead q).1 b, closes-left_in p q i p' c))))))
      go p q (part_right {i = i} {q' = q'} c b) =
          inl ((under-test (terminal_ahead M p) (closes_right p q)).1 ((terminal-ahead p).1 b, closes-right_in p q i q' c))

  one_in : {p q g p' q' : ℕ} {l r : Move} → StepTo (listed M) 1 p q g p' q' l r → Mem (step g p' q' l r) (choices M 1 p q)
  unfolding choices
  one_in {p} {q} {g} {p'} {q'} {l} {r} t =
      (of_five (opens_left 1 p q) (closes_left p q) (opens_right 1 p q) (closes_right p q)
      (when (terminal_ahead M p) (both_shift M 1 p q))).1 (go p q t)
    where
      go : (p q : ℕ) {g p' q' : ℕ} {l r : Move} → StepTo (listed M) 1 p q g p' q' l r
          → Mem (step g p' q' l r) (opens_left 1 p q) ⊎ Mem (step g p' q' l r) (closes_left p q)
          ⊎ Mem (step g p' q' l r) (opens_right 1 p q) ⊎ Mem (step g p' q' l r) (closes_right p q)
          ⊎ Mem (step g p' q' l r) (when (terminal_ahead M p) (both_shift M 1 p q))
      go p q (open_left {i = i} {p' = p'} o) = inl (opens-left_in 1 p q i p' o)
      go p q (open_right {i = i} {q' = q'} o) =
          inr (inr (inl (opens-right_in 1 p q i q' o)))
      go p q (close-left {i = i} {p' = p'} c) = inr (inl (closes-left_in p q i p' c))
      go p q (close-right {i = i} {q' = q'} c) = inr (inr (inr (inl (closes-right_in p q i q' c))))
      go p q (read-both {a = a} {p' = p'} {q' = q'} t u v) =
          inr (inr (inr (inr ((under-test (terminal_ahead M p) (both_shift M 1 p q)).1
          ((terminal-ahead p).1 (a, t, (p', u)), shift_in 1 p q a p' q' u v)))))

  -- the choices of moves at a triple are exactly its steps
  pub choices_exact : (f p q : ℕ) → f < 2 → (s : Step) → Mem s (choices M f p q)
      ↔ StepTo (listed M) f p q s.layer s.left s.right s.on_left s.on_right
  choices_exact zero p q h s = (zero-out p q s, zero_in)
  choices_exact (suc zero) p q h s = (one_out p q s, one_in)
  choices_exact (suc (suc f)) p q h s = absurd (omega arith)
