-- The step records of a triple have no doubles.
-- Assumes nothing.
use Prim.Native.Nat.{ℕ, zero, suc, ◌<◌}
use mathlib.Core.Path.{◌≡◌, refl, sym, ap, ◌∙◌}
use mathlib.Core.Bool.{not, ◌&&◌}
use mathlib.Core.List.{List, [], ◌∷◌, ◌++◌}
use mathlib.Core.Logic.{◌⊎◌, inl, inr}
use native.Mathlib.Omega.{arith}
use lib.Dec.{eqb, leb, ltb}
use Rattle.grammar.specs.Basics.{Mem, Distinct, none, when, each}
use Rattle.automaton.specs.Moves.{Moves, terminal_ahead, Regular}
use Rattle.triples.specs.Index.{index}
use Rattle.triples.specs.Records.{step, left_alone, right_alone, both_shift, both_close, choices, ordered, records}
use Rattle.triples.specs.declared.Move.{Move}
use Rattle.triples.specs.declared.Move.TheVariants.{Opening, Closing, Symbol, Still}
use Rattle.triples.specs.declared.Step.{Step}
use Rattle.triple_laws.proofs.Members.{only_one, mem_either, under-test, of-each}
use Rattle.triple_laws.proofs.Members.{distinct_one, distinct_append, distinct_when, distinct_each, distinct_map}
use Rattle.triple_laws.proofs.Pairs.{Ascending, pairs-none, pairs_append, pairs-all}
use Rattle.triple_laws.proofs.Order.{ordered_distinct}
use Rattle.triple_laws.proofs.Choices.{closes_both, left_alone_lem, right-alone, opens_left, opens_right, closes_left, closes_right}

-- a number for each kind of move
abbrev pub kind : ℕ → ℕ → ℕ → ℕ → Move → ℕ
kind o c x s (Opening i) = o
kind o c x s (Closing i) = c
kind o c x s (Symbol a) = x
kind o c x s Still = s

-- the place of a record's part among the choices of layer 0
abbrev pub rank_zero : Step → ℕ
rank_zero s = kind 0 (kind 0 3 0 4 s.on_right) 2 (kind 1 5 0 0 s.on_right) s.on_left

-- the same in layer 1
abbrev pub rank_one : Step → ℕ
rank_one s = kind 0 1 4 (kind 2 3 0 0 s.on_right) s.on_left

-- the same by layer
abbrev pub rank_of : ℕ → Step → ℕ
rank_of zero s = rank_zero s
rank_of (suc f) s = rank_one s

-- a list without doubles, of ascending ranks below k
record Front (rank : Step → ℕ) (k : ℕ) (l : List Step) : Type 0 where
  distinct : Distinct l
  ascending : Ascending rank l
  below : (s : Step) → Mem s l → rank s < k

-- goes on with one of rank k
further : (rank : Step → ℕ) (k : ℕ) (l m : List Step) → Front rank k l → Distinct m → ((s : Step) → Mem s m → rank s ≡ k)
    → Front rank (suc k) (l ++ m)
further rank k l m a d e = record {
  distinct = distinct_append l m a.distinct d (λ s h j. let x = a.below s h in let y = e s j in omega arith);
  ascending = pairs_append l m a.ascending (pairs-all m (λ s t h j. let x = e s h in let y = e t j in omega arith))
      (λ s t h j. let x = a.below s h in let y = e t j in omega arith);
  below = λ s h. go s (mem_either l m h);
}
  where
    go : (s : Step) → Mem s l ⊎ Mem s m → rank s < suc k
    go s (inl h) = let x = a.below s h in omega arith
    go s (inr h) = let x = e s h in omega arith

begins : (rank : Step → ℕ) (m : List Step) → Distinct m → ((s : Step) → Mem s m → rank s ≡ 0) → Front rank 1 m
begins rank m d e = record {
  distinct = d;
  ascending = pairs-all m (λ s t h j. let x = e s h in let y = e t j in omega arith);
  below = λ s h. let x = e s h in omega arith;
}

module _ (M : Moves) (R : Regular M) where
  left_distinct : (f q : ℕ) (kind : ℕ → Move) (moves : List (ℕ × ℕ)) → ((i j : ℕ) → kind i ≡ kind j → i ≡ j) → Distinct moves
      → Distinct (left_alone f q kind moves)
  unfolding left_alone
  left_distinct f q kind moves n d =
      distinct_map moves (λ m. step f m.1 q (kind m.0) Still) d
      (λ a c e.
      let x = n a.0 c.0 (ap (λ (s : Step). s.on_left) e) in
      let y = ap (λ (s : Step). s.left) e in
      λ i. (x i, y i))

  right_distinct : (f p : ℕ) (kind : ℕ → Move) (moves : List (ℕ × ℕ)) → ((i j : ℕ) → kind i ≡ kind j → i ≡ j) → Distinct moves
      → Distinct (right_alone f p kind moves)
  unfolding right_alone
  right_distinct f p kind moves n d =
      distinct_map moves (λ m. step f p m.1 Still (kind m.0)) d
      (λ a c e.
      let x = n a.0 c.0 (ap (λ (s : Step). s.on_right) e) in
      let y = ap (λ (s : Step). s.right) e in
      λ i. (x i, y i))

  opening-same : (i j : ℕ) → Opening i ≡ Opening j → i ≡ j
  opening-same i j e = cc

  closing_same : (i j : ℕ) → Closing i ≡ Closing j → i ≡ j
  closing_same i j e = cc

  shift_distinct : (f p q : ℕ) → Distinct (both_shift M f p q)
  unfolding both_shift
  shift_distinct f p q =
      let s = step f (M.after p) (M.after q) (Symbol (M.ahead p)) (Symbol (M.ahead p)) in
      distinct_when (leb 1 (M.ahead p) && eqb (M.ahead p) (M.ahead q)) (s ∷ []) (distinct_one s)

  both_is : (m n : ℕ × ℕ) (s : Step) → Mem s (closes_both m n) → s ≡ step 1 m.1 n.1 (Closing m.0) (Closing n.0)
  both_is m n s h =
      let t = step 1 m.1 n.1 (Closing m.0) (Closing n.0) in
      only_one ((under-test (not (eqb m.0 n.0)) (t ∷ [])).0 h).1

  close_distinct : (p q : ℕ) → Distinct (both_close M p q)
  unfolding both_close
  close_distinct p q =
      distinct_each (M.closings p) (λ m. each (M.closings q) (closes_both m)) (R.closes_once p)
      (λ m h. distinct_each (M.closings q) (closes_both m) (R.closes_once q)
      (λ n k. distinct_when (not (eqb m.0 n.0)) (made m n ∷ []) (distinct_one (made m n)))
      (λ n o s h k u v. same-right m m n o s (both_is m n s u) (both_is m o s v)))
      (λ m n s h k u v.
      let a = (of-each (M.closings q) (closes_both m)).0 u in
      let b = (of-each (M.closings q) (closes_both n)).0 v in
      same_left m n a.0 b.0 s (both_is m a.0 s a.2) (both_is n b.0 s b.2))
    where
      made : ℕ × ℕ → ℕ × ℕ → Step
      made m n = step 1 m.1 n.1 (Closing m.0) (Closing n.0)

      same_left : (m n a b : ℕ × ℕ) (s : Step) → s ≡ made m a → s ≡ made n b → m ≡ n
      same_left m n a b s u v =
          let e = sym u ∙ v in
          let x = closing_same m.0 n.0 (ap (λ (s : Step). s.on_left) e) in
          let y = ap (λ (s : Step). s.left) e in
          λ i. (x i, y i)

      same-right : (m n a b : ℕ × ℕ) (s : Step) → s ≡ made m a → s ≡ made n b → a ≡ b
      same-right m n a b s u v =
          let e = sym u ∙ v in
          let x = closing_same a.0 b.0 (ap (λ (s : Step). s.on_right) e) in
          let y = ap (λ (s : Step). s.right) e in
          λ i. (x i, y i)

  opens-left : (f p q : ℕ) → Distinct (opens_left M f p q)
  opens-left f p q = left_distinct f q (λ i. Opening i) (M.openings p) opening-same (R.opens_once p)

  opens-right : (f p q : ℕ) → Distinct (opens_right M f p q)
  opens-right f p q = right_distinct f p (λ i. Opening i) (M.openings q) opening-same (R.opens_once q)

  closes-left : (p q : ℕ) → Distinct (closes_left M p q)
  closes-left p q = left_distinct 1 q (λ i. Closing i) (M.closings p) closing_same (R.closes_once p)

  closes-right : (p q : ℕ) → Distinct (closes_right M p q)
  closes-right p q = right_distinct 1 p (λ i. Closing i) (M.closings q) closing_same (R.closes_once q)

  left-rank : {s : Step} (rank : Step → ℕ) (f q k : ℕ) (kind : ℕ → Move) (moves : List (ℕ × ℕ))
      → ((i p : ℕ) → rank (step f p q (kind i) Still) ≡ k) → Mem s (left_alone f q kind moves) → rank s ≡ k
  left-rank rank f q k kind moves e h = let o = (left_alone_lem M f q kind moves).0 h in ap rank o.2 ∙ e o.0.0 o.0.1

  right-rank : {s : Step} (rank : Step → ℕ) (f p k : ℕ) (kind : ℕ → Move) (moves : List (ℕ × ℕ))
      → ((i q : ℕ) → rank (step f p q Still (kind i)) ≡ k) → Mem s (right_alone f p kind moves) → rank s ≡ k
  right-rank rank f p k kind moves e h = let o = (right-alone M f p kind moves).0 h in ap rank o.2 ∙ e o.0.0 o.0.1

  shift_rank : {s : Step} (rank : Step → ℕ) (f p q k : ℕ) → ((x : ℕ) → rank (step f (M.after p) (M.after q) (Symbol x) (Symbol x)) ≡ k)
      → Mem s (both_shift M f p q) → rank s ≡ k
  unfolding both_shift
  shift_rank rank f p q k e h =
      let x = M.ahead p in
      let t = step f (M.after p) (M.after q) (Symbol x) (Symbol x) in
      ap rank (only_one ((under-test (leb 1 x && eqb x (M.ahead q)) (t ∷ [])).0 h).1) ∙ e x

  close-rank : {s : Step} (p q : ℕ) → Mem s (both_close M p q) → rank_zero s ≡ 3
  unfolding both_close
  close-rank {s} p q h =
      let a = (of-each (M.closings p) (λ m. each (M.closings q) (closes_both m))).0 h in
      let b = (of-each (M.closings q) (closes_both a.0)).0 a.2 in
      ap rank_zero (both_is a.0 b.0 s b.2)

  zero-front : (p q : ℕ) → Front rank_zero 6 (choices M 0 p q)
  unfolding choices
  zero-front p q =
      further rank_zero 5 (a ++ b ++ c ++ d ++ e) (when (terminal_ahead M p) (closes_right M p q))
      (further rank_zero 4 (a ++ b ++ c ++ d) e
      (further rank_zero 3 (a ++ b ++ c) d
      (further rank_zero 2 (a ++ b) c
      (further rank_zero 1 a b
      (begins rank_zero a (opens-left 0 p q) (λ s h. left-rank rank_zero 0 q 0 (λ i. Opening i) (M.openings p) (λ i p. refl) h))
      (opens-right 0 p q) (λ s h. right-rank rank_zero 0 p 1 (λ i. Opening i) (M.openings q) (λ i q. refl) h))
      (shift_distinct 0 p q) (λ s h. shift_rank rank_zero 0 p q 2 (λ x. refl) h))
      (close_distinct p q) (λ s h. close-rank p q h))
      (distinct_when (terminal_ahead M q) (closes_left M p q) (closes-left p q))
      (λ s h. left-rank rank_zero 1 q 4 (λ i. Closing i) (M.closings p) (λ i p. refl)
      ((under-test (terminal_ahead M q) (closes_left M p q)).0 h).1))
      (distinct_when (terminal_ahead M p) (closes_right M p q) (closes-right p q))
      (λ s h. right-rank rank_zero 1 p 5 (λ i. Closing i) (M.closings q) (λ i q. refl)
      ((under-test (terminal_ahead M p) (closes_right M p q)).0 h).1)
    where
      a : List Step
      a = opens_left M 0 p q

      b : List Step
      b = opens_right M 0 p q

      c : List Step
      c = both_shift M 0 p q

      d : List Step
      d = both_close M p q

      e : List Step
      e = when (terminal_ahead M q) (closes_left M p q)

  one-front : (p q : ℕ) → Front rank_one 5 (choices M 1 p q)
  unfolding choices
  one-front p q =
      further rank_one 4 (a ++ b ++ c ++ d) (when (terminal_ahead M p) (both_shift M 1 p q))
      (further rank_one 3 (a ++ b ++ c) d
      (further rank_one 2 (a ++ b) c
      (further rank_one 1 a b
      (begins rank_one a (opens-left 1 p q) (λ s h. left-rank rank_one 1 q 0 (λ i. Opening i) (M.openings p) (λ i p. refl) h))
      (closes-left p q) (λ s h. left-rank rank_one 1 q 1 (λ i. Closing i) (M.closings p) (λ i p. refl) h))
      (opens-right 1 p q) (λ s h. right-rank rank_one 1 p 2 (λ i. Opening i) (M.openings q) (λ i q. refl) h))
      (closes-right p q) (λ s h. right-rank rank_one 1 p 3 (λ i. Closing i) (M.closings q) (λ i q. refl) h))
      (distinct_when (terminal_ahead M p) (both_shift M 1 p q) (shift_distinct 1 p q))
      (λ s h. shift_rank rank_one 1 p q 4 (λ x. refl) ((under-test (terminal_ahead M p) (both_shift M 1 p q)).0 h).1)
    where
      a : List Step
      a = opens_left M 1 p q

      b : List Step
      b = closes_left M p q

      c : List Step
      c = opens_right M 1 p q

      d : List Step
      d = closes_right M p q

  -- no choice of moves is listed twice
  pub choices_distinct : (f p q : ℕ) → Distinct (choices M f p q)
  unfolding choices
  choices_distinct zero p q = (zero-front p q).distinct
  choices_distinct (suc zero) p q = (one-front p q).distinct
  choices_distinct (suc (suc f)) p q = none

  -- the choices stand in the order of their parts
  pub choices_ascend : (f p q : ℕ) → Ascending (rank_of f) (choices M f p q)
  unfolding choices
  choices_ascend zero p q = (zero-front p q).ascending
  choices_ascend (suc zero) p q = (one-front p q).ascending
  choices_ascend (suc (suc f)) p q = pairs-none

  -- no step record of a triple is listed twice
  pub records_distinct : (f p q : ℕ) → Distinct (records M f p q)
  unfolding records
  records_distinct f p q =
      let i = index M.states f p q in
      distinct_when (ltb p M.states && ltb q M.states) (ordered M i (choices M f p q))
      (ordered_distinct M i (choices M f p q) (choices_distinct f p q))
