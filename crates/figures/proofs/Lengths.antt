-- How many moves a state has, and how many choices a triple has at most. Assumes nothing.
use Prim.Native.Nat.{ℕ, suc, ◌+◌, ◌*◌, ◌≤◌, ◌<◌}
use mathlib.Core.Path.{◌≡◌, refl, sym, ap, ◌∙◌}
use mathlib.Core.Bool.{Bool, true, false, not, ◌&&◌}
use mathlib.Core.List.{List, [], ◌∷◌, ◌++◌, map}
use native.Mathlib.Omega.{arith}
use native.Mathlib.Nat.{suc-mul}
use lib.Dec.{eqb, leb}
use lib.ListN.{length, length-append, length-map}
use borrow.Author.Tests.{eqb-true}
use Rattle.grammar.specs.Basics.{choose, when, each, Mem, here, there}
use Rattle.automaton.specs.Moves.{Moves, terminal_ahead}
use Rattle.automaton.specs.Strings.{opening, closing, symbol}
use Rattle.automaton.specs.AllMoves.{numbers, moved, leaving, all_moves, move_count}
use Rattle.triples.specs.Index.{index}
use Rattle.triples.specs.Records.{step, left_alone, right_alone, both_shift, both_close, choices, key, insert, ordered, records, next_index}
use Rattle.triples.specs.Smallest.{successors}
use Rattle.triples.specs.declared.Move.{Move}
use Rattle.triples.specs.declared.Move.TheVariants.{Opening, Closing, Symbol, Still}
use Rattle.triples.specs.declared.Step.{Step}
use Rattle.triple_laws.proofs.Records.{records_are, successors_are}
use Rattle.figures.specs.Sum.{sum}
use Rattle.figures.proofs.Sums.{total-numbers, each-length}

-- 1 where the test holds, else 0
abbrev pub one : Bool → ℕ
one b = choose b 1 0

when-length : {A : Type 0} (b : Bool) (l : List A) → length (when b l) ≡ one b * length l
when-length true l = omega arith
when-length false l = omega arith

-- the length of a list with an element is not 0, and that of a list without one is
pub some_in : {A : Type 0} {a : A} {l : List A} → Mem a l → 1 ≤ length l
some_in here = omega arith
some_in (there m) = omega arith

pub none_in : {A : Type 0} (l : List A) → ((a : A) → Mem a l → ⊥) → length l ≡ 0
none_in [] h = refl
none_in (a ∷ l) h = absurd (h a here)

-- the lists that f gives are n long each, or at most n
each_times : {A B : Type 0} (l : List A) (f : A → List B) (n : ℕ) → ((a : A) → Mem a l → length (f a) ≡ n) → length (each l f) ≡ length l * n
unfolding each
each_times [] f n h = omega arith
each_times (a ∷ l) f n h =
    omega (arith, length-append (f a) (each l f), h a here, each_times l f n (λ b m. h b (there m)), suc-mul (length l) n)

each-most : {A B : Type 0} (l : List A) (f : A → List B) (n : ℕ) → ((a : A) → length (f a) ≤ n) → length (each l f) ≤ length l * n
unfolding each
each-most [] f n h = omega arith
each-most (a ∷ l) f n h = omega (arith, length-append (f a) (each l f), h a, each-most l f n h, suc-mul (length l) n)

-- pairs: each of them gives one, or none, or at most one
module _ {A B C : Type 0} (l : List A) (k : List B) (f : A → B → List C) where
  pub pairs-one : ((a : A) (b : B) → Mem a l → Mem b k → length (f a b) ≡ 1) → length (each l (λ a. each k (f a))) ≡ length l * length k
  pairs-one h = each_times l (λ a. each k (f a)) (length k) (λ a m. omega (arith, each_times k (f a) 1 (λ b n. h a b m n)))

  pub pairs-none : ((a : A) (b : B) → Mem a l → Mem b k → length (f a b) ≡ 0) → length (each l (λ a. each k (f a))) ≡ 0
  pairs-none h =
      omega (arith, each_times l (λ a. each k (f a)) 0 (λ a m. omega (arith, each_times k (f a) 0 (λ b n. h a b m n))))

  pairs-most : ((a : A) (b : B) → length (f a b) ≤ 1) → length (each l (λ a. each k (f a))) ≤ length l * length k
  pairs-most h = each-most l (λ a. each k (f a)) (length k) (λ a. omega (arith, each-most k (f a) 1 (h a)))

one-small : (b : Bool) {A : Type 0} (a : A) → length (when b (a ∷ [])) ≤ 1
one-small true a = omega arith
one-small false a = omega arith

module _ (M : Moves) where
  -- the numbers of openings, closings, shifts and shifts of a terminal of a state, and of all its moves
  abbrev pub opens : ℕ → ℕ
  opens p = length (M.openings p)

  abbrev pub closes : ℕ → ℕ
  closes p = length (M.closings p)

  abbrev pub shifting : ℕ → ℕ
  shifting p = one (leb 1 (M.ahead p))

  abbrev pub reading : ℕ → ℕ
  reading p = one (terminal_ahead M p)

  abbrev pub out : ℕ → ℕ
  out p = length (leaving M p)

  pub moves-length : (p : ℕ) → out p ≡ opens p + closes p + shifting p
  unfolding leaving
  moves-length p =
      omega (
        arith,
        length-append (map (λ m. moved p (opening m.0) m.1) (M.openings p) ++ map (λ m. moved p (closing m.0) m.1) (M.closings p)) (when (leb 1 (M.ahead p)) (moved p (symbol (M.ahead p)) (M.after p) ∷ [])),
        length-append (map (λ m. moved p (opening m.0) m.1) (M.openings p)) (map (λ m. moved p (closing m.0) m.1) (M.closings p)),
        length-map (M.openings p) (λ m. moved p (opening m.0) m.1),
        length-map (M.closings p) (λ m. moved p (closing m.0) m.1),
        when-length (leb 1 (M.ahead p)) (moved p (symbol (M.ahead p)) (M.after p) ∷ []),
      )

  -- M is the sum over the states
  pub move_count_lem : move_count M ≡ sum out M.states
  unfolding all_moves
  move_count_lem = each-length (numbers M.states) (leaving M) ∙ total-numbers out M.states

  left-length : (f q : ℕ) (kind : ℕ → Move) (l : List (ℕ × ℕ)) → length (left_alone f q kind l) ≡ length l
  unfolding left_alone
  left-length f q kind l = length-map l (λ m. step f m.1 q (kind m.0) Still)

  right-length : (f p : ℕ) (kind : ℕ → Move) (l : List (ℕ × ℕ)) → length (right_alone f p kind l) ≡ length l
  unfolding right_alone
  right-length f p kind l = length-map l (λ m. step f p m.1 Still (kind m.0))

  shift_length : (f p q : ℕ) → length (both_shift M f p q) ≤ shifting p * shifting q
  unfolding both_shift
  shift_length f p q = go (leb 1 (M.ahead p)) (eqb (M.ahead p) (M.ahead q)) refl refl
    where
      go : (b c : Bool) → leb 1 (M.ahead p) ≡ b → eqb (M.ahead p) (M.ahead q) ≡ c
          → length (when (b && c) (step f (M.after p) (M.after q) (Symbol (M.ahead p)) (Symbol (M.ahead p)) ∷ [])) ≤ one b * shifting q
      go true true e h =
          let r : leb 1 (M.ahead q) ≡ true = ap (λ (x : ℕ). leb 1 x) (sym (eqb-true (M.ahead p) (M.ahead q) h)) ∙ e in
          omega (arith, ap one r)
      go true false e h = omega arith
      go false c e h = omega arith

  close-length : (p q : ℕ) → length (both_close M p q) ≤ closes p * closes q
  unfolding both_close
  close-length p q =
      pairs-most (M.closings p) (M.closings q) (λ m n. when (not (eqb m.0 n.0)) (step 1 m.1 n.1 (Closing m.0) (Closing n.0) ∷ []))
      (λ m n. one-small (not (eqb m.0 n.0)) (step 1 m.1 n.1 (Closing m.0) (Closing n.0)))

  -- the choices of a triple in layer 0, counted
  pub zero_count : (p q : ℕ) → length (choices M 0 p q)
      ≡ opens p + opens q + length (both_shift M 0 p q) + length (both_close M p q) + reading q * closes p + reading p * closes q
  unfolding choices
  zero_count p q =
      let a = left_alone 0 q (λ i. Opening i) (M.openings p) in
      let b = right_alone 0 p (λ i. Opening i) (M.openings q) in
      let c = both_shift M 0 p q in
      let d = both_close M p q in
      let e = when (terminal_ahead M q) (left_alone 1 q (λ i. Closing i) (M.closings p)) in
      let f = when (terminal_ahead M p) (right_alone 1 p (λ i. Closing i) (M.closings q)) in
      let ze : length e ≡ reading q * closes p = when-length (terminal_ahead M q) _ ∙ ap (λ (z : ℕ). reading q * z) (left-length 1 q (λ i. Closing i) (M.closings p)) in
      let zf : length f ≡ reading p * closes q = when-length (terminal_ahead M p) _ ∙ ap (λ (z : ℕ). reading p * z) (right-length 1 p (λ i. Closing i) (M.closings q)) in
      omega (
        arith,
        length-append (a ++ b ++ c ++ d ++ e) f,
        length-append (a ++ b ++ c ++ d) e,
        length-append (a ++ b ++ c) d,
        length-append (a ++ b) c,
        length-append a b,
        left-length 0 q (λ i. Opening i) (M.openings p),
        right-length 0 p (λ i. Opening i) (M.openings q),
        ze,
        zf,
      )

  -- and in layer 1
  pub one_count : (p q : ℕ) → length (choices M 1 p q) ≡ opens p + closes p + opens q + closes q + reading p * length (both_shift M 1 p q)
  unfolding choices
  one_count p q =
      let a = left_alone 1 q (λ i. Opening i) (M.openings p) in
      let b = left_alone 1 q (λ i. Closing i) (M.closings p) in
      let c = right_alone 1 p (λ i. Opening i) (M.openings q) in
      let d = right_alone 1 p (λ i. Closing i) (M.closings q) in
      let e = when (terminal_ahead M p) (both_shift M 1 p q) in
      omega (
        arith,
        length-append (a ++ b ++ c ++ d) e,
        length-append (a ++ b ++ c) d,
        length-append (a ++ b) c,
        length-append a b,
        left-length 1 q (λ i. Opening i) (M.openings p),
        left-length 1 q (λ i. Closing i) (M.closings p),
        right-length 1 p (λ i. Opening i) (M.openings q),
        right-length 1 p (λ i. Closing i) (M.closings q),
        when-length (terminal_ahead M p) (both_shift M 1 p q),
      )

  -- how many they are at most
  pub zero-length : (p q : ℕ) → length (choices M 0 p q) ≤ opens p + opens q + shifting p * shifting q + closes p * closes q + reading q * closes p + reading p * closes q
  zero-length p q = omega (arith, zero_count p q, shift_length 0 p q, close-length p q)

  pub one-length : (p q : ℕ) → length (choices M 1 p q) ≤ opens p + closes p + opens q + closes q + shifting p * shifting q
  one-length p q = omega (arith, one_count p q, shift_length 1 p q, under (terminal_ahead M p) (length (both_shift M 1 p q)))
    where
      under : (b : Bool) (k : ℕ) → one b * k ≤ k
      under true k = omega arith
      under false k = omega arith

  -- a terminal ahead is a shift
  pub reading-shifts : (p : ℕ) → reading p ≤ shifting p
  reading-shifts p = go (leb 1 (M.ahead p)) (leb (M.ahead p) M.terminals)
    where
      go : (b c : Bool) → one (b && c) ≤ one b
      go true true = omega arith
      go true false = omega arith
      go false c = omega arith

  insert-length : (i : ℕ) (s : Step) (l : List Step) → length (insert M i s l) ≡ suc (length l)
  unfolding insert
  insert-length i s [] = refl
  insert-length i s (t ∷ l) = go (leb (key M i s) (key M i t)) (insert-length i s l)
    where
      go : (b : Bool) → length (insert M i s l) ≡ suc (length l) → length (choose b (s ∷ t ∷ l) (t ∷ insert M i s l)) ≡ suc (suc (length l))
      go true e = refl
      go false e = ap suc e

  ordered-length : (i : ℕ) (l : List Step) → length (ordered M i l) ≡ length l
  unfolding ordered
  ordered-length i [] = refl
  ordered-length i (s ∷ l) = insert-length i s (ordered M i l) ∙ ap suc (ordered-length i l)

  -- the successors of an index are as many as the choices of its triple
  pub successors-length : (f p q : ℕ) → p < M.states → q < M.states → length (successors M (index M.states f p q)) ≡ length (choices M f p q)
  successors-length f p q hp hq =
      ap length (successors_are M f p q hp hq) ∙ length-map (records M f p q) (next_index M)
      ∙ ap length (records_are M f p q hp hq) ∙ ordered-length (index M.states f p q) (choices M f p q)
