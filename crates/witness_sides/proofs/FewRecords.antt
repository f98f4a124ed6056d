-- How many records a triple can have: one for each pair of states at most. Assumes nothing.
use Prim.Native.Nat.{ℕ, zero, suc, ◌+◌, ◌-◌, ◌*◌, ◌≤◌}
use mathlib.Core.Path.{◌≡◌}
use mathlib.Core.Bool.{Bool, true, false}
use mathlib.Core.List.{List, [], ◌∷◌, ◌++◌, map}
use native.Mathlib.Omega.{arith}
use native.Mathlib.Nat.{suc-mul, mul-le-mul}
use lib.Dec.{eqb, leb}
use lib.ListN.{length, take, drop, get_or, length-append, length-map, length-take, length-drop}
use Rattle.grammar.specs.Basics.{choose, when, each}
use Rattle.grammar.specs.Limits.{limits}
use Rattle.triples.specs.Records.{step}
use Rattle.triples.specs.declared.Move.TheVariants.{Closing}
use Rattle.triples.specs.declared.Step.{Step}
use Rattle.moves.specs.Tables.{segment}
use Rattle.steps.specs.declared.Sides.{Sides}
use Rattle.steps.specs.Plan.{inside, between, lefts, rights, above, from_shift, shifted, below, alone, grid, pairs, is_read, shared, read_shared, sides, left_to, right_to, shift_of, plan_zero, plan_one, plan_at, Rows, ahead_of, ends, targets_of, planned}

-- a part, and what lies between bounds
part-few : (a b : ℕ) (l : List ℕ) → length (take a (drop b l)) ≤ length l
part-few a b l = omega (arith, length-take a (drop b l), length-drop b l)

between-few : (a b : ℕ) (l : List ℕ) → length (between a b l) ≤ length l
unfolding between
between-few a b [] = omega arith
between-few a b (x ∷ l) = go (inside a b x) (between-few a b l)
  where
    go : (c : Bool) → length (between a b l) ≤ length l → length (when c (x ∷ []) ++ between a b l) ≤ suc (length l)
    go true h = omega arith
    go false h = omega arith

module _ (number after ls rs : List ℕ) (s : Sides) (x : ℕ) where
  lefts-few : (a b : ℕ) → length (lefts number ls s a b) ≤ length ls
  lefts-few a b = omega (arith, length-map (between a b ls) (left_to number s), between-few a b ls)

  rights-few : (a b : ℕ) → length (rights number rs s a b) ≤ length rs
  rights-few a b = omega (arith, length-map (between a b rs) (right_to number s), between-few a b rs)

  above-few : (a : ℕ) → length (above number ls s a) ≤ length ls
  unfolding above
  above-few a = omega (arith, length-append (lefts number ls s a limits.max_states) [], lefts-few a limits.max_states)

  -- the state after the left one
  abbrev n : ℕ
  n = get_or after s.left 0

  shifted-few : length (shifted number after ls s x) ≤ 2 * length ls + 1
  unfolding shifted from_shift
  shifted-few = go (leb 1 x)
    where
      go : (b : Bool) → length (choose b (lefts number ls s (s.left + 1) (n + 1) ++ (shift_of after s x ∷ above number ls s (n + 1))) (above number ls s (s.left + 1))) ≤ 2 * length ls + 1
      go true = omega (
        arith,
        length-append (lefts number ls s (s.left + 1) (n + 1)) (shift_of after s x ∷ above number ls s (n + 1)),
        lefts-few (s.left + 1) (n + 1),
        above-few (n + 1),
      )
      go false = omega (arith, above-few (s.left + 1))

  alone-few : length (alone number after ls rs s x) ≤ 4 * length ls + 3 * length rs + 1
  unfolding alone below
  alone-few = omega (
    arith,
    length-append (lefts number ls s s.left (s.left + 1)) (rights number rs s s.right (s.right + 1) ++ below number after ls rs s x),
    lefts-few s.left (s.left + 1),
    length-append (rights number rs s s.right (s.right + 1)) (below number after ls rs s x),
    rights-few s.right (s.right + 1),
    length-append (lefts number ls s 0 s.left) (rights number rs s 0 s.right ++ (rights number rs s (s.right + 1) limits.max_states ++ shifted number after ls s x)),
    lefts-few 0 s.left,
    length-append (rights number rs s 0 s.right) (rights number rs s (s.right + 1) limits.max_states ++ shifted number after ls s x),
    rights-few 0 s.right,
    length-append (rights number rs s (s.right + 1) limits.max_states) (shifted number after ls s x),
    rights-few (s.right + 1) limits.max_states,
    shifted-few,
  )

-- both close
grid-size : (i j : ℕ) (ls rs : List ℕ) → length (grid i j ls rs) ≡ length ls * length rs
unfolding grid each
grid-size i j [] rs = omega arith
grid-size i j (u ∷ ls) rs =
    let g : ℕ → Step = λ v. step 1 u v (Closing i) (Closing j) in
    omega (arith, length-append (map g rs) (grid i j ls rs), length-map rs g, grid-size i j ls rs, suc-mul (length ls) (length rs))

-- a number of states, and its square
abbrev most : ℕ
most = limits.max_states

abbrev square : ℕ
square = most * most

pairs-most : (i j : ℕ) (ls rs : List ℕ) → length ls ≤ most → length rs ≤ most → length (pairs i j ls rs) ≤ square
pairs-most i j ls rs h k = go (eqb i j)
  where
    go : (b : Bool) → length (choose b [] (grid i j ls rs)) ≤ square
    go true = omega arith
    go false = omega (arith, grid-size i j ls rs, mul-le-mul {n₂ = most} {m₂ = most} h k)

-- one side moves alone, or either does
either-most : (b : Bool) (g : ℕ → Step) (l number after ls rs : List ℕ) (s : Sides) (x : ℕ) → length l ≤ most → length ls ≤ most → length rs ≤ most
    → length (choose b (map g l ++ []) (alone number after ls rs s x)) ≤ square
either-most true g l number after ls rs s x h i k = omega (arith, length-append (map g l) [], length-map l g)
either-most false g l number after ls rs s x h i k = omega (arith, alone-few number after ls rs s x)

zero-most : (number after : List ℕ) (t x y : ℕ) (lc rc : Bool) (p q : ℕ) (ls rs : List ℕ) → length ls ≤ most → length rs ≤ most
    → length (plan_zero number after t x y lc rc p q ls rs) ≤ square
unfolding plan_zero
zero-most number after t x y true true p q ls rs h k = pairs-most (get_or number p 0) (get_or number q 0) ls rs h k
zero-most number after t x y true false p q ls rs h k =
    either-most (is_read t y) (left_to number (sides 1 p q true true)) ls number after [] rs (sides 0 p q false false) (shared x y) h (omega arith) k
zero-most number after t x y false true p q ls rs h k =
    either-most (is_read t x) (right_to number (sides 1 p q true true)) rs number after ls [] (sides 0 p q false false) (shared x y) k h (omega arith)
zero-most number after t x y false false p q ls rs h k = omega (arith, alone-few number after ls rs (sides 0 p q false false) (shared x y))

at_most : (f : ℕ) (number after : List ℕ) (t x y : ℕ) (lc rc : Bool) (p q : ℕ) (ls rs : List ℕ) → length ls ≤ most → length rs ≤ most
    → length (plan_at f number after t x y lc rc p q ls rs) ≤ square
unfolding plan_at plan_one
at_most zero number after t x y lc rc p q ls rs h k = zero-most number after t x y lc rc p q ls rs h k
at_most (suc zero) number after t x y lc rc p q ls rs h k = omega (arith, alone-few number after ls rs (sides 1 p q lc rc) (read_shared t x y))
at_most (suc (suc f)) number after t x y lc rc p q ls rs h k = omega arith

segment-few : (first targets : List ℕ) (c : ℕ) → length (segment first targets c) ≤ length targets
unfolding segment
segment-few first targets c = part-few (get_or first (c + 1) 0 - get_or first c 0) (get_or first c 0) targets

-- the records of a triple, from rows whose targets are no more than states can be
pub few-planned : (R : Rows) (f p q : ℕ) → length R.targets ≤ limits.max_states
    → length (planned R f p q) ≤ limits.max_states * limits.max_states
few-planned R f p q h =
    at_most f R.number R.after R.terminals (ahead_of R p) (ahead_of R q) (ends R p) (ends R q) p q (targets_of R p) (targets_of R q)
    (omega (arith, segment-few R.first R.targets (get_or R.member p 0)))
    (omega (arith, segment-few R.first R.targets (get_or R.member q 0)))
