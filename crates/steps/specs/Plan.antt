-- The step records of a triple listed from the rows of crate moves: of two states the codes ahead, the rules' numbers and the
-- ascending lists of targets. No sorting: the list is already in the order of the records. Assumes nothing.
use Rattle.std.specs.Prelude.{ℕ, zero, suc, ◌+◌, ◌*◌, ◌≤◌, ◌<◌, Bool, true, false, ◌&&◌, List, [], ◌∷◌, ◌++◌, map, eqb, leb, ltb, length, get_or, Result, Ok, Err}
use Rattle.grammar.specs.Basics.{choose, when, each}
use Rattle.grammar.specs.Limits.{limits}
use Rattle.triples.specs.Records.{step}
use Rattle.triples.specs.declared.Move.{Move}
use Rattle.triples.specs.declared.Move.TheVariants.{Opening, Closing, Symbol, Still}
use Rattle.triples.specs.declared.Step.{Step}
use Rattle.moves.specs.Tables.{segment, most_kinds}
use Rattle.steps.specs.declared.Sides.{Sides}

-- a ≤ x < b
abbrev pub inside : ℕ → ℕ → ℕ → Bool
inside a b x = leb a x && ltb x b

-- the entries from a on and below b
unfoldable pub between : ℕ → ℕ → List ℕ → List ℕ
between a b [] = []
between a b (x ∷ l) = when (inside a b x) (x ∷ []) ++ between a b l

-- the entry at a place, or how many places are left after the last
unfoldable pub pick_of : List ℕ → ℕ → Result ℕ ℕ
pick_of [] k = Err k
pick_of (u ∷ l) zero = Ok u
pick_of (u ∷ l) (suc k) = pick_of l k

-- 1 if a ≤ x < b, else 0
abbrev pub weight : ℕ → ℕ → ℕ → ℕ
weight a b x = choose (inside a b x) 1 0

-- no entry is Q's limit or more
abbrev pub Low : List ℕ → Type 0
Low l = (i : ℕ) → i < length l → get_or l i 0 < limits.max_states

-- p moves to u: a closing has the number of p's rule, an opening that of u's
abbrev pub move_of : List ℕ → Bool → ℕ → ℕ → Move
move_of number true p u = Closing (get_or number p 0)
move_of number false p u = Opening (get_or number u 0)

abbrev pub sides : ℕ → ℕ → ℕ → Bool → Bool → Sides
sides f p q lc rc = record { layer = f; left = p; right = q; left_closes = lc; right_closes = rc }

-- the left side moves alone to u; the right side to v; both pass x, each to the state after it
abbrev pub left_to : List ℕ → Sides → ℕ → Step
left_to number s u = step s.layer u s.right (move_of number s.left_closes s.left u) Still

abbrev pub right_to : List ℕ → Sides → ℕ → Step
right_to number s v = step s.layer s.left v Still (move_of number s.right_closes s.right v)

abbrev pub shift_of : List ℕ → Sides → ℕ → Step
shift_of after s x = step s.layer (get_or after s.left 0) (get_or after s.right 0) (Symbol x) (Symbol x)

-- records of moves alone to ls and rs, and of the shift of x, where 0 is none: first those that lead back, then by next triple
abbrev pub lefts : List ℕ → List ℕ → Sides → ℕ → ℕ → List Step
lefts number ls s a b = map (left_to number s) (between a b ls)

abbrev pub rights : List ℕ → List ℕ → Sides → ℕ → ℕ → List Step
rights number rs s a b = map (right_to number s) (between a b rs)

-- the left side moves to a or above
unfoldable pub above : List ℕ → List ℕ → Sides → ℕ → List Step
above number ls s a = lefts number ls s a limits.max_states ++ []

-- the shift, and the left side moves past it
unfoldable pub from_shift : List ℕ → List ℕ → List ℕ → Sides → ℕ → List Step
from_shift number after ls s x = shift_of after s x ∷ above number ls s (get_or after s.left 0 + 1)

-- the left side moves to above its state, with the shift among those moves, if there is one
unfoldable pub shifted : List ℕ → List ℕ → List ℕ → Sides → ℕ → List Step
shifted number after ls s x =
    choose (leb 1 x) (lefts number ls s (s.left + 1) (get_or after s.left 0 + 1) ++ from_shift number after ls s x) (above number ls s (s.left + 1))

unfoldable pub below : List ℕ → List ℕ → List ℕ → List ℕ → Sides → ℕ → List Step
below number after ls rs s x =
    lefts number ls s 0 s.left
    ++ (rights number rs s 0 s.right ++ (rights number rs s (s.right + 1) limits.max_states ++ shifted number after ls s x))

unfoldable pub alone : List ℕ → List ℕ → List ℕ → List ℕ → Sides → ℕ → List Step
alone number after ls rs s x =
    lefts number ls s s.left (s.left + 1) ++ (rights number rs s s.right (s.right + 1) ++ below number after ls rs s x)

-- both close, to every pair
unfoldable pub grid : ℕ → ℕ → List ℕ → List ℕ → List Step
grid i j ls rs = each ls (λ u. map (λ v. step 1 u v (Closing i) (Closing j)) rs)

-- a terminal, 1 to t
abbrev pub is_read : ℕ → ℕ → Bool
is_read t x = leb 1 x && leb x t

-- the symbol that both pass, or 0
abbrev pub shared : ℕ → ℕ → ℕ
shared x y = choose (eqb x y) x 0

-- the terminal that both pass, or 0
abbrev pub read_shared : ℕ → ℕ → ℕ → ℕ
read_shared t x y = choose (leb x t) (shared x y) 0

-- both close, if by unequal rules
abbrev pub pairs : ℕ → ℕ → List ℕ → List ℕ → List Step
pairs i j ls rs = choose (eqb i j) [] (grid i j ls rs)

-- the records of (0, p, q), where x and y are ahead, and lc and rc say that p and q are ends
unfoldable pub plan_zero : List ℕ → List ℕ → ℕ → ℕ → ℕ → Bool → Bool → ℕ → ℕ → List ℕ → List ℕ → List Step
plan_zero number after t x y true true p q ls rs = pairs (get_or number p 0) (get_or number q 0) ls rs
plan_zero number after t x y true false p q ls rs =
    choose (is_read t y) (map (left_to number (sides 1 p q true true)) ls ++ []) (alone number after [] rs (sides 0 p q false false) (shared x y))
plan_zero number after t x y false true p q ls rs =
    choose (is_read t x) (map (right_to number (sides 1 p q true true)) rs ++ []) (alone number after ls [] (sides 0 p q false false) (shared x y))
plan_zero number after t x y false false p q ls rs = alone number after ls rs (sides 0 p q false false) (shared x y)

-- the records of (1, p, q)
unfoldable pub plan_one : List ℕ → List ℕ → ℕ → ℕ → ℕ → Bool → Bool → ℕ → ℕ → List ℕ → List ℕ → List Step
plan_one number after t x y lc rc p q ls rs = alone number after ls rs (sides 1 p q lc rc) (read_shared t x y)

-- no code is ahead, and the class, below m, closes
abbrev pub is_end : ℕ → ℕ → ℕ → Bool
is_end m x c = eqb x 0 && ltb c m

-- the records of (f, p, q)
unfoldable pub plan_at : ℕ → List ℕ → List ℕ → ℕ → ℕ → ℕ → Bool → Bool → ℕ → ℕ → List ℕ → List ℕ → List Step
plan_at zero number after t x y lc rc p q ls rs = plan_zero number after t x y lc rc p q ls rs
plan_at (suc zero) number after t x y lc rc p q ls rs = plan_one number after t x y lc rc p q ls rs
plan_at (suc (suc f)) number after t x y lc rc p q ls rs = []

-- the rows, with t and m
pub record Rows : Type 0 where
  pub ahead : List ℕ
  pub number : List ℕ
  pub member : List ℕ
  pub first : List ℕ
  pub after : List ℕ
  pub targets : List ℕ
  pub terminals : ℕ
  pub kinds : ℕ

abbrev pub rows_of : List ℕ → List ℕ → List ℕ → List ℕ → List ℕ → List ℕ → ℕ → ℕ → Rows
rows_of a n c f z s t m = record { ahead = a; number = n; member = c; first = f; after = z; targets = s; terminals = t; kinds = m }

module _ (R : Rows) where
  abbrev pub ahead_of : ℕ → ℕ
  ahead_of p = get_or R.ahead p 0

  abbrev pub ends : ℕ → Bool
  ends p = is_end R.kinds (ahead_of p) (get_or R.member p 0)

  abbrev pub targets_of : ℕ → List ℕ
  targets_of p = segment R.first R.targets (get_or R.member p 0)

  -- the records of a triple whose states are in range
  abbrev pub planned : ℕ → ℕ → ℕ → List Step
  planned f p q = plan_at f R.number R.after R.terminals (ahead_of p) (ahead_of q) (ends p) (ends q) p q (targets_of p) (targets_of q)

-- a state's class has a segment, which lies in the row, and whose entries are states
pub record Laid (member first targets : List ℕ) (p : ℕ) : Type 0 where
  pub class : get_or member p 0 + 1 < 2 * most_kinds + 2
  pub order : get_or first (get_or member p 0) 0 ≤ get_or first (get_or member p 0 + 1) 0
  pub within : get_or first (get_or member p 0 + 1) 0 ≤ length targets
  pub low : Low (segment first targets (get_or member p 0))

-- states
abbrev pub Both : ℕ → ℕ → Type 0
Both p q = (p < limits.max_states) × (q < limits.max_states)
