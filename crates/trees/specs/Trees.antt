-- The trees of one sentence: how many derivation trees a row of terminals has, the rules of a tree, and what is refused beforehand.
-- Source: document 02, [12]. Assumes nothing.
use Rattle.std.specs.Prelude.{ℕ, zero, suc, ◌*◌, List, [], ◌∷◌, ◌++◌, leb, length, replicate}
use Rattle.grammar.specs.Basics.{choose, over}
use Rattle.grammar.specs.Limits.{Limits}
use Rattle.grammar.specs.Grammar.{Grammar, state_count}
use Rattle.grammar.specs.Tree.{Tree, node, Trees, none, child, SameTree, HasTree, HasTwoTrees}
use Rattle.grammar.specs.Refusal.{Answer, done, refuse_unless, and_then, buffer_too_short, row_wrong}
use Rattle.grammar.specs.TableCheck.{is_terminal, check_table}

-- the rules of a tree in preorder: from the root, children left to right, each node before its children's subtrees
unfoldable mutual
  pub rules_of : Tree → List ℕ
  rules_of (node i ts) = i ∷ rules_below ts

  pub rules_below : Trees → List ℕ
  rules_below none = []
  rules_below (child t ts) = rules_of t ++ rules_below ts

-- how many trees a row has: none, one with its rules, or several
pub data TreeCount : Type 0 where
  nothing : TreeCount
  one : List ℕ → TreeCount
  several : TreeCount

-- this agrees with the count of the derivation trees whose row is w; several are two or more, infinitely many too
pub data Agrees (L : Limits) (G : Grammar) (w : List ℕ) : TreeCount → Type 0 where
  count_0 : ((t : Tree) → ¬ HasTree L G w t) → Agrees L G w nothing
  count_1 : (t : Tree) → HasTree L G w t → ((u : Tree) → HasTree L G w u → SameTree t u) → Agrees L G w (one (rules_of t))
  count_2 : HasTwoTrees L G w → Agrees L G w several

-- the most terminals of a row, and the gaps before, between and after so many
abbrev pub max_row : ℕ
max_row = 64

abbrev pub places : ℕ
places = suc max_row

-- the first place at fault, from 0, where at most m terminals may stand: a code that is no terminal, or one terminal more; if
-- nothing is at fault, the row's length
unfoldable pub row_fault : ℕ → ℕ → List ℕ → ℕ
row_fault t zero w = 0
row_fault t (suc m) [] = 0
row_fault t (suc m) (a ∷ w) = choose (is_terminal t a) (suc (row_fault t m w)) 0

-- the entries of the work row, of 32 bits: 65 × 65 × Q, Q as at m = 0
abbrev pub work_size : Grammar → ℕ
work_size G = places * places * state_count G.rules

-- what is refused before the answer: table faults, 19 too; 22; 14 for the work row
unfoldable pub check_row : Limits → ℕ → ℕ → List ℕ → List ℕ → List ℕ → Answer Grammar
check_row L t n table w work =
    and_then (check_table L t n table) (λ G.
    refuse_unless row_wrong (row_fault t max_row w) (leb (length w) (row_fault t max_row w))
    (refuse_unless buffer_too_short 0 (leb (work_size G) (length work))
    (done G)))

-- the work row once it has been used: these entries are 0, the rest is unchanged
abbrev pub cleared : Grammar → List ℕ → List ℕ
cleared G work = over (replicate (work_size G) 0) work

-- how long the work row must be, or the table's first refusal
unfoldable pub trees_room : Limits → ℕ → ℕ → List ℕ → Answer ℕ
trees_room L t n table = and_then (check_table L t n table) (λ G. done (work_size G))
