-- What follows from the promises for one sentence: which refusal comes first, that each answer agrees with the trees of the grammar,
-- what the work row and the list hold afterwards, that listed rules determine a tree, and the room told beforehand.
-- Source: document 02, [12]. Assumes nothing.
use Rattle.std.specs.Prelude.{ℕ, ◌≤◌, ◌<◌, ◌≡◌, List, ◌⊎◌, ◌↔◌, length, get_or}
use Rattle.grammar.specs.Basics.{over}
use Rattle.grammar.specs.Limits.{limits}
use Rattle.grammar.specs.Grammar.{Terminal, Grammar, IsRule}
use Rattle.grammar.specs.Tree.{Tree, SameTree, HasTree, HasTwoTrees}
use Rattle.grammar.specs.Refusal.{buffer_too_short, row_wrong}
use Rattle.grammar.specs.TableCheck.{TableAnswer}
use Rattle.grammar.specs.declared.TableChecked.{TableChecked}
use Rattle.grammar.specs.declared.TableVerdict.TheVariants as verdict
use Rattle.grammar.specs.declared.Cause.{Cause}
use Rattle.triples.specs.Verdict.{CertificateAnswer}
use Rattle.triples.specs.declared.CheckVerdict.TheVariants as check
use Rattle.trees.specs.Trees.{rules_of, max_row, work_size, cleared}
use Rattle.trees.specs.Promise.{FindsTrees, TreesRoomAnswer}
use Rattle.trees.specs.declared.TreesFound.{TreesFound}
use Rattle.trees.specs.declared.TreesFound.TheVariants.{Nothing, One, Several, Refused}
use Rattle.trees.specs.declared.TreesRoom.{TreesRoom}
use Rattle.trees.specs.declared.TreesRoom.TheVariants as room
use Rattle.ambiguity.specs.Entries.{Stores}

-- at most 64 codes, each a terminal
pub record IsRow (t : ℕ) (w : List ℕ) : Type 0 where
  pub few : length w ≤ max_row
  pub terminals : (i : ℕ) → i < length w → Terminal t (get_or w i 0)

-- the first place at fault, from 0: it holds no terminal, or it is place 64
pub record FaultAt (t : ℕ) (w : List ℕ) (at : ℕ) : Type 0 where
  pub inside : at < length w
  pub few : at ≤ max_row
  pub earlier : (i : ℕ) → i < at → Terminal t (get_or w i 0)
  pub fault : (at ≡ max_row) ⊎ ¬ Terminal t (get_or w at 0)

-- the row has this tree and no other
pub record OneTree (G : Grammar) (w : List ℕ) (tree : Tree) : Type 0 where
  pub has : HasTree limits G w tree
  pub only : (u : Tree) → HasTree limits G w u → SameTree tree u

module _ (t n : ℕ) (table w work list : List ℕ) where
  -- of a table, a row and a work row that are not refused
  pub record AnswerTheorems (G : Grammar) (r : TreesFound) (work' list' : List ℕ) : Type 0 where
    -- the work row's entries are 0 afterwards, whatever is answered, and the rest of it is unchanged
    pub zeros : work' ≡ cleared G work
    -- none exactly if there is no tree, several exactly if there are two; the list is untouched
    pub none : (r ≡ Nothing) ↔ ((u : Tree) → ¬ HasTree limits G w u)
    pub several : (r ≡ Several) ↔ HasTwoTrees limits G w
    pub untouched : (r ≡ Nothing) ⊎ (r ≡ Several) → list' ≡ list
    -- one exactly if there is one tree and the list has room for its rules, which then stand in front of it
    pub one : (tree : Tree) → OneTree G w tree → length (rules_of tree) ≤ length list
        → (r ≡ One (length (rules_of tree))) × (list' ≡ over (rules_of tree) list)
    pub one_only : (k : ℕ) → r ≡ One k
        → (tree : Tree) × OneTree G w tree × (k ≡ length (rules_of tree)) × (k ≤ length list) × (list' ≡ over (rules_of tree) list)
    -- each of them is the number of a rule
    pub numbers : (k i : ℕ) → r ≡ One k → i < k → IsRule G (get_or list' i 0)
    -- 14 if there is one tree and the list has no room for its rules; the list is unchanged
    pub short : (tree : Tree) → OneTree G w tree → length list < length (rules_of tree) → (r ≡ Refused buffer_too_short 0) × (list' ≡ list)

  -- why a refusal was given, and what is left: all is unchanged, but after the 14 for the list, known only once the work row has
  -- been used
  pub data RefusedFor (work' list' : List ℕ) : Cause → ℕ → Type 0 where
    by-table : {cause : Cause} {at : ℕ} (c : TableChecked) → TableAnswer t n table c → c.verdict ≡ verdict.Refused cause at
        → work' ≡ work → list' ≡ list → RefusedFor work' list' cause at
    by_row : {at : ℕ} (G : Grammar) → Stores t n table G → FaultAt t w at → work' ≡ work → list' ≡ list → RefusedFor work' list' row_wrong at
    by_work : (G : Grammar) → Stores t n table G → IsRow t w → length work < work_size G
        → work' ≡ work → list' ≡ list → RefusedFor work' list' buffer_too_short 0
    by_list : (G : Grammar) → Stores t n table G → IsRow t w → (tree : Tree) → OneTree G w tree → length list < length (rules_of tree)
        → work' ≡ cleared G work → list' ≡ list → RefusedFor work' list' buffer_too_short 0

  pub record TreesTheorems (r : TreesFound) (work' list' : List ℕ) : Type 0 where
    -- refusals in their order, demand 1: table faults, 22 at the first place at fault, 14 for the work row; both rows are unchanged
    pub table-refused : (c : TableChecked) (cause : Cause) (at : ℕ) → TableAnswer t n table c → c.verdict ≡ verdict.Refused cause at
        → (r ≡ Refused cause at) × (work' ≡ work) × (list' ≡ list)
    pub row-refused : (G : Grammar) → Stores t n table G → (at : ℕ) → FaultAt t w at
        → (r ≡ Refused row_wrong at) × (work' ≡ work) × (list' ≡ list)
    pub work_short : (G : Grammar) → Stores t n table G → IsRow t w → length work < work_size G
        → (r ≡ Refused buffer_too_short 0) × (work' ≡ work) × (list' ≡ list)
    -- every row has a first fault, or is a row of terminals
    pub rows : ((at : ℕ) × FaultAt t w at) ⊎ IsRow t w
    -- then the answer
    pub answers : (G : Grammar) → Stores t n table G → IsRow t w → work_size G ≤ length work → AnswerTheorems G r work' list'
    -- a refusal was given for one of these reasons
    pub refused-only : (cause : Cause) (at : ℕ) → r ≡ Refused cause at → RefusedFor work' list' cause at
    -- with two trees one is never the answer
    pub never_one : (G : Grammar) → Stores t n table G → HasTwoTrees limits G w → (k : ℕ) → ¬ (r ≡ One k)
    -- with an accepted certificate, at whatever m, several is never the answer
    pub never_several : (m : ℕ) (bytes : List ℕ) → CertificateAnswer t n table m bytes check.Accepted → ¬ (r ≡ Several)
    -- the answer and both rows afterwards are determined
    pub determined : (r₂ : TreesFound) (work₂ list₂ : List ℕ) → FindsTrees t n table w work list r₂ work₂ list₂
        → (r ≡ r₂) × (work' ≡ work₂) × (list' ≡ list₂)

-- the listed rules determine the tree, in a well-formed grammar
pub record ListedTheorems (G : Grammar) : Type 0 where
  pub same : (v w : List ℕ) (a b : Tree) → HasTree limits G v a → HasTree limits G w b → rules_of a ≡ rules_of b → SameTree a b

module _ (t n : ℕ) (table : List ℕ) where
  pub record TreesRoomTheorems (r : TreesRoom) : Type 0 where
    -- the faults of the table, as the table check gives them; else 65 × 65 × Q
    pub table-refused : (c : TableChecked) (cause : Cause) (at : ℕ) → TableAnswer t n table c → c.verdict ≡ verdict.Refused cause at → r ≡ room.Refused cause at
    pub told : (G : Grammar) → Stores t n table G → r ≡ room.Entries (work_size G)
    -- lent that many entries, 14 is answered for the list alone; lent fewer, for the work row
    pub enough : (e : ℕ) → r ≡ room.Entries e → (w work list : List ℕ) (v : TreesFound) (work' list' : List ℕ)
        → FindsTrees t n table w work list v work' list' → e ≤ length work → (at : ℕ) → v ≡ Refused buffer_too_short at
        → (G : Grammar) × Stores t n table G × ((tree : Tree) × OneTree G w tree × (length list < length (rules_of tree)))
    pub short : (e : ℕ) → r ≡ room.Entries e → (w work list : List ℕ) (v : TreesFound) (work' list' : List ℕ)
        → FindsTrees t n table w work list v work' list' → IsRow t w → length work < e
        → (v ≡ Refused buffer_too_short 0) × (work' ≡ work) × (list' ≡ list)
