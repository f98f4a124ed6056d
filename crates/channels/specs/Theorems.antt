-- What holds of the command set, with no premise left, and what follows from the entry's promise. Source: document 02, [14].
-- Assumes nothing.
use Rattle.std.specs.Prelude.{ℕ, ◌≤◌, ◌<◌, ◌≡◌, true, List, ◌⊎◌, ◌↔◌, length, take}
use Rattle.grammar.specs.Basics.{over}
use Rattle.grammar.specs.Limits.{limits}
use Rattle.grammar.specs.Grammar.{state_count}
use Rattle.grammar.specs.Tree.{Tree, SameTree, HasTree}
use Rattle.grammar.specs.Refusal.{buffer_too_short, row_wrong}
use Rattle.grammar.specs.declared.Cause.{Cause}
use Rattle.automaton.specs.Callers.{callers}
use Rattle.triples.specs.Certificate.{AcceptableCertificate}
use Rattle.triples.specs.Verdict.{CertificateAnswer}
use Rattle.triples.specs.declared.CheckVerdict.TheVariants.{Accepted}
use Rattle.rooms.specs.Room.{RoomAnswer}
use Rattle.rooms.specs.declared.SearchRoom.{SearchRoom}
use Rattle.rooms.specs.declared.SearchRoom.TheVariants.{Room}
use Rattle.search.specs.Promise.{Lent, Searches, is_enough}
use Rattle.search.specs.declared.SearchVerdict.{SearchVerdict}
use Rattle.search.specs.declared.SearchVerdict.TheVariants.{Unambiguous}
use Rattle.trees.specs.Trees.{rules_of, cleared}
use Rattle.ambiguity.specs.Entries.{Stores}
use Rattle.ambiguity.specs.Trees.{IsRow, FaultAt}
use Rattle.channels.specs.Commands.{commands, rules, table, certificate}
use Rattle.channels.specs.Promise.{ReadsPlan, plan_room}
use Rattle.channels.specs.declared.PlanRead.{PlanRead}
use Rattle.channels.specs.declared.PlanRead.TheVariants.{Nothing, Plan, Refused}

pub record CommandTheorems : Type 0 where
  -- the table passes the table check, and there are 27 states
  pub stores : Stores commands.terminals commands.nonterminals table commands
  pub states : state_count rules ≡ 27
  -- the certificate check accepts the certificate, which has 183 bytes
  pub bytes : length certificate ≡ 183
  pub acceptable : AcceptableCertificate (callers limits commands 0) certificate
  pub accepted : CertificateAnswer commands.terminals commands.nonterminals table 0 certificate Accepted
  -- it is the smallest one: the search, lent enough, writes it, with size 90, and looks at 163 successors
  pub searched : (before : Lent) (r : SearchVerdict) (after : Lent) → Searches commands.terminals commands.nonterminals table 0 before r after
      → is_enough 27 before ≡ true → (r ≡ Unambiguous 90 163) × (take 183 after.certificate ≡ certificate)
  -- told beforehand: Q, the certificate's bytes, the entries of each row, and 49 moves
  pub room : (r : SearchRoom) → RoomAnswer commands.terminals commands.nonterminals table 0 r → r ≡ Room 27 183 1458 49
  -- every sentence has exactly one tree
  pub one-tree : (w : List ℕ) (a b : Tree) → HasTree limits commands w a → HasTree limits commands w b → SameTree a b

module _ (w work list : List ℕ) where
  -- whatever the entry is given
  pub record PlanTheorems (r : PlanRead) (work' list' : List ℕ) : Type 0 where
    -- 22 at the first place at fault, then 14 for the work row; both rows are unchanged
    pub row-refused : (at : ℕ) → FaultAt commands.terminals w at → (r ≡ Refused row_wrong at) × (work' ≡ work) × (list' ≡ list)
    pub work_short : IsRow commands.terminals w → length work < plan_room → (r ≡ Refused buffer_too_short 0) × (work' ≡ work) × (list' ≡ list)
    -- then none exactly if the row is no sentence; the list is untouched
    pub none : IsRow commands.terminals w → plan_room ≤ length work → (r ≡ Nothing) ↔ ((u : Tree) → ¬ HasTree limits commands w u)
    pub untouched : r ≡ Nothing → list' ≡ list
    -- the plan of a sentence: the rules of its one tree from the root, children left to right, in front of the list; 14 if the list is
    -- shorter than they are
    pub plan : IsRow commands.terminals w → plan_room ≤ length work → (tree : Tree) → HasTree limits commands w tree
        → length (rules_of tree) ≤ length list → (r ≡ Plan (length (rules_of tree))) × (list' ≡ over (rules_of tree) list)
    pub plan-only : (k : ℕ) → r ≡ Plan k
        → (tree : Tree) × HasTree limits commands w tree × (k ≡ length (rules_of tree)) × (list' ≡ over (rules_of tree) list)
    pub list_short : IsRow commands.terminals w → plan_room ≤ length work → (tree : Tree) → HasTree limits commands w tree
        → length list < length (rules_of tree) → (r ≡ Refused buffer_too_short 0) × (list' ≡ list)
    -- no other cause is given
    pub causes : (cause : Cause) (at : ℕ) → r ≡ Refused cause at → (cause ≡ row_wrong) ⊎ (cause ≡ buffer_too_short)
    -- the work row's entries are 0 after every answer
    pub zeros : (r ≡ Nothing) ⊎ ((k : ℕ) × (r ≡ Plan k)) → work' ≡ cleared commands work
    -- the answer and both rows afterwards are determined
    pub determined : (r₂ : PlanRead) (work₂ list₂ : List ℕ) → ReadsPlan w work list r₂ work₂ list₂ → (r ≡ r₂) × (work' ≡ work₂) × (list' ≡ list₂)

-- whatever answers as the entry promises
pub record PlanPage : Type 0 where
  pub commands : CommandTheorems
  pub plans : (w work list : List ℕ) (r : PlanRead) (work' list' : List ℕ) → ReadsPlan w work list r work' list' → PlanTheorems w work list r work' list'
