-- Witnesses: rows of indices from (0,0,0) to (1,1,1), each the successor of the one before; refusal 15.
-- Source: document 01, "Triples, certificate, witness" and "Causes of refusal". Assumes nothing.
use Rattle.std.specs.Prelude.{ℕ, suc, ◌≡◌, ◌&&◌, List, [], ◌∷◌, map, eqb, ltb}
use Rattle.grammar.specs.Basics.{choose}
use Rattle.grammar.specs.Limits.{Limits}
use Rattle.grammar.specs.Refusal.{Answer, done, refused, refuse_unless, and_then, witness_wrong}
use Rattle.automaton.specs.Automaton.{Automaton}
use Rattle.automaton.specs.Moves.{Moves}
use Rattle.automaton.specs.Callers.{check_with}
use Rattle.automaton.specs.CallerMoves.{moves_with}
use Rattle.triples.specs.Successor.{Successor}
use Rattle.triples.specs.Index.{index, triple_count}
use Rattle.triples.specs.Smallest.{is_element, successors}

module _ (A : Automaton) where
  -- the index of a triple of states
  abbrev pub index_of : ℕ → A.State → A.State → ℕ
  index_of f p q = index A.states f (A.number p) (A.number q)

  -- the row leads on from (f, p, q) to (1, last, last), each entry the index of a successor of the triple before
  pub data LeadsOn : ℕ → A.State → A.State → List ℕ → Type 0 where
    ends : LeadsOn 1 A.last A.last []
    goes : {f g j : ℕ} {p q p' q' : A.State} {is : List ℕ} → Successor A f p q g p' q' → j ≡ index_of g p' q' → LeadsOn g p' q' is
        → LeadsOn f p q (j ∷ is)

  -- a witness: a row of indices from (0,0,0) to (1,1,1), each the successor of the one before
  pub data Witness : List ℕ → Type 0 where
    begins : {i : ℕ} {is : List ℕ} → i ≡ index_of 0 A.first A.first → LeadsOn 0 A.first A.first is → Witness (i ∷ is)

module _ (M : Moves) where
  -- 15 at the first entry that is no successor of the one before, which is i; at the row's length if only the end fails
  unfoldable pub check_on : ℕ → ℕ → List ℕ → Answer Unit
  check_on i place [] = refuse_unless witness_wrong place (eqb i (index M.states 1 1 1)) (done tt)
  check_on i place (j ∷ is) = refuse_unless witness_wrong place (is_element j (successors M i)) (check_on j (suc place) is)

  -- the first entry is (0,0,0); an empty row is wrong at 0
  unfoldable pub check_row : List ℕ → Answer Unit
  check_row [] = refused witness_wrong 0
  check_row (i ∷ is) = refuse_unless witness_wrong 0 (eqb i (index M.states 0 0 0)) (check_on i 1 is)

-- the witness check with m callers: the refusals up to [11]'s 8 first
unfoldable pub check_witness : Limits → ℕ → ℕ → List ℕ → ℕ → List ℕ → Answer Unit
check_witness L t n table m row = and_then (check_with L t n table m) (λ G. check_row (moves_with L G m) row)

-- a record (layer, left, right) of a lent list as an index: one with a layer above 1 or a state of Q or more is a wrong entry,
-- as 2Q² is
abbrev pub entry_of : ℕ → ℕ × ℕ × ℕ → ℕ
entry_of Q e = choose (ltb e.0 2 && (ltb e.1 Q && ltb e.2 Q)) (index Q e.0 e.1 e.2) (triple_count Q)

-- the witness check over such a list answers alike
unfoldable pub check_witness_records : Limits → ℕ → ℕ → List ℕ → ℕ → List (ℕ × ℕ × ℕ) → Answer Unit
check_witness_records L t n table m entries =
    and_then (check_with L t n table m) (λ G. check_row (moves_with L G m) (map (entry_of (moves_with L G m).states) entries))
