-- Records in range answer as the row of their indices does, and only such records are accepted. Assumes nothing.
use Prim.Native.Nat.{ℕ, ◌<◌}
use mathlib.Core.Path.{◌≡◌, refl, ap, ap₂, sym, subst, ◌∙◌}
use mathlib.Core.Bool.{Bool, true, false}
use mathlib.Core.List.{List, [], ◌∷◌, map}
use native.Mathlib.Omega.{arith}
use lib.Dec.{ltb}
use borrow.Author.Tests.{ltb-true, ltb-false}
use Rattle.grammar.specs.Basics.{Mem, here, there}
use Rattle.grammar.specs.Limits.{limits}
use Rattle.grammar.specs.Grammar.{Grammar}
use Rattle.grammar.specs.Refusal.{done}
use Rattle.grammar.proofs.Answers.{then-goes}
use Rattle.automaton.specs.Moves.{Moves, listed, Regular}
use Rattle.automaton.specs.Callers.{check_with}
use Rattle.automaton.specs.CallerMoves.{moves_with}
use Rattle.triples.specs.Index.{triple_count}
use Rattle.triples.specs.Witness.{LeadsOn, goes, Witness, begins, entry_of, check_row, check_witness, check_witness_records}
use Rattle.triples.proofs.Index.{index_below}
use Rattle.triple_laws.proofs.Records.{steps_in_range}
use Rattle.witness_records.specs.declared.TripleRecord.{TripleRecord}
use Rattle.witness_records.specs.Records.{triple, triples, InRange, index_of}
use Rattle.witness_records.proofs.Entries.{entry-layer, entry-left, entry-right, entry_in}

-- the entries of records in range are their indices
pub entries_are : (Q : ℕ) (es : List TripleRecord) → ((e : TripleRecord) → Mem e es → InRange Q e) → map (entry_of Q) (triples es) ≡ map (index_of Q) es
entries_are Q [] h = refl
entries_are Q (e ∷ es) h =
    let r = h e here in
    ap₂ (λ (j : ℕ) (is : List ℕ). j ∷ is) (entry_in Q e.layer e.left e.right r.layer r.left r.right) (entries_are Q es (λ x m. h x (there m)))

-- the two checks answer alike
pub records_alike : (t n : ℕ) (table : List ℕ) (m : ℕ) (G : Grammar) (es : List TripleRecord) → check_with limits t n table m ≡ done G
    → ((e : TripleRecord) → Mem e es → InRange (moves_with limits G m).states e) → check_witness_records limits t n table m (triples es) ≡ check_witness limits t n table m (map (index_of (moves_with limits G m).states) es)
unfolding check_witness_records check_witness
records_alike t n table m G es c h =
    then-goes (check_with limits t n table m) (λ G. check_row (moves_with limits G m) (map (entry_of (moves_with limits G m).states) (triples es))) G c
    ∙ ap (check_row (moves_with limits G m)) (entries_are (moves_with limits G m).states es h)
    ∙ sym (then-goes (check_with limits t n table m) (λ G₁. check_row (moves_with limits G₁ m) (map (index_of (moves_with limits G m).states) es)) G c)

-- an entry below 2Q² is that of a record in range
pub entry-inside : (Q : ℕ) (e : TripleRecord) → entry_of Q (triple e) < triple_count Q → InRange Q e
entry-inside Q e h = layered (ltb e.layer 2) refl
  where
    none : triple_count Q ≡ entry_of Q (triple e) → ⊥
    none z = omega arith

    placed : (b : Bool) → ltb e.right Q ≡ b → e.layer < 2 → e.left < Q → InRange Q e
    placed true b l k = record { layer = l; left = k; right = ltb-true e.right Q b }
    placed false b l k = absurd (none (entry-right Q e.layer e.left e.right l k (ltb-false e.right Q b)))

    sided : (b : Bool) → ltb e.left Q ≡ b → e.layer < 2 → InRange Q e
    sided true b l = placed (ltb e.right Q) refl l (ltb-true e.left Q b)
    sided false b l = absurd (none (entry-left Q e.layer e.left e.right l (ltb-false e.left Q b)))

    layered : (b : Bool) → ltb e.layer 2 ≡ b → InRange Q e
    layered true b = sided (ltb e.left Q) refl (ltb-true e.layer 2 b)
    layered false b = absurd (none (entry-layer Q e.layer e.left e.right (ltb-false e.layer 2 b)))

-- a witness has only entries below 2Q²
leads_inside : (M : Moves) (S : Regular M) {f p q : ℕ} {is : List ℕ} → f < 2 → p < M.states → q < M.states → LeadsOn (listed M) f p q is
    → (j : ℕ) → Mem j is → j < triple_count M.states
leads_inside M S hf hp hq (goes {g = g} {p' = p'} {q' = q'} s e l) j here =
    let b = steps_in_range M S hf hp hq s in subst (λ j. j < triple_count M.states) (sym e) (index_below M.states g p' q' b.0 b.1 b.2)
leads_inside M S hf hp hq (goes s e l) j (there m) = let b = steps_in_range M S hf hp hq s in leads_inside M S b.0 b.1 b.2 l j m
leads_inside M S hf hp hq Rattle.triples.specs.Witness.ends j x21 = elim x21 [ ]

pub witness_inside : (M : Moves) (S : Regular M) {is : List ℕ} → Witness (listed M) is → (j : ℕ) → Mem j is → j < triple_count M.states
witness_inside M S (begins e l) j here =
    let four = S.four in subst (λ j. j < triple_count M.states) (sym e) (index_below M.states 0 0 0 (omega arith) (omega arith) (omega arith))
witness_inside M S (begins e l) j (there m) = let four = S.four in leads_inside M S (omega arith) (omega arith) (omega arith) l j m

-- so the records of a witness are in range
mem_entry : (Q : ℕ) (es : List TripleRecord) (e : TripleRecord) → Mem e es → Mem (entry_of Q (triple e)) (map (entry_of Q) (triples es))
mem_entry Q (x ∷ es) e here = here
mem_entry Q (x ∷ es) e (there m) = there (mem_entry Q es e m)
mem_entry Q [] e x' = elim x' [ ]

pub records-inside : (M : Moves) (S : Regular M) (es : List TripleRecord) → Witness (listed M) (map (entry_of M.states) (triples es)) → (e : TripleRecord) → Mem e es → InRange M.states e
records-inside M S es w e m = entry-inside M.states e (witness_inside M S w (entry_of M.states (triple e)) (mem_entry M.states es e m))
