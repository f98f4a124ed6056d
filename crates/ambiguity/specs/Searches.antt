-- What follows from the promise of the search with m callers, whatever the input. Source: document 01, document 02's [1], [6]
-- and [11]; README.md has the demands.
-- Assumes nothing.
use Rattle.std.specs.Prelude.{ℕ, ◌≤◌, ◌≡◌, true, false, List, ◌⊎◌, ◌↔◌, length, take}
use Rattle.grammar.specs.Basics.{Mem, Distinct}
use Rattle.grammar.specs.Limits.{limits}
use Rattle.grammar.specs.Grammar.{Grammar}
use Rattle.grammar.specs.Tree.{HasTwoTrees}
use Rattle.grammar.specs.Refusal.{buffer_too_short}
use Rattle.grammar.specs.declared.Cause.{Cause}
use Rattle.automaton.specs.Strings.{Potential, Unambiguous}
use Rattle.automaton.specs.Callers.{Spot, number_of, callers}
use Rattle.automaton.specs.CallerMoves.{moves_with}
use Rattle.triples.specs.Index.{index, triple_count}
use Rattle.triples.specs.Successor.{Closed}
use Rattle.triples.specs.Smallest.{size}
use Rattle.triples.specs.Certificate.{byte_count, Holds, AcceptableCertificate, SmallestCertificate}
use Rattle.triples.specs.Shortest.{ShortestWitness}
use Rattle.triples.specs.Looked.{looked_at, looked_limit}
use Rattle.figures.specs.Choice.{Choice}
use Rattle.triples.specs.declared.CheckVerdict.{CheckVerdict}
use Rattle.triples.specs.declared.CheckVerdict.TheVariants as check
use Rattle.triples.specs.Verdict.{WitnessAnswer, CertificateAnswer}
use Rattle.search.specs.Promise.{Lent, is_enough}
use Rattle.search.specs.declared.SearchVerdict.{SearchVerdict}
use Rattle.search.specs.declared.SearchVerdict.TheVariants as search
use Rattle.ambiguity.specs.Entries.{StoresAt, StopsAt, states_at}
use Rattle.triples.specs.Numbers.{StepAt, ReachedAt}

-- the list has the index of each triple held, once, and no other
pub record ListsHeld (Q : ℕ) (bytes l : List ℕ) : Type 0 where
  pub distinct : Distinct l
  pub indices : (i : ℕ) → Mem i l ↔ ((f p q : ℕ) × (i ≡ index Q f p q) × Holds Q bytes f p q)

-- the list has each choice of moves at a triple reached, once, and no other
pub record ListsChoices (G : Grammar) (m : ℕ) (l : List Choice) : Type 0 where
  pub distinct : Distinct l
  pub choices : (c : Choice) → Mem c l
      ↔ (ReachedAt (callers limits G m) c.layer c.left c.right
      × StepAt (callers limits G m) c.layer c.left c.right c.step.layer c.step.left c.step.right c.step.on_left c.step.on_right)

module _ (t n : ℕ) (table : List ℕ) (m : ℕ) where
  -- unambiguous: the bytes are an acceptable certificate, contained in every other, and the certificate check accepts them
  pub record Certifies (G : Grammar) (r : SearchVerdict) (bytes : List ℕ) : Type 1 where
    pub verdict : r ≡ search.Unambiguous (size (moves_with limits G m)) (looked_at (moves_with limits G m))
    pub smallest : SmallestCertificate (callers limits G m) bytes
    pub accepted : (v : CheckVerdict) → CertificateAnswer t n table m bytes v → v ≡ check.Accepted
    -- they are the smallest closed set: they hold exactly what is reached from (0,0,0)
    pub reached : (f p q : ℕ) → Holds (states_at G m) bytes f p q ↔ ReachedAt (callers limits G m) f p q
    -- every closed set holds what they hold
    pub least_closed : (C : ℕ → Spot → Spot → Type 0) → Closed (callers limits G m) C → (f : ℕ) (s t : Spot)
        → Holds (states_at G m) bytes f (number_of limits G m s) (number_of limits G m t) → C f s t
    -- and the number is its size: some list has the indices held, and the number is the length of every such list
    pub listed : (l : List ℕ) × ListsHeld (states_at G m) bytes l
    pub number : (l : List ℕ) → ListsHeld (states_at G m) bytes l → r ≡ search.Unambiguous (length l) (looked_at (moves_with limits G m))

  pub record VerdictTheorems (G : Grammar) (r : SearchVerdict) (written : List ℕ) : Type 1 where
    -- demand 2: potential precisely when two strings part, otherwise unambiguous with the smallest closed set and its size
    pub potential : ((k l : ℕ) × (r ≡ search.Potential k l)) ↔ Potential (callers limits G m)
    pub otherwise : Unambiguous (callers limits G m) → Certifies G r written
    pub one_of_two : ((k l : ℕ) × (r ≡ search.Potential k l)) ⊎ Certifies G r written
    -- demand 3: where some bytes are an acceptable certificate it answers unambiguous, and writes one contained in every other
    pub certificates : (bytes : List ℕ) → AcceptableCertificate (callers limits G m) bytes → Certifies G r written
    -- document 02, [6]: with either verdict the second number is the computed figure, at most M² + 2×Q×M
    pub looked : (k l : ℕ) → (r ≡ search.Unambiguous k l) ⊎ (r ≡ search.Potential k l) → (l ≡ looked_at (moves_with limits G m)) × (l ≤ looked_limit (moves_with limits G m))
    -- it is the number of choices of moves at the triples reached: some list has each of them once, and it is the length of every such list
    pub choices : (l : List Choice) × ListsChoices G m l
    pub looked_number : (k h : ℕ) → (r ≡ search.Unambiguous k h) ⊎ (r ≡ search.Potential k h) → (l : List Choice) → ListsChoices G m l → h ≡ length l
    -- where it answers unambiguous no sentence has two derivation trees
    pub one-tree : (k l : ℕ) → r ≡ search.Unambiguous k l → (sentence : List ℕ) → ¬ HasTwoTrees limits G sentence

  pub record SearchTheorems (before : Lent) (r : SearchVerdict) (after : Lent) : Type 1 where
    -- the refusals up to [11]'s 8 come first, then 14; demand 1: these refusals change nothing
    pub refused : (cause : Cause) (at : ℕ) → StopsAt t n table m cause at → (r ≡ search.Refused cause at) × (after ≡ before)
    pub short : (G : Grammar) → StoresAt t n table m G → is_enough (states_at G m) before ≡ false
        → (r ≡ search.Refused buffer_too_short 0) × (after ≡ before)
    -- lent enough, it answers; the certificate is the front of what was lent
    pub enough : (G : Grammar) → StoresAt t n table m G → is_enough (states_at G m) before ≡ true → VerdictTheorems G r (take (byte_count (states_at G m)) after.certificate)
    -- demand 2: the witness check accepts the row that it wrote
    pub witness : (k l : ℕ) → r ≡ search.Potential k l → (v : CheckVerdict) → WitnessAnswer t n table m (take k after.witness) v → v ≡ check.Accepted
    -- of all witnesses that is the one with the fewest entries and, among those, the smaller index where they first differ; it has
    -- at most 2Q² entries
    pub shortest : (G : Grammar) → StoresAt t n table m G → (k l : ℕ) → r ≡ search.Potential k l
        → ShortestWitness (callers limits G m) (take k after.witness) × (k ≤ triple_count (states_at G m))
    -- and no other row is
    pub only : (G : Grammar) → StoresAt t n table m G → (k l : ℕ) → r ≡ search.Potential k l
        → (row : List ℕ) → ShortestWitness (callers limits G m) row → row ≡ take k after.witness
