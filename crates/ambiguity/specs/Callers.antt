-- The automaton with m callers: its states and their order, whose moves the promises compute with, what it is without
-- callers, and what holds across m. With this a reader of the promises need not believe the lists
-- (automaton/specs/CallerMoves.antt).
-- Source: document 02, [11]. Assumes nothing.
use Rattle.std.specs.Prelude.{ℕ, suc, ◌+◌, ◌≤◌, ◌<◌, ◌≡◌, true, List, [], ◌∷◌, ◌⊎◌, ◌↔◌, length}
use Rattle.grammar.specs.Basics.{Mem, Distinct}
use Rattle.grammar.specs.Limits.{limits}
use Rattle.grammar.specs.Grammar.{Grammar}
use Rattle.grammar.specs.Tree.{HasTwoTrees}
use Rattle.grammar.specs.Live.{Live}
use Rattle.grammar.specs.TableCheck.{check_table}
use Rattle.automaton.specs.Items.{states, length_of, base}
use Rattle.automaton.specs.Moves.{Regular, Lists}
use Rattle.automaton.specs.Position.{Opens, Closes, Shifts, position}
use Rattle.automaton.specs.PositionMoves.{moves_of}
use Rattle.automaton.specs.Callers.{Spot, first, last, spot, Calls, SpotOpens, SpotCloses, SpotShifts, number_of, callers, check_with}
use Rattle.automaton.specs.CallerMoves.{moves_with}
use Rattle.automaton.specs.Strings.{Potential, Unambiguous}
use Rattle.triples.specs.Index.{index, triple_count}
use Rattle.triples.specs.Smallest.{smallest}
use Rattle.triples.specs.Certificate.{AcceptableCertificate}
use Rattle.triples.specs.Witness.{Witness}
use Rattle.search.specs.Promise.{Lent, is_enough, Searches}
use Rattle.search.specs.declared.SearchVerdict.{SearchVerdict}
use Rattle.search.specs.declared.SearchVerdict.TheVariants as search
use Rattle.ambiguity.specs.Entries.{Stores, StoresAt, states_at}
use Rattle.triples.specs.Numbers.{ReachedAt}

-- the states with m callers: the start, the end, and each item with its m nearest calling items, fewer only if the chain
-- begins in rule 0; above m = 0 items of rules that are not live have no states
pub data IsState (G : Grammar) (m : ℕ) : Spot → Type 0 where
  at_first : IsState G m first
  at_last : IsState G m last
  at_item : {i d : ℕ} {cs : List (ℕ × ℕ)} → i ≤ length G.rules → d ≤ length_of limits G i → (m ≡ 0) ⊎ Live limits G i
      → Calls limits G m i cs → IsState G m (spot i d cs)

-- the order of items: by rule, then by dot
abbrev pub ItemBefore : ℕ × ℕ → ℕ × ℕ → Type 0
ItemBefore b c = (b.0 < c.0) ⊎ ((b.0 ≡ c.0) × (b.1 < c.1))

-- the order of callers: from the nearest, a missing one first
pub data CallersBefore : List (ℕ × ℕ) → List (ℕ × ℕ) → Type 0 where
  missing : {c : ℕ × ℕ} {cs : List (ℕ × ℕ)} → CallersBefore [] (c ∷ cs)
  nearest : {b c : ℕ × ℕ} {bs cs : List (ℕ × ℕ)} → ItemBefore b c → CallersBefore (b ∷ bs) (c ∷ cs)
  farther : {b c : ℕ × ℕ} {bs cs : List (ℕ × ℕ)} → b ≡ c → CallersBefore bs cs → CallersBefore (b ∷ bs) (c ∷ cs)

-- the order of states: the start, the end, then by item, then by callers
pub data SpotBefore : Spot → Spot → Type 0 where
  start-end : SpotBefore first last
  start_item : {i d : ℕ} {cs : List (ℕ × ℕ)} → SpotBefore first (spot i d cs)
  end_item : {i d : ℕ} {cs : List (ℕ × ℕ)} → SpotBefore last (spot i d cs)
  by_item : {i d j e : ℕ} {cs ds : List (ℕ × ℕ)} → ItemBefore (i, d) (j, e) → SpotBefore (spot i d cs) (spot j e ds)
  by-callers : {i d j e : ℕ} {cs ds : List (ℕ × ℕ)} → i ≡ j → d ≡ e → CallersBefore cs ds → SpotBefore (spot i d cs) (spot j e ds)

-- of a well-formed grammar with a sentence
pub record CallerTheorems (G : Grammar) (m : ℕ) : Type 0 where
  -- the states, and no other spots, have numbers below Q
  pub numbered : (s : Spot) → IsState G m s ↔ (number_of limits G m s < states_at G m)
  -- and their numbers ascend exactly as the states do
  pub ordered : (s t : Spot) → IsState G m s → IsState G m t → SpotBefore s t ↔ (number_of limits G m s < number_of limits G m t)
  -- the lists are the moves of the automaton with m callers by these numbers, each number below Q is that of one state, and their
  -- moves lead to numbers below Q
  pub listed : Lists (callers limits G m) (moves_with limits G m)
  pub regular : Regular (moves_with limits G m)
  -- the computed set has each triple that is reached, once, and no other index: so the computed size is their number
  pub reached : (f p q : ℕ) → f < 2 → p < states_at G m → q < states_at G m
      → ReachedAt (callers limits G m) f p q ↔ Mem (index (states_at G m) f p q) (smallest (moves_with limits G m))
  pub inside : (i : ℕ) → Mem i (smallest (moves_with limits G m)) → i < triple_count (states_at G m)
  pub once : Distinct (smallest (moves_with limits G m))
  -- whatever certificate is acceptable, at whatever m: no two strings part, and no sentence has two derivation trees
  pub meaning : (bytes : List ℕ) → AcceptableCertificate (callers limits G m) bytes
      → Unambiguous (callers limits G m) × ((w : List ℕ) → ¬ HasTwoTrees limits G w)

-- without callers the automaton of a table's grammar is the position automaton: its states, their numbers and its moves
pub record ZeroTheorems (G : Grammar) : Type 0 where
  pub count : (callers limits G 0).states ≡ states G
  pub opens : (i : ℕ) (s t : Spot) → SpotOpens limits G 0 i s t ↔ Opens limits G (Live limits G) i (number_of limits G 0 s) (number_of limits G 0 t)
  pub closes : (i : ℕ) (s t : Spot) → SpotCloses limits G 0 i s t ↔ Closes limits G (Live limits G) i (number_of limits G 0 s) (number_of limits G 0 t)
  pub shifts : (x : ℕ) (s t : Spot) → SpotShifts limits G 0 x s t ↔ Shifts limits G (Live limits G) x (number_of limits G 0 s) (number_of limits G 0 t)
  -- rule i with the dot at d has the item's number
  pub number : (i d : ℕ) → i ≤ length G.rules → d ≤ length_of limits G i
      → number_of limits G 0 (spot i d []) ≡ base limits G i + d
  -- so the same strings part, and certificates and witnesses are the same bytes and rows
  pub parting : Potential (callers limits G 0) ↔ Potential (position limits G)
  pub certificates : (bytes : List ℕ)
      → AcceptableCertificate (callers limits G 0) bytes ↔ AcceptableCertificate (position limits G) bytes
  pub witnesses : (row : List ℕ) → Witness (callers limits G 0) row ↔ Witness (position limits G) row

pub record AcrossTheorems (t n : ℕ) (table : List ℕ) : Type 0 where
  -- with m = 0 nothing more is refused, and what is computed is computed from the same lists: so each promise at 0 is the one
  -- without callers, verdict, certificate, witness and figures included
  pub zero-check : check_with limits t n table 0 ≡ check_table limits t n table
  pub zero-moves : (G : Grammar) → moves_with limits G 0 ≡ moves_of limits G
  pub zero : (G : Grammar) → Stores t n table G → ZeroTheorems G
  -- whoever has an unambiguous verdict at m keeps it at m + 1
  pub keeps : (G : Grammar) → Stores t n table G → (m : ℕ) → Unambiguous (callers limits G m) → Unambiguous (callers limits G (suc m))
  -- where the states fit: so answers the search at m + 1, lent enough
  pub kept : (m : ℕ) (before : Lent) (r : SearchVerdict) (after : Lent) → Searches t n table m before r after
      → (k l : ℕ) → r ≡ search.Unambiguous k l
      → (G : Grammar) → StoresAt t n table (suc m) G
      → (before' : Lent) (r' : SearchVerdict) (after' : Lent) → Searches t n table (suc m) before' r' after'
      → is_enough (states_at G (suc m)) before' ≡ true → (k' l' : ℕ) × (r' ≡ search.Unambiguous k' l')
