-- What the entries' theorems begin with: the tables that pass, those that pass with m callers, and which refusal up to 8 stops the
-- others; then whose moves the promises compute with. Assumes nothing.
use Prim.Native.Nat.{ℕ, ◌≤◌, ◌<◌}
use mathlib.Core.Path.{◌≡◌, refl, ap, sym, subst, ◌∙◌}
use mathlib.Core.Bool.{true}
use mathlib.Core.List.{List}
use mathlib.Core.Logic.{◌⊎◌, inl, inr, ◌↔◌}
use native.Mathlib.Omega.{arith}
use Rattle.grammar.specs.Limits.{limits}
use Rattle.grammar.specs.Grammar.{Grammar, WellFormed}
use Rattle.grammar.specs.Live.{HasSentence, live-start, is_live}
use Rattle.grammar.specs.Refusal.{Answer, done, refused}
use Rattle.grammar.specs.TableCheck.{check_table, table_checked}
use Rattle.grammar.proofs.Live.{is_live_lem}
use Rattle.grammar.proofs.Lists.{lt_or_le}
use Rattle.grammar.proofs.WellFormed.{Taken, room}
use Rattle.grammar.proofs.Sentence.{passes_exactly}
use Rattle.grammar.specs.declared.Cause.{Cause}
use Rattle.automaton.specs.Moves.{Regular, Lists}
use Rattle.automaton.specs.Callers.{callers, most_callers, check_with}
use Rattle.automaton.specs.CallerMoves.{moves_with}
use Rattle.automaton.specs.Strings.{Potential}
use Rattle.triples.specs.Successor.{Reached}
use Rattle.triple_laws.proofs.CallerPosition.{with_listed, with_regular, with_states}
use Rattle.triple_laws.proofs.CallerChecks.{many_callers, many_states, within, table_stops, table-goes, passed_with}
use Rattle.parting.proofs.Callers.{spots-reached}
use Rattle.table_check.proofs.Callers.{refused-table}
use Rattle.ambiguity.specs.Entries.{IsTableOf, Stores, StoresAt, states_at, StopsAt, by-table, by-callers, by-states}

-- as the laws of the table check have it
pub is_taken : (t n : ℕ) (table : List ℕ) (G : Grammar) → IsTableOf t n table G → Taken limits t n table G
is_taken t n table G s = record { well_formed = s.well_formed; terminals = s.terminals; nonterminals = s.nonterminals; table = s.stored }

pub is_table : (t n : ℕ) (table : List ℕ) (G : Grammar) → Taken limits t n table G → IsTableOf t n table G
is_table t n table G a = record { well_formed = a.well_formed; terminals = a.terminals; nonterminals = a.nonterminals; stored = a.table }

-- a table that passes, and back
pub stores : (t n : ℕ) (table : List ℕ) (G : Grammar) → check_table limits t n table ≡ done G → Stores t n table G
stores t n table G e =
    let a = (passes_exactly limits room (omega arith) t n table G).0 e in
    record { is_table = is_table t n table G a.0; sentence = a.1 }

pub checked : (t n : ℕ) (table : List ℕ) (G : Grammar) → Stores t n table G → check_table limits t n table ≡ done G
checked t n table G s = (passes_exactly limits room (omega arith) t n table G).1 (is_taken t n table G s.is_table, s.sentence)

-- Q of the lists is the number of the states
states-at : (G : Grammar) → WellFormed limits G → (m : ℕ) → states_at G m ≡ (callers limits G m).states
states-at G W m = with_states limits G W (omega arith) m

-- with m callers
module _ (t n : ℕ) (table : List ℕ) (m : ℕ) where
  -- a table that passes, and back
  pub checked-at : (G : Grammar) → StoresAt t n table m G → check_with limits t n table m ≡ done G
  checked-at G s =
      table-goes limits t n table m G (checked t n table G s.stores)
      ∙ within limits G m s.few-callers (subst (λ (q : ℕ). q ≤ limits.max_states) (states-at G s.stores.is_table.well_formed m) s.few-states)

  pub stores_at : (G : Grammar) → check_with limits t n table m ≡ done G → StoresAt t n table m G
  stores_at G e =
      let a = passed_with limits t n table m G e in
      let s = stores t n table G a.0 in
      record {
        stores = s;
        few-callers = a.1;
        few-states = subst (λ (q : ℕ). q ≤ limits.max_states) (sym (states-at G s.is_table.well_formed m)) a.2;
      }

  -- a refusal up to 8 is that of the check with callers
  pub stops : {cause : Cause} {at : ℕ} → StopsAt t n table m cause at → check_with limits t n table m ≡ refused cause at
  stops {cause} {at} (by-table r a d) = table_stops limits t n table m cause at (refused-table t n table r a cause at d)
  stops (by-callers G s h) = table-goes limits t n table m G (checked t n table G s) ∙ many_callers limits G m h
  stops (by-states G s h k) =
      table-goes limits t n table m G (checked t n table G s)
      ∙ many_states limits G m h (subst (λ (q : ℕ). limits.max_states < q) (states-at G s.is_table.well_formed m) k)

  -- one stops it, or it passes
  abbrev Either : Type 0
  Either = ((cause : Cause) × (at : ℕ) × StopsAt t n table m cause at) ⊎ ((G : Grammar) × StoresAt t n table m G)

  judged : (G : Grammar) → Stores t n table G → (most_callers < m) ⊎ (m ≤ most_callers)
      → (limits.max_states < states_at G m) ⊎ (states_at G m ≤ limits.max_states) → Either
  judged G s (inl h) k = inl (_, _, by-callers G s h)
  judged G s (inr h) (inl k) = inl (_, _, by-states G s h k)
  judged G s (inr h) (inr k) = inr (G, record { stores = s; few-callers = h; few-states = k })

  pub stopped : Either
  stopped = go (check_table limits t n table) refl
    where
      go : (o : Answer Grammar) → check_table limits t n table ≡ o → Either
      go (done G) e = judged G (stores t n table G e) (lt_or_le most_callers m) (lt_or_le limits.max_states (states_at G m))
      go (refused cause at) e =
          inl (cause, at, by-table (table_checked (check_table limits t n table)) refl (ap (λ (o : Answer Grammar). (table_checked o).verdict) e))

-- with a sentence, and so wherever a table passes
module _ (G : Grammar) (W : WellFormed limits G) (s : HasSentence limits G) where
  -- rule 0 is live
  pub zero-live : is_live limits G 0 ≡ true
  zero-live = (is_live_lem limits G W (omega arith) 0 (omega arith)).1 (live-start s.2)

  -- the lists are the moves of the automaton with m callers, and regular
  pub regular : (m : ℕ) → Regular (moves_with limits G m)
  regular m = with_regular limits G W (omega arith) zero-live m

  pub lists : (m : ℕ) → Lists (callers limits G m) (moves_with limits G m)
  lists m = with_listed limits G W (omega arith) m

-- two strings part precisely when the end is reached
pub parts : (G : Grammar) → WellFormed limits G → (m : ℕ) → Potential (callers limits G m) ↔ Reached (callers limits G m) 1 (callers limits G m).last (callers limits G m).last
parts G W m = spots-reached limits G W (omega arith) m
