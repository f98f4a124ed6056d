-- What the theorems of the front page are about: the grammar with a sentence that a table stores, whether its
-- states with m callers fit, the refusals that come before, and the answers of nth_step for every place.
-- Each entry's promise is one definition, which its `ensures` cites and over which the front page quantifies:
-- TableAnswer in grammar/specs/TableCheck.antt; CertificateAnswer and WitnessAnswer in triples/specs/Verdict.antt;
-- RecordsAnswer in witness_records/specs/Records.antt; NthAnswer in steps/specs/Steps.antt; Searches in
-- search/specs/Promise.antt; RoomAnswer in rooms/specs/Room.antt; ReadsText, WritesText and LengthAnswer in
-- text/specs/Promise.antt; JoinsTexts, WritesJoined, ShowsPlace and ShowsName in modules/specs/Promise.antt;
-- Reports in report/specs/Report.antt; ReadsBack in readings/specs/Promise.antt; FindsTrees and TreesRoomAnswer in
-- trees/specs/Promise.antt; BeginsDraft and EditsDraft in drafts/specs/Promise.antt, ShowsTable, CountsDraft and
-- PlacesTable in drafts/specs/Reading.antt. That a refusal is the first in the documents' order is in the definitions
-- that the promises equal.
-- Source: document 01; document 02, [4], [11]. Assumes nothing.
use Rattle.std.specs.Prelude.{ℕ, ◌≤◌, ◌<◌, ◌≡◌, List}
use Rattle.grammar.specs.Limits.{limits}
use Rattle.grammar.specs.Grammar.{Grammar, WellFormed}
use Rattle.grammar.specs.Table.{encode}
use Rattle.grammar.specs.Live.{HasSentence}
use Rattle.grammar.specs.Refusal.{too_many_states, too_many_callers}
use Rattle.grammar.specs.TableCheck.{TableAnswer}
use Rattle.grammar.specs.declared.TableChecked.{TableChecked}
use Rattle.grammar.specs.declared.TableVerdict.TheVariants.{Refused}
use Rattle.grammar.specs.declared.Cause.{Cause}
use Rattle.automaton.specs.Callers.{most_callers}
use Rattle.automaton.specs.CallerMoves.{moves_with}
use Rattle.steps.specs.Steps.{NthAnswer}
use Rattle.steps.specs.declared.StepAnswer.{StepAnswer}

-- t, n and the table are those of a well-formed grammar within the limits
pub record IsTableOf (t n : ℕ) (table : List ℕ) (G : Grammar) : Type 0 where
  pub well_formed : WellFormed limits G
  pub terminals : G.terminals ≡ t
  pub nonterminals : G.nonterminals ≡ n
  pub stored : table ≡ encode G.rules

-- and the grammar has a sentence: these are the tables that pass
pub record Stores (t n : ℕ) (table : List ℕ) (G : Grammar) : Type 0 where
  pub is_table : IsTableOf t n table G
  pub sentence : HasSentence limits G

-- Q with m callers, the number of states of `callers limits G m` (`listed` in specs/Callers.antt)
abbrev pub states_at : Grammar → ℕ → ℕ
states_at G m = (moves_with limits G m).states

-- the table of a grammar that no refusal up to [11]'s 8 stops with m callers
pub record StoresAt (t n : ℕ) (table : List ℕ) (m : ℕ) (G : Grammar) : Type 0 where
  pub stores : Stores t n table G
  pub few-callers : m ≤ most_callers
  pub few-states : states_at G m ≤ limits.max_states

-- a refusal up to [11]'s 8: as the table check gives it; 21 at 0 for a greater m; then 8 at 0 for too many states with m callers
pub data StopsAt (t n : ℕ) (table : List ℕ) (m : ℕ) : Cause → ℕ → Type 0 where
  by-table : {cause : Cause} {at : ℕ} (r : TableChecked) → TableAnswer t n table r → r.verdict ≡ Refused cause at → StopsAt t n table m cause at
  by-callers : (G : Grammar) → Stores t n table G → most_callers < m → StopsAt t n table m too_many_callers 0
  by-states : (G : Grammar) → Stores t n table G → m ≤ most_callers → limits.max_states < states_at G m → StopsAt t n table m too_many_states 0

-- k is a usize
abbrev pub Usize : ℕ → Type 0
Usize k = k < 18446744073709551616

-- what nth_step promises of its answers for every place
abbrev pub StepAnswers : ℕ → ℕ → List ℕ → ℕ → ℕ → ℕ → ℕ → (ℕ → StepAnswer) → Type 0
StepAnswers t n table m f p q ask = (k : ℕ) → Usize k → NthAnswer t n table m f p q k (ask k)
