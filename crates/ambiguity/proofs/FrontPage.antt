-- The front page holds. Assumes nothing.
use Prim.Native.Nat.{ℕ}
use mathlib.Core.Path.{◌≡◌, ap, ◌∙◌}
use mathlib.Core.List.{List}
use native.Mathlib.Omega.{arith}
use Rattle.grammar.specs.Limits.{limits}
use Rattle.grammar.specs.Grammar.{Grammar, WellFormed}
use Rattle.grammar.specs.Refusal.{done, no_sentence}
use Rattle.grammar.specs.TableCheck.{table_checked, TableAnswer}
use Rattle.grammar.specs.declared.TableChecked.{TableChecked}
use Rattle.grammar.specs.Live.{live-start}
use Rattle.grammar.proofs.Live.{is_live_lem}
use Rattle.grammar.proofs.WellFormed.{room}
use Rattle.grammar.proofs.Sentence.{refuses_exactly}
use Rattle.automaton.specs.Position.{position}
use Rattle.automaton.specs.PositionMoves.{moves_of}
use Rattle.triples.proofs.Index.{index_below, index_injective}
use Rattle.triple_laws.proofs.Laws.{smallest_distinct, smallest-below, reached-of}
use Rattle.triple_laws.proofs.Position.{position-listed, position-regular}
use Rattle.table_check.proofs.Callers.{passed-table, refused-table}
use Rattle.ambiguity.proofs.Entries.{is_taken, is_table, stores, checked, stopped}
use Rattle.ambiguity.proofs.Checks.{witness_theorems, record_theorems, certificate_theorems}
use Rattle.ambiguity.proofs.Searches.{search_theorems}
use Rattle.ambiguity.proofs.Callers.{caller_theorems, across_theorems}
use Rattle.ambiguity.proofs.Rooms.{room_theorems, length_theorems}
use Rattle.ambiguity.proofs.Readings.{reading_theorems, back_theorems}
use Rattle.ambiguity.proofs.Reports.{report_theorems}
use Rattle.ambiguity.proofs.Steps.{step_theorems}
use Rattle.ambiguity.proofs.Texts.{text_theorems}
use Rattle.ambiguity.proofs.Joins.{join_theorems, shown_theorems, place_theorems, joined_theorems}
use Rattle.ambiguity.proofs.Trees.{trees_theorems, trees-room_theorems}
use Rattle.ambiguity.proofs.Listed.{listed_theorems}
use Rattle.ambiguity.proofs.Drafts.{begin_theorems, edit_theorems, table-place_theorems, draft_theorems}
use Rattle.drafts.proofs.Theorems.{all_marks}
use Rattle.ambiguity.proofs.Carried.{carried_theorems}
use Rattle.ambiguity.specs.Automata.{AutomatonTheorems, IndexTheorems}
use Rattle.ambiguity.specs.FrontPage.{TableTheorems, FrontPage}

module _ (t n : ℕ) (table : List ℕ) where
  table_theorems : (r : TableChecked) → TableAnswer t n table r → TableTheorems t n table r
  table_theorems r e = record {
    passes = λ G s. let h : r ≡ table_checked (done G) = e ∙ ap table_checked (checked t n table G s) in
        (ap (λ (r : TableChecked). r.verdict) h, ap (λ (r : TableChecked). r.grammar) h);
    passes_only = λ v. let p = passed-table t n table r e v in
        (p.grammar, stores t n table p.grammar p.checked, p.same);
    without = λ at. let w = refuses_exactly limits room (omega arith) t n table at in (
      λ v. let x = w.0 (refused-table t n table r e no_sentence at v) in (x.0, (x.1.0, is_table t n table x.1.0 x.1.1, x.1.2)),
      λ (z, x). ap (λ (r : TableChecked). r.verdict) (e ∙ ap table_checked (w.1 (z, (x.0, is_taken t n table x.0 x.1, x.2)))),
    );
    rule_0_live = λ G s. live-start s.sentence.2;
  }

automaton_theorems : (G : Grammar) → WellFormed limits G → AutomatonTheorems G
automaton_theorems G W =
    let M = moves_of limits G in
    let R = position-regular limits G W (omega arith) in
    let N = position-listed limits G W (omega arith) in
    record {
      live = is_live_lem limits G W (omega arith);
      listed = N;
      regular = R;
      reached = λ f p q h j k. reached-of (position limits G) M R N h j k;
      inside = smallest-below M R;
      once = smallest_distinct M R;
    }

index_theorems : (Q : ℕ) → IndexTheorems Q
index_theorems Q = record {
  below = index_below Q;
  apart = λ f p q g r s hf hp hq hg hr hs n e. n (index_injective Q f p q g r s hp hq hr hs e);
}

pub front_page : FrontPage
front_page = record {
  tables = table_theorems;
  stopped = stopped;
  steps = step_theorems;
  witnesses = witness_theorems;
  records = record_theorems;
  certificates = certificate_theorems;
  searches = search_theorems;
  rooms = room_theorems;
  callers = caller_theorems;
  across = across_theorems;
  texts = text_theorems;
  text-lengths = length_theorems;
  joins = join_theorems;
  joined-names = shown_theorems;
  joined-places = place_theorems;
  joined_texts = joined_theorems;
  reports = report_theorems;
  readings = reading_theorems;
  backs = back_theorems;
  trees = trees_theorems;
  trees_rooms = trees-room_theorems;
  listed = listed_theorems;
  drafts_begun = begin_theorems;
  drafts_edited = edit_theorems;
  draft-tables = table-place_theorems;
  drafts = λ row d e. draft_theorems d (all_marks row d e);
  carried = carried_theorems;
  automata = automaton_theorems;
  indices = index_theorems;
}
