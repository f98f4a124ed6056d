-- The lines of each verdict are those of the table's grammar, and there is room for them. Assumes nothing.
use Prim.Native.Nat.{ℕ, ◌+◌, ◌≤◌}
use mathlib.Core.Path.{◌≡◌, ap, ap₂, sym, ◌∙◌}
use mathlib.Core.Bool.{Bool, true}
use mathlib.Core.List.{List, ◌++◌, append_assoc}
use native.Mathlib.Omega.{arith}
use lib.ListN.{length, take, length-append}
use Rattle.grammar.specs.Limits.{limits}
use Rattle.grammar.specs.Grammar.{Grammar}
use Rattle.grammar.specs.Refusal.{Answer}
use Rattle.grammar.specs.TableCheck.{check_table}
use Rattle.grammar.proofs.WellFormed.{room}
use Rattle.grammar.proofs.Sentence.{takes_only}
use Rattle.automaton.specs.Items.{states}
use Rattle.automaton.specs.Moves.{Moves}
use Rattle.automaton.specs.PositionMoves.{moves_of}
use Rattle.triples.specs.Smallest.{size}
use Rattle.triples.specs.Shortest.{shortest}
use Rattle.text.specs.Numbers.{decimal}
use Rattle.text.specs.Spelled.{spelled}
use Rattle.text.proofs.Spans.{length-spelled}
use Rattle.search.specs.Promise.{Lent, is_potential, Searches}
use Rattle.search.specs.declared.SearchVerdict.{SearchVerdict}
use Rattle.search.specs.declared.SearchVerdict.TheVariants as search
use Rattle.report.specs.Report.{line, states_is, verdict_is, potential, witness_lines, verdict_lines, grammar_lines, report_size}
use Rattle.report.specs.Clauses.{unambiguous_lines, potential_lines, Tellable, Speakable, table_lines, sides_lines}
use Rattle.report.proofs.Sizes.{states-line, grammar-most}
use Rattle.report.proofs.Told.{Rows, is_unambiguous, is_potential_lem}

module _ (t n : ℕ) (table : List ℕ) (q : ℕ) (text starts lengths : List ℕ) (s : Tellable t n table q text starts lengths) where
  abbrev G : Grammar
  G = s.grammar

  abbrev M : Moves
  M = moves_of limits G

  abbrev names : List (List ℕ)
  names = spelled text starts lengths

  lines_are : table_lines (check_table limits t n table) names ≡ grammar_lines G names
  lines_are = ap (λ (o : Answer Grammar). table_lines o names) s.passes

  sides_are : sides_lines (check_table limits t n table) names ≡ witness_lines G names
  sides_are = ap (λ (o : Answer Grammar). sides_lines o names) s.passes

  pub lines-most : length (table_lines (check_table limits t n table) names) ≤ report_size
  lines-most =
      let k = takes_only limits room t n table G s.passes in
      let c = s.names in
      let many : length names ≡ G.terminals + G.nonterminals
      = omega (arith, length-spelled text starts lengths c.rows.paired, c.symbols, k.terminals, k.nonterminals) in
      omega (arith, ap length lines_are, grammar-most G k.well_formed (omega (arith, s.counted, s.few)) names c.named many)

  module _ (before : Lent) (v : SearchVerdict) (after : Lent) (l : Rows before) (h : Searches t n table 0 before v after) where
    pub unambiguous-lines : (k looked : ℕ) → v ≡ search.Unambiguous k looked → unambiguous_lines q k ≡ table_lines (check_table limits t n table) names
    unambiguous-lines k looked e =
        let a = is_unambiguous t n table q text starts lengths s before v after l h k looked e in
        ap₂ unambiguous_lines (sym s.counted) a.1
        ∙ ap (λ (b : Bool). line states_is (decimal (states G)) ++ verdict_lines b (size M) (witness_lines G names)) (sym a.0) ∙ sym lines_are

    module _ (k looked : ℕ) (e : v ≡ search.Potential k looked) where
      known : (is_potential M ≡ true) × (k ≤ length after.witness) × (take k after.witness ≡ shortest M)
      known = is_potential_lem t n table q text starts lengths s before v after l h k looked e

      pub potential-lines : table_lines (check_table limits t n table) names ≡ potential_lines q ++ sides_lines (check_table limits t n table) names
      potential-lines =
          lines_are ∙ ap (λ (b : Bool). line states_is (decimal (states G)) ++ verdict_lines b (size M) (witness_lines G names)) known.0
          ∙ sym (append_assoc (line states_is (decimal (states G))) (line verdict_is potential) (witness_lines G names))
          ∙ ap₂ (λ (q : ℕ) (w : List ℕ). potential_lines q ++ w) s.counted (sym sides_are)

      pub potential_fits : k ≤ length after.witness
      potential_fits = known.1

      pub speakable : (at : ℕ) (out : List ℕ) → at ≡ length (potential_lines q) → report_size ≤ length out
          → Speakable t n table q text starts lengths (take k after.witness) at out
      speakable at out z r =
          let d : length (potential_lines q) ≤ 28
          = omega (arith, length-append (line states_is (decimal q)) (line verdict_is potential), ap (λ (q : ℕ). length (line states_is (decimal q))) s.counted, states-line G (omega (arith, s.counted, s.few))) in
          record { told = s; potential = known.0; shortest-row = known.2; room = omega (arith, r, d, z) }
