-- What is printed for a text: a refusal's lines, or those of the table that was read, with the names that stand in the text.
-- Assumes nothing.
use Prim.Native.Nat.{ℕ, ◌+◌, ◌≤◌}
use mathlib.Core.Path.{◌≡◌, ap, ap₂, sym, subst, ◌∙◌}
use mathlib.Core.Bool.{true}
use mathlib.Core.List.{List}
use native.Mathlib.Omega.{arith}
use lib.ListN.{length, take}
use lib.Seq.{length-take-le}
use Rattle.grammar.specs.Limits.{limits}
use Rattle.grammar.specs.Grammar.{Grammar}
use Rattle.grammar.specs.Refusal.{Answer, done, refused}
use Rattle.grammar.specs.TableCheck.{check_table}
use Rattle.grammar.proofs.Steps.{grammar_of}
use Rattle.grammar.proofs.WellFormed.{room}
use Rattle.grammar.proofs.Sentence.{takes_only}
use Rattle.grammar.specs.declared.Cause.{Cause}
use Rattle.text.specs.Names.{all, is_name}
use Rattle.text.specs.Read.{symbol_names}
use Rattle.text.specs.Spelled.{spelled}
use Rattle.text.proofs.Enough.{ReadRows}
use Rattle.report.specs.Report.{program_text, program_states, judge, grammar_lines, printed, report_of}
use Rattle.report.specs.Clauses.{refused_lines, Tellable, table_lines}
use Rattle.report.proofs.Told.{few-states}

pub refused_report : (text : List ℕ) (cause : Cause) (at : ℕ) → judge text ≡ refused cause at → refused_lines cause at ≡ report_of text
unfolding report_of
refused_report text cause at e = sym (ap printed e)

module _ (text : List ℕ) (t n e q : ℕ) (table starts lengths : List ℕ) (k : ReadRows text t n e q table starts lengths) (few : q ≤ program_states) where
  pub tellable : Tellable t n (take e table) q text (take (t + n) starts) (take (t + n) lengths)
  tellable =
      let s = k.source in
      let w = (takes_only limits room t n (take e table) (grammar_of t n s.rules) k.passes).well_formed in
      let a = length-take-le (t + n) starts k.starts_fits in
      let b = length-take-le (t + n) lengths k.lengths_fits in
      record {
        grammar = grammar_of t n s.rules;
        passes = k.passes;
        counted = k.states;
        few = few;
        names = record {
          rows = record { paired = a ∙ sym b; inside = k.inside };
          named = subst (λ (names : List (List ℕ)). all is_name names ≡ true) (sym k.spells) k.well.named;
          symbols = a;
          few-terminals = w.terminals;
          few-nonterminals = w.nonterminals.1;
          few-rules = w.count;
        };
      }

  pub read_report : length text ≤ program_text
      → table_lines (check_table limits t n (take e table)) (spelled text (take (t + n) starts) (take (t + n) lengths)) ≡ report_of text
  unfolding report_of
  read_report short =
      let s = k.source in
      let j : judge text ≡ done s = few-states text short s k.checked (omega (arith, k.states, few)) in
      ap (λ (o : Answer Grammar). table_lines o (spelled text (take (t + n) starts) (take (t + n) lengths))) k.passes
      ∙ ap (grammar_lines (grammar_of t n s.rules)) k.spells
      ∙ ap₂ (λ (t n : ℕ). grammar_lines (grammar_of t n s.rules) (symbol_names s)) (sym k.terminals) (sym k.nonterminals)
      ∙ sym (ap printed j)
