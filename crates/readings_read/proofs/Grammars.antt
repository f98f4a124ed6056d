-- The reader of grammar text, and the grammar in which the lines are read.
-- Assumes nothing.
use Prim.Native.Nat.{ℕ, ◌+◌, ◌-◌, ◌≤◌}
use mathlib.Core.Path.{◌≡◌, ap, sym, ◌∙◌}
use mathlib.Core.List.{List}
use native.Mathlib.Omega.{arith}
use lib.ListN.{length, take}
use lib.Seq.{length-take-le}
use Rattle.grammar.specs.Limits.{limits}
use Rattle.grammar.specs.Refusal.{done}
use Rattle.grammar.proofs.Answers.{then-goes, then_stops}
use Rattle.grammar.proofs.WellFormed.{room}
use Rattle.grammar.proofs.Sentence.{takes_only}
use Rattle.grammar.specs.declared.Cause.{Cause}
use Rattle.text.specs.Names.{has_double}
use Rattle.text.specs.Rules.{check_text}
use Rattle.text.specs.declared.TextRead.{TextRead}
use Rattle.text.specs.declared.TextRead.TheVariants as reader
use Rattle.text.proofs.Promises.{refuses_as}
use Rattle.text.proofs.Enough.{ReadRows}
use Rattle.text_read.proofs.Written.{checked-rows}
use Rattle.text.specs.Spelled.{spelled}
use Rattle.readings.specs.Promise.{strings_into, read_back_into, read_back, row_after, ReadsBack}
use Rattle.readings.specs.declared.ReadBack.{ReadBack}
use Rattle.readings.specs.declared.ReadBack.TheVariants.{GrammarRefused}
use Rattle.readings_read.specs.Words.{Named}
use Rattle.readings_read.specs.Lines.{lines_into, BackTold, GrammarChecked}

-- a text is read with t, m, e entries and q states, and two rows begin with the places of its names: what the lines say in this
-- grammar is what is read back
pub record InGrammar (text : List ℕ) (t m e q : ℕ) (starts lengths : List ℕ) : Type 0 where
  pub starts_fit : t + m ≤ length starts
  pub lengths_fit : t + m ≤ length lengths
  pub names-few : t + m ≤ limits.max_terminals + limits.max_nonterminals
  pub entries-few : e ≤ limits.max_states + limits.max_rules
  pub states-few : q ≤ e + 4
  pub named : Named t (e + 4 - q) text (take (t + m) starts) (take (t + m) lengths)
  pub lines-back : (lines left right : List ℕ) (b : ReadBack) (left' right' : List ℕ)
      → BackTold t (e + 4 - q) (spelled text (take (t + m) starts) (take (t + m) lengths)) lines left right b left' right'
      → ReadsBack text lines left right b left' right'

module _ (text : List ℕ) (r : TextRead) (starts lengths : List ℕ) (h : GrammarChecked text r starts lengths) where
  -- the text is refused
  pub grammar-refused : (lines left right : List ℕ) (cause : Cause) (at : ℕ) → r ≡ reader.Refused cause at
      → ReadsBack text lines left right (GrammarRefused cause at) left right
  unfolding read_back_into
  grammar-refused lines left right cause at e =
      let c = refuses_as (check_text limits text) cause at (sym e ∙ h.checks.answer) in
      let o = then_stops (check_text limits text) (λ s. done (strings_into limits (length left) (length right) lines s)) cause at c in
      record {
        answer = sym (ap read_back o);
        left_after = sym (ap (λ o. row_after o (λ p. p.0) left) o);
        right-after = sym (ap (λ o. row_after o (λ p. p.1) right) o);
      }

-- what the lines say in the grammar that was read
module _ (text : List ℕ) (t m e q : ℕ) (table starts lengths : List ℕ) (k : ReadRows text t m e q table starts lengths) where
  -- how many rules there are
  rules_are : e + 4 - q ≡ length k.source.rules
  rules_are = omega (arith, k.rules)

  back : (lines left right : List ℕ) (b : ReadBack) (left' right' : List ℕ)
      → BackTold t (e + 4 - q) (spelled text (take (t + m) starts) (take (t + m) lengths)) lines left right b left' right'
      → ReadsBack text lines left right b left' right'
  unfolding read_back_into strings_into lines_into
  back lines left right b left' right' w =
      let s = k.source in
      let i : lines_into t (e + 4 - q) (spelled text (take (t + m) starts) (take (t + m) lengths)) (length left) (length right) lines
      ≡ strings_into limits (length left) (length right) lines s
      = λ d. lines_into (sym k.terminals d) (rules_are d) (k.spells d) (length left) (length right) lines in
      let o : done (lines_into t (e + 4 - q) (spelled text (take (t + m) starts) (take (t + m) lengths)) (length left) (length right) lines)
      ≡ read_back_into limits (length left) (length right) text lines
      = ap (λ o. done o) i ∙ sym (then-goes (check_text limits text) (λ s. done (strings_into limits (length left) (length right) lines s)) s k.checked) in
      record {
        answer = w.answer ∙ ap read_back o;
        left_after = w.left_after ∙ ap (λ o. row_after o (λ p. p.0) left) o;
        right-after = w.right-after ∙ ap (λ o. row_after o (λ p. p.1) right) o;
      }

  pub in_grammar : InGrammar text t m e q starts lengths
  in_grammar =
      let s = k.source in
      let w = (takes_only limits room t m (take e table) _ k.passes).well_formed in
      let a = length-take-le (t + m) starts k.starts_fits in
      let b = length-take-le (t + m) lengths k.lengths_fits in
      record {
        starts_fit = k.starts_fits;
        lengths_fit = k.lengths_fits;
        names-few = omega (arith, w.terminals, w.nonterminals.1);
        entries-few = omega (arith, k.rules, k.states, w.count, w.size);
        states-few = omega (arith, k.rules);
        named = record {
          spans = record { paired = a ∙ sym b; inside = k.inside };
          once = ap has_double k.spells ∙ k.well.once;
          few = w.terminals;
          most = omega (arith, a, w.nonterminals.1);
          rules = omega (arith, rules_are, w.count);
        };
        lines-back = back;
      }

-- the text is read
pub grammar-read : (text : List ℕ) (r : TextRead) (starts lengths : List ℕ) → GrammarChecked text r starts lengths → (t m e q : ℕ) → r ≡ reader.Read t m e q
    → InGrammar text t m e q starts lengths
grammar-read text r starts lengths h t m e q g =
    in_grammar text t m e q h.row starts lengths (checked-rows text h.row starts lengths r h.checks t m e q g)
