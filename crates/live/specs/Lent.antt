-- The columns of a checked grammar's record, as they are lent one by one: a record by value is copied at each call.
-- Source: document 01, "Forms to use in the code". Assumes nothing.
use Rattle.std.specs.Prelude.{ℕ, ◌≡◌, List}
use Rattle.grammar.specs.Limits.{limits}
use Rattle.grammar.specs.Grammar.{Grammar, WellFormed}
use Rattle.grammar.specs.Record.{record_of}
use Rattle.grammar.specs.declared.CheckedGrammar.{CheckedGrammar}

-- the record of a grammar, with n, Q, these counts and these columns in place of its own
abbrev pub with_columns : Grammar → ℕ → ℕ → ℕ → ℕ → List ℕ → List ℕ → List ℕ → CheckedGrammar
with_columns G n q count used lefts lengths codes = record {
  terminals = (record_of G).terminals;
  nonterminals = n;
  count = count;
  used = used;
  states = q;
  offsets = (record_of G).offsets;
  lefts = lefts;
  lengths = lengths;
  codes = codes;
}

-- they are its own
pub record ColumnsOf (G : Grammar) (n q count used : ℕ) (lefts lengths codes : List ℕ) : Type 0 where
  pub well_formed : WellFormed limits G
  pub same : with_columns G n q count used lefts lengths codes ≡ record_of G
