-- What follows from the promises of the reader and the writer, whatever the input. Source: document 01; document 02, [4], [9];
-- README.md has the demands. Assumes nothing.
use Rattle.std.specs.Prelude.{ℕ, ◌+◌, ◌≤◌, ◌≡◌, List, map, ◌↔◌, length, take}
use Rattle.grammar.specs.Basics.{over}
use Rattle.grammar.specs.Limits.{limits}
use Rattle.grammar.specs.Grammar.{WellFormed}
use Rattle.grammar.specs.Live.{HasSentence}
use Rattle.grammar.specs.Table.{encode}
use Rattle.grammar.specs.Refusal.{done, no_sentence}
use Rattle.grammar.specs.declared.TableChecked.{TableChecked}
use Rattle.grammar.specs.declared.TableVerdict.TheVariants.{Passed, Refused}
use Rattle.grammar.specs.TableCheck.{TableAnswer}
use Rattle.grammar.specs.declared.Cause.{Cause}
use Rattle.text.specs.Names.{folded}
use Rattle.text.specs.Read.{Source, symbol_names, grammar_of, read_text}
use Rattle.text.specs.Spelling.{spelled_text, AsDeclared}
use Rattle.text.specs.Print.{gather}
use Rattle.text.specs.Promise.{text_read, ReadsText, WritesText, SameAgain}
use Rattle.text.specs.declared.TextRead.{TextRead}
use Rattle.text.specs.declared.TextRead.TheVariants as reader
use Rattle.text.specs.declared.TextRead.TheVariants.{Read}
use Rattle.text.specs.declared.TextWritten.{TextWritten}
use Rattle.text.specs.declared.TextWritten.TheVariants as writer
use Rattle.text.specs.declared.TextWritten.TheVariants.{Written}

pub record TextTheorems : Type 0 where
  -- demand 2: text that is read and written again, with the names that the reader gave, comes back with each use in its declared
  -- spelling, and as long ([9])
  pub text-again : (text table starts lengths table' starts' lengths' : List ℕ) (t n e q : ℕ) (out out' : List ℕ) (r : TextWritten)
      → ReadsText text table starts lengths (Read t n e q) table' starts' lengths'
      → WritesText t n (take e table') text starts' lengths' out r out' → length text ≤ length out
      → (s : Source) → read_text limits text ≡ done s
      → (r ≡ Written (length text)) × (out' ≡ over (spelled_text (symbol_names s) text) out)
  -- text already so spelled comes back unchanged
  pub unchanged : (text table starts lengths table' starts' lengths' : List ℕ) (t n e q : ℕ) (out out' : List ℕ) (r : TextWritten)
      → ReadsText text table starts lengths (Read t n e q) table' starts' lengths'
      → WritesText t n (take e table') text starts' lengths' out r out' → length text ≤ length out
      → (s : Source) → read_text limits text ≡ done s → AsDeclared (symbol_names s) text → out' ≡ over text out
  -- what comes back differs in the case of letters only, says the same, and has each use in its declared spelling: read and
  -- written again it is unchanged
  pub only_case : (text : List ℕ) (s : Source) → read_text limits text ≡ done s
      → (map folded (spelled_text (symbol_names s) text) ≡ map folded text)
      × (read_text limits (spelled_text (symbol_names s) text) ≡ done s)
      × AsDeclared (symbol_names s) (spelled_text (symbol_names s) text)
  -- tables and names that are written and read again, lent enough, are the same tables and the same names
  pub tables-again : (t n : ℕ) (table bytes starts lengths out : List ℕ) (m : ℕ) (out' table₂ starts₂ lengths₂ : List ℕ) (r : TextRead)
      (table' starts' lengths' : List ℕ)
      → WritesText t n table bytes starts lengths out (Written m) out'
      → ReadsText (take m out') table₂ starts₂ lengths₂ r table' starts' lengths'
      → length table ≤ length table₂ → t + n ≤ length starts₂ → t + n ≤ length lengths₂
      → SameAgain t n table bytes starts lengths (take m out') r table' starts' lengths'
  -- document 02, [4]: whatever rows are lent, the reader never refuses with 19 what was written
  pub never_19 : (t n : ℕ) (table bytes starts lengths out : List ℕ) (m : ℕ) (out' table₂ starts₂ lengths₂ : List ℕ) (r : TextRead)
      (table' starts' lengths' : List ℕ)
      → WritesText t n table bytes starts lengths out (Written m) out'
      → ReadsText (take m out') table₂ starts₂ lengths₂ r table' starts' lengths' → (at : ℕ) → ¬ (r ≡ reader.Refused no_sentence at)
  -- what is written is never longer than the reader takes
  pub short : (t n : ℕ) (table bytes starts lengths out : List ℕ) (m : ℕ) (out' : List ℕ)
      → WritesText t n table bytes starts lengths out (Written m) out' → m ≤ limits.max_text
  -- the reader's tests 7, 6, 8 and 19 are the table check of the table that it would write
  pub last_tests_lem : (text : List ℕ) (s : Source) → read_text limits text ≡ done s → (r : TableChecked)
      → TableAnswer (length s.terminals) (length s.nonterminals) (encode s.rules) r
      → (table starts lengths : List ℕ) (v : TextRead) (table' starts' lengths' : List ℕ)
      → ReadsText text table starts lengths v table' starts' lengths'
      → (cause : Cause) (at : ℕ) → r.verdict ≡ Refused cause at → v ≡ reader.Refused cause at
  -- and where it passes, the reader, lent enough, reads
  pub reads : (text : List ℕ) (s : Source) → read_text limits text ≡ done s → (r : TableChecked)
      → TableAnswer (length s.terminals) (length s.nonterminals) (encode s.rules) r
      → (table starts lengths : List ℕ) (v : TextRead) (table' starts' lengths' : List ℕ)
      → ReadsText text table starts lengths v table' starts' lengths'
      → r.verdict ≡ Passed → length (encode s.rules) ≤ length table → length (symbol_names s) ≤ length starts
      → length (symbol_names s) ≤ length lengths → v ≡ text_read (done s)
  -- document 02, [4]: whatever rows are lent, the reader refuses with 19, at 0, exactly if the text is read and
  -- its grammar is well formed, so that 7, 6 and 8 find no fault, and has no sentence
  pub without : (text table starts lengths : List ℕ) (v : TextRead) (table' starts' lengths' : List ℕ)
      → ReadsText text table starts lengths v table' starts' lengths' → (at : ℕ)
      → (v ≡ reader.Refused no_sentence at)
      ↔ ((at ≡ 0) × ((s : Source) × (read_text limits text ≡ done s) × WellFormed limits (grammar_of s) × ¬ HasSentence limits (grammar_of s)))
  -- the table that the reader wrote passes the table check
  pub passes_on : (text table starts lengths : List ℕ) (t n e q : ℕ) (table' starts' lengths' : List ℕ)
      → ReadsText text table starts lengths (Read t n e q) table' starts' lengths'
      → (c : TableChecked) → TableAnswer t n (take e table') c → c.verdict ≡ Passed
  -- and is that of the rules of the text; starts and lengths give, in the text, bytes equal to the names that it declares, by symbol
  -- number
  pub names_stand : (text table starts lengths : List ℕ) (t n e q : ℕ) (table' starts' lengths' : List ℕ)
      → ReadsText text table starts lengths (Read t n e q) table' starts' lengths'
      → (s : Source) × (read_text limits text ≡ done s) × (take e table' ≡ encode s.rules)
      × (gather text starts' lengths' 0 (t + n) ≡ done (symbol_names s))
  -- for the writer too the faults of the table come first, as the table check gives them; demand 1: the output is unchanged
  pub write-refused : (t n : ℕ) (table bytes starts lengths out : List ℕ) (r : TextWritten) (out' : List ℕ)
      → WritesText t n table bytes starts lengths out r out'
      → (c : TableChecked) (cause : Cause) (at : ℕ) → TableAnswer t n table c → c.verdict ≡ Refused cause at
      → (r ≡ writer.Refused cause at) × (out' ≡ out)
