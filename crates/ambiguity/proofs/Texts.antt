-- What follows from the promises of reader and writer. Assumes nothing.
use Prim.Native.Nat.{ℕ, ◌+◌, ◌≤◌}
use mathlib.Core.Path.{◌≡◌, refl, ap, sym, subst, ◌∙◌}
use mathlib.Core.Bool.{Bool, true, false}
use mathlib.Core.List.{List, ◌++◌, map}
use mathlib.Core.Logic.{◌↔◌}
use native.Mathlib.Omega.{arith}
use lib.ListN.{length, take, drop, length-append}
use lib.Seq.{take_at}
use Rattle.grammar.specs.Basics.{over}
use Rattle.grammar.specs.Limits.{limits}
use Rattle.grammar.specs.Table.{encode}
use Rattle.grammar.specs.Refusal.{Answer, done, refused, refuse_unless, and_then, buffer_too_short, no_sentence, cause_number}
use Rattle.grammar.specs.TableCheck.{check_table, table_checked, TableAnswer}
use Rattle.grammar.specs.declared.TableChecked.{TableChecked}
use Rattle.grammar.specs.declared.TableVerdict.TheVariants.{Passed, Refused}
use Rattle.grammar.proofs.Answers.{done_inj, no_answer, then-goes, then_stops}
use Rattle.grammar.proofs.WellFormed.{room}
use Rattle.grammar.specs.declared.Cause.{Cause}
use Rattle.table_check.proofs.Callers.{passed-table, refused-table}
use Rattle.text.specs.Read.{Source, symbol_names, grammar_of, read_text}
use Rattle.text.specs.Rules.{last_tests, check_text, read_into}
use Rattle.text.specs.Names.{folded}
use Rattle.text.specs.Spelling.{spelled_text, AsDeclared}
use Rattle.text.specs.Print.{gather, write_into}
use Rattle.text.specs.Promise.{name_starts, name_lengths, text_read, text_written, afterwards, ReadsText, WritesText}
use Rattle.text.specs.declared.TextRead.{TextRead}
use Rattle.text.specs.declared.TextRead.TheVariants as reader
use Rattle.text.specs.declared.TextRead.TheVariants.{Read}
use Rattle.text.specs.declared.TextWritten.{TextWritten}
use Rattle.text.specs.declared.TextWritten.TheVariants as writer
use Rattle.text.specs.declared.TextWritten.TheVariants.{Written}
use Rattle.text.proofs.Case.{text_case}
use Rattle.text.proofs.PrintRead.{print_read}
use Rattle.text.proofs.ReadPrinted.{read_again}
use Rattle.text.proofs.Spans.{length-lengths, length-name-starts}
use Rattle.text.proofs.Admit.{read_tests, Checked, text-checked}
use Rattle.text.proofs.Gather.{gather-front, gather-read}
use Rattle.text.proofs.RoundTrip.{apart, table-refuses, into_refused, reads_into, into_checked, limits-short}
use Rattle.text.proofs.Without.{Barren, text-without}
use Rattle.text.proofs.Promises.{written_as, refuses_as, written_passes, read-write, write_read, read_as, after-done}
use Rattle.ambiguity.specs.Texts.{TextTheorems}

short : (t n : ℕ) (table bytes starts lengths out : List ℕ) (m : ℕ) (out' : List ℕ)
    → WritesText t n table bytes starts lengths out (Written m) out' → m ≤ limits.max_text
short t n table bytes starts lengths out m out' w =
    let a = written_as _ m w.answer in
    subst (λ m. m ≤ limits.max_text) a.2 (limits-short t n table bytes starts lengths (length out) a.0 a.1)

-- a text that passes is refused with nothing but 14
only_14 : (e a b : ℕ) (text : List ℕ) (s : Source) → check_text limits text ≡ done s → (at : ℕ) → ¬ (read_into limits e a b text ≡ refused no_sentence at)
unfolding read_into
only_14 e a b text s c at h = go _ (sym (then-goes (check_text limits text) _ s c) ∙ h)
  where
    go : (ok : Bool) → ¬ (refuse_unless buffer_too_short 0 ok (done s) ≡ refused no_sentence at)
    go true h = unfold refuse_unless in no_answer (sym h)
    go false h = unfold refuse_unless in absurd (let z : buffer_too_short ≡ no_sentence = cc in let n : cause_number buffer_too_short ≡ cause_number no_sentence = ap cause_number z in omega arith)

-- the reader refuses with 19 where the tests before 14 do
without : (text table starts lengths : List ℕ) (v : TextRead) (table' starts' lengths' : List ℕ)
    → ReadsText text table starts lengths v table' starts' lengths' → (at : ℕ) → (v ≡ reader.Refused no_sentence at) ↔ ((at ≡ 0) × Barren limits text)
unfolding read_into
without text table starts lengths v table' starts' lengths' p at =
    let w = text-without limits room apart text at in (
      λ e. w.0 (before (check_text limits text) refl (refuses_as _ no_sentence at (sym e ∙ p.answer))),
      λ b. p.answer ∙ ap text_read (then_stops (check_text limits text) _ no_sentence at (w.1 b)),
    )
  where
    before : (o : Answer Source) → check_text limits text ≡ o → read_into limits (length table) (length starts) (length lengths) text ≡ refused no_sentence at
        → o ≡ refused no_sentence at
    before (done s) c i = absurd (only_14 (length table) (length starts) (length lengths) text s c at i)
    before (refused k q) c i = sym (then_stops (check_text limits text) _ k q c) ∙ i

never_19 : (t n : ℕ) (table bytes starts lengths out : List ℕ) (m : ℕ) (out' table₂ starts₂ lengths₂ : List ℕ) (r : TextRead)
    (table' starts' lengths' : List ℕ)
    → WritesText t n table bytes starts lengths out (Written m) out'
    → ReadsText (take m out') table₂ starts₂ lengths₂ r table' starts' lengths' → (at : ℕ) → ¬ (r ≡ reader.Refused no_sentence at)
never_19 t n table bytes starts lengths out m out' table₂ starts₂ lengths₂ r table' starts' lengths' w p at e =
    let k = written_passes t n table bytes starts lengths out m out' w in
    only_14 (length table₂) (length starts₂) (length lengths₂) (take m out') k.0 k.1 at (refuses_as _ no_sentence at (sym e ∙ p.answer))

module _ (text : List ℕ) (s : Source) (d : read_text limits text ≡ done s) (r : TableChecked)
    (h : TableAnswer (length s.terminals) (length s.nonterminals) (encode s.rules) r)
    (table starts lengths : List ℕ) (v : TextRead) (table' starts' lengths' : List ℕ)
    (p : ReadsText text table starts lengths v table' starts' lengths') where
  abbrev rest : Source → Answer Source
  rest s = and_then (last_tests limits s) (λ G. done s)

  last_tests_lem : (cause : Cause) (at : ℕ) → r.verdict ≡ Refused cause at → v ≡ reader.Refused cause at
  unfolding read_into check_text
  last_tests_lem cause at e =
      let c = refused-table (length s.terminals) (length s.nonterminals) (encode s.rules) r h cause at e in
      let o : check_text limits text ≡ refused cause at
      = then-goes (read_text limits text) rest s d ∙ then_stops (last_tests limits s) (λ G. done s) cause at (sym (read_tests limits apart text s d) ∙ c) in
      p.answer ∙ ap text_read (then_stops (check_text limits text) _ cause at o)

  reads : r.verdict ≡ Passed → length (encode s.rules) ≤ length table → length (symbol_names s) ≤ length starts
      → length (symbol_names s) ≤ length lengths → v ≡ text_read (done s)
  unfolding check_text
  reads e i j k =
      let c = passed-table (length s.terminals) (length s.nonterminals) (encode s.rules) r h e in
      let o : check_text limits text ≡ done s
      = then-goes (read_text limits text) rest s d ∙ then-goes (last_tests limits s) (λ G. done s) c.grammar (sym (read_tests limits apart text s d) ∙ c.checked) in
      p.answer ∙ ap text_read (reads_into limits (length table) (length starts) (length lengths) text s o i j k)

module _ (text table starts lengths : List ℕ) (t n e q : ℕ) (table' starts' lengths' : List ℕ)
    (p : ReadsText text table starts lengths (Read t n e q) table' starts' lengths') where
  -- what was read, and the table written
  abbrev outcome : Answer Source
  outcome = read_into limits (length table) (length starts) (length lengths) text

  source : Source
  source = (read_as outcome t n e q p.answer).source

  into : outcome ≡ done source
  unfolding source
  into = (read_as outcome t n e q p.answer).whole

  source-checked : Checked limits text source
  source-checked = text-checked limits apart text source (into_checked limits (length table) (length starts) (length lengths) text source into)

  counts : (length source.terminals ≡ t) × (length source.nonterminals ≡ n) × (length (encode source.rules) ≡ e)
  unfolding source
  counts = let a = read_as outcome t n e q p.answer in (a.terminals, a.nonterminals, a.entries)

  table-front : take e table' ≡ encode source.rules
  table-front =
      let xs = encode source.rules in
      ap (take e) (after-done outcome (λ (s : Source). encode s.rules) table table' source into p.table-after)
      ∙ take_at xs (drop (length xs) table) e counts.2

  -- it passes
  passes_on : (c : TableChecked) → TableAnswer t n (take e table') c → c.verdict ≡ Passed
  passes_on c h =
      let y : check_table limits t n (take e table') ≡ done (grammar_of source)
      = (λ d. check_table limits (sym counts.0 d) (sym counts.1 d) (table-front d)) ∙ source-checked.table in
      ap (λ (r : TableChecked). r.verdict) (h ∙ ap table_checked y)

  -- the names stand where the rows say
  names_stand : (s : Source) × (read_text limits text ≡ done s) × (take e table' ≡ encode s.rules)
      × (gather text starts' lengths' 0 (t + n) ≡ done (symbol_names s))
  names_stand =
      let xs = name_starts source in
      let ys = name_lengths (symbol_names source) in
      let k = length source.terminals in
      let l = length source.nonterminals in
      let y = after-done outcome name_starts starts starts' source into p.starts-after in
      let z = after-done outcome (λ (s : Source). name_lengths (symbol_names s)) lengths lengths' source into p.lengths-after in
      let c = length-append source.terminals source.nonterminals in
      let g : gather text starts' lengths' 0 (t + n) ≡ gather text (xs ++ drop (length xs) starts) (ys ++ drop (length ys) lengths) 0 (k + l)
      = λ d. gather text (y d) (z d) 0 (sym counts.0 d + sym counts.1 d) in (
        source,
        source-checked.read,
        table-front,
        g
            ∙ gather-front text xs ys (drop (length xs) starts) (drop (length ys) lengths) 0 (k + l) (omega (arith, length-name-starts source))
            (omega (arith, length-lengths (symbol_names source)))
            ∙ gather-read limits apart text source source-checked.read,
      )

-- the writer's table faults
write-refused : (t n : ℕ) (table bytes starts lengths out : List ℕ) (r : TextWritten) (out' : List ℕ)
    → WritesText t n table bytes starts lengths out r out'
    → (c : TableChecked) (cause : Cause) (at : ℕ) → TableAnswer t n table c → c.verdict ≡ Refused cause at
    → (r ≡ writer.Refused cause at) × (out' ≡ out)
write-refused t n table bytes starts lengths out r out' w c cause at h e =
    let o : write_into limits t n table bytes starts lengths (length out) ≡ refused cause at
    = into_refused limits t n table bytes starts lengths (length out) cause at
    (table-refuses limits t n table bytes starts lengths cause at (refused-table t n table c h cause at e)) in
    (w.answer ∙ ap text_written o, w.out-after ∙ ap (λ (o : Answer (List ℕ)). afterwards o (λ text. text) out) o)

text-again : (text table starts lengths table' starts' lengths' : List ℕ) (t n e q : ℕ) (out out' : List ℕ) (r : TextWritten)
    → ReadsText text table starts lengths (Read t n e q) table' starts' lengths'
    → WritesText t n (take e table') text starts' lengths' out r out' → length text ≤ length out
    → (s : Source) → read_text limits text ≡ done s
    → (r ≡ Written (length text)) × (out' ≡ over (spelled_text (symbol_names s) text) out)
text-again text table starts lengths table' starts' lengths' t n e q out out' r p w h s d =
    let a = read-write text table starts lengths table' starts' lengths' t n e q out out' r p w h in
    let into = into_checked limits (length table) (length starts) (length lengths) text a.0 a.1 in
    let c = text-checked limits apart text a.0 into in
    let same : a.0 ≡ s = done_inj (sym c.read ∙ d) in
    (a.2, a.3 ∙ ap (λ (x : Source). over (spelled_text (symbol_names x) text) out) same)

unchanged : (text table starts lengths table' starts' lengths' : List ℕ) (t n e q : ℕ) (out out' : List ℕ) (r : TextWritten)
    → ReadsText text table starts lengths (Read t n e q) table' starts' lengths'
    → WritesText t n (take e table') text starts' lengths' out r out' → length text ≤ length out
    → (s : Source) → read_text limits text ≡ done s → AsDeclared (symbol_names s) text → out' ≡ over text out
unchanged text table starts lengths table' starts' lengths' t n e q out out' r p w h s d declared =
    (text-again text table starts lengths table' starts' lengths' t n e q out out' r p w h s d).1 ∙ ap (λ (x : List ℕ). over x out) declared

only_case : (text : List ℕ) (s : Source) → read_text limits text ≡ done s
    → (map folded (spelled_text (symbol_names s) text) ≡ map folded text)
    × (read_text limits (spelled_text (symbol_names s) text) ≡ done s)
    × AsDeclared (symbol_names s) (spelled_text (symbol_names s) text)
only_case text s d =
    let again = read_again limits apart text s d in (
      text_case (symbol_names s) text,
      again,
      sym (print_read limits apart (spelled_text (symbol_names s) text) s again) ∙ print_read limits apart text s d,
    )

pub text_theorems : TextTheorems
text_theorems = record {
  text-again = text-again;
  unchanged = unchanged;
  only_case = only_case;
  tables-again = write_read;
  never_19 = never_19;
  short = short;
  last_tests_lem = last_tests_lem;
  reads = reads;
  without = without;
  passes_on = passes_on;
  names_stand = names_stand;
  write-refused = write-refused;
}
