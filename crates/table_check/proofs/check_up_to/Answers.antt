-- check_up_to meets its contract: the record holds the rules before the offset, and checking on from there is checking from the
-- start; where the whole is asked for, a grammar without a sentence is refused after that.
use native.Mathlib.Omega.{arith}
use Prim.Native.Nat.{ℕ, ◌+◌, ◌-◌, ◌≤◌}
use mathlib.Core.Path.{◌≡◌, refl, ap, sym, subst, ◌∙◌}
use mathlib.Core.Bool.{Bool, true, false}
use mathlib.Core.List.{List}
use lib.ListN.{length, take, drop, get_or, length-drop}
use lib.Seq.{length-take-le}
use Rattle.grammar.specs.Basics.{choose}
use Rattle.grammar.specs.Limits.{limits}
use Rattle.grammar.specs.Grammar.{Grammar}
use Rattle.grammar.specs.TableCheck.{in_range, stored_table, check_table, table_checked}
use Rattle.grammar.specs.Refusal.{Answer, done, refused}
use Rattle.grammar.specs.Live.{has_sentence}
use Rattle.grammar.specs.declared.CheckedGrammar.{CheckedGrammar}
use Rattle.grammar.specs.declared.TableVerdict.TheVariants.{Passed}
use Rattle.grammar.proofs.Plain.{in_range_lem}
use Rattle.grammar.proofs.Steps.{grammar_of, table-out}
use Rattle.grammar.proofs.WellFormed as formed
use Rattle.grammar.proofs.Sentence.{with_sentence, without_sentence_lem, not-stored}
use Rattle.grammar.specs.declared.Cause.{Cause}
use Rattle.live.specs.Lent.{ColumnsOf}
use Rattle.live.proofs.ColumnLaws.{lent_of}
use Rattle.table_check.specs.Clauses.{next_or_full}
use Rattle.table_check.proofs.RecordLaws.{paste-part}
use Rattle.table_check.proofs.WalkLaws.{Walk, Room, walk_start, walk_before, walk-room, walk-on, walk_end, walk_fault, length-read, fault_read}
use Rattle.table_check.proofs.check_up_to.Goals as goal
use Rattle.table_check.proofs.check_up_to.Lts as lts
use Rattle.table_check.proofs.check_up_to.Reads as reads
use Rattle.table_check.proofs.check_up_to.Tie as tie

abbrev Place-Else1 : Type 0
Place-Else1 = lts.Else1 tie.the-claims reads.Pre reads.Post goal.the-invariant-loop-at goal.the-decreases-loop-at

abbrev Place-Past-After-known_told2 : Type 0
Place-Past-After-known_told2 = lts.Past-After-known_told2 tie.the-claims reads.Pre reads.Post goal.the-invariant-loop-at goal.the-decreases-loop-at

abbrev Place-After-loop : Type 0
Place-After-loop = lts.After-loop tie.the-claims reads.Pre reads.Post goal.the-invariant-loop-at goal.the-decreases-loop-at

abbrev Place-After-has_sentence : Type 0
Place-After-has_sentence = lts.After-has_sentence tie.the-claims reads.Pre reads.Post goal.the-invariant-loop-at goal.the-decreases-loop-at

-- what is asked for: the grammar that the table stores, and where the whole is asked for, with a sentence
abbrev answer : (t n : ℕ) (table : List ℕ) → Bool → Answer Grammar
answer t n table whole = choose whole (check_table limits t n table) (stored_table limits t n table)

-- a table that stores no grammar is refused either way
either : (t n : ℕ) (table : List ℕ) (whole : Bool) (cause : Cause) (at : ℕ) → stored_table limits t n table ≡ refused cause at → answer t n table whole ≡ refused cause at
either t n table true cause at e = not-stored limits t n table cause at e
either t n table false cause at e = e

-- t and n are in their ranges
ranges : (c : Place-Else1) → let a = c.args in in_range limits a.t a.n ≡ true
ranges c = sym c.in_range.ensures ∙ c.if-not-in_range.false

-- the rule at the offset is without fault, so the record has room for it
told : (c : Place-Past-After-known_told2) → let a = c.args in let l = c.loop-at in
    next_or_full a.t a.n a.table.now l.g.count l.at ≡ done c.in-Length.k
told c = length-read _ c.in-Length.k (sym c.next_rule-read.ensures ∙ c.in-Length.is)

room : (c : Place-Past-After-known_told2) → let a = c.args in let l = c.loop-at in
    Room l.g a.table.now l.at c.in-Length.k
room c = walk-room c.in-Length.k c.loop-at.invariant (told c)

pub returns-then-not-in_range : goal.returns-then-not-in_range
returns-then-not-in_range c = let a = c.args in
    let o = table-out limits a.t a.n a.table.now (sym c.in_range.ensures ∙ c.if-not-in_range.true) in
    c.refuse.ensures ∙ ap table_checked (sym (either a.t a.n a.table.now a.whole _ _ o))

pub overflow_cast-terminals : goal.overflow_cast-terminals
overflow_cast-terminals c = let a = c.args in omega (arith, (in_range_lem limits a.t a.n).0 (ranges c.before))

pub overflow_cast-nonterminals : goal.overflow_cast-nonterminals
overflow_cast-nonterminals c = let a = c.args in omega (arith, (in_range_lem limits a.t a.n).0 (ranges c.before))

pub loop-at-init : goal.loop-at-init
loop-at-init c = let a = c.args in
    subst (λ (g : CheckedGrammar). Walk a.table.now a.t a.n g 0) (sym c.without_rules-g.ensures) (walk_start a.table.now a.t a.n (ranges c.before.before))

pub next_rule-read-requires : goal.next_rule-read-requires
next_rule-read-requires c = walk_before c.loop-at.invariant

pub returns-in-Fault : goal.returns-in-Fault
returns-in-Fault c = let n = c in
    let t = n in
    let a = t.args in
    let o = walk_fault c.in-Fault.cause c.in-Fault.place t.loop-at.invariant n.loop-at-test.true (fault_read _ c.in-Fault.cause c.in-Fault.place (sym n.next_rule-read.ensures ∙ c.in-Fault.is)) in
    c.refuse-in-Fault.ensures ∙ ap table_checked (sym (either a.t a.n a.table.now a.whole _ _ o))

pub overflow_add-at-in-Length-2 : goal.overflow_add-at-in-Length-2
overflow_add-at-in-Length-2 c = omega (arith, room c.before.before)

pub slice_bounds-put_codes-start : goal.slice_bounds-put_codes-start
slice_bounds-put_codes-start c = omega (arith, room c.before.before)

pub slice_bounds-put_codes-end : goal.slice_bounds-put_codes-end
slice_bounds-put_codes-end c = omega (arith, room c.before.before)

-- the part that is lent has as many codes as the rule
part_length : (table : List ℕ) (at k : ℕ) → at + 2 + k ≤ length table → length (take (at + 2 + k - (at + 2)) (drop (at + 2) table)) ≡ k
part_length table at k h =
    let e : at + 2 + k - (at + 2) ≡ k = omega arith in
    length-take-le (at + 2 + k - (at + 2)) (drop (at + 2) table) (simp length-drop (omega arith)) ∙ e

pub put_codes-requires : goal.put_codes-requires
put_codes-requires c = let b = c in
    let r = room b.before.before.before in
    let l = b.loop-at in
    (r.row, omega (arith, r.used, part_length b.args.table.now l.at b.in-Length.k r.whole))

pub overflow_cast-g : goal.overflow_cast-g
overflow_cast-g c = omega (arith, room c.before.before.before.before)

pub offset_bounds-g-count : goal.offset_bounds-g-count
offset_bounds-g-count c = omega (arith, room c.before.before.before.before)

pub bounds-g-count : goal.bounds-g-count
bounds-g-count c = (room c.before.before.before.before).count

pub bounds-table-at : goal.bounds-table-at
bounds-table-at c = omega (arith, room c.before.before.before.before.before)

pub offset_bounds-g-count-in-Length : goal.offset_bounds-g-count-in-Length
offset_bounds-g-count-in-Length c = omega (arith, room c.before.before.before.before.before)

pub bounds-g-count-in-Length : goal.bounds-g-count-in-Length
bounds-g-count-in-Length c = (room c.before.before.before.before.before).count

pub overflow_cast-g-in-Length : goal.overflow_cast-g-in-Length
overflow_cast-g-in-Length c = omega (arith, room c.before.before.before.before.before)

pub offset_bounds-g-count-in-Length-2 : goal.offset_bounds-g-count-in-Length-2
offset_bounds-g-count-in-Length-2 c = omega (arith, room c.before.before.before.before.before)

pub bounds-g-count-in-Length-2 : goal.bounds-g-count-in-Length-2
bounds-g-count-in-Length-2 c = (room c.before.before.before.before.before).count

pub overflow_add-g : goal.overflow_add-g
overflow_add-g c = omega (arith, room c.before.before.before.before.before)

pub overflow_add-g-in-Length : goal.overflow_add-g-in-Length
overflow_add-g-in-Length c = omega (arith, room c.before.before.before.before.before)

pub overflow_add-g-in-Length-2 : goal.overflow_add-g-in-Length-2
overflow_add-g-in-Length-2 c = omega (arith, room c.before.before.before.before.before)

pub overflow_add-g-in-Length-3 : goal.overflow_add-g-in-Length-3
overflow_add-g-in-Length-3 c = omega (arith, room c.before.before.before.before.before)

pub overflow_add-at : goal.overflow_add-at
overflow_add-at c = omega (arith, room c.before.before)

pub overflow_add-at-in-Length-4 : goal.overflow_add-at-in-Length-4
overflow_add-at-in-Length-4 c = omega (arith, room c.before.before.before.before.before)

pub loop-at-smaller : goal.loop-at-smaller
loop-at-smaller c = omega (arith, room c.before.before.before.before.before)

pub loop-at-preserved : goal.loop-at-preserved
loop-at-preserved c = let b = c in
    let k = b.in-Length.k in
    let t = b in
    let a = t.args in
    let e : t.loop-at.at + 2 + k - (t.loop-at.at + 2) ≡ k = omega arith in
    walk-on k (get_or a.table.now t.loop-at.at 0) _ t.loop-at.invariant b.loop-at-test.true (told b.before.before.before.before.before)
    (c.put_codes.ensures ∙ paste-part t.loop-at.g.codes (drop (t.loop-at.at + 2) a.table.now) t.loop-at.g.used (t.loop-at.at + 2 + k - (t.loop-at.at + 2)) k e (simp length-drop (omega (arith, (room b.before.before.before.before.before).whole))))
    refl

abbrev Whole : Place-After-loop → Grammar
Whole c = let a = c.args in grammar_of a.t a.n c.loop-at.invariant.rules

stored : (c : Place-After-loop) → let a = c.args in stored_table limits a.t a.n a.table.now ≡ done (Whole c)
stored c = walk_end c.loop-at.invariant c.loop-at-test.false

columns : (c : Place-After-loop) → let g = c.loop-at.g in
    ColumnsOf (Whole c) g.nonterminals g.states g.count g.used g.lefts g.lengths g.codes
columns c = lent_of _ (Whole c) (formed.stored-only limits formed.room _ _ _ (Whole c) (stored c)).well_formed c.loop-at.invariant.shows

sentence : (c : Place-After-has_sentence) → c.has_sentence.result ≡ has_sentence limits (Whole c.before.before.before.before.before)
sentence c = c.has_sentence.ensures _ _ _ (columns c.before.before.before.before.before)

-- the record is the grammar's
passed : (c : Place-After-loop) → let a = c.args in answer a.t a.n a.table.now a.whole ≡ done (Whole c)
    → record { verdict = Passed; grammar = c.loop-at.g } ≡ table_checked (answer a.t a.n a.table.now a.whole)
passed c e = ap (λ (g : CheckedGrammar). record { verdict = Passed; grammar = g }) c.loop-at.invariant.shows ∙ ap table_checked (sym e)

pub has_sentence-requires : goal.has_sentence-requires
has_sentence-requires c = let l = c in (Whole l.before.before.before.before.before, _, _, columns l.before.before.before.before.before)

pub returns-then-not-has_sentence : goal.returns-then-not-has_sentence
returns-then-not-has_sentence c = let s = c in
    let l = s in
    let a = l.args in
    let h = sym (sentence s.before.before.before) ∙ c.if-not-has_sentence.true in
    let o = without_sentence_lem limits a.t a.n a.table.now (Whole l.before.before.before.before.before.before.before.before) (stored l.before.before.before.before.before.before.before.before) h in
    c.refuse-then-not-has_sentence.ensures ∙ ap table_checked (sym (ap (answer a.t a.n a.table.now) s.if-whole.true ∙ o))

pub returns-else-not-has_sentence : goal.returns-else-not-has_sentence
returns-else-not-has_sentence c = let s = c in
    let l = s in
    let a = l.args in
    let h = sym (sentence s.before.before) ∙ c.if-not-has_sentence.false in
    let o = with_sentence limits a.t a.n a.table.now (Whole l.before.before.before.before.before.before.before) (stored l.before.before.before.before.before.before.before) h in
    passed l.before.before.before.before.before.before.before (ap (answer a.t a.n a.table.now) s.if-whole.true ∙ o)

pub returns-else-whole : goal.returns-else-whole
returns-else-whole c = let l = c in
    let a = l.args in
    passed l.before.before (ap (answer a.t a.n a.table.now) c.if-whole.false ∙ stored l.before.before)
