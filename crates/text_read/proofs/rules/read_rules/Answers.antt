-- `text_read::rules::read_rules` meets its contract: the rules so far, and those of the lines from the cursor on, are all; what is kept of them stands in the row. Assumes nothing.
use borrow.Author.Rules.{rules}
use native.Mathlib.Omega.{arith}
use mathlib.Core.Path.{◌≡◌, refl, sym, subst}
use Prim.Native.Nat.{ℕ, ◌+◌, ◌-◌}
use mathlib.Core.List.{List, [], ◌∷◌}
use lib.ListN.{length, drop}
use Rattle.grammar.specs.Limits.{limits}
use Rattle.grammar.specs.Grammar.{Rule}
use Rattle.grammar.specs.Refusal.{Answer}
use Rattle.text.specs.Pieces.{split_on}
use Rattle.text.specs.Read.{rule_lines}
use Rattle.text.proofs.Pieces.{split_pos}
use Rattle.text.specs.Spelled.{spelled}
use Rattle.names.specs.Found.{part}
use Rattle.names.proofs.Pieces.{piece_more, piece_last, length_piece}
use Rattle.text_read.specs.declared.Kept.{Kept}
use Rattle.text_read.specs.Lines.{RulesTold}
use Rattle.text_read.proofs.RuleLines.{passed_none, passed-all, passed_open, passed_fault, passed-more, told-kept, told_fault}
use Rattle.text_read.proofs.rules.read_rules.Goals as goal
use Rattle.text_read.proofs.rules.read_rules.Lts as lts
use Rattle.text_read.proofs.rules.read_rules.Reads as reads
use Rattle.text_read.proofs.rules.read_rules.Tie as tie

abbrev Start : Type 0
Start = lts.Start tie.the-claims reads.Pre reads.Post goal.the-invariant-loop-from goal.the-decreases-loop-from

abbrev Place-After-rule_line : Type 0
Place-After-rule_line = lts.After-rule_line tie.the-claims reads.Pre reads.Post goal.the-invariant-loop-from goal.the-decreases-loop-from

abbrev Place-Else1 : Type 0
Place-Else1 = lts.Else1 tie.the-claims reads.Pre reads.Post goal.the-invariant-loop-from goal.the-decreases-loop-from

abbrev Place-Then1 : Type 0
Place-Then1 = lts.Then1 tie.the-claims reads.Pre reads.Post goal.the-invariant-loop-from goal.the-decreases-loop-from

abbrev names : Start → List (List ℕ)
names e = spelled e.args.text.now e.args.starts.now e.args.lengths.now

abbrev answer : Start → Answer (List Rule)
answer e = rule_lines limits 3 e.args.t (names e) (split_on 10 (drop e.args.from e.args.text.now))

-- the row after a line
abbrev row : Place-After-rule_line → List ℕ
row c = c.rule_line-kept.new.row

long : (c : Place-After-rule_line) → length (row c) ≡ length c.loop-from.row
long c = search rules

-- the line at the cursor is ended
more : (c : Place-Else1) → let l = c.loop-from in let x = c.args.text.now in
    split_on 10 (drop l.a x) ≡ part l.a c.find-e.result x ∷ split_on 10 (drop (c.find-e.result + 1) x)
more c =
    let l = c.loop-from in
    piece_more 10 c.args.text.now l.a c.find-e.result l.invariant.0 c.find-e.ensures.at c.if-n-e.false

line : (c : Place-Else1) → let l = c.loop-from in length (part l.a c.find-e.result c.args.text.now) ≡ c.find-e.result - l.a
line c = let l = c.loop-from in length_piece 10 c.args.text.now l.a c.find-e.result l.invariant.0 c.find-e.ensures.at

-- the last one is not
last : (c : Place-Then1) → let l = c.loop-from in let x = c.args.text.now in
    split_on 10 (drop l.a x) ≡ part l.a c.find-e.result x ∷ []
last c =
    let l = c.loop-from in
    piece_last 10 c.args.text.now l.a c.find-e.result l.invariant.0 c.find-e.ensures.at c.if-n-e.true

pub loop-from-init : goal.loop-from-init
loop-from-init c = let a = c.args in
    (c.requires.1, omega arith, passed_none _ a.text.now a.t (names c.before.before.before.before.before.before) a.from a.row.now refl, refl)

pub overflow_add-result : goal.overflow_add-result
overflow_add-result c = omega (arith, c.requires.0.short)

pub shape_of-row-then-a-n : goal.shape_of-row-then-a-n
shape_of-row-then-a-n c = c.loop-from.invariant.3

pub returns-then-a-n : goal.returns-then-a-n
returns-then-a-n c = let l = c.loop-from in let a = c.args in
    passed_open (answer c.before.before.before.before.before.before.before.before.before.before) a.text.now a.t (names c.before.before.before.before.before.before.before.before.before.before) l.a l.k l.end l.row l.invariant.2 c.find-e.result (part l.a c.find-e.result a.text.now) (last c.before.before)
    (λ z. omega (arith, length_piece 10 a.text.now l.a c.find-e.result (omega arith) c.find-e.ensures.at, c.if-a-n.true, c.if-n-e.true))

pub shape_of-row-then-n-e : goal.shape_of-row-then-n-e
shape_of-row-then-n-e c = c.loop-from.invariant.3

pub returns-then-n-e : goal.returns-then-n-e
returns-then-n-e c = let l = c.loop-from in let a = c.args in
    passed-all (answer c.before.before.before.before.before.before.before.before.before.before) a.text.now a.t (names c.before.before.before.before.before.before.before.before.before.before) l.a l.k l.end l.row l.invariant.2 c.find-e.result (part l.a c.find-e.result a.text.now) (last c.before.before)
    (omega (arith, length_piece 10 a.text.now l.a c.find-e.result (omega arith) c.find-e.ensures.at, c.if-a-n.false, c.find-e.ensures.high))

pub overflow_add-k : goal.overflow_add-k
overflow_add-k c = omega (arith, c.requires.0.short)

pub rule_line-kept-requires : goal.rule_line-kept-requires
rule_line-kept-requires c = let l = c.loop-from in
    let p = c.requires.0 in
    let h = l.invariant.2 in
    record {
      lexicon = p.lexicon;
      few = p.few;
      most = p.most;
      enough = omega (arith, l.invariant.3, p.enough);
      near = h.near;
      fits = omega (arith, h.behind, c.find-e.ensures.high, line c.before.before.before);
      inside = h.inside;
    }

pub shape_of-row-in_default : goal.shape_of-row-in_default
shape_of-row-in_default c = omega (arith, c.loop-from.invariant.3)

pub returns-in_default : goal.returns-in_default
returns-in_default c = let l = c.loop-from in let a = c.args in
    let x = a.text.now in
    subst (λ (k : Kept). RulesTold (answer c.before.before.before.before.before.before.before.before.before.before.before.before.before.before.before) (row c.before.before.before.before) k) (sym c.in_default.is)
    (passed_fault (answer c.before.before.before.before.before.before.before.before.before.before.before.before.before.before.before) x a.t (names c.before.before.before.before.before.before.before.before.before.before.before.before.before.before.before) l.a l.k l.end l.row l.invariant.2 c.find-e.result (part l.a c.find-e.result x) (split_on 10 (drop (c.find-e.result + 1) x)) (more c.before.before.before.before.before.before.before) (split_pos 10 _) c.in_default.field-0 c.in_default.field-1
    (told_fault _ l.k l.end _ l.row (row c.before.before.before.before) c.rule_line-kept.result c.in_default.field-0 c.in_default.field-1 c.in_default.is c.rule_line-kept.ensures))

pub overflow_add-k-in-loop-from : goal.overflow_add-k-in-loop-from
overflow_add-k-in-loop-from c = omega (arith, c.requires.0.short)

pub loop-from-preserved : goal.loop-from-preserved
loop-from-preserved c = let l = c.loop-from in let a = c.args in
    let x = a.text.now in (
      omega arith,
      omega arith,
      passed-more (answer c.before.before.before.before.before.before.before.before.before.before.before.before.before.before.before) x a.t (names c.before.before.before.before.before.before.before.before.before.before.before.before.before.before.before) l.a l.k l.end l.row l.invariant.2 c.find-e.result (part l.a c.find-e.result x) (split_on 10 (drop (c.find-e.result + 1) x)) (more c.before.before.before.before.before.before.before) (split_pos 10 _) (row c.before.before.before.before) c.in-Entries.next
          (told-kept _ l.k l.end _ l.row (row c.before.before.before.before) c.rule_line-kept.result c.in-Entries.next c.in-Entries.is c.rule_line-kept.ensures) refl (omega (arith, line c.before.before.before.before.before.before.before, c.find-e.ensures.low)),
      omega (arith, long c.before.before.before.before, l.invariant.3),
    )
