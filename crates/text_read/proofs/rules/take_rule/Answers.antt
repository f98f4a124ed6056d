-- `text_read::rules::take_rule` meets its contract: the tests of `known_rule` in its order; of a rule after those that are kept nothing is kept. Assumes nothing.
use borrow.Author.Rules.{rules}
use native.Mathlib.Omega.{arith}
use mathlib.Core.Path.{◌≡◌, sym, ap, ◌∙◌}
use mathlib.Core.Bool.{Bool, true}
use mathlib.Core.List.{List}
use Prim.Native.Nat.{ℕ, ◌+◌, ◌≤◌, ◌<◌}
use lib.ListN.{length, drop, set, length-set}
use Rattle.grammar.specs.Limits.{limits}
use Rattle.grammar.specs.Refusal.{done}
use Rattle.text.specs.Pieces.{split_on}
use Rattle.text.specs.Names.{all, same_name, place}
use Rattle.text.specs.Read.{is_known, rule_of}
use Rattle.text.specs.Spelled.{spelled}
use Rattle.text.proofs.Spans.{length-spelled}
use Rattle.names.specs.Found.{part}
use Rattle.text_read.specs.Lines.{rule_value, kept_rules}
use Rattle.text_read.proofs.Rooms.{rule-bytes, rule-room}
use Rattle.text_read.proofs.Lookups.{known-low, known_out, known_in}
use Rattle.text_read.proofs.Shapes.{led-first}
use Rattle.text_read.proofs.Codes.{taken-front, taken-entries}
use Rattle.text_read.proofs.RuleLines.{value-left, value-right, value_many, value-done, body-part, body_count, body-all, head-part, rule-passed, rule-kept}
use Rattle.text_read.proofs.rules.take_rule.Goals as goal
use Rattle.text_read.proofs.rules.take_rule.Lts as lts
use Rattle.text_read.proofs.rules.take_rule.Reads as reads
use Rattle.text_read.proofs.rules.take_rule.Tie as tie

abbrev Start : Type 0
Start = lts.Start tie.the-claims reads.Pre reads.Post

abbrev Place-After-take_codes : Type 0
Place-After-take_codes = lts.After-take_codes tie.the-claims reads.Pre reads.Post

abbrev Place-After-find : Type 0
Place-After-find = lts.After-find tie.the-claims reads.Pre reads.Post

abbrev Place-Else2 : Type 0
Place-Else2 = lts.Else2 tie.the-claims reads.Pre reads.Post

-- the names, what follows the colon, and the row with its codes
abbrev names : Start → List (List ℕ)
names e = spelled e.args.text.now e.args.starts.now e.args.lengths.now

abbrev body : Start → List ℕ
body e = part (e.args.colon + 1) (length e.args.v.now) e.args.v.now

abbrev row : Place-After-take_codes → List ℕ
row c = c.take_codes.new.row

as_many : (e : Start) → length (names e) ≡ length e.args.starts.now
as_many e = length-spelled e.args.text.now e.args.starts.now e.args.lengths.now e.requires.1.lexicon.spans.paired

-- the left name's number
number : (c : Place-After-find) → c.find-left.result ≡ place (same_name c.requires.0.sides.head) (names c.before.before.before.before.before.before.before.before)
number c =
    let a = c.args in
    c.find-left.ensures ∙ ap (λ (x : List ℕ). place (same_name x) (names c.before.before.before.before.before.before.before.before)) (head-part a.v.now a.colon a.count c.requires.0)

left-known : (c : Place-Else2) → is_known c.args.t (names c.before.before.before.before.before.before.before.before.before.before) c.requires.0.sides.head ≡ true
left-known c =
    known_in c.args.t (names c.before.before.before.before.before.before.before.before.before.before) c.requires.0.sides.head c.find-left.result (number c.before.before) (omega (arith, c.if-left-t.false)) (omega (arith, as_many c.before.before.before.before.before.before.before.before.before.before, c.if-starts-left.false))

-- whether the names after the colon are known
right-known : (c : Place-After-take_codes) (b : Bool) → c.take_codes.result ≡ b → all (is_known 0 (names c.before.before.before.before.before.before.before.before.before.before.before.before.before)) c.requires.0.sides.body ≡ b
right-known c b q =
    let a = c.args in
    sym (body-all a.at a.t (names c.before.before.before.before.before.before.before.before.before.before.before.before.before) a.v.now a.colon a.count c.requires.0 (is_known 0 (names c.before.before.before.before.before.before.before.before.before.before.before.before.before))) ∙ sym c.take_codes.ensures.answer ∙ q

value : (c : Place-After-take_codes) → c.take_codes.result ≡ true → let a = c.args in
    a.count ≤ 12 → rule_value a.at a.t (names c.before.before.before.before.before.before.before.before.before.before.before.before.before) a.v.now ≡ done (rule_of limits a.t (names c.before.before.before.before.before.before.before.before.before.before.before.before.before) c.requires.0.sides)
value c q m =
    let a = c.args in
    value-done a.at a.t (names c.before.before.before.before.before.before.before.before.before.before.before.before.before) a.v.now a.colon a.count c.requires.0 (left-known c.before.before.before) (right-known c true q) m

-- the row has room for the rule
room : (c : Place-After-take_codes) → let a = c.args in a.k < kept_rules → a.count ≤ 12 → a.end + 2 + a.count ≤ length a.row.now
room c l m =
    let a = c.args in
    rule-room a.text.now a.starts.now a.lengths.now a.links.now a.t a.row.now a.k a.end a.v.now a.colon a.count c.requires.0 c.requires.1 l m

long : (c : Place-After-take_codes) → length (row c) ≡ length c.args.row.now
long c = search rules

pub returns-then-left-t : goal.returns-then-left-t
returns-then-left-t c = let a = c.args in
    value-left a.at a.t (names c.before.before.before.before.before.before.before.before.before.before) a.v.now a.colon a.count c.requires.0 (known-low a.t (names c.before.before.before.before.before.before.before.before.before.before) c.requires.0.sides.head c.find-left.result (number c.before.before) c.if-left-t.true)

pub returns-then-starts-left : goal.returns-then-starts-left
returns-then-starts-left c = let a = c.args in
    value-left a.at a.t (names c.before.before.before.before.before.before.before.before.before.before.before) a.v.now a.colon a.count c.requires.0
    (known_out a.t (names c.before.before.before.before.before.before.before.before.before.before.before) c.requires.0.sides.head c.find-left.result (number c.before.before.before) (omega (arith, c.if-left-t.false)) (omega (arith, as_many c.before.before.before.before.before.before.before.before.before.before.before, c.if-starts-left.true)))

pub take_codes-requires : goal.take_codes-requires
take_codes-requires c = let a = c.args in let h = c.requires.0 in
    record {
      led = led-first 32 (body c.before.before.before.before.before.before.before.before.before.before.before.before.before) h.sides.body (body-part a.at a.t (names c.before.before.before.before.before.before.before.before.before.before.before.before.before) a.v.now a.colon a.count h);
      lexicon = c.requires.1.lexicon;
      few = c.requires.1.few;
      most = c.requires.1.most;
      near = omega (arith, c.requires.1.inside);
    }

pub returns-then-not-take_codes : goal.returns-then-not-take_codes
returns-then-not-take_codes c = let a = c.args in
    value-right a.at a.t (names c.before.before.before.before.before.before.before.before.before.before.before.before.before.before.before.before.before) a.v.now a.colon a.count c.requires.0 (left-known c.before.before.before.before.before.before.before) (right-known c.before.before.before.before _ (c.if-not-take_codes.true))

pub returns-then-count-gt-MAX_LENGTH : goal.returns-then-count-gt-MAX_LENGTH
returns-then-count-gt-MAX_LENGTH c = let a = c.args in
    value_many a.at a.t (names c.before.before.before.before.before.before.before.before.before.before.before.before.before.before.before.before.before.before) a.v.now a.colon a.count c.requires.0 (left-known c.before.before.before.before.before.before.before.before) (right-known c.before.before.before.before.before _ (c.if-not-take_codes.false)) c.if-count-gt-MAX_LENGTH.true

pub returns-then-k-ge-KEPT_RULES : goal.returns-then-k-ge-KEPT_RULES
returns-then-k-ge-KEPT_RULES c = let a = c.args in
    rule-passed _ _ a.k a.end a.row.now (row c.before.before.before.before.before.before) (value c.before.before.before.before.before.before (c.if-not-take_codes.false) (omega (arith, c.if-count-gt-MAX_LENGTH.false))) c.if-k-ge-KEPT_RULES.true
    (taken-front a.t (names c.before.before.before.before.before.before.before.before.before.before.before.before.before.before.before.before.before.before.before) (drop 1 (split_on 32 (body c.before.before.before.before.before.before.before.before.before.before.before.before.before.before.before.before.before.before.before))) a.end a.row.now (row c.before.before.before.before.before.before) c.take_codes.result c.take_codes.ensures) (omega (arith, long c.before.before.before.before.before.before, c.requires.1.inside)) _

pub bounds-row-end : goal.bounds-row-end
bounds-row-end c = omega (arith, long c.before.before.before.before.before.before.before, room c.before.before.before.before.before.before.before c.if-k-ge-KEPT_RULES.false (omega (arith, c.if-count-gt-MAX_LENGTH.false)))

pub bounds-row-end-2 : goal.bounds-row-end-2
bounds-row-end-2 c = omega (arith, length-set (row c.before.before.before.before.before.before.before) c.args.end c.code_of.result, long c.before.before.before.before.before.before.before, room c.before.before.before.before.before.before.before c.if-k-ge-KEPT_RULES.false (omega (arith, c.if-count-gt-MAX_LENGTH.false)))

pub returns : goal.returns
returns c = let a = c.args in let h = c.requires.0 in
    let k = c.if-not-take_codes.false in let m = c.if-count-gt-MAX_LENGTH.false in
    let x = c.code_of.result in
    let space = room c.before.before.before.before.before.before.before c.if-k-ge-KEPT_RULES.false m in
    rule-kept _ a.t (names c.before.before.before.before.before.before.before.before.before.before.before.before.before.before.before.before.before.before.before.before) h.sides c.find-left.result a.count a.k a.end (body c.before.before.before.before.before.before.before.before.before.before.before.before.before.before.before.before.before.before.before.before) a.row.now (set (set (row c.before.before.before.before.before.before.before) a.end x) (a.end + 1) a.count)
    (body-part a.at a.t (names c.before.before.before.before.before.before.before.before.before.before.before.before.before.before.before.before.before.before.before.before) a.v.now a.colon a.count h) (value c.before.before.before.before.before.before.before k m) (number c.before.before.before.before.before.before.before.before.before.before.before.before) h.counts m c.if-k-ge-KEPT_RULES.false
    (omega (arith, space, long c.before.before.before.before.before.before.before, length-set (set (row c.before.before.before.before.before.before.before) a.end x) (a.end + 1) a.count, length-set (row c.before.before.before.before.before.before.before) a.end x))
    (taken-entries a.t (names c.before.before.before.before.before.before.before.before.before.before.before.before.before.before.before.before.before.before.before.before) (drop 1 (split_on 32 (body c.before.before.before.before.before.before.before.before.before.before.before.before.before.before.before.before.before.before.before.before))) a.end a.row.now (row c.before.before.before.before.before.before.before) c.take_codes.result c.take_codes.ensures
    c.find-left.result a.count x k c.code_of.ensures (body_count a.at a.t (names c.before.before.before.before.before.before.before.before.before.before.before.before.before.before.before.before.before.before.before.before) a.v.now a.colon a.count h) (long c.before.before.before.before.before.before.before) space)
    _ (rule-bytes a.v.now a.colon a.count h)
