-- `text_read::rules::rule_line` meets its contract: the key, the shape, then the value. Assumes nothing.
use native.Mathlib.Omega.{arith}
use mathlib.Core.Path.{sym, subst, ◌∙◌}
use Prim.Native.Nat.{ℕ, ◌+◌, ◌-◌, ◌≤◌}
use lib.ListN.{length, drop, length-drop}
use lib.Seq.{length-take-le}
use mathlib.Core.List.{List}
use Rattle.grammar.specs.Grammar.{Rule}
use Rattle.grammar.specs.Refusal.{Answer}
use Rattle.text.specs.Spelled.{spelled}
use Rattle.names.specs.Found.{part}
use Rattle.text_read.specs.Lines.{KeptTold}
use Rattle.text_read.specs.Values.{HasValue}
use Rattle.text_read.proofs.Values.{told-value, told_none}
use Rattle.text_read.proofs.RuleLines.{line-none, line-value, value_shapeless, line-rest, told_wider}
use Rattle.text_read.proofs.rules.rule_line.Goals as goal
use Rattle.text_read.proofs.rules.rule_line.Lts as lts
use Rattle.text_read.proofs.rules.rule_line.Reads as reads
use Rattle.text_read.proofs.rules.rule_line.Tie as tie

abbrev Start : Type 0
Start = lts.Start tie.the-claims reads.Pre reads.Post

abbrev Place-Past-After-known_told : Type 0
Place-Past-After-known_told = lts.Past-After-known_told tie.the-claims reads.Pre reads.Post

abbrev names : Start → List (List ℕ)
names e = spelled e.args.text.now e.args.starts.now e.args.lengths.now

-- where the value stands
abbrev from : Place-Past-After-known_told → ℕ
from c = c.in-Value.start

abbrev to : Place-Past-After-known_told → ℕ
to c = c.in-Value.stop

value : (c : Place-Past-After-known_told) → HasValue 2 c.args.line.now (from c) (to c)
value c = told-value 2 c.args.line.now c.key_split.result (from c) (to c) c.in-Value.is c.key_split.ensures

-- it is shorter than the line
value-bytes : (c : Place-Past-After-known_told) → let l = c.args.line.now in length (part (from c) (to c) l) + 1 ≤ length l
value-bytes c =
    let l = c.args.line.now in let h = value c in
    omega (arith, h.starts, h.ends, h.inside, length-take-le (to c - from c) (drop (from c) l) (omega (arith, h.ends, length-drop (from c) l)))

pub returns-in_default : goal.returns-in_default
returns-in_default c = let a = c.args in
    line-none a.at a.t (names c.before.before.before.before.before.before.before.before.before) a.line.now (told_none 2 a.line.now c.key_split.result c.in_default.is c.key_split.ensures)

pub slice_bounds-v-count : goal.slice_bounds-v-count
slice_bounds-v-count c = (value c.before).inside

pub slice_bounds-v-start : goal.slice_bounds-v-start
slice_bounds-v-start c = (value c.before).inside

pub slice_bounds-v-end : goal.slice_bounds-v-end
slice_bounds-v-end c = omega (arith, (value c.before).ends)

pub returns-in_default-rule_shape : goal.returns-in_default-rule_shape
returns-in_default-rule_shape c = let a = c.args in
    let v = part (from c.before.before.before.before) (to c.before.before.before.before) a.line.now in
    line-value a.at a.t (names c.before.before.before.before.before.before.before.before.before.before.before.before) a.line.now (from c.before.before.before.before) (to c.before.before.before.before) (value c.before.before.before.before)
    ∙ value_shapeless a.at a.t (names c.before.before.before.before.before.before.before.before.before.before.before.before) v c.in_default-rule_shape.ensures

pub take_rule-requires : goal.take_rule-requires
take_rule-requires c = (c.in-Some.ensures, line-rest c.requires (value-bytes c.before.before.before.before.before))

pub returns : goal.returns
returns c = let a = c.args in
    let row = c.take_rule.new.row in
    subst (λ (o : Answer Rule). KeptTold o a.k a.end (length a.line.now) a.row.now row c.take_rule.result)
    (sym (line-value a.at a.t (names c.before.before.before.before.before.before.before.before.before.before.before.before.before.before.before.before) a.line.now (from c.before.before.before.before.before.before.before.before) (to c.before.before.before.before.before.before.before.before) (value c.before.before.before.before.before.before.before.before)))
    (told_wider _ a.k a.end _ a.row.now row c.take_rule.result (length a.line.now) (value-bytes c.before.before.before.before.before.before.before.before) c.take_rule.ensures)
