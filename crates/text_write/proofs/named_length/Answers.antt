-- `text_write::named_length` meets its contract: 18, then the length of the text. Assumes nothing.
use mathlib.Core.Path.{◌≡◌, ap, sym, subst, ◌∙◌}
use mathlib.Core.List.{List}
use Prim.Native.Nat.{ℕ}
use native.Mathlib.Omega.{arith}
use lib.ListN.{length}
use Rattle.grammar.specs.Limits.{limits}
use Rattle.grammar.specs.Table.{decode}
use Rattle.text.specs.Spelled.{spelled}
use Rattle.text_write.specs.Length.{text_length}
use Rattle.text_write.specs.Clauses.{Coded, text_of}
use Rattle.text_write.proofs.LentLaws.{names_count, lengths-spelled}
use Rattle.text_write.proofs.LengthLaws.{printed-length}
use Rattle.text_write.proofs.WriteLaws.{named_double, named-bytes}
use Rattle.text_write.proofs.named_length.Goals as goal
use Rattle.text_write.proofs.named_length.Lts as lts
use Rattle.text_write.proofs.named_length.Reads as reads
use Rattle.text_write.proofs.named_length.Tie as tie

abbrev Start : Type 0
Start = lts.Start tie.the-claims reads.Pre reads.Post

abbrev names : Start → List (List ℕ)
names s = spelled s.args.bytes.now s.args.starts.now s.args.lengths.now

-- the length that is computed is that of the text
sized : (c : Start) →
    let a = c.args in
    length (text_of a.t (names c) (decode a.table.now)) ≡ text_length limits a.t a.lengths.now
    (decode a.table.now)
sized c =
    let a = c.args in
    printed-length a.t (names c) (decode a.table.now) (omega (arith, names_count c.requires.rows, c.requires.terminals))
    ∙ ap (λ l. text_length limits a.t l (decode a.table.now))
    (lengths-spelled a.bytes.now a.starts.now a.lengths.now c.requires.rows)

pub returns-then-double-m : goal.returns-then-double-m
returns-then-double-m c = let a = c.args in
    named_double a.t (names c.before.before.before.before.before.before.before) (decode a.table.now) c.first_double-double.result c.first_double-double.ensures
    (omega (arith, names_count c.requires.rows, c.if-double-m.true))

pub text_length-requires : goal.text_length-requires
text_length-requires c = let a = c.args in (
  subst (λ m. Coded a.t m a.table.now) c.requires.rows.paired c.requires.coded,
  omega (arith, c.requires.terminals, c.requires.rows.paired),
  omega (arith, sized c.before.before.before.before.before.before.before, c.requires.short),
)

pub returns : goal.returns
returns c = let a = c.args in
    named-bytes a.t (names c.before.before.before.before.before.before.before.before) (decode a.table.now) c.first_double-double.result c.text_length.result
    c.first_double-double.ensures (omega (arith, names_count c.requires.rows, c.if-double-m.false))
    (c.text_length.ensures ∙ sym (sized c.before.before.before.before.before.before.before.before))
