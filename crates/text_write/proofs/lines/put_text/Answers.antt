-- `text_write::lines::put_text` meets its contract: the two declaring lines, then the rules. Assumes nothing.
use mathlib.Core.Path.{refl}
use mathlib.Core.List.{List, ◌++◌}
use Prim.Native.Nat.{ℕ}
use native.Mathlib.Omega.{arith}
use lib.ListN.{length}
use lib.Seq.{slice}
use Rattle.grammar.specs.Table.{decode}
use Rattle.text.specs.Pieces.{join}
use Rattle.text.specs.Spelled.{spelled}
use Rattle.text_write.specs.Clauses.{line_text, rules_text, text_of}
use Rattle.text_write.proofs.Filling.{Filling, filling_start, filling_room, filling_ran, filling_last, filling_all}
use Rattle.text_write.proofs.LentLaws.{names_count}
use Rattle.text_write.proofs.PutLaws.{text-parts}
use Rattle.text_write.proofs.lines.put_text.Goals as goal
use Rattle.text_write.proofs.lines.put_text.Lts as lts
use Rattle.text_write.proofs.lines.put_text.Reads as reads
use Rattle.text_write.proofs.lines.put_text.Tie as tie

abbrev Start : Type 0
Start = lts.Start tie.the-claims reads.Pre reads.Post

abbrev Place-After-put_line : Type 0
Place-After-put_line = lts.After-put_line tie.the-claims reads.Pre reads.Post

abbrev Place-After-put_line2 : Type 0
Place-After-put_line2 = lts.After-put_line2 tie.the-claims reads.Pre reads.Post

abbrev names : Start → List (List ℕ)
names s = spelled s.args.bytes.now s.args.starts.now s.args.lengths.now

-- the three parts
abbrev terminals : Start → List ℕ
terminals s = line_text 0 (join 44 (slice 0 s.args.t (names s)))

abbrev nonterminals : Start → List ℕ
nonterminals s = line_text 1 (join 44 (slice s.args.t (length s.args.starts.now) (names s)))

abbrev rules : Start → List ℕ
rules s = rules_text s.args.t (names s) s.args.table.now

-- this is still to come
abbrev Still : Start → ℕ → List ℕ → List ℕ → Type 0
Still s j now rest = Filling 0 s.args.out.now (text_of s.args.t (names s) (decode s.args.table.now)) j now rest

start : (c : Start) →
    let a = c.args in
    Still c 0 a.out.now (text_of a.t (names c) (decode a.table.now))
start c = filling_start _ _ _ (omega (arith, c.requires.3))

after-terminals : (c : Place-After-put_line) →
    let s = c in Still s.before.before.before.before.before.before.before c.put_line-i.result c.put_line-i.new.out ((nonterminals s.before.before.before.before.before.before.before) ++ rules s.before.before.before.before.before.before.before)
after-terminals c =
    let a = c.args in
    filling_ran (terminals c.before.before.before.before.before.before.before) _ (text-parts a.t (names c.before.before.before.before.before.before.before) (length a.starts.now) (decode a.table.now)
    (names_count c.requires.0) c.requires.2) c.put_line-i.ensures (start c.before.before.before.before.before.before.before)

after-nonterminals : (c : Place-After-put_line2) →
    let s = c in Still s.before.before.before.before.before.before.before.before.before.before.before c.put_line-j.result c.put_line-j.new.out (rules s.before.before.before.before.before.before.before.before.before.before.before)
after-nonterminals c =
    filling_ran (nonterminals c.before.before.before.before.before.before.before.before.before.before.before) _ refl c.put_line-j.ensures (after-terminals c.before.before.before.before)

pub put_line-i-requires : goal.put_line-i-requires
put_line-i-requires c = let a = c.args in (
  c.requires.0,
  omega arith,
  c.requires.2,
  omega arith,
  filling_room (terminals c.before.before.before.before.before.before.before) _
      (text-parts a.t (names c.before.before.before.before.before.before.before) (length a.starts.now) (decode a.table.now) (names_count c.requires.0) c.requires.2)
      (start c.before.before.before.before.before.before.before),
)

pub put_line-j-requires : goal.put_line-j-requires
put_line-j-requires c = (
  c.requires.0,
  c.requires.2,
  omega arith,
  omega arith,
  filling_room (nonterminals c.before.before.before.before.before.before.before.before.before.before.before) _ refl
      (after-terminals c.before.before.before.before),
)

pub put_rules-requires : goal.put_rules-requires
put_rules-requires c = (c.requires.0, c.requires.1, filling_all (after-nonterminals c.before.before.before.before))

pub returns : goal.returns
returns c = filling_last c.put_rules.ensures
    (after-nonterminals c.before.before.before.before.before.before.before)
