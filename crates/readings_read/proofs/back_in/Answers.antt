-- `readings_read::back_in` meets its contract: the lines are read in the text's grammar. Assumes nothing.
use native.Mathlib.Omega.{arith}
use mathlib.Core.Path.{sym}
use lib.Seq.{length-take-le}
use Rattle.readings_read.proofs.Grammars.{InGrammar, grammar-refused, grammar-read}
use Rattle.readings_read.proofs.back_in.Goals as goal
use Rattle.readings_read.proofs.back_in.Lts as lts
use Rattle.readings_read.proofs.back_in.Reads as reads
use Rattle.readings_read.proofs.back_in.Tie as tie

abbrev Place-Past-After-known_told2 : Type 0
Place-Past-After-known_told2 = lts.Past-After-known_told2 tie.the-claims reads.Pre reads.Post

-- the grammar that is read
within : (k : Place-Past-After-known_told2) → let a = k.args in InGrammar a.text.now k.in-Read.terminals k.in-Read.nonterminals k.in-Read.entries k.in-Read.states a.starts.now a.lengths.now
within k =
    let a = k.args in grammar-read a.text.now a.read a.starts.now a.lengths.now k.requires k.in-Read.terminals k.in-Read.nonterminals k.in-Read.entries k.in-Read.states k.in-Read.is

pub overflow_add-m : goal.overflow_add-m
overflow_add-m c = omega (arith, (within c.before).names-few)

pub overflow_add-rules : goal.overflow_add-rules
overflow_add-rules c = omega (arith, (within c.before).entries-few)

pub overflow_sub-rules : goal.overflow_sub-rules
overflow_sub-rules c = (within c.before).states-few

pub slice_bounds-read_planted-end : goal.slice_bounds-read_planted-end
slice_bounds-read_planted-end c = sym (length-take-le _ _ (within c.before).starts_fit)

pub slice_bounds-read_planted-end-in-Read : goal.slice_bounds-read_planted-end-in-Read
slice_bounds-read_planted-end-in-Read c = sym (length-take-le _ _ (within c.before).lengths_fit)

pub read_planted-requires : goal.read_planted-requires
read_planted-requires c = (within c.before.before.before).named

pub returns-in-Refused : goal.returns-in-Refused
returns-in-Refused c = let a = c.args in grammar-refused a.text.now a.read a.starts.now a.lengths.now c.requires a.lines.now a.left.now a.right.now c.in-Refused.cause c.in-Refused.at c.in-Refused.is

pub returns-in-Read : goal.returns-in-Read
returns-in-Read c = let a = c.args in (within c.before.before.before.before.before.before.before.before).lines-back a.lines.now a.left.now a.right.now c.read_planted.result c.read_planted.new.left c.read_planted.new.right c.read_planted.ensures
