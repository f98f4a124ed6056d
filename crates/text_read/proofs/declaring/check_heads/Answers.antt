-- `text_read::declaring::check_heads` meets its contract: the first line read; the rest is that of `second_head`. Assumes nothing.
use native.Mathlib.Omega.{arith}
use mathlib.Core.Path.{refl, subst}
use mathlib.Core.List.{[]}
use Rattle.grammar.specs.Limits.{limits}
use Rattle.names.proofs.Pieces.{names-none}
use Rattle.text_read.specs.Values.{DeclaredTold}
use Rattle.text_read.proofs.Declarations.{told_names, told_fault, told-held, first-missing, first_fault, first-names}
use Rattle.text_read.proofs.Held.{ready_first, first-held}
use Rattle.text_read.proofs.Rooms.{rows-kept}
use Rattle.text_read.proofs.declaring.check_heads.Goals as goal
use Rattle.text_read.proofs.declaring.check_heads.Lts as lts
use Rattle.text_read.proofs.declaring.check_heads.Reads as reads
use Rattle.text_read.proofs.declaring.check_heads.Tie as tie

abbrev Place-After-declare : Type 0
Place-After-declare = lts.After-declare tie.the-claims reads.Pre reads.Post tie.handed_clauses

-- no name is declared before the first line
told : (d : Place-After-declare) → DeclaredTold 1 0 0 limits.max_terminals [] d.args.text.now 0 d.find-e.result d.declare.result
told d =
    subst (λ ns. DeclaredTold 1 0 0 limits.max_terminals ns d.args.text.now 0 d.find-e.result d.declare.result)
    (names-none [] refl) d.declare.ensures.told

pub returns-then-text-e : goal.returns-then-text-e
returns-then-text-e c = first-missing c.args.text.now c.find-e.result c.find-e.ensures.at c.if-text-e.true

pub declare-requires : goal.declare-requires
declare-requires c = let a = c.args in
    ready_first a.text.now a.starts.now a.lengths.now a.links.now c.find-e.result c.find-e.ensures.high c.requires.0 c.requires.1 c.requires.2

pub second_head-requires : goal.second_head-requires
second_head-requires c = let a = c.args in (
  first-names a.text.now c.find-e.result c.find-e.ensures.at (omega (arith, c.if-text-e.false)) c.in-Names.start c.in-Names.count
      (told_names 1 0 0 limits.max_terminals [] a.text.now 0 c.find-e.result c.declare.result c.in-Names.start c.in-Names.count c.in-Names.is (told c.before.before.before.before.before.before.before.before.before.before.before)) c.requires.0,
  first-held a.text.now c.in-Names.start c.find-e.result c.in-Names.count a.starts.now a.lengths.now c.declare.new.starts c.declare.new.lengths c.declare.new.links
      (told-held a.text.now c.find-e.result 0 a.starts.now a.lengths.now c.declare.new.starts c.declare.new.lengths c.declare.new.links c.declare.result
      c.in-Names.start c.in-Names.count c.in-Names.is c.declare.ensures.held)
      (rows-kept c.requires.1 c.declare.auto.starts c.declare.auto.lengths c.declare.auto.links),
)

pub returns-in-Fault : goal.returns-in-Fault
returns-in-Fault c = let a = c.args in
    first_fault a.text.now c.find-e.result c.find-e.ensures.at (omega (arith, c.if-text-e.false)) c.in-Fault.cause c.in-Fault.at
    (told_fault 1 0 0 limits.max_terminals [] a.text.now 0 c.find-e.result c.declare.result c.in-Fault.cause c.in-Fault.at c.in-Fault.is (told c.before.before.before.before.before.before.before.before))
