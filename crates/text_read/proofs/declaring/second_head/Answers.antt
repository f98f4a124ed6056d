-- `text_read::declaring::second_head` meets its contract: what `FirstHead` leaves of the text, with the second line read. Assumes nothing.
use native.Mathlib.Omega.{arith}
use Prim.Native.Nat.{◌+◌}
use Rattle.grammar.specs.Limits.{limits}
use Rattle.text.specs.Read.{names_of}
use Rattle.names.specs.Found.{part}
use Rattle.text_read.proofs.Declarations.{told_names, told_fault, told-held, second-missing, second_fault, second-names}
use Rattle.text_read.proofs.Held.{ready_second, heads_read}
use Rattle.text_read.proofs.declaring.second_head.Goals as goal

pub returns-then-text-e : goal.returns-then-text-e
returns-then-text-e c = let a = c.args in
    second-missing a.text.now a.first a.end a.terminals c.requires.0 c.find-e.result c.find-e.ensures.at c.if-text-e.true

pub declare-requires : goal.declare-requires
declare-requires c = let a = c.args in
    ready_second a.text.now a.first a.end a.terminals a.starts.now a.lengths.now a.links.now c.requires.0 c.requires.1
    c.find-e.result c.find-e.ensures.low c.find-e.ensures.high

pub returns-in-Fault : goal.returns-in-Fault
returns-in-Fault c = let a = c.args in
    second_fault a.text.now a.first a.end a.terminals c.requires.0 c.find-e.result c.find-e.ensures.at (omega (arith, c.if-text-e.false)) c.in-Fault.cause c.in-Fault.at
    (told_fault 2 1 1 limits.max_nonterminals (names_of (part a.first a.end a.text.now)) a.text.now (a.end + 1) c.find-e.result c.declare.result
    c.in-Fault.cause c.in-Fault.at c.in-Fault.is c.declare.ensures.told)

pub returns-in-Names : goal.returns-in-Names
returns-in-Names c = let a = c.args in
    heads_read a.text.now a.first a.end a.terminals a.starts.now a.lengths.now a.links.now c.requires.0 c.requires.1
    c.in-Names.start c.find-e.result c.in-Names.count c.declare.new.starts c.declare.new.lengths c.declare.new.links
    (second-names a.text.now a.first a.end a.terminals c.requires.0 c.find-e.result c.find-e.ensures.at (omega (arith, c.if-text-e.false)) c.in-Names.start c.in-Names.count
    (told_names 2 1 1 limits.max_nonterminals (names_of (part a.first a.end a.text.now)) a.text.now (a.end + 1) c.find-e.result c.declare.result
    c.in-Names.start c.in-Names.count c.in-Names.is c.declare.ensures.told))
    (told-held a.text.now c.find-e.result a.terminals a.starts.now a.lengths.now c.declare.new.starts c.declare.new.lengths c.declare.new.links c.declare.result
    c.in-Names.start c.in-Names.count c.in-Names.is c.declare.ensures.held)
