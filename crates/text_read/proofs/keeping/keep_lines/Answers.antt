-- `text_read::keeping::keep_lines` meets its contract: the declaring lines, then the rule lines. Assumes nothing.
use native.Mathlib.Omega.{arith}
use Rattle.text_read.specs.Texts.{HeadsRead}
use Rattle.text_read.proofs.Rooms.{name-rows}
use Rattle.text_read.proofs.Whole.{lines-refused, refused-names, told_heads, told_headless, ready, names-told}
use Rattle.text_read.proofs.keeping.keep_lines.Goals as goal
use Rattle.text_read.proofs.keeping.keep_lines.Lts as lts
use Rattle.text_read.proofs.keeping.keep_lines.Reads as reads
use Rattle.text_read.proofs.keeping.keep_lines.Tie as tie

abbrev Place-Past-After-known_told2 : Type 0
Place-Past-After-known_told2 = lts.Past-After-known_told2 tie.the-claims reads.Pre reads.Post tie.handed_clauses

-- both declaring lines are read
heads : (c : Place-Past-After-known_told2) → HeadsRead c.args.text.now c.check_heads.new.starts c.check_heads.new.lengths c.check_heads.new.links c.in-Names.end c.in-Names.terminals c.in-Names.nonterminals
heads c =
    told_heads c.args.text.now c.check_heads.new.starts c.check_heads.new.lengths c.check_heads.new.links c.check_heads.result c.in-Names.end c.in-Names.terminals c.in-Names.nonterminals c.in-Names.is c.check_heads.ensures

pub check_heads-requires : goal.check_heads-requires
check_heads-requires c = let p = c.requires in (p.0, name-rows p.1 p.2, p.3)

pub overflow_add-end : goal.overflow_add-end
overflow_add-end c = let h = heads c.before in omega (arith, h.heads.ends)

pub keep_rules-requires : goal.keep_rules-requires
keep_rules-requires c = let a = c.args in let p = c.requires.1 in
    ready a.text.now c.check_heads.new.starts c.check_heads.new.lengths c.check_heads.new.links _ _ _ c.requires.0 (heads c.before.before) a.row.now
    (omega (arith, p.names, c.check_heads.auto.starts)) (omega (arith, p.names, p.paired, c.check_heads.auto.lengths)) p.entries

pub returns-in-Fault : goal.returns-in-Fault
returns-in-Fault c = let a = c.args in let r = lines-refused a.text.now c.requires.0 c.in-Fault.cause c.in-Fault.at
    (told_headless a.text.now c.check_heads.new.starts c.check_heads.new.lengths c.check_heads.new.links c.check_heads.result c.in-Fault.cause c.in-Fault.at c.in-Fault.is c.check_heads.ensures) in
    record { told = r; names = refused-names _ c.in-Fault.cause c.in-Fault.at c.check_heads.new.starts c.check_heads.new.lengths r }

pub returns-in-Names : goal.returns-in-Names
returns-in-Names c = record { told = c.keep_rules.ensures; names = names-told c.args.text.now c.check_heads.new.starts c.check_heads.new.lengths c.check_heads.new.links _ _ _ c.requires.0 (heads c.before.before.before.before.before) }
