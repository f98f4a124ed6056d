-- move_entry meets its contract: each arm is a case of the definition.
use mathlib.Core.Path.{ap, sym}
use Rattle.witness_sides.specs.Clauses.{move_entry}
use Rattle.witness_sides.proofs.letter.move_entry.Goals as goal

pub returns-in-Opening : goal.returns-in-Opening
returns-in-Opening c = sym (ap move_entry c.in-Opening.is)

pub returns-in-Closing : goal.returns-in-Closing
returns-in-Closing c = sym (ap move_entry c.in-Closing.is)

pub returns-in-Symbol : goal.returns-in-Symbol
returns-in-Symbol c = sym (ap move_entry c.in-Symbol.is)
