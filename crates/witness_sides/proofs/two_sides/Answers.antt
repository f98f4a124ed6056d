-- two_sides meets its contract: the table passes, so the rows are those of its grammar.
use Prim.Native.Nat.{ℕ}
use mathlib.Core.Path.{◌≡◌, sym, subst, ◌∙◌}
use mathlib.Core.List.{List}
use Rattle.grammar.specs.Limits.{limits}
use Rattle.grammar.specs.Grammar.{Grammar}
use Rattle.grammar.specs.TableCheck.{check_table}
use Rattle.grammar.proofs.Answers.{no_answer, done_inj}
use Rattle.grammar.proofs.WellFormed.{room}
use Rattle.automaton.specs.Callers.{check_with}
use Rattle.automaton.specs.PositionMoves.{moves_of}
use Rattle.triples.specs.Sides.{OneEach}
use Rattle.triple_laws.proofs.CallerChecks.{zero-check}
use Rattle.witness_sides.specs.Sides.{TwoSides}
use Rattle.witness_sides.specs.declared.Lengths.{Lengths}
use Rattle.witness_sides.proofs.RowLaws.{searchable-of, gives_of}
use Rattle.witness_sides.proofs.two_sides.Goals as goal
use Rattle.witness_sides.proofs.two_sides.Lts as lts
use Rattle.witness_sides.proofs.two_sides.Reads as reads
use Rattle.witness_sides.proofs.two_sides.Tie as tie

abbrev Start : Type 0
Start = lts.Start tie.the-claims reads.Pre reads.Post tie.handed_clauses

-- without callers the check is the table check
zero : (e : Start) → check_with limits e.args.t e.args.n e.args.table.now 0 ≡ check_table limits e.args.t e.args.n e.args.table.now
zero e = zero-check limits room e.args.t e.args.n e.args.table.now

-- of one grammar
of-same : {G H : Grammar} {row left right : List ℕ} {r : Lengths} → G ≡ H → TwoSides (moves_of limits G) row r left right → TwoSides (moves_of limits H) row r left right
of-same {row = row} {left = left} {right = right} {r = r} e z = subst (λ (G : Grammar). TwoSides (moves_of limits G) row r left right) e z

pub returns-in-Refused : goal.returns-in-Refused
returns-in-Refused c = λ G e. no_answer (sym (c.prepare-w.ensures.refused_as c.in-Refused.field-0 c.in-Refused.field-1 c.in-Refused.is) ∙ zero c.before.before.before.before.before.before.before.before.before.before.before.before.before.before ∙ e)

pub slice_bounds-walk-end : goal.slice_bounds-walk-end
slice_bounds-walk-end c = sym (c.prepare-w.ensures.passed_as c.in-Passed.is).2.long

pub walk-requires : goal.walk-requires
walk-requires c = let g = c.prepare-w.ensures.passed_as c.in-Passed.is in
    let r = g.2 in
    record { searchable = searchable-of (moves_of limits g.0) r.regular _ _ _ r.size _ r.shows r.long; row_in_bounds = (c.requires.left-room, c.requires.right-room) }

pub returns-in-Passed : goal.returns-in-Passed
returns-in-Passed c = let row = c.args.row.now in
    let g = c.prepare-w.ensures.passed_as c.in-Passed.is in
    let r = g.2 in
    let one : OneEach (moves_of limits g.0) row = subst (λ (G : Grammar). OneEach (moves_of limits G) row) (done_inj (sym (zero c.before.before.before.before.before.before.before.before.before.before.before.before.before.before.before.before.before.before.before.before.before.before.before.before.before.before.before ∙ c.requires.passes) ∙ g.1)) c.requires.one in
    let z = c.walk.ensures (moves_of limits g.0) (gives_of (moves_of limits g.0) r.regular _ _ _ r.size _ r.shows) one in
    λ G d. of-same (done_inj (sym g.1 ∙ zero c.before.before.before.before.before.before.before.before.before.before.before.before.before.before.before.before.before.before.before.before.before.before.before.before.before.before.before ∙ d)) z
