-- build meets its contract: the levels are added, then the states of the last are sorted by class.
use borrow.Author.Rules.{rules}
use native.Mathlib.Omega.{arith}
use mathlib.Core.Path.{◌≡◌}
use lib.ListN.{length}
use Rattle.grammar.specs.Limits.{limits}
use Rattle.caller_rows.proofs.BuiltLaws.{items_sizable, sortable, built_many, built_fits}
use Rattle.moves.specs.Clauses.{classes}
use Rattle.caller_rows.proofs.build.Goals as goal

pub add_levels-b-requires : goal.add_levels-b-requires
add_levels-b-requires c = let p = c.requires.begun in
    (p.0, items_sizable p.0 _ _ _ _ _ _ _ _ _ _ p.1 (c.live_rules-live.ensures p.0 _ _ p.1.columns))

pub returns-then-states-gt-MAX_STATES : goal.returns-then-states-gt-MAX_STATES
returns-then-states-gt-MAX_STATES c G B = built_many G _ _ _ _ _ _ _ _ c.if-states-gt-MAX_STATES.true (c.add_levels-b.ensures G (items_sizable G _ _ _ _ _ _ _ _ _ _ B (c.live_rules-live.ensures G _ _ B.columns)))

pub sort_targets-requires-clause-kinds_le_max_states : goal.sort_targets-requires-clause-kinds_le_max_states
sort_targets-requires-clause-kinds_le_max_states c = let p = c.requires in
    let s = sortable p.begun.0 p.begun.1.columns.well_formed _ _ _ _ _ _ _ _ p.le_m (c.add_levels-b.ensures p.begun.0 (items_sizable p.begun.0 _ _ _ _ _ _ _ _ _ _ p.begun.1 (c.live_rules-live.ensures p.begun.0 _ _ p.begun.1.columns))) c.if-states-gt-MAX_STATES.false in
    let z : length c.args.first.now ≡ classes = search rules in
    (s.0, omega (arith, s.0, z))

pub sort_targets-requires-clause-by_index : goal.sort_targets-requires-clause-by_index
sort_targets-requires-clause-by_index c = let p = c.requires in
    (sortable p.begun.0 p.begun.1.columns.well_formed _ _ _ _ _ _ _ _ p.le_m (c.add_levels-b.ensures p.begun.0 (items_sizable p.begun.0 _ _ _ _ _ _ _ _ _ _ p.begun.1 (c.live_rules-live.ensures p.begun.0 _ _ p.begun.1.columns))) c.if-states-gt-MAX_STATES.false).1

pub returns : goal.returns
returns c G B = let z : length c.sort_targets.new.targets ≡ limits.max_states = search rules in
    built_fits G B.columns.well_formed B.sentence _ _ _ _ _ _ _ _ _ _ c.requires.le_m c.if-states-gt-MAX_STATES.false (c.add_levels-b.ensures G (items_sizable G _ _ _ _ _ _ _ _ _ _ B (c.live_rules-live.ensures G _ _ B.columns)))
    (let y : length c.add_levels-b.new.target ≡ limits.max_states = search rules in omega (arith, c.if-states-gt-MAX_STATES.false, y)) c.sort_targets.ensures z
