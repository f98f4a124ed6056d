-- write_rules meets its contract: before each turn the rules written stand in front of the list.
use mathlib.Core.Path.{◌∙◌}
use Rattle.counts.proofs.Laws.{set_same}
use Rattle.tree_walk.proofs.Totals.{listing_start, listing_walks, listing_more, listing_end, listing_full}
use Rattle.tree_walk.proofs.write_rules.Goals as goal

pub loop-entry-init : goal.loop-entry-init
loop-entry-init c = λ g b. listing_start c.root-walker.ensures b

pub next_rule-requires-clause-walks : goal.next_rule-requires-clause-walks
next_rule-requires-clause-walks c = let s = c.requires.fits in listing_walks (c.loop-entry.invariant s.course s.begun)

pub loop-entry-preserved : goal.loop-entry-preserved
loop-entry-preserved c = λ g b. let k = c.loop-entry.invariant g b in
    listing_more c.in-Some.rule k c.loop-entry-test.true (c.in-Some.ensures g k.written k.at)

pub returns-in_default : goal.returns-in_default
returns-in_default c = λ g b fit. let k = c.loop-entry.invariant g b in
    set_same c.loop-entry.list c.loop-entry.entry-index ∙ listing_end k (c.in_default.ensures g k.written k.at).0

pub returns : goal.returns
returns c = λ g b fit. listing_full (c.loop-entry.invariant g b) fit c.loop-entry-test.false
