-- add_level meets its contract: the level is sized, and written if it has room; its ranks and widths are what the next one needs.
use borrow.Author.Rules.{rules}
use native.Mathlib.Omega.{arith}
use mathlib.Core.Path.{◌≡◌}
use lib.ListN.{length}
use Rattle.grammar.specs.Limits.{limits}
use Rattle.moves.proofs.Built.{columns_of}
use Rattle.caller_rows.proofs.PlaceLaws.{zeros}
use Rattle.caller_rows.proofs.BuiltLaws.{sizable_by}
use Rattle.caller_rows.proofs.AddLaws.{record_of_lem, counted, ready, said, segments, down-small, next_level}
use Rattle.caller_rows.proofs.next.add_level.Goals as goal

pub size_level-states-requires : goal.size_level-states-requires
size_level-states-requires c = let p = c.requires in
    record { by_index = (p.0, p.1, sizable_by p.0 p.1 _ _ _ _ _ _ _ _ p.2.sizable); by_index_2 = λ k. let z = zeros limits.max_states k in omega (arith, z) }

pub returns-then-states-gt-MAX_STATES : goal.returns-then-states-gt-MAX_STATES
returns-then-states-gt-MAX_STATES c G m L = let Z = c.size_level-states.ensures G m (sizable_by G m _ _ _ _ _ _ _ _ L.sizable) in
    record {
      count = counted G m _ _ _ _ _ _ L _ _ _ _ _ Z;
      says = λ h. absurd (omega (arith, h, c.if-states-gt-MAX_STATES.true));
      next = λ h. absurd (omega (arith, h, c.if-states-gt-MAX_STATES.true));
    }

pub write_level-requires-clause-levelled : goal.write_level-requires-clause-levelled
write_level-requires-clause-levelled c = let p = c.requires in
    let Z = c.size_level-states.ensures p.0 p.1 (sizable_by p.0 p.1 _ _ _ _ _ _ _ _ p.2.sizable) in
    let k = columns_of _ (record_of_lem p.0 p.1 _ _ _ _ p.2.sizable) in
    let z : length c.args.below.now ≡ limits.max_rules = search rules in
    ready p.0 p.1 _ _ _ _ _ _ p.2 _ _ _ _ _ Z c.if-states-gt-MAX_STATES.false (omega (arith, k.few, Z.widths_size)) (omega (arith, k.few, z))

pub next_ranks-requires : goal.next_ranks-requires
next_ranks-requires c = let a = c.args in
    let p = c.requires in
    let Z = c.size_level-states.ensures p.0 p.1 (sizable_by p.0 p.1 _ _ _ _ _ _ _ _ p.2.sizable) in
    let z : length a.ranks.now ≡ limits.max_states = search rules in
    let h = c.if-states-gt-MAX_STATES.false in record { segments = segments p.0 p.1 _ _ _ _ _ _ p.2 _ _ _ _ _ Z _ _ c.write_level.ensures.written; q_in_bounds = (omega (arith, h, c.write_level.ensures.written.down.size), omega (arith, h, z), down-small p.0 p.1 _ _ _ _ _ _ p.2 _ _ _ _ _ Z _ _ c.write_level.ensures.written) }

pub pass_widths-requires : goal.pass_widths-requires
pass_widths-requires c = let a = c.args in
    let p = c.requires in
    let Z = c.size_level-states.ensures p.0 p.1 (sizable_by p.0 p.1 _ _ _ _ _ _ _ _ p.2.sizable) in
    let k = columns_of _ (record_of_lem p.0 p.1 _ _ _ _ p.2.sizable) in
    let y : length a.below.now ≡ limits.max_rules = search rules in
    (omega (arith, k.few, Z.widths_size), omega (arith, k.few, y))

pub returns : goal.returns
returns c G m L = let Z = c.size_level-states.ensures G m (sizable_by G m _ _ _ _ _ _ _ _ L.sizable) in
    record {
      count = counted G m _ _ _ _ _ _ L _ _ _ _ _ Z;
      says = λ h. (_, said G m _ _ _ _ _ _ L _ _ _ _ _ Z _ _ c.write_level.ensures.written);
      next = λ h. next_level G m _ _ _ _ _ _ L _ _ _ _ _ Z _ _ c.write_level.ensures.written _ _ h c.next_ranks.ensures c.pass_widths.ensures;
    }
