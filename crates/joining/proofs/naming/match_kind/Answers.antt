-- `joining::naming::match_kind` meets its contract: the robot's names are all different, so the tree has them all. Assumes nothing.
use Rattle.std.proofs.Common.{ℕ, ◌+◌, ◌*◌, sym, ap, ◌∙◌, length, length-append, arith}
use Rattle.grammar.specs.Basics.{over}
use Rattle.text.specs.Spelled.{spelled}
use Rattle.text.proofs.Spans.{length-spelled}
use Rattle.text.proofs.Gather.{first_double_lem}
use Rattle.text_read.specs.Values.{all_names}
use Rattle.lexicon.proofs.Tree.{no_links}
use Rattle.modules.specs.Joined.{added}
use Rattle.joining.specs.Numbers.{numbered}
use Rattle.joining.proofs.naming.match_kind.Goals as goal

pub plant-requires-clause-by_index : goal.plant-requires-clause-by_index
plant-requires-clause-by_index c = no_links (2 * all_names)

pub meets-requires : goal.meets-requires
meets-requires c = let a = c.args in
    let n = length-spelled a.robot.now a.starts.now a.lengths.now c.requires.robot_spans.paired in
    let all = c.plant.ensures.value ∙ (first_double_lem (spelled a.robot.now a.starts.now a.lengths.now)).1 c.requires.once ∙ n in
    (c.plant.ensures.lexicon all, c.requires.other_spans)

pub number_names-requires : goal.number_names-requires
number_names-requires c = let a = c.args in
    let p = c.requires in
    let n = length-spelled a.robot.now a.starts.now a.lengths.now p.robot_spans.paired in
    let all = c.plant.ensures.value ∙ (first_double_lem (spelled a.robot.now a.starts.now a.lengths.now)).1 p.once ∙ n in
    record { lexicon = c.plant.ensures.lexicon all; addon_spans = p.addon_spans; few = omega (arith, p.robot-few, p.addon-few); room = p.room }

pub returns : goal.returns
returns c = let a = c.args in
    let names = spelled a.robot.now a.starts.now a.lengths.now in
    let xs = spelled a.addon.now a.firsts.now a.sizes.now in
    let n = length-spelled a.robot.now a.starts.now a.lengths.now c.requires.robot_spans.paired in
    let x = c.number_names.ensures in (
      sym c.meets.ensures ∙ c.if-meets.false,
      x.count ∙ ap (λ (k : ℕ). k + length (added names xs)) (sym n) ∙ sym (length-append names (added names xs)),
      x.row ∙ ap (λ (k : ℕ). over (numbered names k xs) a.numbers.now) (sym n),
    )
