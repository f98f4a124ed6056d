-- `joining::naming::number_of` meets its contract: the part that is looked up is the module's name. Assumes nothing.
use mathlib.Core.Path.{sym, ap, ◌∙◌}
use mathlib.Core.List.{List}
use Prim.Native.Nat.{ℕ}
use native.Mathlib.Nat.{add-sub_cancel_left}
use lib.ListN.{take, drop, get_or}
use Rattle.text.specs.Names.{same_name, place}
use Rattle.text.specs.Spelled.{spelled}
use Rattle.text.proofs.Spans.{spelled_at}
use Rattle.joining.proofs.naming.number_of.Goals as goal

pub returns : goal.returns
returns c = let a = c.args in
    let from = get_or a.firsts.now a.i 0 in
    c.find.ensures
    ∙ ap (λ (x : List ℕ). place (same_name x) (spelled a.robot.now a.starts.now a.lengths.now))
    (ap (λ (m : ℕ). take m (drop from a.addon.now)) (add-sub_cancel_left from (get_or a.sizes.now a.i 0))
    ∙ sym (spelled_at a.addon.now a.firsts.now a.sizes.now a.i c.requires.1.paired c.requires.2))
