-- live_rules meets its contract: the rows are those of the productive and of the reached nonterminals.
use mathlib.Core.Path.{refl}
use Rattle.live.proofs.ColumnLaws.{held, columns_of, lent_record}
use Rattle.live.proofs.LiveLaws.{answers_of}
use Rattle.live.proofs.live_rules.Goals as goal

pub invariant_of-rules : goal.invariant_of-rules
invariant_of-rules c = let p = c.requires in record { columns = columns_of _ (lent_record p.3); end = (held _ p.0 p.3.same).used }

pub returns : goal.returns
returns c = λ G n q C.
    let a = c.args in
    let h = held _ G C.same in
    answers_of G C.well_formed a.lefts.now a.lengths.now a.codes.now a.count h.count h.left h.right _ c.mark_productive.ensures
    _ c.mark_reachable.ensures _ _ refl c.write_live.ensures
