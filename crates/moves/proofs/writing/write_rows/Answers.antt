-- write_rows meets its contract: the lines before the rules, then the rules.
use Prim.Native.Nat.{ℕ, ◌+◌}
use mathlib.Core.Path.{refl, ap, ◌∙◌}
use mathlib.Core.List.{List, map}
use Rattle.grammar.specs.Limits.{limits}
use Rattle.moves.specs.Tables.{row_from, member_line, target_line, number_line, blanked, blanked_from}
use Rattle.moves.specs.Clauses.{write, rules_from, front_classes, front_items, ahead_line, live_line}
use Rattle.moves.proofs.Writes.{lines_write}
use Rattle.moves.proofs.writing.write_rows.Goals as goal

pub returns : goal.returns
unfolding row_from
returns c = let a = c.args in
    let m = a.n + 1 in
    let rules = rules_from a.lefts.now a.lengths.now a.codes.now a.count 0 0 in
    let lines = blanked_from (live_line a.live.now) 2 rules in
    let u = c.front_classes.ensures in
    let v = c.front_items.ensures in
    let w = c.write_rules.ensures in
    record {
      ahead = w.ahead ∙ ap (λ (r : List ℕ). write r 4 (row_from ahead_line 2 lines)) v.ahead_after ∙ lines_write ahead_line (map (blanked a.sentence) front_items) lines a.ahead.now 4 2 refl refl;
      number = w.number ∙ ap (λ (r : List ℕ). write r 4 (row_from number_line 2 rules)) v.number_after ∙ lines_write number_line front_items rules a.number.now 4 2 refl refl;
      member = w.member ∙ ap (λ (r : List ℕ). write r 4 (row_from (member_line limits m) 2 lines)) u.member_after ∙ lines_write (member_line limits m) (map (blanked a.sentence) (front_classes a.n)) lines a.member.now 4 2 refl refl;
      target = w.target ∙ ap (λ (r : List ℕ). write r 4 (row_from (target_line limits m) 2 lines)) u.target_after ∙ lines_write (target_line limits m) (map (blanked a.sentence) (front_classes a.n)) lines a.target.now 4 2 refl refl;
    }
