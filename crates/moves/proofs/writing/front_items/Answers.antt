-- front_items meets its contract: two lines end to end.
use Prim.Native.Nat.{ℕ}
use mathlib.Core.Path.{refl, ap, ◌∙◌}
use mathlib.Core.List.{List, [], ◌∷◌}
use Rattle.grammar.specs.Limits.{limits}
use Rattle.grammar.specs.Grammar.{start}
use Rattle.moves.specs.Tables.{number_line, blanked}
use Rattle.moves.specs.Clauses.{write, rule_of, ahead_line}
use Rattle.moves.proofs.Writes.{two_writes}
use Rattle.moves.proofs.writing.front_items.Goals as goal

pub returns : goal.returns
returns c = let a = c.args in
    let x = rule_of 0 (0 ∷ []) in
    let y = rule_of 0 (start limits ∷ []) in
    let p = blanked a.live x in
    let q = blanked a.live y in
    let v = c.write_items.ensures in
    let w = c.write_items-2.ensures in record { ahead_after = w.ahead_after ∙ ap (λ (r : List ℕ). write r 2 (ahead_line 1 q)) v.ahead_after ∙ two_writes ahead_line p q a.ahead.now 2 refl; number_after = w.number_after ∙ ap (λ (r : List ℕ). write r 2 (number_line 1 y)) v.number_after ∙ two_writes number_line x y a.number.now 2 refl }
