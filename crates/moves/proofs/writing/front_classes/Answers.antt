-- front_classes meets its contract: two lines end to end.
use Prim.Native.Nat.{ℕ, ◌+◌}
use mathlib.Core.Path.{refl, ap, ◌∙◌}
use mathlib.Core.List.{List, [], ◌∷◌}
use Rattle.grammar.specs.Limits.{limits}
use Rattle.grammar.specs.Grammar.{start}
use Rattle.moves.specs.Tables.{member_line, target_line, blanked}
use Rattle.moves.specs.Clauses.{write, rule_of}
use Rattle.moves.proofs.Writes.{two_writes}
use Rattle.moves.proofs.writing.front_classes.Goals as goal

pub returns : goal.returns
returns c = let a = c.args in
    let m = a.n + 1 in
    let top = limits.nonterminal_base + a.n in
    let x = blanked a.live (rule_of 0 (top ∷ [])) in
    let y = blanked a.live (rule_of top (start limits ∷ [])) in
    let v = c.write_classes.ensures in
    let w = c.write_classes-2.ensures in record { member_after = w.member_after ∙ ap (λ (r : List ℕ). write r 2 (member_line limits m 1 y)) v.member_after ∙ two_writes (member_line limits m) x y a.member.now 2 refl; target_after = w.target_after ∙ ap (λ (r : List ℕ). write r 2 (target_line limits m 1 y)) v.target_after ∙ two_writes (target_line limits m) x y a.target.now 2 refl }
