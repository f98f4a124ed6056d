-- A mark set, computed. Assumes nothing.
use mathlib.Core.Path.{◌≡◌, refl}
use mathlib.Core.List.{[], ◌∷◌}
use mathlib.Core.Option.{none, some}
use Rattle.grammar.specs.Limits.{limits}
use Rattle.grammar.specs.Refusal.{done}
use Rattle.drafts.specs.Draft.{mark}
use Rattle.drafts.proofs.Pins.{rule, draft, step}

-- marking again replaces that mark alone
mark-alone : step limits (draft [] (some (rule (1 ∷ []) ∷ []) ∷ some (rule (1 ∷ []) ∷ []) ∷ none ∷ none ∷ none ∷ none ∷ none ∷ none ∷ [])) (mark 1)
    ≡ done (draft [] (some [] ∷ some (rule (1 ∷ []) ∷ []) ∷ none ∷ none ∷ none ∷ none ∷ none ∷ none ∷ []))
unfolding step
mark-alone = refl
