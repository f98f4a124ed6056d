-- A return to a mark, computed. Assumes nothing.
use mathlib.Core.Path.{◌≡◌, refl}
use mathlib.Core.List.{[], ◌∷◌}
use mathlib.Core.Option.{none, some}
use Rattle.grammar.specs.Limits.{limits}
use Rattle.grammar.specs.Refusal.{done}
use Rattle.drafts.specs.Draft.{return}
use Rattle.drafts.proofs.Pins.{rule, draft, step}

-- the rules are those that the mark keeps, and all marks are in being
return_kept : step limits (draft (rule (2 ∷ []) ∷ []) (some [] ∷ none ∷ none ∷ none ∷ none ∷ none ∷ none ∷ some (rule (1 ∷ []) ∷ []) ∷ [])) (return 8)
    ≡ done (draft (rule (1 ∷ []) ∷ []) (some [] ∷ none ∷ none ∷ none ∷ none ∷ none ∷ none ∷ some (rule (1 ∷ []) ∷ []) ∷ []))
unfolding step
return_kept = refl
