-- Rules withdrawn, computed. Assumes nothing.
use mathlib.Core.Path.{◌≡◌, refl}
use mathlib.Core.List.{[], ◌∷◌}
use Rattle.grammar.specs.Limits.{limits}
use Rattle.grammar.specs.Refusal.{done, refused, not_present}
use Rattle.drafts.specs.Draft.{withdraw}
use Rattle.drafts.proofs.Pins.{rule, empty, draft, one, three, step}

-- the later rules move down
withdraw-first : step limits three (withdraw 1) ≡ done (draft (rule (2 ∷ []) ∷ rule [] ∷ []) empty)
unfolding step
withdraw-first = refl

withdraw-numbers : (step limits one (withdraw 0) ≡ refused not_present 0) × (step limits one (withdraw 2) ≡ refused not_present 2)
unfolding step
withdraw-numbers = (refl, refl)
