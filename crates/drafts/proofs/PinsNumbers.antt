-- The numbers of marks, computed. Assumes nothing.
use mathlib.Core.Path.{◌≡◌, refl}
use Rattle.grammar.specs.Limits.{limits}
use Rattle.grammar.specs.Refusal.{refused, not_present}
use Rattle.drafts.specs.Draft.{mark, return}
use Rattle.drafts.proofs.Pins.{one, step}

mark-numbers : (step limits one (mark 0) ≡ refused not_present 0) × (step limits one (mark 9) ≡ refused not_present 9)
unfolding step
mark-numbers = (refl, refl)

return-numbers : (step limits one (return 0) ≡ refused not_present 0) × (step limits one (return 9) ≡ refused not_present 9)
unfolding step
return-numbers = (refl, refl)
