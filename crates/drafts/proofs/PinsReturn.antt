-- A return to an empty mark, computed. Assumes nothing.
use mathlib.Core.Path.{◌≡◌, refl}
use Rattle.grammar.specs.Limits.{limits}
use Rattle.grammar.specs.Refusal.{refused, not_present}
use Rattle.drafts.specs.Draft.{return}
use Rattle.drafts.proofs.Pins.{one, step}

return-empty : step limits one (return 3) ≡ refused not_present 3
unfolding step
return-empty = refl
