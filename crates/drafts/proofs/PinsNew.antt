-- New drafts, computed. Assumes nothing.
use mathlib.Core.Path.{◌≡◌, refl}
use mathlib.Core.List.{[], ◌∷◌}
use Rattle.grammar.specs.Refusal.{done, refused, out_of_range, truncated}
use Rattle.drafts.proofs.Pins.{S, rule, empty, draft, one, new}

new-begins : new 2 1 (S ∷ 1 ∷ 1 ∷ []) ≡ done one
unfolding new
new-begins = refl

-- without rules, and without a sentence
new-barren : (new 2 1 [] ≡ done (draft [] empty)) × (new 2 1 (S ∷ 1 ∷ S ∷ []) ≡ done (draft (rule (S ∷ []) ∷ []) empty))
unfolding new
new-barren = (refl, refl)

new-refused : (new 2001 1 [] ≡ refused out_of_range 0) × (new 2 1 (S ∷ []) ≡ refused truncated 0)
unfolding new
new-refused = (refl, refl)
