-- Rules added, computed. Assumes nothing.
use mathlib.Core.Path.{◌≡◌, refl}
use mathlib.Core.List.{[], ◌∷◌}
use Rattle.grammar.specs.Limits.{limits}
use Rattle.grammar.specs.Refusal.{done, refused, truncated, left_undeclared, code_undeclared, rule_repeated, too_many_rules}
use Rattle.drafts.specs.Draft.{add}
use Rattle.drafts.proofs.Pins.{S, rule, empty, draft, one, few, step}

-- entries past its last code are not read
add_takes : step limits one (add (S ∷ 1 ∷ 2 ∷ 99 ∷ 99 ∷ [])) ≡ done (draft (rule (1 ∷ []) ∷ rule (2 ∷ []) ∷ []) empty)
unfolding step
add_takes = refl

-- offsets count on from the end of the draft's table
add-offsets : (step limits one (add (S ∷ 2 ∷ 1 ∷ 3 ∷ [])) ≡ refused code_undeclared 6) × (step limits one (add (S ∷ 1 ∷ 1 ∷ [])) ≡ refused rule_repeated 3) × (step limits one (add (7 ∷ 0 ∷ [])) ≡ refused left_undeclared 3)
unfolding step
add-offsets = (refl, refl, refl)

-- no entries are 2 there, and 7 with the most rules
add_nothing : (step limits one (add []) ≡ refused truncated 3) × (step few one (add []) ≡ refused too_many_rules 3)
unfolding step
add_nothing = (refl, refl)
