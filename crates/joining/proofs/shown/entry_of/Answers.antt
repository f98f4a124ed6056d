-- `joining::shown::entry_of` meets its contract: no entry before the place is i. Assumes nothing.
use Rattle.std.proofs.Common.{◌≡◌, ℕ, ap, ◌∙◌, length, eqb, rules}
use Rattle.std.specs.List.{position}
use Rattle.std.specs.Option.{unwrap_or}
use Rattle.std.proofs.lemmas.Iterator.{YieldsList-from_slice}
use Rattle.std.proofs.lemmas.Iterator.Search.{position_from_yields_List}
use borrow.Author.Tests.{tests}
use Rattle.joining.proofs.Places.{place-found}
use Rattle.joining.proofs.shown.entry_of.Goals as goal

pub returns : goal.returns
returns c = let a = c.args in
    let e : c.position.result ≡ position (λ (x : ℕ). eqb x a.i) a.numbers.now = position_from_yields_List (λ (x : ℕ). eqb x a.i) _ _ _ c.position.ensures.ran (YieldsList-from_slice a.numbers.now cc) (λ x b q k. search (rules, tests)) in
    c.unwrap_or.ensures ∙ ap (λ r. unwrap_or r (length a.numbers.now)) e ∙ place-found (λ (x : ℕ). eqb x a.i) a.numbers.now
