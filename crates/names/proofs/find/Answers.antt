-- `names::find` meets its contract: the place of the first c is where the test `eqb b c` passes first. Assumes nothing.
use Rattle.std.proofs.Common.{ℕ, ◌≡◌, ◌+◌, ◌-◌, ◌≤◌, Bool, true, false, Some, None, List, cond, ltb, eqb, refl, length, drop, ◌∙◌, arith, rules, length-drop}
use Rattle.std.proofs.Math.Seq.{take_all}
use Rattle.std.specs.List.{position}
use Rattle.std.proofs.lemmas.Iterator.{YieldsList-from_slice}
use Rattle.std.proofs.lemmas.Iterator.Search.{position_from_yields_List}
use borrow.Author.Tests.{tests, ltb-false}
use Rattle.names.specs.Found.{Found, index, part}
use Rattle.names.proofs.Pieces.{index_le, index-position}
use Rattle.names.proofs.find.Goals as goal

module _ (c : ℕ) (s : List ℕ) (a : ℕ) (le : a ≤ length s) where
  rest : part a (length s) s ≡ drop a s
  rest = take_all (length s - a) (drop a s) (omega (arith, length-drop a s))

  first : position (λ b. eqb b c) (part a (length s) s) ≡ cond (ltb (index c (drop a s)) (length (drop a s))) (Some (index c (drop a s))) None
  first = rw (rest, ← index-position c (drop a s))

  found-some : (k : ℕ) → Some k ≡ position (λ b. eqb b c) (part a (length s) s) → Found c s a (a + k)
  found-some k e = go (ltb (index c (drop a s)) (length (drop a s))) (e ∙ first)
    where
      go : (t : Bool) → Some k ≡ cond t (Some (index c (drop a s))) None → Found c s a (a + k)
      go true h = let q : k ≡ index c (drop a s) = cc in record { at = omega arith; low = omega arith; high = omega (arith, index_le c (drop a s), length-drop a s) }
      go false h = cc

  found-none : None ≡ position (λ b. eqb b c) (part a (length s) s) → Found c s a (length s)
  found-none e = go (ltb (index c (drop a s)) (length (drop a s))) refl (e ∙ first)
    where
      go : (t : Bool) → ltb (index c (drop a s)) (length (drop a s)) ≡ t → None ≡ cond t (Some (index c (drop a s))) None → Found c s a (length s)
      go true l h = cc
      go false l h = record { at = omega (arith, ltb-false _ _ l, index_le c (drop a s), length-drop a s); low = le; high = omega arith }

pub returns-in-Some : goal.returns-in-Some
returns-in-Some c = found-some c.args.c c.args.s.now c.args.from c.requires c.in-Some.k
    (position_from_yields_List (λ b. eqb b c.args.c) _ _ _ c.in-Some.ensures.ran (YieldsList-from_slice _ c.iter.ensures.rest) (λ x b q k. search (rules, tests)))

pub returns-in-None : goal.returns-in-None
returns-in-None c = found-none c.args.c c.args.s.now c.args.from c.requires
    (position_from_yields_List (λ b. eqb b c.args.c) _ _ _ c.in-None.ensures.ran (YieldsList-from_slice _ c.iter.ensures.rest) (λ x b q k. search (rules, tests)))
