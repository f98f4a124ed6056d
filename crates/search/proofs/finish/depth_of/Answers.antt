-- depth_of meets its contract: what leads back from `at` to place 0 in x steps makes a way of x + d steps from the place.
use mathlib.Core.Path.{◌≡◌, subst}
use Prim.Native.Nat.{ℕ, ◌+◌, ◌<◌}
use native.Mathlib.Omega.{arith}
use lib.ListN.{get_or}
use Rattle.tops.specs.Tops.{lows}
use Rattle.search.specs.Finish.{Depth, root, step}
use Rattle.search.proofs.finish.depth_of.Goals as goal

pub loop-at-init : goal.loop-at-init
loop-at-init c = let a = c.args in
    (omega arith, λ x b. subst (Depth (lows a.parents.now) a.place) (omega arith) b)

pub place_at-at-requires : goal.place_at-at-requires
place_at-at-requires c = omega (arith, c.loop-at.invariant.0, c.requires.0, c.requires.1)

pub loop-at-smaller : goal.loop-at-smaller
loop-at-smaller c = let l = c.loop-at in
    omega (arith, c.place_at-at.ensures, c.requires.2 l.at c.loop-at-test.true (omega (arith, l.invariant.0, c.requires.1)))

pub loop-at-preserved : goal.loop-at-preserved
loop-at-preserved c = let l = c.loop-at in
    let parents = lows c.args.parents.now in
    let earlier : get_or parents l.at 0 < l.at = c.requires.2 l.at c.loop-at-test.true (omega (arith, l.invariant.0, c.requires.1)) in (
      omega (arith, l.invariant.0, c.place_at-at.ensures, earlier),
      λ x b. subst (Depth parents c.args.place) (omega arith)
          (l.invariant.1 (x + 1) (step c.loop-at-test.true earlier (subst (λ (p : ℕ). Depth parents p x) c.place_at-at.ensures b))),
    )

pub returns : goal.returns
returns c = let l = c.loop-at in
    let a = c.args in
    let z : 0 ≡ l.at = omega (arith, c.loop-at-test.false) in record { depth = subst (Depth (lows a.parents.now) a.place) (omega arith) (l.invariant.1 0 (subst (λ (k : ℕ). Depth (lows a.parents.now) k 0) z root)); upper_bound = omega (arith, l.invariant.0) }
