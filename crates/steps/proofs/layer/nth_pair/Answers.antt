-- nth_pair meets its contract: the place in the grid is a row and a column.
use native.Mathlib.Omega.{arith}
use native.Mathlib.Nat.{mod-lt}
use mathlib.Core.Option.{none, some}
use lib.ListN.{length, get_or}
use Rattle.triples.specs.Records.{step}
use Rattle.triples.specs.declared.Move.TheVariants.{Closing}
use Rattle.steps.proofs.Nth.{positive, pairs_equal, pairs_unequal, pair-at, pair-past, pair-none}
use Rattle.steps.proofs.layer.nth_pair.Goals as goal

pub returns-then-i-j : goal.returns-then-i-j
returns-then-i-j c = let a = c.args in pairs_equal a.i a.j a.ls.now a.rs.now a.k c.if-i-j.true

pub returns-then-w-eq0 : goal.returns-then-w-eq0
returns-then-w-eq0 c = let a = c.args in
    pairs_unequal a.i a.j a.ls.now a.rs.now a.k none c.if-i-j.false (pair-none a.i a.j a.rs.now a.ls.now a.k c.if-w-eq0.true)

pub returns-then-ls-at : goal.returns-then-ls-at
returns-then-ls-at c = let a = c.args in
    pairs_unequal a.i a.j a.ls.now a.rs.now a.k none c.if-i-j.false (pair-past a.i a.j a.rs.now a.ls.now a.k c.if-ls-at.true)

pub offset_bounds-rs-k : goal.offset_bounds-rs-k
offset_bounds-rs-k c = let a = c.args in omega (arith, mod-lt a.k (positive (length a.rs.now) c.if-w-eq0.false))

pub bounds-rs-k : goal.bounds-rs-k
bounds-rs-k c = let a = c.args in omega (arith, mod-lt a.k (positive (length a.rs.now) c.if-w-eq0.false))

pub returns : goal.returns
returns c = let a = c.args in
    pairs_unequal a.i a.j a.ls.now a.rs.now a.k (some (step 1 (get_or a.ls.now _ 0) (get_or a.rs.now _ 0) (Closing a.i) (Closing a.j))) c.if-i-j.false
    (pair-at a.i a.j a.rs.now a.ls.now a.k (positive (length a.rs.now) c.if-w-eq0.false) c.if-ls-at.false)
