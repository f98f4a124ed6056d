-- `joining::gathering::put_if_fresh` meets its contract: a name with a low number is left out. Assumes nothing.
use native.Mathlib.Omega.{arith}
use Prim.Native.Nat.{ℕ}
use mathlib.Core.Path.{ap, sym, subst}
use mathlib.Core.List.{List, []}
use lib.ListN.{length, get_or}
use Rattle.text.specs.Spelled.{spelled}
use Rattle.joining.specs.Gathering.{Puts}
use Rattle.joining.proofs.GatherLaws.{puts_none, fresh-low, fresh-high}
use Rattle.joining.proofs.gathering.put_if_fresh.Goals as goal
use Rattle.joining.proofs.gathering.put_if_fresh.Lts as lts
use Rattle.joining.proofs.gathering.put_if_fresh.Reads as reads
use Rattle.joining.proofs.gathering.put_if_fresh.Tie as tie

abbrev Start : Type 0
Start = lts.Start tie.the-claims reads.Pre reads.Post tie.handed_clauses

-- the name
abbrev x : Start → List ℕ
x e = let a = e.args in get_or (spelled a.text.now a.starts.now a.lengths.now) a.i []

pub returns-then-number-least : goal.returns-then-number-least
returns-then-number-least c = let z = fresh-low c.args.least c.args.number (x c.before.before.before.before.before.before.before.before) c.if-number-least.true in
    record { count = omega (arith, ap length z); rows = puts_none _ _ _ _ _ z }

pub returns : goal.returns
returns c = let a = c.args in
    let z = fresh-high a.least a.number (x c.before.before.before.before.before.before.before.before.before.before.before.before.before.before.before.before.before.before) c.if-number-least.false in
    record {
      count = omega (arith, ap length z);
      rows = subst (λ (more : List (List ℕ)). Puts more a.k a.bytes.now a.places.now a.spans.now c.put_one.new.bytes c.put_one.new.places c.put_one.new.spans) (sym z)
          c.put_one.ensures;
    }
