-- digits_of meets its contract: one division gives the digits of the index.
use native.Mathlib.Omega.{arith}
use mathlib.Core.Path.{◌≡◌}
use Prim.Native.Nat.{ℕ, ◌-◌, ◌*◌, ◌%◌, ◌≤◌, ◌<◌}
use Rattle.triples.specs.Index.{index}
use Rattle.plans.proofs.PlanLaws.{by_digits, layer-bit}
use Rattle.plans.proofs.digits_of.Reads as reads
use Rattle.plans.proofs.digits_of.Lts as lts
use Rattle.plans.proofs.digits_of.Goals as goal
use Rattle.plans.proofs.digits_of.Lts as lts
use Rattle.plans.proofs.digits_of.Reads as reads
use Rattle.plans.proofs.digits_of.Tie as tie

abbrev Place-After-layer_of : Type 0
Place-After-layer_of = lts.After-layer_of tie.the-claims reads.Pre reads.Post

-- the digits, where b is the last
parts : (c : Place-After-layer_of) (b : ℕ) → let a = c.args in let r = c.row_of-row.result in let f = c.layer_of-layer.result in
    b ≡ a.i % a.q → (f * a.q ≤ r) × (r - f * a.q < a.q) × (b < a.q) × (index a.q f (r - f * a.q) b ≡ a.i)
parts c b k =
    by_digits c.args.q c.args.i c.row_of-row.result c.layer_of-layer.result b (omega (arith, c.requires.0)) c.requires.2 c.row_of-row.ensures c.layer_of-layer.ensures k

pub returns : goal.returns
returns c = let d = parts c.before c.column_of-right.result c.column_of-right.ensures in
    (layer-bit c.args.q c.row_of-row.result c.layer_of-layer.ensures, d.1, d.2, d.3)
