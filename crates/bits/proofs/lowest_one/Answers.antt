-- lowest_one meets its contract: as many zeros stand below the lowest 1.
use native.Mathlib.Omega.{arith}
use Rattle.bits.proofs.WindowLaws.{lowest-one}
use Rattle.bits.proofs.lowest_one.Goals as goal

pub returns : goal.returns
returns c = lowest-one c.args.w c.requires (omega arith)
