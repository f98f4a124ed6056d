-- `names::fold` meets its contract: the small letter is the folded byte. Assumes nothing.
use Rattle.std.proofs.Common.{arith}
use Rattle.text.specs.Names.{folded}
use Rattle.names.proofs.fold.Goals as goal
use Rattle.std.proofs.lemmas.Bool.Decides.{nat_tests}

pub returns : goal.returns
unfolding folded
returns c = let small = c.to_ascii_lowercase.ensures.value in grind (arith, nat_tests, small)
