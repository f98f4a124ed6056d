-- `lexicon::plant` meets its contract: an empty tree has the names before number 0. Assumes nothing.
use native.Mathlib.Omega.{arith}
use Rattle.lexicon.proofs.plant.Goals as goal

pub grow-requires : goal.grow-requires
grow-requires c = let e = c in
    record {
      spans = e.requires.spans.0;
      few = e.requires.spans.1;
      room = e.requires.spans.2;
      near = omega arith;
      bare = λ q. e.requires.by_index;
      grown = λ h. absurd (omega arith);
      apart = λ i j h l. absurd (omega arith);
    }
