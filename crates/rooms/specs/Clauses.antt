-- What the rows say of the number of moves. Assumes nothing.
use Rattle.std.specs.Prelude.{ℕ, ◌+◌, List, leb, get_or}
use Rattle.grammar.specs.Basics.{choose}
use Rattle.plans.specs.Plan.{side_of}

-- the moves of a state: the targets of its class, and the shift of a symbol ahead
abbrev pub moves_at : List ℕ → List ℕ → List ℕ → ℕ → ℕ
moves_at ahead member first p = (side_of member first p).span + choose (leb 1 (get_or ahead p 0)) 1 0
