-- The scan of the flags. Assumes nothing.
use Rattle.std.specs.Prelude.{ℕ, List}
use Rattle.chart.specs.Rows.{Covered, Clear}

-- where no flag is set from q on, none is from r on, and a block's byte is 0 only where no flag of it is set
abbrev pub Finds : (Q : ℕ) (flags blocks blocks' : List ℕ) (q r : ℕ) → Type 0
Finds Q flags blocks blocks' q r = Clear Q flags q → Covered Q flags blocks → Clear Q flags r × Covered Q flags blocks'
