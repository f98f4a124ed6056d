use Prim.Native.Nat.{ℕ, ◌+◌, ◌-◌}
use mathlib.Core.Path.{◌≡◌}
use mathlib.Core.List.{List}
use Rattle.grammar.specs.Grammar.{Rule}
use Rattle.grammar.specs.Limits.{limits}
use Rattle.moves.specs.Tables.{member_line, target_line, number_line, blanked}
use Rattle.moves.specs.Clauses.{lengths_from, ahead_line, live_line}
use Rattle.moves.proofs.Writes.{Rows}
use Rattle.moves.proofs.writing.write_rules.Given as goal

-- what is written of a line
abbrev pub aheads : List ℕ → ℕ → Rule → List ℕ
aheads live k r = ahead_line k (blanked (live_line live k) r)

abbrev pub members : List ℕ → ℕ → ℕ → Rule → List ℕ
members live m k r = member_line limits m k (blanked (live_line live k) r)

abbrev pub targets : List ℕ → ℕ → ℕ → Rule → List ℕ
targets live m k r = target_line limits m k (blanked (live_line live k) r)

abbrev pub invariant-loop-i : goal.invariant-loop-i
invariant-loop-i l = (l.u + lengths_from l.lengths (l.count - l.i) l.i ≡ lengths_from l.lengths l.count 0) × (l.at ≡ 4 + l.u + l.i)
    × Rows (aheads l.live) l.lefts l.lengths l.codes l.count l.initial.ahead l.ahead l.at l.u l.i × Rows number_line l.lefts l.lengths l.codes l.count l.initial.number l.number l.at l.u l.i
    × Rows (members l.live l.m) l.lefts l.lengths l.codes l.count l.initial.member l.member l.at l.u l.i × Rows (targets l.live l.m) l.lefts l.lengths l.codes l.count l.initial.target l.target l.at l.u l.i
