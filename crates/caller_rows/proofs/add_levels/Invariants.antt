use Prim.Native.Nat.{ℕ, suc}
use mathlib.Core.Path.{◌≡◌}
use Rattle.grammar.specs.Grammar.{Grammar}
use Rattle.caller_rows.specs.Levels.{written_from, Sizable, Level, Stands}
use Rattle.caller_rows.proofs.add_levels.Given as goal

abbrev pub invariant-loop : goal.invariant-loop
invariant-loop l = ((G : Grammar) → Sizable G 0 (written_from G l.n l.count l.lefts l.lengths l.codes) l.live l.items l.initial.ahead → Level G l.counter (written_from G l.n l.count l.lefts l.lengths l.codes) l.live l.q l.ahead l.below l.ranks)
    × ((G : Grammar) → Sizable G 0 (written_from G l.n l.count l.lefts l.lengths l.codes) l.live l.items l.initial.ahead → (k : ℕ) → l.counter ≡ suc k → Stands G k l.q l.kinds l.ahead l.number l.member l.target l.after)
