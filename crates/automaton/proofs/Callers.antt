-- Chains of callers: one caller fewer, one caller more, and none above rule 0. Assumes nothing.
use Prim.Native.Nat.{ℕ, zero, suc}
use mathlib.Core.List.{List, [], ◌∷◌}
use lib.ListN.{take}
use Rattle.grammar.specs.Limits.{Limits}
use Rattle.grammar.specs.Grammar.{Grammar, IsRule, rule}
use Rattle.automaton.specs.Callers.{Place, Calls, enough, from_start, called}

module _ (L : Limits) (G : Grammar) where
  -- the farthest forgotten
  pub shorten : {m i : ℕ} {cs : List (ℕ × ℕ)} → Calls L G (suc m) i cs → Calls L G m i (take m cs)
  shorten {m = zero} c = enough
  shorten {m = suc m} from_start = from_start
  shorten {m = suc m} (called r p c) = called r p (shorten c)

  -- a caller becomes the nearest
  pub calls : (m : ℕ) {i j d : ℕ} {cs : List (ℕ × ℕ)} → IsRule G i → Place L G (rule L G i).left j d → Calls L G m j cs
      → Calls L G m i (take m ((j, d) ∷ cs))
  calls zero r p c = enough
  calls (suc m) r p c = called r p (shorten c)

  -- rule 0 has none
  pub none_above : (m : ℕ) → Calls L G m 0 []
  none_above zero = enough
  none_above (suc m) = from_start
