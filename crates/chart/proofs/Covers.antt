-- A flag dropped, and a flag set with the byte of its block. Assumes nothing.
use Prim.Native.Nat.{ℕ, ◌*◌, ◌/◌, ◌<◌}
use mathlib.Core.Path.{sym, ap, ◌∙◌}
use mathlib.Core.List.{List}
use native.Mathlib.Omega.{arith}
use native.Mathlib.Decide.{ℕ_discrete}
use lib.ListN.{length, get_or, set}
use lib.Seq.{get_or-set_same, get_or-set_other}
use Rattle.chart.specs.Rows.{block, Covered}

pub cover_drop : {Q : ℕ} {flags blocks : List ℕ} (q : ℕ) → q < length flags → Covered Q flags blocks → Covered Q (set flags q 0) blocks
cover_drop {flags = flags} q l C = record {
  unset = λ h g z. elim (ℕ_discrete h q) [
    | yes f ↦ ap (λ k. get_or (set flags q 0) k 0) f ∙ get_or-set_same flags q 0 0 l
    | no f ↦ get_or-set_other flags q h 0 0 f ∙ C.unset h g z
  ];
}

pub cover_set : {Q : ℕ} {flags blocks : List ℕ} (p : ℕ) → p < block * length blocks → Covered Q flags blocks → Covered Q (set flags p 1) (set blocks (p / block) 1)
cover_set {flags = flags} {blocks} p l C = record {
  unset = λ h g z. elim (ℕ_discrete (h / block) (p / block)) [
    | yes f ↦ absurd (omega (arith, z, ap (λ k. get_or (set blocks (p / block) 1) k 0) f, get_or-set_same blocks (p / block) 1 0 (omega arith)))
    | no f ↦ get_or-set_other flags p h 1 0 (λ e. f (ap (λ k. k / block) e)) ∙ C.unset h g (sym (get_or-set_other blocks (p / block) (h / block) 1 0 f) ∙ z)
  ];
}
