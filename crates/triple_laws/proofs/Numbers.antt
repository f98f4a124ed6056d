-- Triples by the numbers of their states are those of the lists of moves, over an automaton whose moves these are: the steps from
-- numbers below Q, and what is reached (that it is in range: `reached-inside` in crate figures). Assumes nothing.
use Prim.Native.Nat.{ℕ, ◌<◌}
use mathlib.Core.Path.{subst₂}
use mathlib.Core.Logic.{◌↔◌}
use native.Mathlib.Omega.{arith}
use Rattle.grammar.specs.Basics.{Mem}
use Rattle.automaton.specs.Automaton.{Automaton}
use Rattle.automaton.specs.Moves.{Moves, listed, Regular, Lists}
use Rattle.triples.specs.Index.{index}
use Rattle.triples.specs.Successor.{StepTo, Reached}
use Rattle.triples.specs.Smallest.{smallest}
use Rattle.triples.specs.Numbers.{StepAt, ReachedAt}
use Rattle.triples.specs.declared.Move.{Move}
use Rattle.triple_laws.proofs.Records.{steps_in_range}
use Rattle.triple_laws.proofs.Numbered.{state, step-to, step_from, reached-to, found}
use Rattle.triple_laws.proofs.Laws.{reached_exactly}

module _ (A : Automaton) (M : Moves) (R : Regular M) (N : Lists A M) where
  -- the steps between states with these numbers are those of the lists
  pub step-numbers : (f p q g p' q' : ℕ) (l r : Move) → f < 2 → p < M.states → q < M.states
      → StepAt A f p q g p' q' l r ↔ StepTo (listed M) f p q g p' q' l r
  step-numbers f p q g p' q' l r hf hp hq = (
    λ (s, t, s', t', a, b, c, d, x).
        subst₂ (λ (p q : ℕ). StepTo (listed M) f p q g p' q' l r) a b
        (subst₂ (λ (p' q' : ℕ). StepTo (listed M) f (A.number s) (A.number t) g p' q' l r) c d (step-to A M R N x)),
    λ x.
        let i = steps_in_range M R hf hp hq (l, r, x) in
        let s = state A M R N p hp in
        let t = state A M R N q hq in
        let s' = state A M R N p' i.1 in
        let t' = state A M R N q' i.2 in (
          s.0,
          t.0,
          s'.0,
          t'.0,
          s.1,
          t.1,
          s'.1,
          t'.1,
          step_from A M R N x s.0 t.0 s'.0 t'.0 s.1 t.1 s'.1 t'.1 (omega (arith, s.1, N.states)) (omega (arith, t.1, N.states)),
        ),
  )

  -- what is reached, by numbers, is what is reached in the lists
  pub reached-numbers : (f p q : ℕ) → ReachedAt A f p q ↔ Reached (listed M) f p q
  reached-numbers f p q = (
    λ (s, t, a, b, r). subst₂ (Reached (listed M) f) a b (reached-to A M R N r),
    λ r. let o = found A M R N r in (o.p, o.q, o.left, o.right, o.reached),
  )

  -- and, in range, what the smallest set has
  pub reached-listed : (f p q : ℕ) → f < 2 → p < M.states → q < M.states → ReachedAt A f p q ↔ Mem (index M.states f p q) (smallest M)
  reached-listed f p q hf hp hq =
      let a = reached-numbers f p q in
      let b = reached_exactly M R f p q hf hp hq in
      (λ r. b.0 (a.0 r), λ m. a.1 (b.1 m))
