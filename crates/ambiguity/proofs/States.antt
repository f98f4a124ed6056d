-- The states with m callers are those that have numbers below Q. Assumes nothing.
use Prim.Native.Nat.{ℕ, zero, suc, ◌≤◌, ◌<◌}
use mathlib.Core.Path.{◌≡◌, refl, sym, subst}
use mathlib.Core.List.{List}
use mathlib.Core.Logic.{◌⊎◌, inl, inr, ◌↔◌}
use native.Mathlib.Omega.{arith}
use lib.ListN.{length}
use Rattle.grammar.specs.Basics.{Mem, there}
use Rattle.grammar.specs.Limits.{limits}
use Rattle.grammar.specs.Grammar.{Grammar, WellFormed}
use Rattle.grammar.specs.Live.{Live, is_live}
use Rattle.grammar.proofs.Live.{is_live_lem}
use Rattle.automaton.specs.Callers.{Spot, last, spot, Calls, items, chains, chains_of, spots, number_of}
use Rattle.triple_laws.proofs.Members.{place_mem, under-test, of-each, of_map, first_or}
use Rattle.triple_laws.proofs.Callers.{items_exact, chains_exact}
use Rattle.triple_laws.proofs.Spots.{place-below, place_mem_below, at, in_rest}
use Rattle.triple_laws.proofs.CallerMoves.{first-state, last-state}
use Rattle.triple_laws.proofs.CallerPosition.{with_states}
use Rattle.ambiguity.specs.Entries.{states_at}
use Rattle.ambiguity.specs.Callers.{IsState, at_first, at_last, at_item}

module _ (G : Grammar) (W : WellFormed limits G) where
  -- the chains that are listed for an item of rule i
  chained : (m i : ℕ) (cs : List (ℕ × ℕ)) → i ≤ length G.rules
      → Mem cs (chains_of limits G m i) ↔ (((m ≡ 0) ⊎ Live limits G i) × Calls limits G m i cs)
  unfolding chains
  chained zero i cs h = let e = chains_exact limits G W (omega arith) 0 i cs h in (λ k. (inl refl, e.0 k), λ k. e.1 k.1)
  chained (suc m) i cs h =
      let e = chains_exact limits G W (omega arith) (suc m) i cs h in
      let l = is_live_lem limits G W (omega arith) i h in
      let u = under-test (is_live limits G i) (chains limits G (suc m) i) in
      (λ k. (inr (l.0 (u.0 k).0), e.0 (u.0 k).1), λ k. u.1 (l.1 (lives k.0), e.1 k.1))
    where
      lives : (suc m ≡ 0) ⊎ Live limits G i → Live limits G i
      lives (inl z) = absurd (omega arith)
      lives (inr l) = l

  module _ (m : ℕ) where
    -- the states are the spots that are listed
    pub listed-state : {s : Spot} → IsState G m s → Mem s (spots limits G m)
    unfolding spots
    listed-state at_first = first-state limits G W (omega arith) m
    listed-state at_last = last-state limits G W (omega arith) m
    listed-state (at_item {i = i} {d = d} {cs = cs} h k l c) =
        there (there ((of-each (items limits G) (at limits G W (omega arith) m)).1 (
          (i, d),
          (items_exact limits G W (omega arith) i d).1 (h, k),
          (of_map (chains_of limits G m i) (spot i d)).1 (cs, (chained m i cs h).1 (l, c), refl),
        )))

    state-listed : (s : Spot) → Mem s (spots limits G m) → IsState G m s
    unfolding spots
    state-listed s h = elim (first_or h) [
      | inl e ↦ subst (IsState G m) (sym e) at_first
      | inr k ↦ elim (first_or k) [
        | inl e ↦ subst (IsState G m) (sym e) at_last
        | inr k ↦
            let o = in_rest limits G W (omega arith) m s k in
            let t = (items_exact limits G W (omega arith) o.0 o.1).0 o.3 in
            let c = (chained m o.0 o.2 t.0).0 o.4 in
            subst (IsState G m) (sym o.5) (at_item t.0 t.1 c.0 c.1)
      ]
    ]

    -- and these have numbers below Q
    pub numbered : (s : Spot) → IsState G m s ↔ (number_of limits G m s < states_at G m)
    numbered s =
        let S = spots limits G m in
        let q = with_states limits G W (omega arith) m in (
          λ k. subst (λ (q : ℕ). number_of limits G m s < q) (sym q) (place_mem_below (listed-state k)),
          λ k.
              let h : number_of limits G m s < length S = subst (λ (q : ℕ). number_of limits G m s < q) q k in
              state-listed s (subst (λ t. Mem t S) (place-below s S h) (place_mem S (number_of limits G m s) last h)),
        )
