-- What a walk over a rule's callers finds: the caller at a place of the sorted callers is that of the chain at the same place, and a
-- chain is found at its rank. Assumes nothing.
use Prim.Native.Nat.{ℕ, zero, suc, ◌≤◌, ◌<◌}
use mathlib.Core.Path.{◌≡◌, refl, sym, ap, subst, ◌∙◌}
use mathlib.Core.Bool.{Bool, true, false}
use mathlib.Core.List.{List, [], ◌∷◌, map}
use native.Mathlib.Omega.{arith}
use lib.ListN.{length, get_or, take}
use Rattle.grammar.specs.Basics.{choose, Mem, here, there, Distinct, more}
use Rattle.grammar.specs.Limits.{Limits}
use Rattle.grammar.specs.Grammar.{Grammar, IsRule, rule, WellFormed}
use Rattle.grammar.specs.Live.{is_live}
use Rattle.grammar.proofs.Answers.{no_bool}
use Rattle.automaton.specs.Callers.{same_items, chains, chains_of, spots, number_of}
use Rattle.automaton.specs.CallerMoves.{spot_ahead}
use Rattle.automaton.proofs.Callers.{shorten}
use Rattle.triple_laws.proofs.Members.{place_mem, under-test}
use Rattle.triple_laws.proofs.Callers.{chains_exact}
use Rattle.triple_laws.proofs.CallerMoves.{live-chains}
use Rattle.triple_laws.proofs.Spots.{items_self, same-items}
use Rattle.moves.specs.Tables.{places}
use Rattle.caller_laws.specs.Classes.{caller_of, rank}
use Rattle.caller_laws.proofs.Levels.{callers-placed}

-- callers, from the nearest on
abbrev pub Chain : Type 0
Chain = List (ℕ × ℕ)

-- a chain that is listed stands at its rank
pub rank-found : {cs : Chain} {k : List Chain} → Mem cs k → (rank cs k < length k) × (get_or k (rank cs k) [] ≡ cs)
unfolding rank
rank-found {cs} (here {l = k}) = go (same_items cs cs) (items_self cs)
  where
    go : (b : Bool) → b ≡ true → (choose b 0 (suc (rank cs k)) < suc (length k)) × (get_or (cs ∷ k) (choose b 0 (suc (rank cs k))) [] ≡ cs)
    go true e = (omega arith, refl)
    go false e = no_bool (sym e)
rank-found {cs} (there {b = ds} {l = k} h) = go (same_items ds cs) refl (rank-found h)
  where
    go : (b : Bool) → same_items ds cs ≡ b → (rank cs k < length k) × (get_or k (rank cs k) [] ≡ cs)
        → (choose b 0 (suc (rank cs k)) < suc (length k)) × (get_or (ds ∷ k) (choose b 0 (suc (rank cs k))) [] ≡ cs)
    go true e again = (omega arith, (same-items ds cs).0 e)
    go false e again = (omega (arith, again.0), again.1)

-- and of chains without doubles each place is the rank of its chain
pub rank-at : (k : List Chain) → Distinct k → (r : ℕ) → r < length k → rank (get_or k r []) k ≡ r
unfolding rank
rank-at [] d r h = absurd (omega arith)
rank-at (cs ∷ k) d zero h = ap (λ b. choose b 0 (suc (rank cs k))) (items_self cs)
rank-at (cs ∷ k) (more new d) (suc r) h = go (same_items cs (get_or k r [])) refl (rank-at k d r (omega arith))
  where
    go : (b : Bool) → same_items cs (get_or k r []) ≡ b → rank (get_or k r []) k ≡ r → choose b 0 (suc (rank (get_or k r []) k)) ≡ suc r
    go true e again = absurd (new (subst (λ c. Mem c k) (sym ((same-items cs (get_or k r [])).0 e)) (place_mem k r [] (omega arith))))
    go false e again = ap suc again

-- what a function gives at a place
pub map_at : {A : Type 0} (f : A → ℕ) (l : List A) (r : ℕ) (d : A) → r < length l → get_or (map f l) r 0 ≡ f (get_or l r d)
map_at f [] r d h = absurd (omega arith)
map_at f (a ∷ l) zero d h = refl
map_at f (a ∷ l) (suc r) d h = map_at f l r d (omega arith)

module _ (L : Limits) (G : Grammar) (W : WellFormed L G) (apart : L.max_terminals < L.nonterminal_base) (m i : ℕ) (r : IsRule G (suc i)) where
  -- the states with m callers that call a rule, by number, ascending
  abbrev pub callers_of : List ℕ
  callers_of = places (map (spot_ahead L G) (spots L G m)) (rule L G (suc i)).left

  -- the caller at a place is that of the chain there
  pub caller_at : (p : ℕ) → p < length (chains L G (suc m) (suc i)) → get_or callers_of p 0 ≡ number_of L G m (caller_of (get_or (chains L G (suc m) (suc i)) p []))
  caller_at p h =
      ap (λ l. get_or l p 0) (sym (callers-placed L G W apart m i r))
      ∙ map_at (λ cs. number_of L G m (caller_of cs)) (chains L G (suc m) (suc i)) p [] h

  -- so the number of a chain's caller stands at the chain's rank: what a row of ranks by callers has to say
  pub caller_rank : (cs : Chain) → Mem cs (chains L G (suc m) (suc i)) → get_or callers_of (rank cs (chains L G (suc m) (suc i))) 0 ≡ number_of L G m (caller_of cs)
  caller_rank cs h =
      let f = rank-found h in
      caller_at (rank cs (chains L G (suc m) (suc i))) f.0 ∙ ap (λ cs. number_of L G m (caller_of cs)) f.1

module _ (L : Limits) (G : Grammar) (W : WellFormed L G) (apart : L.max_terminals < L.nonterminal_base) (m i : ℕ) (cs : Chain) where
  -- a rule with chains of callers is live
  pub chained_live : Mem cs (chains_of L G (suc m) i) → is_live L G i ≡ true
  chained_live h = ((under-test (is_live L G i) (chains L G (suc m) i)).0 h).0

  -- a chain with its farthest caller dropped is a chain
  pub shorter_chain : i ≤ length G.rules → Mem cs (chains_of L G (suc m) i) → Mem (take m cs) (chains_of L G m i)
  shorter_chain k h =
      let u = (under-test (is_live L G i) (chains L G (suc m) i)).0 h in
      subst (Mem (take m cs)) (sym (live-chains L G W apart m i u.0))
      ((chains_exact L G W apart m i (take m cs) k).1 (shorten L G ((chains_exact L G W apart (suc m) i cs k).0 u.1)))
