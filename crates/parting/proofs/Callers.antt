-- The automata with callers: dropping the farthest caller keeps moves, so an acceptable set at m gives one at m + 1; and a state
-- before a terminal has no other move, so that parting strings exist precisely when the end is reached, for each m.
-- Assumes nothing.
use Prim.Native.Nat.{ℕ, zero, suc, ◌<◌}
use mathlib.Core.Path.{◌≡◌, refl, ap}
use mathlib.Core.Logic.{◌↔◌}
use mathlib.Core.List.{[]}
use lib.ListN.{take}
use native.Mathlib.Omega.{arith}
use Rattle.grammar.specs.Limits.{Limits}
use Rattle.grammar.specs.Grammar.{Terminal, Grammar, rule, WellFormed}
use Rattle.grammar.proofs.Derives.{rule-listed}
use Rattle.automaton.specs.Strings.{Potential, Unambiguous}
use Rattle.automaton.specs.Callers.{Spot, first, last, spot, SpotOpens, spot-start, spot-opens, SpotCloses, spot-ends, spot-closes, SpotShifts, spot-shifts, callers}
use Rattle.automaton.proofs.Callers.{shorten}
use Rattle.triples.specs.Successor.{Reached, Acceptable}
use Rattle.triples.proofs.Reached.{reached-closed}
use Rattle.parting.proofs.Parting.{Single, parting_held, parting_reached}
use Rattle.parting.proofs.Morphism.{Morphism, back}

module _ (L : Limits) (G : Grammar) where
  take_none : (m : ℕ) → take {A = ℕ × ℕ} m [] ≡ []
  take_none zero = refl
  take_none (suc m) = refl

  unfoldable pub fewer : ℕ → Spot → Spot
  fewer m first = first
  fewer m last = last
  fewer m (spot i d cs) = spot i d (take m cs)

  -- the map from m + 1 callers to m keeps moves
  pub nearer : (m : ℕ) → Morphism (callers L G (suc m)) (callers L G m)
  unfolding fewer
  nearer m = record { map = fewer m; first = refl; last = refl; terminal = λ a t. t; opens = opens; closes = closes; shifts = shifts }
    where
      opens : {i : ℕ} {p p' : Spot} → SpotOpens L G (suc m) i p p' → SpotOpens L G m i (fewer m p) (fewer m p')
      opens (spot-start l) = rw (take_none m) (spot-start l)
      opens (spot-opens r l p c) = spot-opens r l p (shorten L G c)

      closes : {i : ℕ} {p p' : Spot} → SpotCloses L G (suc m) i p p' → SpotCloses L G m i (fewer m p) (fewer m p')
      closes (spot-ends l e) = rw (take_none m) (spot-ends l e)
      closes (spot-closes r l p c e q) = spot-closes r l p (shorten L G c) e (ap (take m) q)

      shifts : {x : ℕ} {p p' : Spot} → SpotShifts L G (suc m) x p p' → SpotShifts L G m x (fewer m p) (fewer m p')
      shifts (spot-shifts p c) = spot-shifts p (shorten L G c)

  -- what is acceptable at m is, farthest callers dropped, at m + 1
  pub acceptable_nearer : (m : ℕ) {C : ℕ → Spot → Spot → Type 0} → Acceptable (callers L G m) C
      → Acceptable (callers L G (suc m)) (λ f p q. C f (fewer m p) (fewer m q))
  unfolding nearer
  acceptable_nearer m K = back (nearer m) K

module _ (L : Limits) (G : Grammar) (W : WellFormed L G) (room : L.max_terminals < L.nonterminal_base) (m : ℕ) where
  open_clash : {a i : ℕ} {p p' p'' : Spot} → Terminal G.terminals a → SpotShifts L G m a p p' → SpotOpens L G m i p p'' → ⊥
  open_clash {a} {i} t (spot-shifts p k) (spot-opens r l p' k') =
      let q : a ≡ (rule L G i).left = cc (p.symbol, p'.symbol) in
      omega (arith, t.1, W.terminals, (W.lefts (rule L G i) (rule-listed L G i r)).0)

  close_clash : {a i : ℕ} {p p' p'' : Spot} → SpotShifts L G m a p p' → SpotCloses L G m i p p'' → ⊥
  unfolding rule
  close_clash (spot-shifts p k) (spot-ends l e) = omega (arith, p.inside)
  close_clash (spot-shifts p k) (spot-closes r l p' k' e q) = omega (arith, p.inside)

  last_clash : {a : ℕ} {p p' : Spot} → SpotShifts L G m a p p' → p ≡ last → ⊥
  last_clash (spot-shifts p k) e = let z : ◌≡◌ {A = ℕ} 0 1 = cc in omega arith

  pub spots-single : Single (callers L G m)
  spots-single = record {
    no_open = λ b o. open_clash b.1 b.2.1 o;
    no_close = λ b l. close_clash b.2.1 l;
    not_last = λ b. last_clash b.2.1 refl;
  }

  -- the verdict is potential precisely when the end is reached, for each m
  pub spots-reached : Potential (callers L G m) ↔ Reached (callers L G m) 1 last last
  spots-reached = parting_reached (callers L G m) spots-single

-- whoever has an unambiguous verdict at m keeps it at m + 1
pub keeps_verdict : (L : Limits) (G : Grammar) → WellFormed L G → L.max_terminals < L.nonterminal_base → (m : ℕ)
    → Unambiguous (callers L G m) → Unambiguous (callers L G (suc m))
unfolding fewer
keeps_verdict L G W room m u s =
    let K : Acceptable (callers L G m) (Reached (callers L G m)) = record { closed = reached-closed (callers L G m); lacks = λ r. u ((spots-reached L G W room m).1 r) } in
    u ((spots-reached L G W room m).1 (parting_held (callers L G (suc m)) (λ f p q. Reached (callers L G m) f (fewer L G m p) (fewer L G m q)) (acceptable_nearer L G m K).closed s))
