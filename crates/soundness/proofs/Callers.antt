-- Soundness for the automata with callers, for all m together: each follows the trees of the live rules, so an acceptable set at
-- any m leaves every sentence one tree. Assumes nothing.
use Prim.Native.Nat.{ℕ, suc, ◌+◌, ◌≤◌, ◌<◌}
use mathlib.Core.Path.{◌≡◌, refl, subst, sym}
use mathlib.Core.List.{List, [], ◌∷◌}
use lib.ListN.{length, get_or, drop, take}
use lib.Seq.{drop-cons}
use native.Mathlib.Omega.{arith}
use Rattle.grammar.specs.Limits.{Limits}
use Rattle.grammar.specs.Grammar.{Grammar, IsRule, rule, WellFormed}
use Rattle.grammar.specs.Tree.{Tree, Trees, AppliesRuleOf, HasTree, HasTwoTrees}
use Rattle.grammar.specs.Live.{Live, live-start, live-rule, UsesBelow, in-first, in-others}
use Rattle.grammar.proofs.Trees.{is_same}
use Rattle.grammar.proofs.Derives.{forest, tree-same, apart, has_derives}
use Rattle.automaton.specs.Items.{length_of}
use Rattle.automaton.specs.Callers.{Spot, first, last, spot, Place, Calls, SpotOpens, spot-start, spot-opens, SpotCloses, spot-ends, spot-closes, SpotShifts, spot-shifts, callers}
use Rattle.triples.specs.Successor.{Acceptable}
use Rattle.triples.specs.Certificate.{AcceptableCertificate}
use Rattle.automaton.proofs.Callers.{calls, none_above}
use Rattle.soundness.proofs.Sound.{Follows, AllTaken, one-derived}
use Rattle.soundness.proofs.Position.{trees-taken}

module _ (L : Limits) (G : Grammar) (m : ℕ) where
  -- where rule i with the callers cs returns to
  data Back : ℕ → List (ℕ × ℕ) → Spot → Type 0 where
    back-zero : Back 0 [] last
    back-rule : {i j d : ℕ} {cs ds : List (ℕ × ℕ)} → IsRule G i → Place L G (rule L G i).left j d → Calls L G m j ds
        → cs ≡ take m ((j, d) ∷ ds) → Back i cs (spot j (suc d) ds)

  data On : ℕ → List ℕ → Spot → Spot → Type 0 where
    on : {i d : ℕ} {α : List ℕ} {cs : List (ℕ × ℕ)} {r : Spot} → Live L G i → i ≤ length G.rules → d + length α ≡ length_of L G i
        → drop d (rule L G i).right ≡ α → Calls L G m i cs → Back i cs r → On i α (spot i d cs) r

  at-end : {i : ℕ} {p r : Spot} → On i [] p r → SpotCloses L G m i p r
  unfolding rule
  at-end (on {d = d} l u n e k back-zero) = spot-ends {e = d} l (omega arith)
  at-end (on {d = d} l u n e k (back-rule r p c q)) = spot-closes {e = d} r l p c (omega arith) q

  onward : {i x : ℕ} {α : List ℕ} {p r : Spot} → On i (x ∷ α) p r
      → (q : Spot) × SpotShifts L G m x p q × On i α q r
      × ((j : ℕ) → AppliesRuleOf L G x j → Live L G j → (o : Spot) × SpotOpens L G m j p o × On j (rule L G j).right o q)
  onward {i} {x} {α} (on {d = d} {cs = cs} l u n e k b) = (
    spot i (suc d) cs,
    spot-shifts place k,
    on {d = suc d} {α = α} l u (omega arith) (cc split) k b,
    λ j s v. let p : Place L G (rule L G j).left i d = subst (λ x. Place L G x i d) (sym s.1) place in (
      spot j 0 (take m ((i, d) ∷ cs)),
      spot-opens s.0 v p k,
      on {d = 0} {α = (rule L G j).right} v s.0.1 (omega arith) refl (calls L G m s.0 p k) (back-rule s.0 p k refl),
    ),
  )
    where
      split : get_or (rule L G i).right d 0 ∷ drop (suc d) (rule L G i).right ≡ x ∷ α
      split = rw (← (drop-cons (rule L G i).right d 0 (omega arith))) e

      place : Place L G x i d
      place = record { live = l; rule-of = u; inside = omega arith; symbol = cc split }

  pub spots_follow : Live L G 0 → Follows L G (Live L G) (callers L G m)
  unfolding rule
  spots_follow l = record {
    terminals = λ a t. t;
    On = On;
    at-end = at-end;
    onward = onward;
    begin = (spot 0 0 [], spot-start l, on l (omega arith) refl refl (none_above L G m) back-zero);
  }

-- an acceptable set at any m leaves no row of terminals two trees
pub one-tree-at : (L : Limits) (G : Grammar) → WellFormed L G → L.max_terminals < L.nonterminal_base → (m : ℕ) (C : ℕ → Spot → Spot → Type 0)
    → Acceptable (callers L G m) C → (w : List ℕ) → ¬ HasTwoTrees L G w
one-tree-at L G W h m C K w two =
    two.unequal (is_same (tree-same (one-derived L G (callers L G m) C K (Live L G) (spots_follow L G m (live-start two.first-has))
    (λ b i r t. apart L G W h r t) (all two.first two.first-has) (all two.second two.second-has)
    (has_derives L G W h two.first-has) (has_derives L G W h two.second-has))))
  where
    all : (t : Tree) → HasTree L G w t → AllTaken (Live L G) (forest (Trees.child t Trees.none))
    all t d = trees-taken (Live L G) (Trees.child t Trees.none) (λ j k. used k)
      where
        used : {j : ℕ} → UsesBelow j (Trees.child t Trees.none) → Live L G j
        used (in-first u) = live-rule d u
        used (in-others x) = elim x [ ]

-- and so does an acceptable certificate
pub certified-at : (L : Limits) (G : Grammar) → WellFormed L G → L.max_terminals < L.nonterminal_base → (m : ℕ) (bytes : List ℕ)
    → AcceptableCertificate (callers L G m) bytes → (w : List ℕ) → ¬ HasTwoTrees L G w
certified-at L G W h m bytes c = one-tree-at L G W h m _ c.acceptable
