-- One caller more does not make states fewer: a live rule other than rule 0 is called by some live item (its node in a sentence's tree
-- has one above it), so every chain of callers goes on or begins in rule 0. Not so from no caller to one, where the states of dead
-- rules vanish. Assumes nothing.
use Prim.Native.Nat.{ℕ, zero, suc, ◌≤◌, ◌<◌}
use mathlib.Core.Path.{◌≡◌, refl, sym, subst}
use mathlib.Core.Bool.{Bool, true, false}
use mathlib.Core.List.{List, [], ◌∷◌, map}
use native.Mathlib.Omega.{arith}
use native.Mathlib.Nat.{mul-le-mul_left}
use lib.ListN.{length, get_or, length-append}
use Rattle.grammar.specs.Basics.{when, each, Mem, here, there}
use Rattle.grammar.specs.Limits.{Limits}
use Rattle.grammar.specs.Grammar.{Grammar, rule, WellFormed}
use Rattle.grammar.specs.Tree.{Tree, Trees, DerivationTree, applies, Children, terminal, nonterminal}
use Rattle.grammar.specs.Live.{Uses, at-root, further, UsesBelow, in-first, in-others, Live, live-start, live-rule, is_live}
use Rattle.grammar.proofs.Live.{is_live_lem}
use Rattle.automaton.specs.Items.{length_of}
use Rattle.automaton.specs.Callers.{Place, enough, called, items, items_before, chains, chains_of, spots}
use Rattle.triple_laws.proofs.Callers.{items_exact, before-out, left-code, chains_exact}
use Rattle.caller_laws.proofs.Levels.{shown-live}
use Rattle.caller_laws.proofs.Blocks.{map_many, begins, begins-next, begins_two, states_are}

-- longer parts make a longer whole
each_grow : {A B : Type 0} (l : List A) (f g : A → List B) → ((a : A) → Mem a l → length (f a) ≤ length (g a)) → length (each l f) ≤ length (each l g)
unfolding each
each_grow [] f g h = omega arith
each_grow (a ∷ l) f g h =
    omega (arith, h a here, each_grow l f g (λ b m. h b (there m)), length-append (f a) (each l f), length-append (g a) (each l g))

-- a list with an element is not empty
some-length : {A : Type 0} {a : A} {l : List A} → Mem a l → 1 ≤ length l
some-length here = omega arith
some-length (there m) = omega arith

module _ (L : Limits) (G : Grammar) where
  -- some live item stands before x
  abbrev Called : ℕ → Type 0
  Called x = (j d : ℕ) × Place L G x j d

  -- a rule that a tree uses is called, if what the tree derives is and the tree's rules are live
  mutual
    used-called : {b i : ℕ} {t : Tree} → DerivationTree L G b t → Called b → ((j : ℕ) → Uses j t → Live L G j) → Uses i t → Called (rule L G i).left
    used-called (applies r c) p live at-root = subst Called (sym r.1) p
    used-called (applies {i = k} r c) p live (further u) =
        below-called c
        (λ d h. (k, d, record { live = live k at-root; rule-of = r.0.1; inside = h; symbol = refl }))
        (λ j v. live j (further v)) u

    below-called : {α : List ℕ} {i : ℕ} {ts : Trees} → Children L G α ts → ((d : ℕ) → d < length α → Called (get_or α d 0))
        → ((j : ℕ) → UsesBelow j ts → Live L G j) → UsesBelow i ts → Called (rule L G i).left
    below-called (terminal t c) at live u = below-called c (λ d h. at (suc d) (omega (arith, h))) live u
    below-called (nonterminal n t c) at live (in-first u) = used-called t (at 0 (omega arith)) (λ j v. live j (in-first v)) u
    below-called (nonterminal n t c) at live (in-others u) =
        below-called c (λ d h. at (suc d) (omega (arith, h))) (λ j v. live j (in-others v)) u
    below-called {i = i} Rattle.grammar.specs.Tree.end at live u = elim u [ ]

  -- a live rule other than rule 0 is called by some live item
  pub live-called : {i : ℕ} → Live L G i → 1 ≤ i → Called (rule L G i).left
  unfolding rule
  live-called (live-start s) h = absurd (omega (arith, h))
  live-called (live-rule s u) h =
      used-called s.derives (0, 0, record { live = live-start s; rule-of = omega arith; inside = omega arith; symbol = refl }) (λ j v. live-rule s v) u

module _ (L : Limits) (G : Grammar) (W : WellFormed L G) (apart : L.max_terminals < L.nonterminal_base) where
  -- a live rule has no fewer chains with one caller more
  chains_grow : (m i : ℕ) → i ≤ length G.rules → is_live L G i ≡ true → length (chains L G m i) ≤ length (chains L G (suc m) i)
  unfolding chains
  chains_grow zero zero h l = omega arith
  chains_grow zero (suc i) h l =
      let c = live-called L G ((is_live_lem L G W apart (suc i) h).0 l) (omega arith) in
      some-length ((chains_exact L G W apart 1 (suc i) ((c.0, c.1) ∷ []) h).1 (called (omega arith, h) c.2 enough))
  chains_grow (suc m) zero h l = omega arith
  chains_grow (suc m) (suc i) h l =
      let x = (rule L G (suc i)).left in
      each_grow (items_before L G x (items L G)) (λ c. map (λ cs. c ∷ cs) (chains L G m c.0)) (λ c. map (λ cs. c ∷ cs) (chains L G (suc m) c.0))
      (λ c k.
      let b = before-out L G W apart x c (items L G) k in
      let t = (items_exact L G W apart c.0 c.1).0 b.0 in
      let v = shown-live L G c.0 c.1 (omega (arith, b.1, left-code L G W apart (suc i) (omega arith, h))) in
      omega (arith, chains_grow m c.0 t.0 v, map_many (λ cs. c ∷ cs) (chains L G m c.0), map_many (λ cs. c ∷ cs) (chains L G (suc m) c.0)))

  -- nor any rule, if there is a caller
  width_grow : (m i : ℕ) → i ≤ length G.rules → length (chains_of L G (suc m) i) ≤ length (chains_of L G (suc (suc m)) i)
  width_grow m i h = go (is_live L G i) (chains_grow (suc m) i h)
    where
      go : (b : Bool) → (b ≡ true → length (chains L G (suc m) i) ≤ length (chains L G (suc (suc m)) i))
          → length (when b (chains L G (suc m) i)) ≤ length (when b (chains L G (suc (suc m)) i))
      go true k = k refl
      go false k = omega arith

  -- and so each rule begins no earlier
  begins_grow : (m n : ℕ) → n ≤ suc (length G.rules) → begins L G (suc m) n ≤ begins L G (suc (suc m)) n
  begins_grow m zero h = omega (arith, begins_two L G (suc m), begins_two L G (suc (suc m)))
  begins_grow m (suc n) h =
      let z = mul-le-mul_left (suc (length_of L G n)) (width_grow m n (omega (arith, h))) in
      omega (arith, z, begins_grow m n (omega (arith, h)), begins-next L G (suc m) n, begins-next L G (suc (suc m)) n)

  -- there are no fewer states with m + 2 callers than with m + 1
  pub spots_grow : (m : ℕ) → length (spots L G (suc m)) ≤ length (spots L G (suc (suc m)))
  spots_grow m =
      omega (arith, states_are L G (suc m), states_are L G (suc (suc m)), begins_grow m (suc (length G.rules)) (omega arith))
