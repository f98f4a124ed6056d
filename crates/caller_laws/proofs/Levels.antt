-- From one level to the next: the chains of a rule with m + 1 callers are the states with m callers that stand before its left side, in
-- their order; their numbers are the places of that code in the row of codes ahead. Assumes nothing.
use Prim.Native.Nat.{ℕ, suc, ◌+◌, ◌≤◌, ◌<◌}
use mathlib.Core.Path.{◌≡◌, refl, sym, ap, subst, ◌∙◌}
use mathlib.Core.Bool.{Bool, true, false}
use mathlib.Core.List.{List, [], ◌∷◌, ◌++◌, map, append_assoc}
use native.Mathlib.Omega.{arith}
use lib.Dec.{eqb}
use lib.ListN.{length, get_or, length-append}
use borrow.Author.Tests.{eqb-true, eq-eqb, ne_eqb}
use Rattle.grammar.specs.Basics.{choose, when, each, Distinct}
use Rattle.grammar.specs.Limits.{Limits}
use Rattle.grammar.specs.Grammar.{Grammar, IsRule, rule, WellFormed}
use Rattle.grammar.specs.Live.{is_live}
use Rattle.grammar.proofs.Answers.{no_bool}
use Rattle.automaton.specs.Callers.{Spot, first, last, spot, items, code_at, items_before, chains, chains_of, spots, number_of, place_of}
use Rattle.automaton.specs.CallerMoves.{spot_ahead}
use Rattle.triple_laws.proofs.Callers.{left-code}
use Rattle.triple_laws.proofs.CallerOrder.{map-append}
use Rattle.triple_laws.proofs.CallerMoves.{live-chains}
use Rattle.triple_laws.proofs.Spots.{spots_distinct, place-of-at}
use Rattle.moves.specs.Tables.{places_from, places}
use Rattle.caller_laws.specs.Classes.{caller_of, states_before}

-- the element in the middle
middle : {A : Type 0} (xs : List A) (x : A) (ys : List A) (d : A) → get_or (xs ++ (x ∷ ys)) (length xs) d ≡ x
middle [] x ys d = refl
middle (a ∷ xs) x ys d = middle xs x ys d

map-map : {A B C : Type 0} (g : B → C) (f : A → B) (l : List A) → map g (map f l) ≡ map (λ a. g (f a)) l
map-map g f [] = refl
map-map g f (a ∷ l) = ap (λ k. g (f a) ∷ k) (map-map g f l)

module _ (L : Limits) (G : Grammar) where
  before_append : (x : ℕ) (a b : List Spot) → states_before L G x (a ++ b) ≡ states_before L G x a ++ states_before L G x b
  unfolding states_before
  before_append x [] b = refl
  before_append x (s ∷ a) b =
      let w = when (eqb (spot_ahead L G s) x) (s ∷ []) in
      ap (λ l. w ++ l) (before_append x a b) ∙ sym (append_assoc w (states_before L G x a) (states_before L G x b))

  -- the states of one item: all, or none
  all-before : (x i d : ℕ) (k : List (List (ℕ × ℕ))) → code_at L G (i, d) ≡ x → states_before L G x (map (spot i d) k) ≡ map (spot i d) k
  unfolding states_before spot_ahead
  all-before x i d [] e = refl
  all-before x i d (cs ∷ k) e =
      ap (λ b. when b (spot i d cs ∷ []) ++ states_before L G x (map (spot i d) k)) (eq-eqb (code_at L G (i, d)) x e) ∙ ap (λ l. spot i d cs ∷ l) (all-before x i d k e)

  none_before : (x i d : ℕ) (k : List (List (ℕ × ℕ))) → (code_at L G (i, d) ≡ x → ⊥) → states_before L G x (map (spot i d) k) ≡ []
  unfolding states_before spot_ahead
  none_before x i d [] e = refl
  none_before x i d (cs ∷ k) e =
      ap (λ b. when b (spot i d cs ∷ []) ++ states_before L G x (map (spot i d) k)) (ne_eqb (code_at L G (i, d)) x e) ∙ none_before x i d k e

  -- a code that is shown is a live rule's
  pub shown-live : (i d : ℕ) → 1 ≤ code_at L G (i, d) → is_live L G i ≡ true
  unfolding code_at
  shown-live i d h = go (is_live L G i) refl h
    where
      go : (b : Bool) → is_live L G i ≡ b → 1 ≤ choose b (get_or (rule L G i).right d 0) 0 → is_live L G i ≡ true
      go true e h = e
      go false e h = absurd (omega arith)

module _ (L : Limits) (G : Grammar) (W : WellFormed L G) (apart : L.max_terminals < L.nonterminal_base) (m : ℕ) where
  abbrev block : ℕ × ℕ → List Spot
  block c = map (spot c.0 c.1) (chains_of L G m c.0)

  abbrev calling : ℕ × ℕ → List (List (ℕ × ℕ))
  calling c = map (λ cs. c ∷ cs) (chains L G m c.0)

  before-none : (x : ℕ) → [] ≡ states_before L G x []
  unfolding states_before
  before-none x = refl

  items_level : (x : ℕ) → 1 ≤ x → (l : List (ℕ × ℕ)) → map caller_of (each (items_before L G x l) calling) ≡ states_before L G x (each l block)
  unfolding items_before each
  items_level x h [] = before-none x
  items_level x h (c ∷ l) = go (eqb (code_at L G c) x) refl (items_level x h l)
    where
      go : (b : Bool) → eqb (code_at L G c) x ≡ b → map caller_of (each (items_before L G x l) calling) ≡ states_before L G x (each l block)
          → map caller_of (each (when b (c ∷ []) ++ items_before L G x l) calling) ≡ states_before L G x (block c ++ each l block)
      go true e again =
          let q = eqb-true (code_at L G c) x e in
          let live = shown-live L G c.0 c.1 (omega (arith, q, h)) in
          map-append caller_of (calling c) (each (items_before L G x l) calling)
          ∙ ap (λ k. k ++ map caller_of (each (items_before L G x l) calling)) (map-map caller_of (λ cs. c ∷ cs) (chains L G m c.0))
          ∙ ap (λ k. map (spot c.0 c.1) (chains L G m c.0) ++ k) again
          ∙ ap (λ k. map (spot c.0 c.1) k ++ states_before L G x (each l block)) (sym (live-chains L G W apart m c.0 live))
          ∙ ap (λ k. k ++ states_before L G x (each l block)) (sym (all-before L G x c.0 c.1 (chains_of L G m c.0) q))
          ∙ sym (before_append L G x (block c) (each l block))
      go false e again =
          again
          ∙ ap (λ k. k ++ states_before L G x (each l block)) (sym (none_before L G x c.0 c.1 (chains_of L G m c.0) (λ q. no_bool (sym (eq-eqb (code_at L G c) x q) ∙ e))))
          ∙ sym (before_append L G x (block c) (each l block))

  -- the start and the end stand before nothing
  front-none : (x : ℕ) → 1 ≤ x → (l : List Spot) → states_before L G x (first ∷ last ∷ l) ≡ states_before L G x l
  unfolding states_before spot_ahead
  front-none x h l =
      ap (λ b. when b (first ∷ []) ++ (when b (last ∷ []) ++ states_before L G x l)) (ne_eqb 0 x (λ e. omega (arith, e, h)))

  -- the chains of a rule are the states before its left side
  pub chains-before : (i : ℕ) → IsRule G (suc i) → map caller_of (chains L G (suc m) (suc i)) ≡ states_before L G (rule L G (suc i)).left (spots L G m)
  unfolding chains spots
  chains-before i r =
      let h = left-code L G W apart (suc i) r in
      items_level (rule L G (suc i)).left h (items L G) ∙ sym (front-none (rule L G (suc i)).left h (each (items L G) block))

  -- their numbers are the places of the code
  numbers-from : (x : ℕ) (a b : List Spot) → Distinct (a ++ b) → map (λ s. place_of s (a ++ b)) (states_before L G x b) ≡ places_from (length a) x (map (spot_ahead L G) b)
  unfolding states_before places_from
  numbers-from x a [] d = refl
  numbers-from x a (s ∷ b) d =
      go (eqb (spot_ahead L G s) x) (again (numbers-from x (a ++ (s ∷ [])) b (subst Distinct (sym (append_assoc a (s ∷ []) b)) d)))
    where
      again : map (λ t. place_of t ((a ++ (s ∷ [])) ++ b)) (states_before L G x b) ≡ places_from (length (a ++ (s ∷ []))) x (map (spot_ahead L G) b)
          → map (λ t. place_of t (a ++ (s ∷ b))) (states_before L G x b) ≡ places_from (length a + 1) x (map (spot_ahead L G) b)
      again r =
          ap (λ l. map (λ t. place_of t l) (states_before L G x b)) (sym (append_assoc a (s ∷ []) b))
          ∙ r
          ∙ ap (λ k. places_from k x (map (spot_ahead L G) b)) (length-append a (s ∷ []))

      here-at : place_of s (a ++ (s ∷ b)) ≡ length a
      here-at =
          let e = middle a s b last in
          ap (λ t. place_of t (a ++ (s ∷ b))) (sym e)
          ∙ place-of-at (a ++ (s ∷ b)) d (length a) (let z = length-append a (s ∷ b) in omega (arith, z))

      go : (c : Bool) → map (λ t. place_of t (a ++ (s ∷ b))) (states_before L G x b) ≡ places_from (length a + 1) x (map (spot_ahead L G) b)
          → map (λ t. place_of t (a ++ (s ∷ b))) (when c (s ∷ []) ++ states_before L G x b) ≡ when c (length a ∷ []) ++ places_from (length a + 1) x (map (spot_ahead L G) b)
      go true r = λ i. here-at i ∷ r i
      go false r = r

  -- so the callers of a rule, by number, are the places of its left side in the row of codes ahead
  pub callers-placed : (i : ℕ) → IsRule G (suc i)
      → map (λ cs. number_of L G m (caller_of cs)) (chains L G (suc m) (suc i)) ≡ places (map (spot_ahead L G) (spots L G m)) (rule L G (suc i)).left
  callers-placed i r =
      sym (map-map (number_of L G m) caller_of (chains L G (suc m) (suc i)))
      ∙ ap (map (number_of L G m)) (chains-before i r)
      ∙ numbers-from (rule L G (suc i)).left [] (spots L G m) (spots_distinct L G W apart m)
