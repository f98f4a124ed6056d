-- The test of a live rule holds exactly of the rules that some sentence uses. Assumes nothing.
use Prim.Native.Nat.{ℕ, zero, suc, ◌≤◌, ◌<◌}
use mathlib.Core.Path.{◌≡◌, refl, ap, sym, subst, ◌∙◌}
use mathlib.Core.Bool.{Bool, true, false, ◌&&◌}
use mathlib.Core.List.{List, [], ◌∷◌, ◌++◌, map}
use mathlib.Core.Logic.{◌⊎◌, inl, inr, ◌↔◌}
use native.Mathlib.Omega.{arith}
use lib.Dec.{leb}
use lib.ListN.{length}
use borrow.Author.Tests.{le-leb, lt-leb}
use Rattle.grammar.specs.Basics.{when, each, Mem, here, there}
use Rattle.grammar.specs.Limits.{Limits}
use Rattle.grammar.specs.Grammar.{Terminal, Nonterminal, Rule, Grammar, IsRule, start, rule, WellFormed}
use Rattle.grammar.specs.Tree.{Tree, node, Trees, none, child, DerivationTree, applies, Children, end, terminal, nonterminal, row}
use Rattle.grammar.specs.Live.{HasSentence, Uses, at-root, further, UsesBelow, in-first, in-others, Live, live-start, live-rule, Clause, has}
use Rattle.grammar.specs.Live.{nonterminals_of, derives_if, productive, is_productive, reaches_from, usable, reachable, has_sentence, is_live}
use Rattle.grammar.proofs.Answers.{no_bool, and_both, both_and}
use Rattle.grammar.proofs.Lists.{no_element, mem_place, mem_right, in_map, map_in, in_each, each_in}
use Rattle.grammar.proofs.Plain.{mem_cases}
use Rattle.grammar.proofs.Derives.{rule-listed}
use Rattle.grammar.proofs.Closure.{All, all_map, all_is, has_is, closure-kept, closure_least}

module _ (L : Limits) (G : Grammar) (W : WellFormed L G) (apart : L.max_terminals < L.nonterminal_base) where
  numbered : (r : Rule) → Mem r G.rules → (i : ℕ) × IsRule G i × (rule L G i ≡ r)
  unfolding rule
  numbered r m = let a = mem_place (record { left = 0; right = [] }) m in (suc a.0, (omega arith, omega (arith, a.1)), a.2)

  -- declared codes: terminals lie below the start
  abbrev Declared : List ℕ → Type 0
  Declared α = (x : ℕ) → Mem x α → Terminal G.terminals x ⊎ Nonterminal L G.nonterminals x

  declared : (i : ℕ) → IsRule G i → Declared (rule L G i).right
  declared i h = W.codes (rule L G i) (rule-listed L G i h)

  low : (x : ℕ) → Terminal G.terminals x → leb (start L) x ≡ false
  low x t = lt-leb (start L) x (omega (arith, t.1, W.terminals))

  high : (x : ℕ) → Nonterminal L G.nonterminals x → leb (start L) x ≡ true
  high x h = le-leb (start L) x h.0

  -- b has a tree
  abbrev pub HasTreeOf : ℕ → Type 0
  HasTreeOf b = (t : Tree) × DerivationTree L G b t

  -- trees for all nonterminals of a right side, one of them given
  fill : (α : List ℕ) → Declared α → All HasTreeOf (nonterminals_of L α) → (ts : Trees) × Children L G α ts
  unfolding nonterminals_of
  fill [] d a = (none, end)
  fill (x ∷ α) d a = go (d x here) (leb (start L) x) refl a (λ b. fill α (λ y m. d y (there m)) b)
    where
      go : Terminal G.terminals x ⊎ Nonterminal L G.nonterminals x → (b : Bool) → leb (start L) x ≡ b
          → All HasTreeOf (when b (x ∷ []) ++ nonterminals_of L α) → (All HasTreeOf (nonterminals_of L α) → (ts : Trees) × Children L G α ts)
          → (ts : Trees) × Children L G (x ∷ α) ts
      go (inl t) true e a again = no_bool (sym e ∙ low x t)
      go (inl t) false e a again = let r = again a in (r.0, terminal t r.1)
      go (inr n) true e a again = let r = again a.1 in (child a.0.0 r.0, nonterminal n a.0.1 r.1)
      go (inr n) false e a again = no_bool (sym (high x n) ∙ e)

  record Filled (α : List ℕ) (t : Tree) : Type 0 where
    trees : Trees
    children : Children L G α trees
    used : (j : ℕ) → Uses j t → UsesBelow j trees

  place : (α : List ℕ) → Declared α → All HasTreeOf (nonterminals_of L α) → (x : ℕ) → Mem x (nonterminals_of L α) → (t : Tree) → DerivationTree L G x t
      → Filled α t
  unfolding nonterminals_of
  place [] d a x m t h = absurd (no_element m)
  place (y ∷ α) d a x m t h =
      go (d y here) (leb (start L) y) refl a m (λ b. fill α (λ z k. d z (there k)) b) (λ b k. place α (λ z u. d z (there u)) b x k t h)
    where
      here-filled : Nonterminal L G.nonterminals y → (y ≡ x) → ((ts : Trees) × Children L G α ts) → Filled (y ∷ α) t
      here-filled n e r = record {
        trees = child t r.0;
        children = nonterminal n (subst (λ z. DerivationTree L G z t) (sym e) h) r.1;
        used = λ j u. in-first u;
      }

      cases : {a b : ℕ} {l : List ℕ} → Mem a (b ∷ l) → (b ≡ a) ⊎ Mem a l
      cases here = inl refl
      cases (there m) = inr m

      go : Terminal G.terminals y ⊎ Nonterminal L G.nonterminals y → (b : Bool) → leb (start L) y ≡ b
          → All HasTreeOf (when b (y ∷ []) ++ nonterminals_of L α) → Mem x (when b (y ∷ []) ++ nonterminals_of L α)
          → (All HasTreeOf (nonterminals_of L α) → (ts : Trees) × Children L G α ts)
          → (All HasTreeOf (nonterminals_of L α) → Mem x (nonterminals_of L α) → Filled α t) → Filled (y ∷ α) t
      go (inl c) true e a m rest again = no_bool (sym e ∙ low y c)
      go (inl c) false e a m rest again =
          let r = again a m in record { trees = r.trees; children = terminal c r.children; used = r.used }
      go (inr n) true e a m rest again = elim (cases m) [
        | inl q ↦ here-filled n q (rest a.1)
        | inr k ↦
            let r = again a.1 k in
            record { trees = child a.0.0 r.trees; children = nonterminal n a.0.1 r.children; used = λ j u. in-others (r.used j u) }
      ]
      go (inr n) false e a m rest again = no_bool (sym (high y n) ∙ e)

  -- the productive nonterminals are those that have a tree
  abbrev P : List ℕ
  P = productive L G.rules

  pub productive-tree : (b : ℕ) → Mem b P → HasTreeOf b
  unfolding productive
  productive-tree = closure_least HasTreeOf (map (derives_if L) G.rules) (λ c m a.
      let r = map_in (derives_if L) G.rules m in
      let n = numbered r.0 r.1 in
      kept n.0 n.1 c (r.2 ∙ ap (derives_if L) (sym n.2)) a)
    where
      kept : (i : ℕ) → IsRule G i → (c : Clause) → c ≡ derives_if L (rule L G i) → All HasTreeOf c.premises → HasTreeOf c.conclusion
      kept i h c e a =
          let b = subst (λ (c : Clause). All HasTreeOf c.premises) e a in
          let f = fill (rule L G i).right (declared i h) b in
          subst (λ (c : Clause). HasTreeOf c.conclusion) (sym e) (node i f.0, applies (h, refl) f.1)

  pub clause-of : (i : ℕ) → IsRule G i → All (λ x. Mem x P) (nonterminals_of L (rule L G i).right) → Mem (rule L G i).left P
  unfolding productive
  clause-of i h a = closure-kept (map (derives_if L) G.rules) (derives_if L (rule L G i)) (in_map (derives_if L) (rule-listed L G i h)) a

  mutual
    unfolding nonterminals_of

    pub tree-productive : {b : ℕ} {t : Tree} → DerivationTree L G b t → Mem b P
    tree-productive (applies {i = i} r c) = subst (λ b. Mem b P) r.1 (clause-of i r.0 (below-productive c))

    below-productive : {α : List ℕ} {ts : Trees} → Children L G α ts → All (λ x. Mem x P) (nonterminals_of L α)
    below-productive end = tt
    below-productive (terminal {a = a} {α = α} t c) = rw (low a t) (below-productive c)
    below-productive (nonterminal {b = b} {α = α} n d c) = rw (high b n) (tree-productive d, below-productive c)

  -- ---- what is reached

  abbrev clauses : List Clause
  clauses = record { premises = []; conclusion = start L } ∷ each (usable L P G.rules) (reaches_from L)

  pub usable_in : (r : Rule) {l : List Rule} → Mem r l → is_productive L P r ≡ true → Mem r (usable L P l)
  unfolding usable
  usable_in r (here {l = l}) e = rw e here
  usable_in r (there {b = s} {l = l} m) e = mem_right (when (is_productive L P s) (s ∷ [])) (usable_in r m e)

  pub usable-out : (r : Rule) (l : List Rule) → Mem r (usable L P l) → Mem r l × (is_productive L P r ≡ true)
  unfolding usable
  usable-out r [] m = absurd (no_element m)
  usable-out r (s ∷ l) m = go (is_productive L P s) refl m (usable-out r l)
    where
      on : (s ≡ r) ⊎ Mem r (usable L P l) → is_productive L P s ≡ true → (Mem r (usable L P l) → Mem r l × (is_productive L P r ≡ true))
          → Mem r (s ∷ l) × (is_productive L P r ≡ true)
      on (inl q) e again = (subst (λ s. Mem r (s ∷ l)) (sym q) here, subst (λ s. is_productive L P s ≡ true) q e)
      on (inr n) e again = let a = again n in (there a.0, a.1)

      go : (b : Bool) → is_productive L P s ≡ b → Mem r (when b (s ∷ []) ++ usable L P l)
          → (Mem r (usable L P l) → Mem r l × (is_productive L P r ≡ true)) → Mem r (s ∷ l) × (is_productive L P r ≡ true)
      go true e m again = on (mem_cases m) e again
      go false e m again = let a = again m in (there a.0, a.1)

  -- all nonterminals of a productive rule have trees
  all-trees : (i : ℕ) → is_productive L P (rule L G i) ≡ true → All HasTreeOf (nonterminals_of L (rule L G i).right)
  all-trees i e = all_map productive-tree (nonterminals_of L (rule L G i).right) ((all_is P (nonterminals_of L (rule L G i).right)).0 e)

  -- every tree of b stands in a tree of S
  abbrev Stands : ℕ → Type 0
  Stands b = (t : Tree) → DerivationTree L G b t → (u : Tree) × DerivationTree L G (start L) u × ((j : ℕ) → Uses j t → Uses j u)

  reachable-stands : (b : ℕ) → Mem b (reachable L G.rules) → Stands b
  unfolding reachable
  reachable-stands = closure_least Stands clauses (λ c m a. kept c (mem_cases m) a)
    where
      onward : (i : ℕ) → IsRule G i → is_productive L P (rule L G i) ≡ true → (x : ℕ) → Mem x (nonterminals_of L (rule L G i).right)
          → Stands (rule L G i).left → Stands x
      onward i h e x m s t d =
          let f = place (rule L G i).right (declared i h) (all-trees i e) x m t d in
          let u = s (node i f.trees) (applies (h, refl) f.children) in
          (u.0, u.1, λ j k. u.2 j (further (f.used j k)))

      kept : (c : Clause) → (record { premises = []; conclusion = start L } ≡ c) ⊎ Mem c (each (usable L P G.rules) (reaches_from L))
          → All Stands c.premises → Stands c.conclusion
      kept c (inl q) a = subst (λ (c : Clause). Stands c.conclusion) q (λ t d. (t, d, λ j k. k))
      kept c (inr n) a =
          let r = each_in (usable L P G.rules) (reaches_from L) n in
          let u = usable-out r.0 G.rules r.1 in
          let i = numbered r.0 u.0 in
          let x = map_in (λ (x : ℕ). record { premises = r.0.left ∷ []; conclusion = x }) (nonterminals_of L r.0.right) r.2 in
          let b = subst (λ (c : Clause). All Stands c.premises) x.2 a in
          subst (λ (c : Clause). Stands c.conclusion) (sym x.2)
          (onward i.0 i.1 (subst (λ r. is_productive L P r ≡ true) (sym i.2) u.1) x.0
          (subst (λ (r : Rule). Mem x.0 (nonterminals_of L r.right)) (sym i.2) x.1)
          (subst (λ (r : Rule). Stands r.left) (sym i.2) b.0))

  pub start-reached : Mem (start L) (reachable L G.rules)
  unfolding reachable
  start-reached = closure-kept clauses (record { premises = []; conclusion = start L }) here tt

  pub next-reached : (i : ℕ) → IsRule G i → is_productive L P (rule L G i) ≡ true → Mem (rule L G i).left (reachable L G.rules)
      → (x : ℕ) → Mem x (nonterminals_of L (rule L G i).right) → Mem x (reachable L G.rules)
  unfolding reachable
  next-reached i h e m x n =
      closure-kept clauses (record { premises = (rule L G i).left ∷ []; conclusion = x })
      (there (in_each (reaches_from L) (usable_in (rule L G i) (rule-listed L G i h) e)
      (in_map (λ (x : ℕ). record { premises = (rule L G i).left ∷ []; conclusion = x }) n))) (m, tt)

  -- each rule of a tree is reached and productive
  abbrev Good : ℕ → Type 0
  Good j = IsRule G j × Mem (rule L G j).left (reachable L G.rules) × (is_productive L P (rule L G j) ≡ true)

  good_node : (i : ℕ) → IsRule G i → {ts : Trees} → Children L G (rule L G i).right ts → is_productive L P (rule L G i) ≡ true
  good_node i h c = (all_is P (nonterminals_of L (rule L G i).right)).1 (below-productive c)

  mutual
    unfolding nonterminals_of

    used_good : {b j : ℕ} {t : Tree} → DerivationTree L G b t → Mem b (reachable L G.rules) → Uses j t → Good j
    used_good (applies {i = i} r c) m at-root = (r.0, subst (λ b. Mem b (reachable L G.rules)) (sym r.1) m, good_node i r.0 c)
    used_good (applies {i = i} r c) m (further u) =
        below_good c (next-reached i r.0 (good_node i r.0 c) (subst (λ b. Mem b (reachable L G.rules)) (sym r.1) m)) u

    below_good : {α : List ℕ} {j : ℕ} {ts : Trees} → Children L G α ts
        → ((x : ℕ) → Mem x (nonterminals_of L α) → Mem x (reachable L G.rules)) → UsesBelow j ts → Good j
    below_good (terminal {a = a} {α = α} t c) h u =
        below_good c (λ x m. h x (subst (λ b. Mem x (when b (a ∷ []) ++ nonterminals_of L α)) (sym (low a t)) m)) u
    below_good (nonterminal {b = b} {α = α} n d c) h (in-first u) =
        used_good d (h b (subst (λ z. Mem b (when z (b ∷ []) ++ nonterminals_of L α)) (sym (high b n)) here)) u
    below_good (nonterminal {b = b} {α = α} n d c) h (in-others u) =
        below_good c (λ x m. h x (subst (λ z. Mem x (when z (b ∷ []) ++ nonterminals_of L α)) (sym (high b n)) (there m))) u
    below_good {j = j} end h u = elim u [ ]

  -- there is a sentence exactly if the test says so
  pub has_sentence_lem : (has_sentence L G ≡ true) ↔ HasSentence L G
  unfolding has_sentence
  has_sentence_lem = (
    λ e. let t = productive-tree (start L) ((has_is P (start L)).0 e) in (row L G t.0, t.0, record { derives = t.1; sentence = refl }),
    λ h. (has_is P (start L)).1 (tree-productive h.2.derives),
  )

  -- the test of a live rule is exact
  pub is_live_lem : (i : ℕ) → i ≤ length G.rules → (is_live L G i ≡ true) ↔ Live L G i
  unfolding is_live
  is_live_lem zero h = (λ e. let s = has_sentence_lem.0 e in live-start s.2, from)
    where
      from : {i : ℕ} → Live L G i → has_sentence L G ≡ true
      from (live-start {w = w} {t = t} s) = has_sentence_lem.1 (w, t, s)
      from (live-rule {w = w} {t = t} s u) = has_sentence_lem.1 (w, t, s)
  is_live_lem (suc i) h = (to, λ l. from l refl)
    where
      R : List ℕ
      R = reachable L G.rules

      r : Rule
      r = rule L G (suc i)

      to : has (reachable L G.rules) (rule L G (suc i)).left && is_productive L P (rule L G (suc i)) ≡ true → Live L G (suc i)
      to e =
          let a = and_both (has (reachable L G.rules) (rule L G (suc i)).left) (is_productive L P (rule L G (suc i))) e in
          let f = fill (rule L G (suc i)).right (declared (suc i) (omega arith, h)) (all-trees (suc i) a.1) in
          let s = reachable-stands (rule L G (suc i)).left ((has_is (reachable L G.rules) (rule L G (suc i)).left).0 a.0) (node (suc i) f.0)
          (applies ((omega arith, h), refl) f.1) in
          live-rule {t = s.0} (record { derives = s.1; sentence = refl }) (s.2 (suc i) at-root)

      from : {j : ℕ} → Live L G j → j ≡ suc i → has (reachable L G.rules) (rule L G (suc i)).left && is_productive L P (rule L G (suc i)) ≡ true
      from (live-start s) e = absurd (omega arith)
      from (live-rule {i = j} s u) e =
          let g = subst Good e (used_good s.derives start-reached u) in
          both_and (has (reachable L G.rules) (rule L G (suc i)).left) (is_productive L P (rule L G (suc i)))
          ((has_is (reachable L G.rules) (rule L G (suc i)).left).1 g.1) g.2
