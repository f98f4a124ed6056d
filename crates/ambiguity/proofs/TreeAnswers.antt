-- The answer for a grammar and a row, and the list afterwards: at most one is told, and what each says. Assumes nothing.
use Prim.Native.Nat.{ℕ, ◌≤◌, ◌<◌}
use mathlib.Core.Path.{◌≡◌, refl, ap, sym, subst, ◌∙◌}
use mathlib.Core.List.{List}
use mathlib.Core.Logic.{◌⊎◌, inl, inr}
use native.Mathlib.Omega.{arith}
use borrow.Author.Tests.{le-leb, lt-leb}
use lib.Dec.{leb}
use lib.ListN.{length, get_or}
use Rattle.grammar.specs.Basics.{choose, over}
use Rattle.grammar.specs.Limits.{limits}
use Rattle.grammar.specs.Grammar.{Grammar, IsRule}
use Rattle.grammar.specs.Tree.{Tree, HasTree, HasTwoTrees}
use Rattle.grammar.specs.Refusal.{buffer_too_short}
use Rattle.trees.specs.Trees.{rules_of, TreeCount, nothing, one, several, Agrees, count_0, count_1, count_2}
use Rattle.trees.specs.declared.TreesFound.{TreesFound}
use Rattle.trees.specs.declared.TreesFound.TheVariants.{Nothing, One, Several, Refused}
use Rattle.tree_laws.proofs.Laws.{agrees_once}
use Rattle.ambiguity.specs.Trees.{OneTree}
use Rattle.ambiguity.proofs.Listed.{listed-rule}

-- the row has one tree, whose rules these are
pub one_of : (G : Grammar) (w rules : List ℕ) → Agrees limits G w (one rules) → (tree : Tree) × OneTree G w tree × (rules ≡ rules_of tree)
one_of G w rules (count_1 tree h u) = (tree, record { has = h; only = u }, refl)

pub agrees_one : (G : Grammar) (w : List ℕ) (tree : Tree) → OneTree G w tree → Agrees limits G w (one (rules_of tree))
agrees_one G w tree h = count_1 tree h.has h.only

module _ (w list : List ℕ) where
  -- the answer for a grammar, and the list afterwards
  pub data Told (G : Grammar) : TreesFound → List ℕ → Type 0 where
    told_none : Agrees limits G w nothing → Told G Nothing list
    told-several : Agrees limits G w several → Told G Several list
    told-one : (rules : List ℕ) → Agrees limits G w (one rules) → length rules ≤ length list → Told G (One (length rules)) (over rules list)
    told-short : (rules : List ℕ) → Agrees limits G w (one rules) → length list < length rules → Told G (Refused buffer_too_short 0) list

  -- both, by what is found
  abbrev answer_of : TreeCount → TreesFound
  answer_of nothing = Nothing
  answer_of (one rules) = choose (leb (length rules) (length list)) (One (length rules)) (Refused buffer_too_short 0)
  answer_of several = Several

  abbrev list_of : TreeCount → List ℕ
  list_of nothing = list
  list_of (one rules) = choose (leb (length rules) (length list)) (over rules list) list
  list_of several = list

  found_of : {G : Grammar} {r : TreesFound} {l : List ℕ} → Told G r l → (x : TreeCount) × Agrees limits G w x × (r ≡ answer_of x) × (l ≡ list_of x)
  found_of (told_none a) = (nothing, a, refl, refl)
  found_of (told-several a) = (several, a, refl, refl)
  found_of (told-one rules a h) =
      let e = le-leb (length rules) (length list) h in
      (one rules, a, sym (ap (λ b. choose b (One (length rules)) (Refused buffer_too_short 0)) e), sym (ap (λ b. choose b (over rules list) list) e))
  found_of (told-short rules a h) =
      let e = lt-leb (length rules) (length list) h in
      (one rules, a, sym (ap (λ b. choose b (One (length rules)) (Refused buffer_too_short 0)) e), sym (ap (λ b. choose b (over rules list) list) e))

  -- at most one is told
  pub told_once : {G : Grammar} {r r₂ : TreesFound} {l l₂ : List ℕ} → Told G r l → Told G r₂ l₂ → (r ≡ r₂) × (l ≡ l₂)
  told_once {G} a b =
      let x = found_of a in
      let y = found_of b in
      let e = agrees_once limits G w x.1 y.1 in
      (x.2 ∙ ap answer_of e ∙ sym y.2, x.3 ∙ ap list_of e ∙ sym y.3)

  -- an answer, read back
  pub none_told : {G : Grammar} {l : List ℕ} → Told G Nothing l → (u : Tree) → ¬ HasTree limits G w u
  none_told (told_none (count_0 h)) = h

  pub several-told : {G : Grammar} {l : List ℕ} → Told G Several l → HasTwoTrees limits G w
  several-told (told-several (count_2 h)) = h

  pub untouched_told : {G : Grammar} {r : TreesFound} {l : List ℕ} → Told G r l → (r ≡ Nothing) ⊎ (r ≡ Several) → l ≡ list
  untouched_told (told_none a) q = refl
  untouched_told (told-several a) q = refl
  untouched_told (told-one rules a h) (inl q) = absurd (let z : ◌≡◌ {A = ℕ} 0 1 = cc in omega arith)
  untouched_told (told-one rules a h) (inr q) = absurd (let z : ◌≡◌ {A = ℕ} 0 1 = cc in omega arith)
  untouched_told (told-short rules a h) q = refl

  pub one_told : {G : Grammar} {k : ℕ} {l : List ℕ} → Told G (One k) l
      → (tree : Tree) × OneTree G w tree × (k ≡ length (rules_of tree)) × (k ≤ length list) × (l ≡ over (rules_of tree) list)
  one_told {G} (told-one rules a h) =
      let x = one_of G w rules a in
      (x.0, x.1, ap length x.2, h, ap (λ (rules : List ℕ). over rules list) x.2)

  pub numbers-told : {G : Grammar} {k : ℕ} {l : List ℕ} (i : ℕ) → Told G (One k) l → i < k → IsRule G (get_or l i 0)
  numbers-told {G} i (told-one rules a h) b =
      let x = one_of G w rules a in
      subst (λ (rules : List ℕ). IsRule G (get_or (over rules list) i 0)) (sym x.2)
      (listed-rule G list x.1.has.derives i (subst (λ (rules : List ℕ). i < length rules) x.2 b))
