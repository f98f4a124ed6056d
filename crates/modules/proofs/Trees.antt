-- Every tree of the robot's grammar is a tree of the joined one: the robot's rules keep their numbers and their codes, and the
-- kinds of codes are kept. So every sentence stays one. Assumes nothing.
use Prim.Native.Nat.{ℕ, zero, suc, ◌+◌, ◌≤◌, ◌<◌}
use mathlib.Core.Path.{◌≡◌, refl, ap, ap₂, sym, subst, ◌∙◌}
use mathlib.Core.List.{List, [], ◌∷◌, ◌++◌, map}
use native.Mathlib.Omega.{arith}
use lib.ListN.{length, get_or, length-append}
use Rattle.grammar.specs.Limits.{Limits}
use Rattle.grammar.specs.Grammar.{Rule, Grammar, IsRule, rule}
use Rattle.grammar.specs.Tree.{Tree, Trees, DerivationTree, Children, applies, end, terminal, nonterminal, row, row_below, before, after, HasTree}
use Rattle.text.specs.Read.{Source, grammar_of}
use Rattle.modules.specs.Joined.{added, added_rules, joined_rule, joined}

get_d_front : {A : Type 0} (xs ys : List A) (i : ℕ) (d : A) → i < length xs → get_or (xs ++ ys) i d ≡ get_or xs i d
get_d_front [] ys i d h = absurd (omega arith)
get_d_front (x ∷ xs) ys zero d h = refl
get_d_front (x ∷ xs) ys (suc i) d h = get_d_front xs ys i d (omega arith)

-- a grammar with more terminals, more nonterminals, and more rules after its own
pub record Extends (G H : Grammar) : Type 0 where
  pub terminals : G.terminals ≤ H.terminals
  pub nonterminals : G.nonterminals ≤ H.nonterminals
  pub more : List Rule
  pub rules : H.rules ≡ G.rules ++ more

module _ (L : Limits) (G H : Grammar) (E : Extends G H) where
  -- its rules are those of that number
  pub rule-same : (i : ℕ) → IsRule G i → rule L H i ≡ rule L G i
  unfolding rule
  rule-same zero h = absurd (omega (arith, h.0))
  rule-same (suc i) h =
      ap (λ rs. get_or rs i (record { left = 0; right = [] })) E.rules ∙ get_d_front G.rules E.more i (record { left = 0; right = [] }) (omega (arith, h.1))

  is_rule : (i : ℕ) → IsRule G i → IsRule H i
  is_rule i h = (h.0, omega (arith, h.1, ap length E.rules, length-append G.rules E.more))

  mutual
    pub tree-stays : {b : ℕ} {t : Tree} → DerivationTree L G b t → DerivationTree L H b t
    tree-stays (applies {b} {i} {ts} a c) =
        applies (is_rule i a.0, ap (λ (r : Rule). r.left) (rule-same i a.0) ∙ a.1)
        (subst (λ (r : Rule). Children L H r.right ts) (sym (rule-same i a.0)) (children_stay c))

    children_stay : {α : List ℕ} {ts : Trees} → Children L G α ts → Children L H α ts
    children_stay end = end
    children_stay (terminal t c) = terminal (t.0, omega (arith, t.1, E.terminals)) (children_stay c)
    children_stay (nonterminal n t c) = nonterminal (n.0, omega (arith, n.1, E.nonterminals)) (tree-stays t) (children_stay c)

  -- with the same row
  mutual
    unfolding row

    pub row_stays : {b : ℕ} {t : Tree} → DerivationTree L G b t → row L H t ≡ row L G t
    row_stays (applies {b} {i} {ts} a c) = ap (λ (r : Rule). row_below L H ts r.right) (rule-same i a.0) ∙ below_stays (rule L G i).right c

    below_stays : (α : List ℕ) {β : List ℕ} {ts : Trees} → Children L G β ts → row_below L H ts α ≡ row_below L G ts α
    below_stays α end = refl
    below_stays α (terminal t c) = below_stays α c
    below_stays α (nonterminal n t c) =
        ap₂ (λ (u v : List ℕ). before L α ++ (u ++ v)) (row_stays t) (below_stays (after L α) c)

  pub has-stays : (w : List ℕ) (t : Tree) → HasTree L G w t → HasTree L H w t
  has-stays w t h = record { derives = tree-stays h.derives; sentence = row_stays h.derives ∙ h.sentence }

-- the joined grammar extends the robot's
pub joined_extends : (L : Limits) (robot addon : Source) → Extends (grammar_of robot) (grammar_of (joined L robot addon))
unfolding joined
joined_extends L robot addon = record {
  terminals = omega (arith, length-append robot.terminals (added robot.terminals addon.terminals));
  nonterminals = omega (arith, length-append robot.nonterminals (added robot.nonterminals addon.nonterminals));
  more = added_rules robot.rules (map (joined_rule L robot addon) addon.rules);
  rules = refl;
}

pub trees-stay : (L : Limits) (robot addon : Source) (w : List ℕ) (t : Tree) → HasTree L (grammar_of robot) w t → HasTree L (grammar_of (joined L robot addon)) w t
trees-stay L robot addon = has-stays L (grammar_of robot) (grammar_of (joined L robot addon)) (joined_extends L robot addon)
