-- The rules that are listed of a tree: each is a rule of the grammar, and together they determine the tree. Assumes nothing.
use Prim.Native.Nat.{ℕ, ◌<◌}
use mathlib.Core.Path.{subst, sym}
use mathlib.Core.List.{List}
use mathlib.Core.Logic.{inl, inr}
use native.Mathlib.Omega.{arith}
use lib.ListN.{length, get_or, drop, get_or-append}
use Rattle.grammar.specs.Basics.{Mem, over}
use Rattle.grammar.specs.Limits.{limits}
use Rattle.grammar.specs.Grammar.{Grammar, WellFormed, IsRule}
use Rattle.grammar.specs.Tree.{Tree, Trees, DerivationTree, Children}
use Rattle.grammar.proofs.Lists.{place_mem, mem_either}
use Rattle.grammar.proofs.Plain.{mem_cases}
use Rattle.grammar.proofs.Trees.{is_same}
use Rattle.trees.specs.Trees.{rules_of, rules_below}
use Rattle.tree_laws.proofs.Laws.{rules_determine}
use Rattle.ambiguity.specs.Trees.{ListedTheorems}

module _ (G : Grammar) where
  mutual
    unfolding rules_of

    each-rule : {b : ℕ} {t : Tree} → DerivationTree limits G b t → (i : ℕ) → Mem i (rules_of t) → IsRule G i
    each-rule (DerivationTree.applies a c) i m = elim (mem_cases m) [
      | inl e ↦ subst (IsRule G) e a.0
      | inr k ↦ each_below c i k
    ]

    each_below : {α : List ℕ} {ts : Trees} → Children limits G α ts → (i : ℕ) → Mem i (rules_below ts) → IsRule G i
    each_below Children.end i m = elim m [ ]
    each_below (Children.terminal h c) i m = each_below c i m
    each_below (Children.nonterminal {t = t} {ts = ts} h d c) i m = elim (mem_either (rules_of t) (rules_below ts) m) [
      | inl k ↦ each-rule d i k
      | inr k ↦ each_below c i k
    ]

  -- where they stand in front of a row, each entry is the number of a rule
  pub listed-rule : {b : ℕ} {t : Tree} (old : List ℕ) → DerivationTree limits G b t → (i : ℕ) → i < length (rules_of t)
      → IsRule G (get_or (over (rules_of t) old) i 0)
  unfolding over
  listed-rule {t = t} old d i h =
      subst (IsRule G) (sym (get_or-append (rules_of t) (drop (length (rules_of t)) old) 0 i h))
      (each-rule d (get_or (rules_of t) i 0) (place_mem (rules_of t) i 0 h))

pub listed_theorems : (G : Grammar) → WellFormed limits G → ListedTheorems G
listed_theorems G W = record { same = λ v w a b x y e. is_same (rules_determine limits G W (omega arith) x.derives y.derives e) }
