-- Small cases of the definitions: the row's faults, the order of refusals, the order of a tree's rules, counts of trees, and what the
-- rows hold after the second 14. Assumes nothing.
use Prim.Native.Nat.{ℕ}
use mathlib.Core.Path.{◌≡◌, refl, sym, ap, subst, ◌∙◌}
use mathlib.Core.List.{List, [], ◌∷◌, ◌++◌}
use native.Mathlib.Omega.{arith}
use lib.ListN.{replicate}
use Rattle.grammar.specs.Limits.{limits}
use Rattle.grammar.specs.Grammar.{Grammar, rule, state_count}
use Rattle.grammar.specs.Tree.{Tree, node, Trees, none, child, HasTree, DerivationTree, Children, SameTree, SameTrees, row, row_below, before, after}
use Rattle.grammar.specs.Refusal.{done, refused, refuse_unless, and_then, code_undeclared, buffer_too_short, no_sentence, row_wrong}
use Rattle.grammar.proofs.Answers.{no_answer, done_inj}
use Rattle.grammar.specs.TableCheck.{same_codes, is_among, declared_front, read_rule, next_rule, check_from, stored_table, check_table}
use Rattle.grammar.specs.Live.{has_sentence, has, productive, rounds, concluded, waiting, has_all, nonterminals_of}
use Rattle.grammar.specs.declared.Cause.{Cause}
use Rattle.trees.specs.Trees.{rules_of, one, several, Agrees, count_1, count_2, row_fault, check_row, trees_room, max_row, work_size, cleared}
use Rattle.trees.specs.Promise.{FindsTrees, refuses, too_short}
use Rattle.trees.specs.declared.TreesFound.TheVariants.{Refused}

-- 64 terminals pass, a 65th is at place 64, a code that is no terminal at its place, and codes from place 64 on are not read
pub whole_row : row_fault 2 max_row (replicate 64 1) ≡ 64
unfolding row_fault
whole_row = refl

pub long-row : row_fault 2 max_row (replicate 65 1) ≡ 64
unfolding row_fault
long-row = refl

pub no_terminal : row_fault 2 max_row (1 ∷ 2 ∷ 3 ∷ 0 ∷ []) ≡ 2
unfolding row_fault
no_terminal = refl

pub past_row : row_fault 2 max_row (replicate 64 1 ++ (9 ∷ [])) ≡ 64
unfolding row_fault
past_row = refl

pub empty-row : row_fault 2 max_row [] ≡ 0
unfolding row_fault
empty-row = refl

-- code 0, a nonterminal's code, an early fault of a long row, and no terminals at all
pub code-zero : row_fault 2 max_row (1 ∷ 0 ∷ []) ≡ 1
unfolding row_fault
code-zero = refl

pub nonterminal-code : row_fault 2 max_row (1 ∷ 32768 ∷ []) ≡ 1
unfolding row_fault
nonterminal-code = refl

pub early_fault : row_fault 2 max_row (1 ∷ 9 ∷ replicate 70 1) ≡ 1
unfolding row_fault
early_fault = refl

pub no_terminals : row_fault 0 max_row (1 ∷ []) ≡ 0
unfolding row_fault
no_terminals = refl

-- a table fault first, here a code that is not declared; then, of S → a, the row, then the work row
pub table-first : check_row limits 1 1 (32768 ∷ 1 ∷ 7 ∷ []) (7 ∷ []) [] ≡ refused code_undeclared 2
unfolding check_row row_fault check_table stored_table has_sentence has productive rounds concluded has_all nonterminals_of check_from next_rule read_rule declared_front is_among same_codes state_count refuse_unless and_then
table-first = refl

pub row_next : check_row limits 1 1 (32768 ∷ 1 ∷ 1 ∷ []) (1 ∷ 2 ∷ []) [] ≡ refused row_wrong 1
unfolding check_row row_fault check_table stored_table has_sentence has productive rounds concluded has_all nonterminals_of check_from next_rule read_rule declared_front is_among same_codes state_count refuse_unless and_then
row_next = refl

pub work_last : check_row limits 1 1 (32768 ∷ 1 ∷ 1 ∷ []) (1 ∷ []) (0 ∷ []) ≡ refused buffer_too_short 0
unfolding check_row row_fault check_table stored_table has_sentence has productive rounds concluded has_all nonterminals_of check_from next_rule read_rule declared_front is_among same_codes state_count refuse_unless and_then
work_last = refl

-- S → S has no sentence: 19 comes before the row and the work row
pub sentence_first : check_row limits 1 1 (32768 ∷ 1 ∷ 32768 ∷ []) (7 ∷ []) [] ≡ refused no_sentence 0
unfolding check_row row_fault check_table stored_table has_sentence has productive rounds concluded waiting has_all nonterminals_of check_from next_rule read_rule declared_front is_among same_codes state_count refuse_unless and_then
sentence_first = refl

-- root first, children left to right: 1 with the children 2, which has the child 4, and 3
pub order : rules_of (node 1 (child (node 2 (child (node 4 none) none)) (child (node 3 none) none))) ≡ 1 ∷ 2 ∷ 4 ∷ 3 ∷ []
unfolding rules_of
order = refl

-- 65 × 65 × 6 entries for S → a
pub work_size_lem : work_size (record { terminals = 1; nonterminals = 1; rules = record { left = 32768; right = 1 ∷ [] } ∷ [] }) ≡ 25350
unfolding state_count
work_size_lem = refl

pub room : trees_room limits 1 1 (32768 ∷ 1 ∷ 1 ∷ []) ≡ done 25350
unfolding trees_room check_table stored_table has_sentence has productive rounds concluded has_all nonterminals_of check_from next_rule read_rule declared_front is_among same_codes state_count refuse_unless and_then
room = refl

-- S → S; S → a
abbrev cyclic : Grammar
cyclic = record { terminals = 1; nonterminals = 1; rules = record { left = 32768; right = 32768 ∷ [] } ∷ record { left = 32768; right = 1 ∷ [] } ∷ [] }

below : DerivationTree limits cyclic 32768 (node 2 none)
unfolding rule
below = DerivationTree.applies {i = 2} ((omega arith, omega arith), refl) (Children.terminal {a = 1} (omega arith, omega arith) Children.end)

directly : HasTree limits cyclic (1 ∷ []) (node 2 none)
unfolding rule row row_below before after
directly = record { derives = below; sentence = refl }

by_the_cycle : HasTree limits cyclic (1 ∷ []) (node 1 (child (node 2 none) none))
unfolding rule row row_below before after
by_the_cycle = record {
  derives = DerivationTree.applies {i = 1} ((omega arith, omega arith), refl) (Children.nonterminal {b = 32768} (omega arith, omega arith) below Children.end);
  sentence = refl;
}

-- a has several trees, so one with its rules never agrees
pub cycle_several : Agrees limits cyclic (1 ∷ []) several
cycle_several = count_2 record { first = node 2 none; second = node 1 (child (node 2 none) none); first-has = directly; second-has = by_the_cycle; unequal = apart }
  where
    apart : SameTree (node 2 none) (node 1 (child (node 2 none) none)) → ⊥
    apart (SameTree.same-node e s) = absurd (omega (arith, e))

pub cycle_never_one : (rules : List ℕ) → ¬ Agrees limits cyclic (1 ∷ []) (one rules)
cycle_never_one rules (count_1 t h only) = roots t (only (node 2 none) directly) (only (node 1 (child (node 2 none) none)) by_the_cycle)
  where
    roots : (t : Tree) → SameTree t (node 2 none) → SameTree t (node 1 (child (node 2 none) none)) → ⊥
    roots (node i ts) (SameTree.same-node e s) (SameTree.same-node d u) = absurd (omega (arith, e, d))

-- S → has one tree, with rule 1, and its row is empty
abbrev bare : Grammar
bare = record { terminals = 0; nonterminals = 1; rules = record { left = 32768; right = [] } ∷ [] }

no_children : (ts : Trees) → Children limits bare [] ts → SameTree (node 1 none) (node 1 ts)
no_children none Children.end = SameTree.same-node refl SameTrees.same_none
no_children (child _ _) x3 = elim x3 [ ]

only-tree : (u : Tree) → DerivationTree limits bare 32768 u → SameTree (node 1 none) u
unfolding rule
only-tree (node i ts) (DerivationTree.applies a c) =
    let e : i ≡ 1 = omega (arith, a.0.0, a.0.1) in
    subst (λ k. SameTree (node 1 none) (node k ts)) (sym e) (no_children ts (subst (λ k. Children limits bare (rule limits bare k).right ts) e c))

pub empty-one : Agrees limits bare [] (one (1 ∷ []))
unfolding rule row row_below before rules_of
empty-one = count_1 (node 1 none) record { derives = DerivationTree.applies {i = 1} ((omega arith, omega arith), refl) Children.end; sentence = refl } only
  where
    only : (u : Tree) → HasTree limits bare [] u → SameTree (node 1 none) u
    only u h = only-tree u h.derives

-- a refusal leaves the list as it was, the second 14 too; after that one the work row's entries are 0
module _ (t n : ℕ) (table w work list : List ℕ) where
  pub refused_list : (cause : Cause) (at : ℕ) (work' list' : List ℕ) → FindsTrees t n table w work list (Refused cause at) work' list' → list' ≡ list
  refused_list cause at work' list' (refuses c p e) = refl
  refused_list cause at work' list' (too_short G e rules a l) = refl

  pub used-row : (G : Grammar) → check_row limits t n table w work ≡ done G → (cause : Cause) (at : ℕ) (work' list' : List ℕ)
      → FindsTrees t n table w work list (Refused cause at) work' list' → work' ≡ cleared G work
  used-row G e cause at work' list' (refuses c p d) = no_answer (sym d ∙ e)
  used-row G e cause at work' list' (too_short H d rules a l) = let q : H ≡ G = done_inj (sym d ∙ e) in ap (λ K. cleared K work) q
