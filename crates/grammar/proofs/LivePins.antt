-- Live rules pinned on small grammars, on both sides of each condition, by the relation and by the test: an edit of the definitions
-- that changes what they say of these grammars refuses one of the facts. Assumes nothing.
use Prim.Native.Nat.{ℕ}
use mathlib.Core.Path.{◌≡◌, refl}
use mathlib.Core.Bool.{Bool, true, false}
use mathlib.Core.List.{List, [], ◌∷◌}
use native.Mathlib.Omega.{arith}
use Rattle.grammar.specs.Basics.{each}
use Rattle.grammar.specs.Limits.{byte_limits}
use Rattle.grammar.specs.Grammar.{Rule, Grammar, rule}
use Rattle.grammar.specs.Tree.{Tree, node, none, child, DerivationTree, applies, end, terminal, nonterminal}
use Rattle.grammar.specs.Tree.{before, after, row, HasTree}
use Rattle.grammar.specs.Live.{at-root, further, in-first, in-others, Live, live-start, live-rule}
use Rattle.grammar.specs.Live.{has, has_all, concluded, waiting, rounds, nonterminals_of, productive, usable, reachable, has_sentence, is_live}
use Rattle.grammar.proofs.TreePins.{by-rule}

abbrev of : ℕ → List ℕ → Rule
of b w = record { left = b; right = w }

-- no rule
abbrev bare : Grammar
bare = record { terminals = 0; nonterminals = 1; rules = [] }

-- S → S
abbrev circle : Grammar
circle = record { terminals = 0; nonterminals = 1; rules = of 128 (128 ∷ []) ∷ [] }

-- S → a; S → A; A → A
abbrev course : Grammar
course = record { terminals = 1; nonterminals = 2; rules = of 128 (1 ∷ []) ∷ of 128 (129 ∷ []) ∷ of 129 (129 ∷ []) ∷ [] }

-- S → a; S → A B; A → a; B → B: only S → A B, which is in no tree, uses A → a
abbrev barren : Grammar
barren = record {
  terminals = 1;
  nonterminals = 3;
  rules = of 128 (1 ∷ []) ∷ of 128 (129 ∷ 130 ∷ []) ∷ of 129 (1 ∷ []) ∷ of 130 (130 ∷ []) ∷ [];
}

-- A → a; S → A A; B → S: nothing uses B → S, and A's rule stands before its use
abbrev unused : Grammar
unused = record { terminals = 1; nonterminals = 3; rules = of 129 (1 ∷ []) ∷ of 128 (129 ∷ 129 ∷ []) ∷ of 130 (128 ∷ []) ∷ [] }

-- to unfold this is to unfold all that it uses
lived : Grammar → ℕ → Bool
unfolding rule each has has_all concluded waiting rounds nonterminals_of productive usable reachable has_sentence is_live
lived G i = is_live byte_limits G i

-- rule 0 is live if there is a sentence
sentences : (lived bare 0 ≡ false) × (lived circle 0 ≡ false) × (lived course 0 ≡ true) × (lived barren 0 ≡ true)
unfolding lived
sentences = (refl, refl, refl, refl)

-- a rule that is in no tree is not live, nor is one that S reaches only through such rules, nor one that S does not reach
live-rules : (lived circle 1 ≡ false)
    × (lived course 1 ≡ true)
    × (lived course 2 ≡ false)
    × (lived course 3 ≡ false)
    × (lived barren 1 ≡ true)
    × (lived barren 2 ≡ false)
    × (lived barren 3 ≡ false)
    × (lived barren 4 ≡ false)
    × (lived unused 1 ≡ true)
    × (lived unused 2 ≡ true)
    × (lived unused 3 ≡ false)
unfolding lived
live-rules = (refl, refl, refl, refl, refl, refl, refl, refl, refl, refl, refl)

-- without rules there is no tree, so rule 0 is not live
no_tree : {b : ℕ} {t : Tree} → DerivationTree byte_limits bare b t → ⊥
no_tree (applies r c) = omega (arith, r.0)

bare_dead : ¬ Live byte_limits bare 0
bare_dead (live-start h) = no_tree h.derives
bare_dead (live-rule h u) = no_tree h.derives

-- a a of A → a; S → A A; B → S: its tree uses S → A A at the root and A → a below, in the first child and in the other
abbrev twice : Tree
twice = node 2 (child (node 1 none) (child (node 1 none) none))

sentence : HasTree byte_limits unused (1 ∷ 1 ∷ []) twice
unfolding rule row before after
sentence =
    let a : DerivationTree byte_limits unused 129 (node 1 none) = by-rule unused 1 (omega arith) (terminal (omega arith) end) in
    record {
      derives = by-rule unused 2 (omega arith) (nonterminal (omega arith, omega arith) a (nonterminal (omega arith, omega arith) a end));
      sentence = refl;
    }

uses : Live byte_limits unused 0 × Live byte_limits unused 1 × Live byte_limits unused 1 × Live byte_limits unused 2
uses = (
  live-start sentence,
  live-rule sentence (further (in-first at-root)),
  live-rule sentence (further (in-others (in-first at-root))),
  live-rule sentence at-root,
)
