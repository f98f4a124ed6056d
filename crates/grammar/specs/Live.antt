-- Grammars with a sentence, rules that some sentence uses, and the tests of both.
-- Source: document 02, request [4] ("a grammar in which S has no finite tree") and [3] ("a rule is live if some sentence has a tree
-- that uses it; rule 0 is live if there is a sentence"); the tests go by productive nonterminals and then by what S reaches through
-- productive rules, which is known of context-free grammars since Bar-Hillel, Perles and Shamir. They are meant for well-formed
-- grammars. Assumes nothing.
use Rattle.std.specs.Prelude.{ℕ, zero, suc, Bool, true, false, not, ◌&&◌, ◌||◌, List, [], ◌∷◌, ◌++◌, map, leb, eqb, length}
use Rattle.grammar.specs.Basics.{when, each}
use Rattle.grammar.specs.Limits.{Limits}
use Rattle.grammar.specs.Grammar.{Rule, Grammar, start, rule}
use Rattle.grammar.specs.Tree.{Tree, node, Trees, child, HasTree}

-- the tree applies rule j at some node
mutual
  pub data Uses (j : ℕ) : Tree → Type 0 where
    at-root : {ts : Trees} → Uses j (node j ts)
    further : {i : ℕ} {ts : Trees} → UsesBelow j ts → Uses j (node i ts)

  pub data UsesBelow (j : ℕ) : Trees → Type 0 where
    in-first : {t : Tree} {ts : Trees} → Uses j t → UsesBelow j (child t ts)
    in-others : {t : Tree} {ts : Trees} → UsesBelow j ts → UsesBelow j (child t ts)

module _ (L : Limits) (G : Grammar) where
  -- there is a sentence: S has a finite tree
  abbrev pub HasSentence : Type 0
  HasSentence = (w : List ℕ) × (t : Tree) × HasTree L G w t

  -- a rule is live if some sentence has a tree that uses it; rule 0 is live if there is a sentence
  pub data Live : ℕ → Type 0 where
    live-start : {w : List ℕ} {t : Tree} → HasTree L G w t → Live 0
    live-rule : {i : ℕ} {w : List ℕ} {t : Tree} → HasTree L G w t → Uses i t → Live i

-- a clause: if all of these hold, that one holds
pub record Clause : Type 0 where
  pub premises : List ℕ
  pub conclusion : ℕ

unfoldable pub has : List ℕ → ℕ → Bool
has [] x = false
has (y ∷ l) x = eqb y x || has l x

-- all of these are found
unfoldable pub has_all : List ℕ → List ℕ → Bool
has_all found [] = true
has_all found (x ∷ l) = has found x && has_all found l

-- what the clauses conclude whose premises are all found
unfoldable pub concluded : List ℕ → List Clause → List ℕ
concluded found [] = []
concluded found (c ∷ cs) = when (has_all found c.premises) (c.conclusion ∷ []) ++ concluded found cs

-- the clauses that lack one
unfoldable pub waiting : List ℕ → List Clause → List Clause
waiting found [] = []
waiting found (c ∷ cs) = when (not (has_all found c.premises)) (c ∷ []) ++ waiting found cs

-- so many rounds: each finds what the clauses conclude whose premises are found, and goes on with those that wait
unfoldable pub rounds : ℕ → List ℕ → List Clause → List ℕ
rounds zero found cs = found
rounds (suc m) found cs = rounds m (concluded found cs ++ found) (waiting found cs)

-- all that follows: a round in which no waiting clause concludes is the last, so as many rounds as clauses are enough
abbrev pub closure : List Clause → List ℕ
closure cs = rounds (length cs) [] cs

module _ (L : Limits) where
  -- the nonterminals of a right side
  unfoldable pub nonterminals_of : List ℕ → List ℕ
  nonterminals_of [] = []
  nonterminals_of (x ∷ α) = when (leb (start L) x) (x ∷ []) ++ nonterminals_of α

  -- a rule's left side derives terminals if all nonterminals of its right side do
  abbrev pub derives_if : Rule → Clause
  derives_if r = record { premises = nonterminals_of r.right; conclusion = r.left }

  -- the nonterminals that derive terminals
  unfoldable pub productive : List Rule → List ℕ
  productive rules = closure (map derives_if rules)

  -- all nonterminals of its right side do
  abbrev pub is_productive : List ℕ → Rule → Bool
  is_productive found r = has_all found (nonterminals_of r.right)

  -- what such a rule reaches, if its left side is reached
  abbrev pub reaches_from : Rule → List Clause
  reaches_from r = map (λ x. record { premises = r.left ∷ []; conclusion = x }) (nonterminals_of r.right)

  unfoldable pub usable : List ℕ → List Rule → List Rule
  usable found [] = []
  usable found (r ∷ rs) = when (is_productive found r) (r ∷ []) ++ usable found rs

  -- the nonterminals that S reaches through productive rules
  unfoldable pub reachable : List Rule → List ℕ
  reachable rules = closure (record { premises = []; conclusion = start L } ∷ each (usable (productive rules) rules) reaches_from)

module _ (L : Limits) (G : Grammar) where
  -- the test of a sentence
  unfoldable pub has_sentence : Bool
  has_sentence = has (productive L G.rules) (start L)

  -- the test of a live rule
  unfoldable pub is_live : ℕ → Bool
  is_live zero = has_sentence
  is_live (suc i) =
      let r = rule L G (suc i) in
      has (reachable L G.rules) r.left && is_productive L (productive L G.rules) r
