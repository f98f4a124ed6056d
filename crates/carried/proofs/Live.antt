-- The rules that some sentence uses are the same of a carried grammar: its clauses are the old ones with their codes moved, so what
-- follows from them is, round by round. Assumes nothing.
use Prim.Native.Nat.{ℕ, zero, suc, ◌+◌, ◌-◌}
use mathlib.Core.Path.{◌≡◌, refl, ap, ap₂, sym, ◌∙◌}
use mathlib.Core.Bool.{Bool, not, ◌&&◌, ◌||◌}
use mathlib.Core.List.{List, [], ◌∷◌, ◌++◌, map, map-append, map-map}
use native.Mathlib.Omega.{arith}
use lib.Dec.{leb}
use lib.ListN.{length, get_or, length-map}
use Rattle.grammar.specs.Basics.{when, each}
use Rattle.grammar.specs.Limits.{Limits}
use Rattle.grammar.specs.Grammar.{Rule, Grammar, start, rule}
use Rattle.grammar.specs.Live.{Clause, has, has_all, concluded, waiting, rounds, nonterminals_of, derives_if, productive, is_productive, reaches_from, usable, reachable, has_sentence, is_live}
use Rattle.carried.specs.Carried.{moved, moved_rule, distance, carried_grammar, Wider}
use Rattle.carried.proofs.Codes.{moved-low, moved-high, moved_same, moved-from}
use Rattle.carried.proofs.Lists.{map_same, then_map, each_map, each_from}

abbrev clause : List ℕ → ℕ → Clause
clause p c = record { premises = p; conclusion = c }

module _ (b d : ℕ) where
  abbrev moved_clause : Clause → Clause
  moved_clause c = clause (map (moved b d) c.premises) (moved b d c.conclusion)

  has-moved : (l : List ℕ) (x : ℕ) → has (map (moved b d) l) (moved b d x) ≡ has l x
  unfolding has
  has-moved [] x = refl
  has-moved (y ∷ l) x = ap₂ (λ (u v : Bool). u || v) (moved_same b d y x) (has-moved l x)

  all_moved : (found l : List ℕ) → has_all (map (moved b d) found) (map (moved b d) l) ≡ has_all found l
  unfolding has_all
  all_moved found [] = refl
  all_moved found (x ∷ l) = ap₂ (λ (u v : Bool). u && v) (has-moved found x) (all_moved found l)

  concluded-moved : (found : List ℕ) (cs : List Clause)
      → concluded (map (moved b d) found) (map moved_clause cs) ≡ map (moved b d) (concluded found cs)
  unfolding concluded
  concluded-moved found [] = refl
  concluded-moved found (c ∷ cs) =
      ap₂ (λ (k : Bool) (l : List ℕ). when k (moved b d c.conclusion ∷ []) ++ l) (all_moved found c.premises) (concluded-moved found cs)
      ∙ then_map (moved b d) (has_all found c.premises) (c.conclusion ∷ []) (concluded found cs)

  waiting-moved : (found : List ℕ) (cs : List Clause)
      → waiting (map (moved b d) found) (map moved_clause cs) ≡ map moved_clause (waiting found cs)
  unfolding waiting
  waiting-moved found [] = refl
  waiting-moved found (c ∷ cs) =
      ap₂ (λ (k : Bool) (l : List Clause). when (not k) (moved_clause c ∷ []) ++ l) (all_moved found c.premises) (waiting-moved found cs)
      ∙ then_map moved_clause (not (has_all found c.premises)) (c ∷ []) (waiting found cs)

  rounds-moved : (m : ℕ) (found : List ℕ) (cs : List Clause)
      → rounds m (map (moved b d) found) (map moved_clause cs) ≡ map (moved b d) (rounds m found cs)
  unfolding rounds
  rounds-moved zero found cs = refl
  rounds-moved (suc m) found cs =
      ap₂ (λ (l : List ℕ) (ks : List Clause). rounds m (l ++ map (moved b d) found) ks) (concluded-moved found cs) (waiting-moved found cs)
      ∙ ap (λ (l : List ℕ). rounds m l (map moved_clause (waiting found cs))) (sym (map-append (moved b d) (concluded found cs) found))
      ∙ rounds-moved m (concluded found cs ++ found) (waiting found cs)

  closure-moved : (cs : List Clause) → rounds (length (map moved_clause cs)) [] (map moved_clause cs) ≡ map (moved b d) (rounds (length cs) [] cs)
  closure-moved cs = ap (λ (m : ℕ). rounds m [] (map moved_clause cs)) (length-map cs moved_clause) ∙ rounds-moved (length cs) [] cs

module _ (L M : Limits) (W : Wider L M) where
  abbrev b : ℕ
  b = L.nonterminal_base

  abbrev d : ℕ
  d = distance L M

  abbrev mv : ℕ → ℕ
  mv = moved b d

  pub start-moved : mv (start L) ≡ start M
  start-moved = moved-high b d b (omega arith) ∙ (let z : b + d ≡ M.nonterminal_base = omega (arith, W.base) in z)

  nonterminals-moved : (α : List ℕ) → nonterminals_of M (map mv α) ≡ map mv (nonterminals_of L α)
  unfolding nonterminals_of
  nonterminals-moved [] = refl
  nonterminals-moved (x ∷ α) =
      ap₂ (λ (k : Bool) (l : List ℕ). when k (mv x ∷ []) ++ l) (moved-from b M.nonterminal_base x W.base) (nonterminals-moved α)
      ∙ then_map mv (leb (start L) x) (x ∷ []) (nonterminals_of L α)

  derives_moved : (r : Rule) → derives_if M (moved_rule b d r) ≡ moved_clause b d (derives_if L r)
  derives_moved r = ap (λ (l : List ℕ). clause l (mv r.left)) (nonterminals-moved r.right)

  productive-moved : (rs : List Rule) → productive M (map (moved_rule b d) rs) ≡ map mv (productive L rs)
  unfolding productive
  productive-moved rs =
      ap (λ (cs : List Clause). rounds (length cs) [] cs)
      (map-map (derives_if M) (moved_rule b d) rs ∙ map_same _ _ derives_moved rs ∙ sym (map-map (moved_clause b d) (derives_if L) rs))
      ∙ closure-moved b d (map (derives_if L) rs)

  is_productive-moved : (found : List ℕ) (r : Rule) → is_productive M (map mv found) (moved_rule b d r) ≡ is_productive L found r
  is_productive-moved found r = ap (has_all (map mv found)) (nonterminals-moved r.right) ∙ all_moved b d found (nonterminals_of L r.right)

  usable-moved : (found : List ℕ) (rs : List Rule) → usable M (map mv found) (map (moved_rule b d) rs) ≡ map (moved_rule b d) (usable L found rs)
  unfolding usable
  usable-moved found [] = refl
  usable-moved found (r ∷ rs) =
      ap₂ (λ (k : Bool) (l : List Rule). when k (moved_rule b d r ∷ []) ++ l) (is_productive-moved found r) (usable-moved found rs)
      ∙ then_map (moved_rule b d) (is_productive L found r) (r ∷ []) (usable L found rs)

  reaches_moved : (r : Rule) → reaches_from M (moved_rule b d r) ≡ map (moved_clause b d) (reaches_from L r)
  reaches_moved r =
      ap (map (λ (x : ℕ). clause (mv r.left ∷ []) x)) (nonterminals-moved r.right)
      ∙ map-map (λ (x : ℕ). clause (mv r.left ∷ []) x) mv (nonterminals_of L r.right)
      ∙ sym (map-map (moved_clause b d) (λ (x : ℕ). clause (r.left ∷ []) x) (nonterminals_of L r.right))

  reachable-moved : (rs : List Rule) → reachable M (map (moved_rule b d) rs) ≡ map mv (reachable L rs)
  unfolding reachable
  reachable-moved rs =
      ap (λ (cs : List Clause). rounds (suc (length cs)) [] (clause [] (start M) ∷ cs))
      (ap (λ (us : List Rule). each us (reaches_from M))
      (ap (λ (l : List ℕ). usable M l (map (moved_rule b d) rs)) (productive-moved rs) ∙ usable-moved (productive L rs) rs)
      ∙ each_from (moved_rule b d) us (reaches_from M)
      ∙ each_map (moved_clause b d) us (λ (r : Rule). reaches_from M (moved_rule b d r)) (reaches_from L) reaches_moved)
      ∙ ap (λ (x : ℕ). rounds (suc (length (map (moved_clause b d) (each us (reaches_from L))))) [] (clause [] x ∷ map (moved_clause b d) (each us (reaches_from L)))) (sym start-moved)
      ∙ closure-moved b d (clause [] (start L) ∷ each us (reaches_from L))
    where
      us : List Rule
      us = usable L (productive L rs) rs

  module _ (G : Grammar) where
    abbrev G' : Grammar
    G' = carried_grammar L M G

    pub sentence_same : has_sentence M G' ≡ has_sentence L G
    unfolding has_sentence
    sentence_same =
        ap₂ (λ (l : List ℕ) (x : ℕ). has l x) (productive-moved G.rules) (sym start-moved) ∙ has-moved b d (productive L G.rules) (start L)

    rule_moved : (i : ℕ) → rule M G' (suc i) ≡ moved_rule b d (rule L G (suc i))
    unfolding rule
    rule_moved i = go G.rules i
      where
        none : Rule
        none = record { left = 0; right = [] }

        go : (rs : List Rule) (i : ℕ) → get_or (map (moved_rule b d) rs) i none ≡ moved_rule b d (get_or rs i none)
        go [] i = ap (λ (x : ℕ). record { left = x; right = [] }) (sym (moved-low b d 0 (omega (arith, W.apart))))
        go (r ∷ rs) zero = refl
        go (r ∷ rs) (suc i) = go rs i

    -- the live rules are the same
    pub live_same : (i : ℕ) → is_live M G' i ≡ is_live L G i
    unfolding is_live
    live_same zero = sentence_same
    live_same (suc i) =
        ap (λ (r : Rule). has (reachable M G'.rules) r.left && is_productive M (productive M G'.rules) r) (rule_moved i)
        ∙ ap₂ (λ (l p : List ℕ). has l (mv r.left) && is_productive M p (moved_rule b d r)) (reachable-moved G.rules) (productive-moved G.rules)
        ∙ ap₂ (λ (u v : Bool). u && v) (has-moved b d (reachable L G.rules) r.left) (is_productive-moved (productive L G.rules) r)
      where
        r : Rule
        r = rule L G (suc i)
