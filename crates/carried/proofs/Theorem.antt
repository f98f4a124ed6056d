-- A table that passes under limits is answered as before under wider ones, its nonterminals moved up. Assumes nothing.
use Prim.Native.Nat.{ℕ, suc, ◌+◌, ◌-◌, ◌≤◌, ◌<◌}
use mathlib.Core.Path.{◌≡◌, refl, ap, ap₂, sym, subst, ◌∙◌}
use mathlib.Core.List.{List, [], ◌∷◌, ◌++◌, map, map-append}
use mathlib.Core.Logic.{◌⊎◌, inl, inr}
use native.Mathlib.Omega.{arith}
use lib.ListN.{length, get_or, length-map}
use Rattle.grammar.specs.Basics.{Mem, here, there}
use Rattle.grammar.specs.Limits.{Limits}
use Rattle.grammar.specs.Grammar.{Terminal, Nonterminal, Rule, Grammar, WellFormed}
use Rattle.grammar.specs.Table.{encode}
use Rattle.grammar.specs.Refusal.{done}
use Rattle.grammar.specs.TableCheck.{check_table}
use Rattle.grammar.proofs.Rules.{rule_path}
use Rattle.grammar.proofs.WellFormed.{Taken}
use Rattle.grammar.proofs.Sentence.{passed-stored, takes_all, takes_only}
use Rattle.automaton.specs.Items.{states}
use Rattle.automaton.specs.Moves.{Moves}
use Rattle.automaton.specs.PositionMoves.{moves_of}
use Rattle.triples.specs.Smallest.{successors}
use Rattle.carried.specs.Carried.{moved, moved_rule, distance, carried_table, carried_grammar, Wider, Same}
use Rattle.carried.proofs.Codes.{moved-low, moved-high, moved_back}
use Rattle.carried.proofs.Lists.{mem_map, distinct_map}
use Rattle.carried.proofs.Live.{sentence_same, live_same}
use Rattle.carried.proofs.Alike.{Alike, successors-same}
use Rattle.carried.proofs.Moves.{states-moved, moves_alike}
use Rattle.carried.proofs.Answers.{set_same, verdict-same, looked-same, shortest-same, bytes_same, row_same, count_same}

module _ (L M : Limits) (W : Wider L M) where
  abbrev b : ℕ
  b = L.nonterminal_base

  abbrev d : ℕ
  d = distance L M

  terminal-moved : (t x : ℕ) → t < b → Terminal t x → moved b d x ≡ x
  terminal-moved t x h k = moved-low b d x (omega arith)

  nonterminal-moved : (n x : ℕ) → Nonterminal L n x → Nonterminal M n (moved b d x)
  nonterminal-moved n x k =
      subst (λ (y : ℕ). Nonterminal M n y) (sym (moved-high b d x k.0)) (omega (arith, W.base, k.0), omega (arith, W.base, k.0, k.1))

  codes-back : (xs ys : List ℕ) → map (moved b d) xs ≡ map (moved b d) ys → xs ≡ ys
  codes-back [] [] e = refl
  codes-back [] (y ∷ ys) e = absurd (omega (arith, let z : 0 ≡ suc (length (map (moved b d) ys)) = ap length e in z))
  codes-back (x ∷ xs) [] e = absurd (omega (arith, let z : suc (length (map (moved b d) xs)) ≡ 0 = ap length e in z))
  codes-back (x ∷ xs) (y ∷ ys) e =
      ap₂ (λ (u : ℕ) (v : List ℕ). u ∷ v) (moved_back b d x y (ap (λ (l : List ℕ). get_or l 0 0) e)) (codes-back xs ys (ap rest e))
    where
      rest : List ℕ → List ℕ
      rest [] = []
      rest (z ∷ zs) = zs

  rule-back : (r s : Rule) → moved_rule b d r ≡ moved_rule b d s → r ≡ s
  rule-back r s e = rule_path (moved_back b d r.left s.left (ap (λ (q : Rule). q.left) e)) (codes-back r.right s.right (ap (λ (q : Rule). q.right) e))

  encode-moved : (rs : List Rule) → ((r : Rule) → Mem r rs → length r.right < b) → map (moved b d) (encode rs) ≡ encode (map (moved_rule b d) rs)
  unfolding encode
  encode-moved [] h = refl
  encode-moved (r ∷ rs) h =
      ap (λ (l : List ℕ). moved b d r.left ∷ l)
      (ap₂ (λ (k : ℕ) (l : List ℕ). k ∷ l) (moved-low b d (length r.right) (h r here) ∙ sym (length-map r.right (moved b d)))
      (map-append (moved b d) r.right (encode rs) ∙ ap (λ (l : List ℕ). map (moved b d) r.right ++ l) (encode-moved rs (λ s m. h s (there m)))))

  well_moved : (G : Grammar) → WellFormed L G → WellFormed M (carried_grammar L M G)
  well_moved G w = record {
    terminals = omega (arith, w.terminals, W.terminals);
    nonterminals = (w.nonterminals.0, omega (arith, w.nonterminals.1, W.nonterminals));
    lefts = λ r m. let s = mem_map (moved_rule b d) r G.rules m in
        subst (λ (q : Rule). Nonterminal M G.nonterminals q.left) s.2 (nonterminal-moved G.nonterminals s.0.left (w.lefts s.0 s.1));
    lengths = λ r m. let s = mem_map (moved_rule b d) r G.rules m in
        subst (λ (q : Rule). length q.right ≤ M.max_length) s.2
        (omega (arith, w.lengths s.0 s.1, W.lengths, length-map s.0.right (moved b d)));
    codes = λ r m x i. let s = mem_map (moved_rule b d) r G.rules m in
        let y = mem_map (moved b d) x s.0.right (subst (λ (q : Rule). Mem x q.right) (sym s.2) i) in
        subst (λ (c : ℕ). Terminal G.terminals c ⊎ Nonterminal M G.nonterminals c) y.2 (code y.0 (w.codes s.0 s.1 y.0 y.1));
    count = omega (arith, w.count, W.rules, length-map G.rules (moved_rule b d));
    distinct = distinct_map (moved_rule b d) rule-back G.rules w.distinct;
    size = omega (arith, w.size, W.states, states-moved b d G.rules);
  }
    where
      code : (y : ℕ) → Terminal G.terminals y ⊎ Nonterminal L G.nonterminals y
          → Terminal G.terminals (moved b d y) ⊎ Nonterminal M G.nonterminals (moved b d y)
      code y (inl t) = inl (subst (λ (c : ℕ). Terminal G.terminals c) (sym (terminal-moved G.terminals y (omega (arith, w.terminals, W.apart)) t)) t)
      code y (inr n) = inr (nonterminal-moved G.nonterminals y n)

  -- the whole of it
  pub carried : (t n : ℕ) (table : List ℕ) (G : Grammar) → check_table L t n table ≡ done G → Same L M t n table G
  carried t n table G e = record {
    passes = passes;
    states = same;
    live = live_same L M W G;
    moves = count_same b d old new alike some;
    verdict = verdict-same old new same next;
    smallest = set_same old new same next;
    witness = shortest-same old new same next;
    looked = looked-same old new same next;
    certificates = bytes_same old new same next;
    witnesses = row_same old new same next;
  }
    where
      taken : Taken L t n table G
      taken = takes_only L W.four t n table G e

      some : 0 < b
      some = omega (arith, W.apart)

      old : Moves
      old = moves_of L G

      new : Moves
      new = moves_of M (carried_grammar L M G)

      alike : Alike b d (moves_of L G) (moves_of M (carried_grammar L M G))
      alike = moves_alike L M W G (omega (arith, taken.well_formed.terminals, W.apart))

      same : states (carried_grammar L M G) ≡ states G
      same = states-moved b d G.rules

      next : (i : ℕ) → successors (moves_of M (carried_grammar L M G)) i ≡ successors (moves_of L G) i
      next = successors-same b d (moves_of L G) (moves_of M (carried_grammar L M G)) alike some

      passes : check_table M t n (carried_table L M table) ≡ done (carried_grammar L M G)
      passes =
          subst (λ (xs : List ℕ). check_table M t n xs ≡ done (carried_grammar L M G))
          (sym (ap (map (moved b d)) taken.table ∙ encode-moved G.rules (λ r m. omega (arith, taken.well_formed.lengths r m, W.short))))
          (subst (λ (u : ℕ). check_table M u n (encode (map (moved_rule b d) G.rules)) ≡ done (carried_grammar L M G)) taken.terminals
          (subst (λ (u : ℕ). check_table M G.terminals u (encode (map (moved_rule b d) G.rules)) ≡ done (carried_grammar L M G)) taken.nonterminals
          (takes_all M (carried_grammar L M G) (well_moved G taken.well_formed)
          (sentence_same L M W G ∙ (passed-stored L t n table G e).1))))
