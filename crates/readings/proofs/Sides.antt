-- The sides of a row of indices are strings of the grammar's letters. Assumes nothing.
use Prim.Native.Nat.{ℕ, zero, suc, ◌≤◌, ◌<◌}
use mathlib.Core.Path.{◌≡◌, subst}
use mathlib.Core.Logic.{◌⊎◌, inr}
use mathlib.Core.List.{List, [], ◌∷◌, ◌++◌}
use native.Mathlib.Omega.{arith}
use lib.ListN.{length, get_or}
use Rattle.grammar.specs.Basics.{each, Mem, here, there}
use Rattle.grammar.specs.Limits.{Limits}
use Rattle.grammar.specs.Grammar.{Terminal, Nonterminal, Grammar, rule, WellFormed}
use Rattle.grammar.specs.Live.{Live}
use Rattle.grammar.proofs.Derives.{rule-listed}
use Rattle.grammar.proofs.Lists.{place_mem}
use Rattle.automaton.specs.Items.{states, Before}
use Rattle.automaton.specs.Position.{Opens, opens-start, opens-rule, Closes, closes-start, closes-rule, shifts, position}
use Rattle.automaton.specs.PositionMoves.{moves_of}
use Rattle.automaton.specs.Strings.{Letter}
use Rattle.triples.specs.Index.{triple_count, layer_of, left_of, right_of}
use Rattle.triples.specs.Successor.{StepTo, open_left, open_right, shift_both, part-both, part_left, part_right, close-left, close-right, read-both}
use Rattle.triples.specs.Sides.{letters, records_to, side_of}
use Rattle.triples.specs.declared.Move.{Move}
use Rattle.triples.specs.declared.Step.{Step}
use Rattle.triples.proofs.Index.{digits}
use Rattle.triple_laws.proofs.Position.{position-regular, position-listed}
use Rattle.triple_laws.proofs.Numbered.{step_same}
use Rattle.triple_laws.proofs.Records.{records_exact}
use Rattle.figures.proofs.OneRecord.{leads_to-index}
use Rattle.readings.specs.Readings.{AllValid}

-- ---- strings of valid letters

pub valid_append : (L : Limits) (t n count : ℕ) (u v : List Letter) → AllValid L t n count u → AllValid L t n count v → AllValid L t n count (u ++ v)
valid_append L t n count [] v a b = b
valid_append L t n count (l ∷ u) v a b = (a.0, valid_append L t n count u v a.1 b)

module _ (L : Limits) (G : Grammar) (W : WellFormed L G) (apart : L.max_terminals < L.nonterminal_base) where
  abbrev Good : List Letter → Type 0
  Good u = AllValid L G.terminals G.nonterminals (length G.rules) u

  -- the rules and symbols of moves are the grammar's
  opens-rules : {i p q : ℕ} → Opens L G (Live L G) i p q → i ≤ length G.rules
  opens-rules (opens-start l e f g) = omega arith
  opens-rules (opens-rule r l b e) = r.1

  closes-rules : {i p q : ℕ} → Closes L G (Live L G) i p q → i ≤ length G.rules
  closes-rules (closes-start l e f g) = omega arith
  closes-rules (closes-rule r l e b f) = r.1

  declared : {x p : ℕ} → Before L G (Live L G) x p → Terminal G.terminals x ⊎ Nonterminal L G.nonterminals x
  unfolding rule
  declared {x} b = go b.number b.place b.item.rule b.inside b.symbol
    where
      go : (i d : ℕ) → i ≤ length G.rules → d < length (rule L G i).right → get_or (rule L G i).right d 0 ≡ x
          → Terminal G.terminals x ⊎ Nonterminal L G.nonterminals x
      go zero zero r h e = inr (omega (arith, e), omega (arith, e, W.nonterminals.0))
      go zero (suc d) r h e = absurd (omega arith)
      go (suc i) d r h e =
          W.codes (rule L G (suc i)) (rule-listed L G (suc i) (omega arith, r)) x
          (subst (λ (y : ℕ). Mem y (rule L G (suc i)).right) e (place_mem (rule L G (suc i)).right d 0 h))

  step_valid : {f p q g p' q' : ℕ} {l r : Move} → StepTo (position L G) f p q g p' q' l r → Good (letters l) × Good (letters r)
  step_valid (open_left o) = ((opens-rules o, tt), tt)
  step_valid (open_right o) = (tt, (opens-rules o, tt))
  step_valid (shift_both (shifts a e) (shifts b d)) = ((declared a, tt), (declared b, tt))
  step_valid (part-both k c d) = ((closes-rules c, tt), (closes-rules d, tt))
  step_valid (part_left c b) = ((closes-rules c, tt), tt)
  step_valid (part_right c b) = (tt, (closes-rules c, tt))
  step_valid (close-left c) = ((closes-rules c, tt), tt)
  step_valid (close-right c) = (tt, (closes-rules c, tt))
  step_valid (read-both t (shifts a e) (shifts b d)) = ((declared a, tt), (declared b, tt))

  -- a record's letters
  record_valid : (i j : ℕ) → i < triple_count (states G) → (s : Step) → Mem s (records_to (moves_of L G) i j)
      → Good (letters s.on_left) × Good (letters s.on_right)
  record_valid i j h s m =
      let M = moves_of L G in
      let R = position-regular L G W apart in
      let Q = states G in
      let d = digits Q i (omega (arith, R.four)) h in
      let t = (records_exact M R (layer_of Q i) (left_of Q i) (right_of Q i) d.layer d.left d.right s).0 (leads_to-index M R i j s m).0 in
      step_valid ((step_same (position L G) M R (position-listed L G W apart) d.left d.right).1 t)

  all_of : {A : Type 0} (l : List A) (f : A → List Letter) → ((a : A) → Mem a l → Good (f a)) → Good (each l f)
  unfolding each
  all_of [] f h = tt
  all_of (a ∷ l) f h = valid_append L G.terminals G.nonterminals (length G.rules) (f a) (each l f) (h a here) (all_of l f (λ b m. h b (there m)))

  side_valid : (side : Step → Move) → ((s : Step) → Good (letters s.on_left) × Good (letters s.on_right) → Good (letters (side s)))
      → (row : List ℕ) → ((i : ℕ) → Mem i row → i < triple_count (states G)) → Good (side_of (moves_of L G) side row)
  unfolding side_of
  side_valid side pick [] h = tt
  side_valid side pick (i ∷ []) h = tt
  side_valid side pick (i ∷ j ∷ row) h =
      valid_append L G.terminals G.nonterminals (length G.rules) (each (records_to (moves_of L G) i j) (λ s. letters (side s))) (side_of (moves_of L G) side (j ∷ row))
      (all_of (records_to (moves_of L G) i j) (λ s. letters (side s)) (λ s m. pick s (record_valid i j (h i here) s m)))
      (side_valid side pick (j ∷ row) (λ k m. h k (there m)))

  -- both sides of a row of indices
  pub sides_valid : (row : List ℕ) → ((i : ℕ) → Mem i row → i < triple_count (states G))
      → Good (side_of (moves_of L G) (λ s. s.on_left) row) × Good (side_of (moves_of L G) (λ s. s.on_right) row)
  sides_valid row h = (side_valid (λ s. s.on_left) (λ s g. g.0) row h, side_valid (λ s. s.on_right) (λ s g. g.1) row h)
