-- The two sides of the shortest witness, where the verdict is potential: they are strings of the grammar's letters, and not long.
-- Assumes nothing.
use Prim.Native.Nat.{ℕ, zero, suc, ◌+◌, ◌*◌, ◌≤◌, ◌<◌}
use mathlib.Core.Path.{◌≡◌, sym, ap, ap₂, subst, subst₂, ◌∙◌}
use mathlib.Core.Bool.{true}
use mathlib.Core.List.{List, [], ◌∷◌, map}
use native.Mathlib.Omega.{arith}
use native.Mathlib.Nat.{mul-le-mul}
use lib.ListN.{length, take}
use lib.Seq.{length-take-le}
use Rattle.grammar.specs.Basics.{Mem}
use Rattle.grammar.specs.Limits.{limits}
use Rattle.grammar.specs.Grammar.{Grammar, WellFormed}
use Rattle.grammar.specs.Refusal.{Answer}
use Rattle.grammar.specs.TableCheck.{check_table}
use Rattle.grammar.proofs.WellFormed.{Taken, room}
use Rattle.grammar.proofs.Sentence.{takes_only}
use Rattle.automaton.specs.Items.{states}
use Rattle.automaton.specs.Moves.{Moves, Regular}
use Rattle.automaton.specs.PositionMoves.{moves_of}
use Rattle.automaton.specs.Strings.{Letter}
use Rattle.triples.specs.Index.{index, triple_count}
use Rattle.triples.specs.Smallest.{smallest}
use Rattle.triples.specs.Shortest.{shortest}
use Rattle.triples.specs.Sides.{OneEach, left_side, right_side}
use Rattle.triple_laws.proofs.Explore.{is_element_lem}
use Rattle.triple_laws.proofs.Position.{position-regular}
use Rattle.figures.proofs.ShortestLaws.{potential-shortest}
use Rattle.figures.proofs.SidesLaws.{sides-few, ShortestSteps, shortest_steps}
use Rattle.text.specs.Names.{all, is_name}
use Rattle.text.proofs.RoundTrip.{apart}
use Rattle.text.specs.Spelled.{spelled}
use Rattle.witness_sides.specs.Sides.{Walkable, TwoSides, Walks}
use Rattle.witness_sides.specs.declared.Lengths.{Lengths}
use Rattle.readings.specs.Readings.{Valid, AllValid, reading_lines}
use Rattle.readings.specs.Letters.{letter_number, letter_from}
use Rattle.readings.proofs.Sides.{sides_valid}
use Rattle.readings.proofs.Letters.{letter_again, letters-again}
use Rattle.readings_write.specs.Clauses.{Letters, word_room, keys_room, Sayable, lines_of}
use Rattle.readings_write.proofs.Sizes.{lines-most}
use Rattle.search.specs.Promise.{is_potential}
use Rattle.report.specs.Report.{program_states, witness_lines}
use Rattle.report.specs.Clauses.{Speakable, sides_lines}

-- entries that are a string's letters
module _ (t n count : ℕ) (few : t ≤ limits.max_terminals) (some : n ≤ limits.max_nonterminals) (short : count ≤ limits.max_rules) where
  entries_valid : (u : List Letter) → AllValid limits t n count u → Letters t n count (map letter_number u)
  entries_valid [] h i k = absurd (omega arith)
  entries_valid (l ∷ u) h zero k = subst (Valid limits t n count) (sym (letter_again t n count few some short l h.0)) h.0
  entries_valid (l ∷ u) h (suc i) k = entries_valid u h.1 i (omega arith)

  pub letters_valid : (u : List Letter) (l : List ℕ) → AllValid limits t n count u → l ≡ map letter_number u → Letters t n count l
  letters_valid u l h e = subst (Letters t n count) (sym e) (entries_valid u h)

module _ (G : Grammar) (W : WellFormed limits G) (e : is_potential (moves_of limits G) ≡ true) where
  abbrev pub M : Moves
  M = moves_of limits G

  abbrev pub regular : Regular M
  regular = position-regular limits G W apart

  reached : Mem (index (states G) 1 1 1) (smallest M)
  reached = (is_element_lem (index (states G) 1 1 1) (smallest M)).0 e

  pub witness_steps : ShortestSteps M regular
  witness_steps = shortest_steps M regular reached

  -- it has 2Q² entries at most, and its sides have fewer letters
  pub witness_few : length (shortest M) ≤ triple_count (states G)
  witness_few = (potential-shortest M regular reached).1

  pub witness_sides : (length (left_side M (shortest M)) < triple_count (states G)) × (length (right_side M (shortest M)) < triple_count (states G))
  witness_sides = (sides-few M regular reached (λ s. s.on_left), sides-few M regular reached (λ s. s.on_right))

  -- the sides are strings of the grammar's letters
  pub witness_valid : AllValid limits G.terminals G.nonterminals (length G.rules) (left_side M (shortest M))
      × AllValid limits G.terminals G.nonterminals (length G.rules) (right_side M (shortest M))
  witness_valid = sides_valid limits G W apart (shortest M) witness_steps.inside

  -- their lines
  pub witness_most : (names : List (List ℕ)) → all is_name names ≡ true → length names ≡ G.terminals + G.nonterminals
      → length (witness_lines G names) ≤ 2 * (word_room * triple_count (states G)) + keys_room
  unfolding witness_lines
  witness_most names named many =
      let v = witness_valid in
      let f = witness_sides in
      omega (
        arith,
        lines-most G.terminals G.nonterminals (length G.rules) names named many W.terminals W.count (left_side M (shortest M)) (right_side M (shortest M)) v.0 v.1,
        f.0,
        f.1,
      )

-- the walk along the shortest witness, and the lines that are written of it
module _ (t n : ℕ) (table : List ℕ) (q : ℕ) (text starts lengths row : List ℕ) (at : ℕ) (out : List ℕ)
    (s : Speakable t n table q text starts lengths row at out) where
  abbrev G : Grammar
  G = s.told.grammar

  taken : Taken limits t n table G
  taken = takes_only limits room t n table G s.told.passes

  -- a side has no more letters than there are triples for the program
  square : triple_count (states G) ≤ triple_count program_states
  square =
      let k : states G ≤ program_states = omega (arith, s.told.counted, s.told.few) in
      let m = mul-le-mul {n₂ = program_states} {m₂ = program_states} k k in
      omega (arith, m)

  pub walkable : (left right : List ℕ) → length left ≡ triple_count program_states → length right ≡ triple_count program_states
      → Walkable t n table row left right
  walkable left right a b =
      let w = taken.well_formed in
      let e = s.shortest-row in
      let f : length row ≤ triple_count program_states = omega (arith, ap length e, witness_few G w s.potential, square) in
      record {
        grammar = G;
        passes = s.told.passes;
        one = subst (OneEach (moves_of limits G)) (sym e) (witness_steps G w s.potential).one;
        left-room = omega (arith, f, a);
        right-room = omega (arith, f, b);
      }

  module _ (r : Lengths) (left right : List ℕ) (h : Walks t n table row r left right) where
    abbrev u : List Letter
    u = left_side (moves_of limits G) (shortest (moves_of limits G))

    abbrev v : List Letter
    v = right_side (moves_of limits G) (shortest (moves_of limits G))

    sides : TwoSides (moves_of limits G) (shortest (moves_of limits G)) r left right
    sides = subst (λ (row : List ℕ). TwoSides (moves_of limits G) row r left right) s.shortest-row (h G s.told.passes)

    valid : AllValid limits t n (length G.rules) u × AllValid limits t n (length G.rules) v
    valid = subst₂ (λ (t n : ℕ). AllValid limits t n (length G.rules) u × AllValid limits t n (length G.rules) v)
        taken.terminals taken.nonterminals (witness_valid G taken.well_formed s.potential)

    pub sayable : Sayable t text starts lengths (take r.left left) (take r.right right) at out
    sayable =
        let c = s.told.names in
        let f = witness_sides G taken.well_formed s.potential in
        let k : length (take r.left left) ≡ r.left = length-take-le r.left left sides.left_fits in
        let l : length (take r.right right) ≡ r.right = length-take-le r.right right sides.right_fits in
        record {
          nonterminals = n;
          rules = length G.rules;
          names = c;
          left-letters = letters_valid t n (length G.rules) c.few-terminals c.few-nonterminals c.few-rules u _ valid.0 sides.left-front;
          right-letters = letters_valid t n (length G.rules) c.few-terminals c.few-nonterminals c.few-rules v _ valid.1 sides.right-front;
          room = omega (arith, s.room, square, f.0, f.1, sides.left-length, sides.right-length, k, l);
        }

    pub sides_fit : (r.left ≤ length left) × (r.right ≤ length right)
    sides_fit = (sides.left_fits, sides.right_fits)

    -- the lines of what was walked are those of the shortest witness
    pub sides-lines : lines_of t (spelled text starts lengths) (take r.left left) (take r.right right)
        ≡ sides_lines (check_table limits t n table) (spelled text starts lengths)
    unfolding witness_lines
    sides-lines =
        let c = s.told.names in
        let names = spelled text starts lengths in
        let back : (w : List Letter) (l : List ℕ) → AllValid limits t n (length G.rules) w → l ≡ map letter_number w → map letter_from l ≡ w
        = λ w l g e. ap (map letter_from) e ∙ letters-again t n (length G.rules) c.few-terminals c.few-nonterminals c.few-rules w g in
        ap₂ (λ (x y : List Letter). reading_lines limits t names x y) (back u _ valid.0 sides.left-front) (back v _ valid.1 sides.right-front)
        ∙ ap (λ (t : ℕ). reading_lines limits t names u v) (sym taken.terminals)
        ∙ sym (ap (λ (o : Answer Grammar). sides_lines o names) s.told.passes)
