-- What one level is written from, out of what the calls before it ensure: the sort of the level below by its keys (`Cut`), the
-- widths, and the columns of the grammar's record. One law for every m. Assumes nothing.
use Prim.Native.Nat.{ℕ, suc, ◌+◌, ◌-◌, ◌*◌, ◌≤◌, ◌<◌}
use mathlib.Core.Path.{◌≡◌, refl, sym, ap, ◌∙◌}
use mathlib.Core.Bool.{Bool, true, false}
use mathlib.Core.List.{List, map}
use native.Mathlib.Omega.{arith}
use lib.Dec.{ltb}
use lib.ListN.{length, get_or, take, drop, replicate, length-append, length-replicate, length-map}
use Rattle.grammar.specs.Basics.{choose, when}
use Rattle.grammar.specs.Limits.{limits}
use Rattle.grammar.specs.Grammar.{Grammar, IsRule, rule, WellFormed}
use Rattle.grammar.specs.Record.{codes, record_of}
use Rattle.grammar.specs.Live.{is_live}
use Rattle.grammar.specs.declared.CheckedGrammar.{CheckedGrammar}
use Rattle.grammar.proofs.Columns.{sizes}
use Rattle.grammar.proofs.Derives.{rule-listed}
use Rattle.automaton.specs.Callers.{chains, spots, number_of}
use Rattle.automaton.specs.CallerMoves.{spot_ahead}
use Rattle.live.specs.Marks.{right_at, before, Columns, bit, Answers}
use Rattle.live.proofs.PassLaws.{before-next, before-most}
use Rattle.live.proofs.ColumnLaws.{held, columns_of}
use Rattle.moves.specs.Tables.{places, segment}
use Rattle.caller_laws.specs.Classes.{caller_of}
use Rattle.caller_laws.proofs.Levels.{callers-placed}
use Rattle.caller_rows.specs.Clauses.{Filled, Segments, Segmented, width_of, width_at, start_of}
use Rattle.caller_rows.specs.LevelRows.{Levelled}
use Rattle.caller_rows.specs.Levels.{LevelOf, WidthsOf, RanksOf, Cut}
use Rattle.caller_rows.proofs.LevelRowLaws.{part_many}

-- what write_ranks asks
pub cut_segments : (G : Grammar) → WellFormed limits G → (m n q : ℕ) (first callers : List ℕ) → Cut G m n q first callers → Segments first callers (n + 1)
cut_segments G W m n q first callers C = record {
  long = omega (arith, C.long);
  kinds-few = omega (arith, C.nonterminals, W.nonterminals.1);
  order = λ a b h l. C.order a b h (omega (arith, l));
  rankable =
      let e = C.inside (n + 1) (omega arith) in
      let l = C.order (n + 1) (n + 2) (omega arith) (omega arith) in
      record {
        within = omega (arith, e, C.few, C.size);
        few = omega (arith, e, C.few);
        small = λ k h. C.small k;
        apart = λ j k h i. C.apart j k (omega (arith, h, l)) (omega (arith, i, l));
      };
}

-- the columns of a record
module _ (G : Grammar) (W : WellFormed limits G) (g : CheckedGrammar) (same : g ≡ record_of G) where
  -- no code is of both kinds
  pub apart : limits.max_terminals < limits.nonterminal_base
  apart = omega arith

  -- they hold the grammar's rules
  columns_are : Columns g.lefts g.lengths g.codes g.count
  columns_are = columns_of g (record { grammar = G; well_formed = W; same = same })

  -- as many as there are
  pub count_is : g.count ≡ length G.rules
  count_is = (held g G same).count

  -- rule i of the columns is rule i + 1 of the grammar
  pub is_rule : (i : ℕ) → i < g.count → IsRule G (suc i)
  is_rule i h = (omega arith, omega (arith, h, count_is))

  -- with its left side
  left_is : (i : ℕ) → i < g.count → get_or g.lefts i 0 ≡ (rule limits G (suc i)).left
  left_is i h = (held g G same).left i h

  -- which is a nonterminal
  pub left_in : (i : ℕ) → i < g.count → (limits.nonterminal_base ≤ get_or g.lefts i 0) × (get_or g.lefts i 0 < limits.nonterminal_base + G.nonterminals)
  left_in i h =
      let k = W.lefts (rule limits G (suc i)) (rule-listed limits G (suc i) (is_rule i h)) in
      (omega (arith, left_is i h, k.0), omega (arith, left_is i h, k.1))

  -- its codes lie in their column
  codes-inside : (i : ℕ) → i < g.count → before g.lengths i + get_or g.lengths i 0 ≤ length g.codes
  codes-inside i h = omega (arith, before-most g.lengths (i + 1) g.count (omega (arith, h)), before-next g.lengths i, columns_are.code)

  -- and are its right side
  codes_at : (i : ℕ) → i < g.count → right_at g.lengths g.codes i ≡ (rule limits G (suc i)).right
  codes_at i h = (held g G same).right i h

  -- which is as long as is said
  pub length_at : (i : ℕ) → i < g.count → get_or g.lengths i 0 ≡ length (rule limits G (suc i)).right
  length_at i h = sym (part_many g.codes (before g.lengths i) (get_or g.lengths i 0) (codes-inside i h)) ∙ ap length (codes_at i h)

  -- the column of codes is as long as the states are many at most
  codes_many : length g.codes ≤ limits.max_rules * limits.max_length
  unfolding record_of
  codes_many =
      let e = ap (λ (g : CheckedGrammar). length g.codes) same in
      let c = codes G.rules in
      let z = replicate {A = ℕ} (limits.max_states - length c) 0 in
      omega (arith, e, length-append c z, length-replicate {A = ℕ} (limits.max_states - length c) 0, sizes G.rules, W.size)

  -- below level 1 each rule has one chain, the empty one
  pub below-zero : (below : List ℕ) → ((i : ℕ) → i < g.count → get_or below i 0 ≡ 1) → WidthsOf G 0 g.count below
  below-zero below h i l = h i l

-- the sort of the states with m callers
module _ (G : Grammar) (W : WellFormed limits G) (g : CheckedGrammar) (same : g ≡ record_of G) (m n q : ℕ) (first callers : List ℕ) (C : Cut G m n q first callers) where
  -- what write_widths asks
  pub cut_segmented : (i : ℕ) → i < g.count → Segmented first (get_or g.lefts i 0)
  cut_segmented i h =
      let l = left_in G W g same i h in
      record {
        code = l.0;
        within = omega (arith, l.0, l.1, C.nonterminals, C.long);
        order = C.order (get_or g.lefts i 0 - limits.nonterminal_base) (get_or g.lefts i 0 - limits.nonterminal_base + 1) (omega arith)
            (omega (arith, l.0, l.1, C.nonterminals));
      }

  -- the segment of a rule's left side lists the states before it
  pub segment-places : (i : ℕ) → i < g.count
      → segment first callers (get_or g.lefts i 0 - limits.nonterminal_base) ≡ places (map (spot_ahead limits G) (spots limits G m)) (rule limits G (suc i)).left
  segment-places i h =
      let l = left_in G W g same i h in
      let x = left_is G W g same i h in
      let b = get_or g.lefts i 0 - limits.nonterminal_base in
      let e : limits.nonterminal_base + b ≡ (rule limits G (suc i)).left = omega (arith, l.0, x) in
      C.before b (omega (arith, l.0, l.1, C.nonterminals)) ∙ ap (places (map (spot_ahead limits G) (spots limits G m))) e

  -- inside the row of callers
  segment-inside : (i : ℕ) → i < g.count
      → get_or first (get_or g.lefts i 0 - limits.nonterminal_base) 0 + width_of first (get_or g.lefts i 0) ≤ length callers
  segment-inside i h =
      let s = cut_segmented i h in
      let l = left_in G W g same i h in
      let z = C.inside (get_or g.lefts i 0 - limits.nonterminal_base + 1) (omega (arith, l.0, l.1, C.nonterminals)) in
      omega (arith, s.order, z, C.few, C.size)

  -- the chains of rule i + 1
  abbrev Chains : ℕ → List (List (ℕ × ℕ))
  Chains i = chains limits G (suc m) (suc i)

  -- which are the callers of its chains
  segment-chains : (i : ℕ) → i < g.count
      → segment first callers (get_or g.lefts i 0 - limits.nonterminal_base) ≡ map (λ cs. number_of limits G m (caller_of cs)) (Chains i)
  segment-chains i h = segment-places i h ∙ sym (callers-placed limits G W (apart G W g same) m i (is_rule G W g same i h))

  -- it is as long as the rule has chains
  pub width-chains : (i : ℕ) → i < g.count → width_of first (get_or g.lefts i 0) ≡ length (Chains i)
  unfolding segment
  width-chains i h =
      sym (part_many callers (get_or first (get_or g.lefts i 0 - limits.nonterminal_base) 0) (width_of first (get_or g.lefts i 0)) (segment-inside i h))
      ∙ ap length (segment-chains i h) ∙ length-map (Chains i) (λ cs. number_of limits G m (caller_of cs))

  -- so it is what a rule that is live is given, and else nothing
  chains-width : (live : List ℕ) (i : ℕ) → i < g.count → (t : Bool) → get_or live i 0 ≡ bit t → width_at g.lefts live first i ≡ length (when t (Chains i))
  chains-width live i h true e = ap (λ v. choose (ltb 0 v) (width_of first (get_or g.lefts i 0)) 0) e ∙ width-chains i h
  chains-width live i h false e = ap (λ v. choose (ltb 0 v) (width_of first (get_or g.lefts i 0)) 0) e

  -- a rule has as many chains at most
  width-most : (i : ℕ) → i < g.count → (t : Bool) → length (when t (Chains i)) ≤ width_of first (get_or g.lefts i 0)
  width-most i h true = omega (arith, width-chains i h)
  width-most i h false = omega arith

  -- and its callers are cut from there
  callers-at : (i : ℕ) → i < g.count → (t : Bool)
      → take (length (when t (Chains i))) (drop (get_or first (get_or g.lefts i 0 - limits.nonterminal_base) 0) callers)
      ≡ map (λ cs. number_of limits G m (caller_of cs)) (when t (Chains i))
  unfolding segment
  callers-at i h true =
      ap (λ k. take k (drop (get_or first (get_or g.lefts i 0 - limits.nonterminal_base) 0) callers)) (sym (width-chains i h)) ∙ segment-chains i h
  callers-at i h false = refl

module _ (G : Grammar) (W : WellFormed limits G) (g : CheckedGrammar) (same : g ≡ record_of G) where
  -- what write_widths gives
  pub widths_are : (m n q : ℕ) (first callers : List ℕ) (some : Bool) (live old widths : List ℕ) → Cut G m n q first callers → Answers some live G
      → Filled old widths g.count (width_at g.lefts live first) → WidthsOf G (suc m) g.count widths
  widths_are m n q first callers some live old widths C A F i h =
      F.inside i h
      ∙ chains-width G W g same m n q first callers C live i h (is_live limits G (suc i)) (A.rules i (omega (arith, h, count_is G W g same)))

  -- what the level with m + 1 callers is written from, told by the automaton
  pub level_of : (m n q : ℕ) (first callers : List ℕ) (some : Bool) (live below old widths ranks : List ℕ) → Cut G m n q first callers
      → Answers some live G → Filled old widths g.count (width_at g.lefts live first) → WidthsOf G m g.count below → RanksOf G m ranks
      → LevelOf G m g.lefts g.lengths g.codes g.count q first callers below widths ranks
  level_of m n q first callers some live below old widths ranks C A F B R =
      let X = widths_are m n q first callers some live old widths C A F in
      record {
        rules_are = count_is G W g same;
        kinds_are = C.states;
        lengths_are = length_at G W g same;
        codes_are = codes_at G W g same;
        widths_are = X;
        callers_are = λ i h.
            ap (λ k. take k (drop (get_or first (get_or g.lefts i 0 - limits.nonterminal_base) 0) callers)) (X i h)
            ∙ callers-at G W g same m n q first callers C i h (is_live limits G (suc i));
        below_are = B;
        ranks_are = λ i h cs w. R.are i (omega (arith, h, count_is G W g same)) cs w;
        start-rank = R.start;
      }

  -- and by numbers, where both levels have room
  pub levelled : (m n q : ℕ) (first callers below widths ranks : List ℕ) → Cut G m n q first callers
      → WidthsOf G (suc m) g.count widths → RanksOf G m ranks → g.count ≤ length widths → g.count ≤ length below
      → start_of g.lengths widths g.count ≤ limits.max_states → start_of g.lengths below g.count ≤ limits.max_states
      → Levelled g.lefts g.lengths g.codes g.count q first callers below widths ranks
  levelled m n q first callers below widths ranks C X R wide deep room low =
      let columns = columns_are G W g same in
      record {
        kinds = C.few;
        count_few = columns.few;
        lefts-long = columns.left;
        lengths-long = columns.size;
        widths_long = wide;
        below-long = deep;
        segmented = cut_segmented G W g same m n q first callers C;
        callers_in = λ i h.
            let x = X i h in
            let y = width-most G W g same m n q first callers C i h (is_live limits G (suc i)) in
            omega (arith, x, y, segment-inside G W g same m n q first callers C i h);
        codes_in = codes-inside G W g same;
        short = λ i h.
            let k = W.lengths (rule limits G (suc i)) (rule-listed limits G (suc i) (is_rule G W g same i h)) in
            omega (arith, k, length_at G W g same i h);
        callers-small = λ k h. C.small k;
        callers-few = omega (arith, C.size);
        codes-few = codes_many G W g same;
        ranked = R.long;
        little = R.little;
        room = room;
        low-room = low;
      }
