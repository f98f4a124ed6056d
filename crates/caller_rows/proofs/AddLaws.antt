-- A level is added to the one below it: what the calls of add_level ask of one another, and that the next level stands as this one
-- did. Assumes nothing.
use Prim.Native.Nat.{ℕ, suc, ◌+◌, ◌≤◌, ◌<◌}
use mathlib.Core.Path.{◌≡◌, subst, ◌∙◌}
use mathlib.Core.List.{List}
use native.Mathlib.Omega.{arith}
use lib.ListN.{length, get_or, take, replicate, get_or-replicate}
use Rattle.grammar.specs.Limits.{limits}
use Rattle.grammar.specs.Grammar.{Grammar, WellFormed}
use Rattle.grammar.specs.Record.{IsRecord}
use Rattle.grammar.specs.declared.CheckedGrammar.{CheckedGrammar}
use Rattle.automaton.specs.Callers.{spots}
use Rattle.moves.specs.Tables.{Sorted}
use Rattle.moves.proofs.Columns.{read}
use Rattle.live.proofs.ColumnLaws.{held}
use Rattle.caller_rows.specs.Clauses.{Filled, Under, RanksPassed, Segments, key_at, start_of}
use Rattle.caller_rule.specs.RuleRows.{Six}
use Rattle.caller_rows.specs.LevelRows.{Levelled, LevelWritten}
use Rattle.caller_rows.specs.Levels.{LevelOf, Says, WidthsOf, Cut, Sizable, Sized, Level}
use Rattle.caller_rows.proofs.PlaceLaws.{zeros}
use Rattle.caller_rows.proofs.KeyLaws.{Keyed, keyed, cut}
use Rattle.caller_rows.proofs.LevelLaws.{cut_segments, widths_are, length_at, level_of, levelled, below-zero}
use Rattle.caller_rows.proofs.PassLaws.{ranks_zero, down-under, ranks_next}
use Rattle.caller_rows.proofs.Entries.{level_states, level_says}

-- 0 is a state
pub some-state : (G : Grammar) (m q : ℕ) → q ≡ length (spots limits G m) → 1 ≤ q
unfolding spots
some-state G m q e = omega (arith, e)

-- ---- the states of a level, sorted

module _ (G : Grammar) (m : ℕ) (g : CheckedGrammar) (live : List ℕ) (q : ℕ) (ahead : List ℕ) (S : Sizable G m g live q ahead) where
  pub record_of_lem : IsRecord g
  record_of_lem = record { grammar = G; well_formed = S.well_formed; same = S.same }

  -- by their keys
  pub keys_of : (old keys : List ℕ) → q ≤ length old → Filled old keys q (key_at ahead g.nonterminals) → Keyed G m g.nonterminals q keys
  keys_of old keys h F =
      keyed G S.well_formed m g.nonterminals q ahead old keys (read g G S.same).nonterminals S.states S.few h S.codes F

  pub cut_of : (keys old first callers : List ℕ) (n : ℕ) → Keyed G m g.nonterminals q keys → n ≡ g.nonterminals → Sorted (take q keys) (n + 2) old first callers
      → g.nonterminals + 2 < length first → length old ≡ limits.max_states → ((k : ℕ) → get_or old k 0 < limits.max_states) → Cut G m g.nonterminals q first callers
  cut_of keys old first callers n K e T long size small =
      cut G S.well_formed m g.nonterminals q keys old first callers K (subst (λ (n : ℕ). Sorted (take q keys) (n + 2) old first callers) e T) long size small

-- ---- the next level

module _ (G : Grammar) (m : ℕ) (g : CheckedGrammar) (live : List ℕ) (q : ℕ) (ahead below ranks : List ℕ) (L : Level G m g live q ahead below ranks)
    (first callers old widths : List ℕ) (states : ℕ) (Z : Sized G m g.nonterminals g.count g.lefts g.lengths live q first callers old widths states) where
  abbrev W : WellFormed limits G
  W = L.sizable.well_formed

  chains_are : WidthsOf G (suc m) g.count widths
  chains_are = widths_are G W g L.sizable.same m g.nonterminals q first callers L.sizable.some live old widths Z.cut L.sizable.lives Z.filled

  -- what it is written from
  pub written_from_lem : LevelOf G m g.lefts g.lengths g.codes g.count q first callers below widths ranks
  written_from_lem =
      level_of G W g L.sizable.same m g.nonterminals q first callers L.sizable.some live below old widths ranks Z.cut L.sizable.lives Z.filled
      L.widths L.ranked

  -- where rows have its widths, its states are counted by them
  states-by : (row : List ℕ) → WidthsOf G (suc m) g.count row → start_of g.lengths row g.count ≡ length (spots limits G (suc m))
  states-by row X = level_states G L.sizable.sentence (suc m) g.count g.lengths row written_from_lem.rules_are written_from_lem.lengths_are X

  pub counted : states ≡ length (spots limits G (suc m))
  counted = Z.total ∙ states-by widths chains_are

  -- if these are not too many, it can be written
  pub ready : states ≤ limits.max_states → g.count ≤ length widths → g.count ≤ length below
      → Levelled g.lefts g.lengths g.codes g.count q first callers below widths ranks
  ready h wide deep =
      levelled G W g L.sizable.same m g.nonterminals q first callers below widths ranks Z.cut chains_are L.ranked wide deep (omega (arith, h, Z.total)) L.room

  -- and then
  module _ (before after : Six) (X : LevelWritten g.lefts g.lengths g.codes q first callers below widths ranks g.count before after) where
    pub said : Says G m after
    said = level_says G W L.sizable.sentence m g.lefts g.lengths g.codes g.count q first callers below widths ranks before after written_from_lem X

    -- what the ranks are written from
    pub segments : Segments first callers (g.nonterminals + 1)
    segments = cut_segments G W m g.nonterminals q first callers Z.cut

    pub down-small : Under after.down states limits.max_states
    down-small = down-under G W m states after counted (subst (λ (q : ℕ). q ≤ limits.max_states) L.sizable.states L.sizable.few) said

    -- the next level stands
    pub next_level : (below' ranks' : List ℕ) → states ≤ limits.max_states → RanksPassed first callers (g.nonterminals + 1) after.down states ranks ranks'
        → Filled below below' g.count (λ i. get_or widths i 0) → Level G (suc m) g live states after.ahead below' ranks'
    next_level below' ranks' h R F =
        let wide : WidthsOf G (suc m) g.count below' = λ i l. F.inside i l ∙ chains_are i l in
        record {
          sizable = record {
            well_formed = W;
            same = L.sizable.same;
            sentence = L.sizable.sentence;
            some = L.sizable.some;
            lives = L.sizable.lives;
            states = counted;
            few = h;
            codes = said.ahead;
          };
          widths = wide;
          ranked =
              ranks_next G W m g.nonterminals q states first callers (replicate limits.max_states 0) R.below ranks ranks' after Z.cut
              (λ c. let z = zeros limits.max_states c in omega (arith, z)) R.written said counted L.ranked.long L.ranked.little R.passed;
          room = omega (arith, states-by below' wide, counted, h);
        }

-- ---- from the items up

-- no callers: each rule has one chain, and its rank is 0
pub level_zero : (G : Grammar) (g : CheckedGrammar) (live : List ℕ) (q : ℕ) (ahead : List ℕ) → Sizable G 0 g live q ahead → g.count ≤ limits.max_rules
    → Level G 0 g live q ahead (replicate limits.max_rules 1) (replicate limits.max_states 0)
level_zero G g live q ahead S few =
    let wide = below-zero G S.well_formed g S.same (replicate limits.max_rules 1) (λ i h. get_or-replicate limits.max_rules i 1 0 (omega (arith, h, few))) in
    record {
      sizable = S;
      widths = wide;
      ranked = ranks_zero G S.well_formed;
      room =
          omega (
            arith,
            level_states G S.sentence 0 g.count g.lengths (replicate limits.max_rules 1) (held g G S.same).count
                (λ i h. length_at G S.well_formed g S.same i h) wide,
            S.states,
            S.few,
          );
    }
