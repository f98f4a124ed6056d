-- What is built for a record is prepared for the grammar that it stands for, and for the table of that grammar. Assumes nothing.
use Prim.Native.Nat.{ℕ, zero, suc, ◌+◌, ◌≤◌, ◌<◌}
use mathlib.Core.Path.{◌≡◌, refl, sym, ap, ap₂, subst, subst₂, ◌∙◌}
use mathlib.Core.Bool.{true}
use mathlib.Core.List.{List}
use native.Mathlib.Omega.{arith}
use lib.ListN.{length}
use Rattle.grammar.specs.Limits.{limits}
use Rattle.grammar.specs.Grammar.{Grammar, WellFormed}
use Rattle.grammar.specs.Live.{is_live}
use Rattle.grammar.specs.Refusal.{Answer, done, refused, too_many_states}
use Rattle.grammar.specs.TableCheck.{check_table}
use Rattle.grammar.specs.declared.CheckedGrammar.{CheckedGrammar}
use Rattle.grammar.specs.declared.TableVerdict.TheVariants.{Passed, Refused}
use Rattle.grammar.proofs.Sentence.{passed-stored}
use Rattle.grammar.specs.declared.Cause.{Cause}
use Rattle.automaton.specs.Moves.{Moves}
use Rattle.automaton.specs.PositionMoves.{moves_of}
use Rattle.automaton.specs.Callers.{most_callers, check_callers}
use Rattle.automaton.specs.CallerMoves.{moves_at, moves_with}
use Rattle.triple_laws.proofs.Position.{position-regular}
use Rattle.triple_laws.proofs.CallerPosition.{with_regular}
use Rattle.triple_laws.proofs.CallerZero.{zero-states}
use Rattle.triple_laws.proofs.CallerChecks.{many_states, within, table_stops, table-goes}
use Rattle.live.proofs.ColumnLaws.{lent_of}
use Rattle.table_check.proofs.Callers.{PassedTable}
use Rattle.moves.specs.Tables.{Tables, Built}
use Rattle.moves.specs.Shows.{Shows}
use Rattle.moves.proofs.Columns.{read}
use Rattle.moves.proofs.Shows.{built_shows}
use Rattle.caller_rows.specs.Rows.{Begun, BuiltWith}
use Rattle.caller_rows.specs.declared.Built as callers
use Rattle.prepared.specs.Prepared.{Sized, IsChecked, PreparesFor, Prepares}
use Rattle.prepared.specs.declared.Prepared.{Prepared}

-- a verdict is one of two, and tells its cause and position
no_pass : {A : Type 0} {cause : Cause} {at : ℕ} → Refused cause at ≡ Passed → A
no_pass e = let z : ◌≡◌ {A = ℕ} 0 1 = cc in absurd (let o : ⊥ = omega arith in o)

same_refusal : {A : Type 0} (cause : Cause) (at : ℕ) (d : Cause) (q : ℕ) → Refused cause at ≡ Refused d q → ◌≡◌ {A = Answer A} (refused cause at) (refused d q)
same_refusal cause at d q e = let x : cause ≡ d = cc in let y : at ≡ q = cc in ap₂ (λ c p. refused c p) x y

four_states : (w : Prepared) → w.states ≡ 4 → Sized w.states
four_states w h = record { least = omega (arith, h); most = omega (arith, h) }

-- 21 or 8
pub stopped_for : (G : Grammar) (m : ℕ) (w : Prepared) (rows : Tables) (cause : Cause) (at : ℕ) → check_callers limits G m ≡ refused cause at
    → (w.verdict ≡ Refused cause at) × (w.states ≡ 4) → PreparesFor G m w rows
stopped_for G m w rows cause at c h = record {
  sized = four_states w h.1;
  refused_as = λ d q e. c ∙ same_refusal cause at d q (sym h.0 ∙ e);
  passed_as = λ e. no_pass (sym h.0 ∙ e);
}

-- the table's refusal
pub stopped_by : (t n : ℕ) (table : List ℕ) (m : ℕ) (w : Prepared) (rows : Tables) (cause : Cause) (at : ℕ) → check_table limits t n table ≡ refused cause at
    → (w.verdict ≡ Refused cause at) × (w.states ≡ 4) → Prepares t n table m w rows
stopped_by t n table m w rows cause at c h = record {
  sized = four_states w h.1;
  refused_as = λ d q e. table_stops limits t n table m cause at c ∙ same_refusal cause at d q (sym h.0 ∙ e);
  passed_as = λ e. no_pass (sym h.0 ∙ e);
}

-- what is prepared for the grammar of a table is prepared for the table
pub prepares_of : (t n : ℕ) (table : List ℕ) (m : ℕ) (w : Prepared) (rows : Tables) (G : Grammar) → check_table limits t n table ≡ done G
    → PreparesFor G m w rows → Prepares t n table m w rows
prepares_of t n table m w rows G c p = record {
  sized = p.sized;
  refused_as = λ d q e. table-goes limits t n table m G c ∙ p.refused_as d q e;
  passed_as = λ e. (G, table-goes limits t n table m G c ∙ (p.passed_as e).0, (p.passed_as e).1);
}

-- the record of a table that passed
pub checked-of : (t n : ℕ) (table : List ℕ) (g : CheckedGrammar) (p : PassedTable t n table g)
    → IsChecked p.grammar g.terminals g.nonterminals g.states g.count g.used g.lefts g.lengths g.codes
unfolding is_live
checked-of t n table g p = record {
  columns = lent_of g p.grammar p.well_formed p.same;
  terminals = (read g p.grammar p.same).terminals;
  sentence = (passed-stored limits t n table p.grammar p.checked).1;
}

module _ (G : Grammar) (t n q count used : ℕ) (lefts lengths codes : List ℕ) (k : IsChecked G t n q count used lefts lengths codes) where
  -- the rows of crate moves are what the callers are added to
  pub begun-of : (old new : Tables) → Built G old new → Begun G n q count used lefts lengths codes new.ahead
  begun-of old new b = record { columns = k.columns; sentence = k.sentence; old = old.ahead; items = b.ahead }

  -- and without callers they are those of the automaton
  pub without : (m : ℕ) → m ≡ 0 → (w : Prepared) (old new : Tables) → Built G old new → w.verdict ≡ Passed → w.terminals ≡ t
      → w.kinds ≡ n + 1 → w.states ≡ q → length new.targets ≡ limits.max_states → PreparesFor G m w new
  without m z w old new b v e f h long =
      let W = k.columns.well_formed in
      let r = read _ G k.columns.same in
      let R = position-regular limits G W (omega arith) in
      let size : w.states ≡ (moves_of limits G).states = h ∙ r.total in
      let p : PreparesFor G 0 w new = record {
        sized = record { least = omega (arith, size, R.four); most = omega (arith, size, W.size) };
        refused_as = λ d p e. no_pass (sym e ∙ v);
        passed_as = λ _. (
          within limits G 0 (omega arith) (omega (arith, zero-states limits G, W.size)),
          record {
            regular = R;
            size = size;
            shows = subst₂ (λ (t n : ℕ). Shows (moves_of limits G) t n new) (sym (e ∙ k.terminals)) (sym (f ∙ ap (λ n. n + 1) r.nonterminals))
                (built_shows G W old new b);
            long = long;
          },
        );
      } in
      subst (λ (m : ℕ). PreparesFor G m w new) (sym z) p

-- with callers the lists are those of the states with callers
some-callers : (G : Grammar) (m : ℕ) → 1 ≤ m → moves_at limits G m ≡ moves_with limits G m
some-callers G zero h = absurd (omega arith)
some-callers G (suc m) h = refl

module _ (G : Grammar) (W : WellFormed limits G) (sentence : is_live limits G 0 ≡ true) (m : ℕ) (some : 1 ≤ m) (few : m ≤ most_callers) (b : callers.Built)
    (rows : Tables) (built : BuiltWith G m b rows) where
  -- too many states
  pub too_many : limits.max_states < b.states → check_callers limits G m ≡ refused too_many_states 0
  too_many h = many_states limits G m few (built.many h)

  -- or rows that show the moves
  pub with_callers : (w : Prepared) → b.states ≤ limits.max_states → w.verdict ≡ Passed → w.terminals ≡ G.terminals
      → w.kinds ≡ b.kinds → w.states ≡ b.states → PreparesFor G m w rows
  with_callers w h v t n q =
      let f = built.fits h in
      let e = some-callers G m some in
      let R = with_regular limits G W (omega arith) sentence m in
      let size : w.states ≡ (moves_with limits G m).states = q ∙ f.0 ∙ ap (λ (M : Moves). M.states) e in
      record {
        sized = record { least = omega (arith, size, R.four); most = omega (arith, q, h) };
        refused_as = λ d p e. no_pass (sym e ∙ v);
        passed_as = λ _. (
          within limits G m few (omega (arith, f.0, h)),
          record {
            regular = R;
            size = size;
            shows = subst₂ (λ (t n : ℕ). Shows (moves_with limits G m) t n rows) (sym t) (sym n)
                (subst (λ (M : Moves). Shows M G.terminals b.kinds rows) e f.1);
            long = f.2;
          },
        );
      }
