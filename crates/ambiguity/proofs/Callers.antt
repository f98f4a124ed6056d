-- The automaton with m callers, without callers, and across m. Assumes nothing.
use Prim.Native.Nat.{ℕ, suc}
use mathlib.Core.Path.{◌≡◌, refl, sym, subst, ◌∙◌}
use mathlib.Core.List.{List}
use native.Mathlib.Omega.{arith}
use Rattle.grammar.specs.Limits.{limits}
use Rattle.grammar.specs.Grammar.{Grammar, WellFormed}
use Rattle.grammar.specs.Live.{HasSentence}
use Rattle.grammar.proofs.Answers.{done_inj}
use Rattle.grammar.proofs.WellFormed.{room}
use Rattle.automaton.specs.Position.{position}
use Rattle.automaton.specs.PositionMoves.{moves_of}
use Rattle.automaton.specs.Callers.{callers}
use Rattle.automaton.specs.CallerMoves.{moves_with}
use Rattle.automaton.specs.Strings.{Unambiguous}
use Rattle.triple_laws.proofs.Laws.{smallest_distinct, smallest-below, end-of, certificates_of, witnesses_of}
use Rattle.triple_laws.proofs.Numbers.{reached-listed}
use Rattle.triple_laws.proofs.Position.{position-listed, position-regular}
use Rattle.triple_laws.proofs.CallerZero.{zero-states, zero_number}
use Rattle.triple_laws.proofs.CallerPosition.{zero-opens, zero-closes, zero-shifts, zero-listed}
use Rattle.triple_laws.proofs.CallerChecks.{zero-check}
use Rattle.triples.proofs.Reached.{end-not-reached}
use Rattle.soundness.proofs.Callers.{certified-at}
use Rattle.parting.proofs.Position.{potential-reached}
use Rattle.parting.proofs.Callers.{keeps_verdict}
use Rattle.search.specs.Promise.{Lent, Searches}
use Rattle.search.specs.declared.SearchVerdict.{SearchVerdict}
use Rattle.search.specs.declared.SearchVerdict.TheVariants as search
use Rattle.ambiguity.specs.Entries.{StoresAt}
use Rattle.ambiguity.specs.Callers.{CallerTheorems, ZeroTheorems, AcrossTheorems}
use Rattle.ambiguity.proofs.Entries.{checked, regular, lists, parts}
use Rattle.ambiguity.proofs.States.{numbered}
use Rattle.ambiguity.proofs.StateOrder.{ordered}
use Rattle.ambiguity.proofs.Searches.{no_two, answered_with, search_theorems}

-- for each m
pub caller_theorems : (G : Grammar) → WellFormed limits G → HasSentence limits G → (m : ℕ) → CallerTheorems G m
caller_theorems G W s m =
    let M = moves_with limits G m in
    let R = regular G W s m in
    let N = lists G W s m in
    record {
      numbered = numbered G W m;
      ordered = ordered G W m;
      listed = N;
      regular = R;
      reached = reached-listed (callers limits G m) M R N;
      inside = smallest-below M R;
      once = smallest_distinct M R;
      meaning = λ bytes c. (
        λ p. end-not-reached (callers limits G m) c.acceptable ((parts G W m).0 p),
        certified-at limits G W (omega arith) m bytes c,
      );
    }

-- without callers: the two automata have the same lists, so their ends are reached alike and the checks accept the same
zero_theorems : (G : Grammar) → WellFormed limits G → ZeroTheorems G
zero_theorems G W =
    let M = moves_of limits G in
    let R = position-regular limits G W (omega arith) in
    let N = zero-listed limits G W (omega arith) in
    let P = position-listed limits G W (omega arith) in
    let a = end-of (callers limits G 0) M R N in
    let b = end-of (position limits G) M R P in
    let c = parts G W 0 in
    let d = potential-reached limits G W (omega arith) in
    record {
      count = zero-states limits G;
      opens = zero-opens limits G W (omega arith);
      closes = zero-closes limits G W (omega arith);
      shifts = zero-shifts limits G W (omega arith);
      number = zero_number limits G;
      parting = (λ p. d.1 (b.1 (a.0 (c.0 p))), λ p. c.1 (a.1 (b.0 (d.0 p))));
      certificates = λ bytes.
          let x = certificates_of (callers limits G 0) M R N bytes in
          let y = certificates_of (position limits G) M R P bytes in
          (λ k. y.0 (x.1 k), λ k. x.0 (y.1 k));
      witnesses = λ row.
          let x = witnesses_of (callers limits G 0) M R N row in
          let y = witnesses_of (position limits G) M R P row in
          (λ k. y.0 (x.1 k), λ k. x.0 (y.1 k));
    }

module _ (t n : ℕ) (table : List ℕ) where
  -- an unambiguous verdict of a search at m
  judged : (m : ℕ) (before : Lent) (r : SearchVerdict) (after : Lent) → Searches t n table m before r after
      → (k l : ℕ) → r ≡ search.Unambiguous k l → (G : Grammar) → StoresAt t n table (suc m) G → Unambiguous (callers limits G m)
  judged m before r after h k l q G s =
      let a = answered_with t n table m before r after h k l q in
      let e : a.0 ≡ G = done_inj (sym (checked t n table a.0 a.1.stores) ∙ checked t n table G s.stores) in
      let v = (search_theorems t n table m before r after h).enough a.0 a.1 a.2 in
      subst (λ (G : Grammar). Unambiguous (callers limits G m)) e (λ p. let w = v.potential.1 p in no_two (sym q ∙ w.2))

  pub across_theorems : AcrossTheorems t n table
  across_theorems = record {
    zero-check = zero-check limits room t n table;
    zero-moves = λ G. refl;
    zero = λ G s. zero_theorems G s.is_table.well_formed;
    keeps = λ G s m. keeps_verdict limits G s.is_table.well_formed (omega arith) m;
    kept = λ m before r after h k l q G s before' r' after' h' e.
        let u = keeps_verdict limits G s.stores.is_table.well_formed (omega arith) m (judged m before r after h k l q G s) in
        let v = (search_theorems t n table (suc m) before' r' after' h').enough G s e in
        (_, _, (v.otherwise u).verdict);
  }
