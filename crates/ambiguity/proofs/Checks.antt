-- What follows from the promises of the checks with m callers, of a row of indices, of records and of a certificate. Assumes nothing.
use Prim.Native.Nat.{ℕ}
use mathlib.Core.Path.{◌≡◌, refl, ap, sym, subst, ◌∙◌}
use mathlib.Core.List.{List, map}
use mathlib.Core.Logic.{◌↔◌}
use native.Mathlib.Omega.{arith}
use Rattle.grammar.specs.Limits.{limits}
use Rattle.grammar.specs.Grammar.{Grammar}
use Rattle.grammar.specs.Refusal.{Answer, done, refused, and_then}
use Rattle.grammar.proofs.Answers.{then-goes, then_stops}
use Rattle.grammar.proofs.WellFormed.{room}
use Rattle.grammar.specs.declared.Cause.{Cause}
use Rattle.automaton.specs.Automaton.{Automaton}
use Rattle.automaton.specs.Moves.{Regular, Lists}
use Rattle.automaton.specs.Position.{position}
use Rattle.automaton.specs.PositionMoves.{moves_of}
use Rattle.automaton.specs.Strings.{Potential}
use Rattle.automaton.specs.Callers.{callers, check_with}
use Rattle.automaton.specs.CallerMoves.{moves_with}
use Rattle.triples.specs.Successor.{Reached, origin, next}
use Rattle.triples.specs.Certificate.{AcceptableCertificate, check_bytes, check_certificate}
use Rattle.triples.specs.Witness.{LeadsOn, ends, goes, Witness, begins, entry_of, check_row, check_witness, check_witness_records}
use Rattle.triples.specs.Verdict.{check_verdict, WitnessAnswer, CertificateAnswer}
use Rattle.triples.specs.declared.CheckVerdict.{CheckVerdict}
use Rattle.triples.specs.declared.CheckVerdict.TheVariants as check
use Rattle.triples.proofs.Reached.{end-not-reached}
use Rattle.triple_laws.proofs.Laws.{witness_exactly, certificates_of, witnesses_of}
use Rattle.triple_laws.proofs.Position.{position-listed, position-regular}
use Rattle.triple_laws.proofs.CallerChecks.{zero-check}
use Rattle.parting.proofs.Former.{still_accepted}
use Rattle.soundness.proofs.Callers.{certified-at}
use Rattle.witness_records.specs.Records.{triples, RecordsAnswer}
use Rattle.witness_records.specs.declared.TripleRecord.{TripleRecord}
use Rattle.witness_records.proofs.Ranges.{entries_are, records_alike, records-inside}
use Rattle.ambiguity.proofs.Entries.{checked, checked-at, stops, regular, lists, parts}
use Rattle.ambiguity.specs.Entries.{Stores, StoresAt, StopsAt, states_at}
use Rattle.ambiguity.specs.FrontPage.{WitnessTheorems, RecordTheorems, CertificateTheorems}

-- a verdict is accepted exactly if the answer is done
accepted_done : (o : Answer Unit) → (check_verdict o ≡ check.Accepted) ↔ (o ≡ done tt)
accepted_done (done tt) = (λ e. refl, λ e. refl)
accepted_done (refused c p) = (
  λ e. let z : ◌≡◌ {A = ℕ} 0 1 = cc in absurd (let o : ⊥ = omega arith in o),
  λ e. let z : ◌≡◌ {A = ℕ} 0 1 = cc in absurd (let o : ⊥ = omega arith in o),
)

-- what leads on from a reached triple reaches the end
leads_reached : (A : Automaton) {f : ℕ} {p q : A.State} {row : List ℕ} → Reached A f p q → LeadsOn A f p q row → Reached A 1 A.last A.last
leads_reached A r ends = r
leads_reached A r (goes s e l) = leads_reached A (next r s) l

witness_reached : (A : Automaton) {row : List ℕ} → Witness A row → Reached A 1 A.last A.last
witness_reached A (begins e l) = leads_reached A origin l

-- the checks with m callers
module _ (t n : ℕ) (table : List ℕ) (m : ℕ) where
  -- the refusals up to 8 come first in a check that begins with them
  stops_first : (go : Grammar → Answer Unit) (v : CheckVerdict) → v ≡ check_verdict (and_then (check_with limits t n table m) go)
      → (cause : Cause) (at : ℕ) → StopsAt t n table m cause at → v ≡ check.Refused cause at
  stops_first go v h cause at e = h ∙ ap check_verdict (then_stops (check_with limits t n table m) go cause at (stops t n table m e))

  -- and otherwise it accepts exactly if what follows is done
  then_accepted : (go : Grammar → Answer Unit) (v : CheckVerdict) → v ≡ check_verdict (and_then (check_with limits t n table m) go)
      → (G : Grammar) → StoresAt t n table m G → (v ≡ check.Accepted) ↔ (go G ≡ done tt)
  then_accepted go v h G s =
      let e = then-goes (check_with limits t n table m) go G (checked-at t n table m G s) in
      let a = accepted_done (go G) in
      let w : v ≡ check_verdict (go G) = h ∙ ap check_verdict e in
      (λ x. a.0 (sym w ∙ x), λ x. w ∙ a.1 x)

  -- the automaton's moves are the lists, and regular
  R : (G : Grammar) → StoresAt t n table m G → Regular (moves_with limits G m)
  R G s = regular G s.stores.is_table.well_formed s.stores.sentence m

  N : (G : Grammar) → StoresAt t n table m G → Lists (callers limits G m) (moves_with limits G m)
  N G s = lists G s.stores.is_table.well_formed s.stores.sentence m

  -- two strings part where there is a witness
  witnessed : (G : Grammar) → StoresAt t n table m G → (row : List ℕ) → Witness (callers limits G m) row → Potential (callers limits G m)
  witnessed G s row w = (parts G s.stores.is_table.well_formed m).1 (witness_reached (callers limits G m) w)

  module _ (row : List ℕ) (v : CheckVerdict) (h : WitnessAnswer t n table m row v) where
    accepts_witness : (G : Grammar) → StoresAt t n table m G → (v ≡ check.Accepted) ↔ Witness (callers limits G m) row
    unfolding check_witness
    accepts_witness G s =
        let a = then_accepted (λ G. check_row (moves_with limits G m) row) v h G s in
        let b = witnesses_of (callers limits G m) (moves_with limits G m) (R G s) (N G s) row in
        (λ x. b.0 (a.0 x), λ x. a.1 (b.1 x))

    pub witness_theorems : WitnessTheorems t n table m row v
    unfolding check_witness
    witness_theorems = record {
      refused = stops_first (λ G. check_row (moves_with limits G m) row) v h;
      accepted = accepts_witness;
      potential = λ G s x. witnessed G s row ((accepts_witness G s).0 x);
    }

  module _ (entries : List TripleRecord) (v : CheckVerdict) (h : RecordsAnswer t n table m entries v) where
    -- the row of their entries
    abbrev row_of : Grammar → List ℕ
    row_of G = map (entry_of (states_at G m)) (triples entries)

    -- accepted exactly if that row is a witness
    accepts_entries : (G : Grammar) → StoresAt t n table m G → (v ≡ check.Accepted) ↔ Witness (callers limits G m) (row_of G)
    unfolding check_witness_records
    accepts_entries G s =
        let a = then_accepted (λ G. check_row (moves_with limits G m) (row_of G)) v h G s in
        let b = witnesses_of (callers limits G m) (moves_with limits G m) (R G s) (N G s) (row_of G) in
        (λ x. b.0 (a.0 x), λ x. a.1 (b.1 x))

    pub record_theorems : RecordTheorems t n table m entries v
    unfolding check_witness_records
    record_theorems = record {
      refused = stops_first (λ G. check_row (moves_with limits G m) (row_of G)) v h;
      alike = λ G s r w k. h ∙ ap check_verdict (records_alike t n table m G entries (checked-at t n table m G s) r) ∙ sym k;
      accepted = λ G s. let a = then_accepted (λ G. check_row (moves_with limits G m) (row_of G)) v h G s in
          let b = accepts_entries G s in (
            λ x. let r = records-inside (moves_with limits G m) (R G s) entries ((witness_exactly (moves_with limits G m) (R G s) (row_of G)).0 (a.0 x)) in
                (r, subst (Witness (callers limits G m)) (entries_are (states_at G m) entries r) (b.0 x)),
            λ (r, w). b.1 (subst (Witness (callers limits G m)) (sym (entries_are (states_at G m) entries r)) w),
          );
      potential = λ G s x. witnessed G s (row_of G) ((accepts_entries G s).0 x);
    }

  module _ (bytes : List ℕ) (v : CheckVerdict) (h : CertificateAnswer t n table m bytes v) where
    accepts_certificate : (G : Grammar) → StoresAt t n table m G → (v ≡ check.Accepted) ↔ AcceptableCertificate (callers limits G m) bytes
    unfolding check_certificate
    accepts_certificate G s =
        let a = then_accepted (λ G. check_bytes (moves_with limits G m) bytes) v h G s in
        let b = certificates_of (callers limits G m) (moves_with limits G m) (R G s) (N G s) bytes in
        (λ x. b.0 (a.0 x), λ x. a.1 (b.1 x))

    -- without callers the lists are those of the position automaton too
    accepts_former : m ≡ 0 → (G : Grammar) → Stores t n table G → AcceptableCertificate (position limits G) bytes → v ≡ check.Accepted
    unfolding check_certificate
    accepts_former z G s c =
        let W = s.is_table.well_formed in
        h
        ∙ ap (λ (m : ℕ). check_verdict (check_certificate limits t n table m bytes)) z
        ∙ ap check_verdict (then-goes (check_with limits t n table 0) (λ G. check_bytes (moves_of limits G) bytes) G (zero-check limits room t n table ∙ checked t n table G s)
        ∙ (certificates_of (position limits G) (moves_of limits G) (position-regular limits G W (omega arith)) (position-listed limits G W (omega arith)) bytes).1 c)

    pub certificate_theorems : CertificateTheorems t n table m bytes v
    unfolding check_certificate
    certificate_theorems = record {
      refused = stops_first (λ G. check_bytes (moves_with limits G m) bytes) v h;
      accepted = accepts_certificate;
      one-tree = λ G s x. certified-at limits G s.stores.is_table.well_formed (omega arith) m bytes ((accepts_certificate G s).0 x);
      unambiguous = λ G s x p. end-not-reached (callers limits G m) ((accepts_certificate G s).0 x).acceptable
          ((parts G s.stores.is_table.well_formed m).0 p);
      former = λ z G s c. accepts_former z G s (still_accepted limits G bytes c);
    }
