-- What follows from the promise of the search. Assumes nothing.
use Prim.Native.Nat.{ℕ, ◌≤◌}
use mathlib.Core.Path.{◌≡◌, refl, ap, sym, subst, ◌∙◌}
use mathlib.Core.Bool.{Bool, true, false}
use mathlib.Core.List.{List}
use mathlib.Core.Logic.{inl, inr}
use native.Mathlib.Omega.{arith}
use lib.ListN.{length, take, drop}
use lib.Seq.{take-append_seam}
use Rattle.grammar.specs.Basics.{over}
use Rattle.grammar.specs.Limits.{limits}
use Rattle.grammar.specs.Grammar.{Grammar, WellFormed}
use Rattle.grammar.specs.Refusal.{Answer, done, refused, refuse_unless, buffer_too_short}
use Rattle.grammar.proofs.Answers.{done_inj, unless_holds, unless_fails, unless_done, then-done, then-goes, then_stops}
use Rattle.grammar.specs.declared.Cause.{Cause}
use Rattle.automaton.specs.Automaton.{Automaton}
use Rattle.automaton.specs.Moves.{Moves, Regular, Lists}
use Rattle.automaton.specs.Callers.{callers, check_with}
use Rattle.automaton.specs.CallerMoves.{moves_with}
use Rattle.triples.specs.Index.{index, triple_count}
use Rattle.triples.specs.Smallest.{smallest, size}
use Rattle.triples.specs.Certificate.{byte_count, SmallestCertificate, check_bytes, check_certificate}
use Rattle.triples.specs.Witness.{check_row, check_witness}
use Rattle.triples.specs.Shortest.{ShortestWitness, shortest}
use Rattle.triples.specs.Looked.{looked_at, looked_limit}
use Rattle.triples.specs.Verdict.{check_verdict, WitnessAnswer}
use Rattle.triples.specs.declared.CheckVerdict.{CheckVerdict}
use Rattle.triples.specs.declared.CheckVerdict.TheVariants as check
use Rattle.triple_laws.proofs.Explore.{is_element_lem}
use Rattle.triple_laws.proofs.CertificateOf.{bytes-length}
use Rattle.triple_laws.proofs.Laws.{certificates_of, witnesses_of, lacks-of}
use Rattle.figures.proofs.ShortestLaws.{shortest-of, one-shortest}
use Rattle.figures.proofs.Callers.{with_limit}
use Rattle.figures.specs.Choice.{Choice}
use Rattle.soundness.proofs.Callers.{certified-at}
use Rattle.search.specs.Promise as promise
use Rattle.search.specs.Promise.{Lent, is_potential, is_enough, searchable, Told, Answers, Searches}
use Rattle.search.specs.declared.SearchVerdict.{SearchVerdict}
use Rattle.search.specs.declared.SearchVerdict.TheVariants as search
use Rattle.ambiguity.specs.Entries.{StoresAt, states_at}
use Rattle.ambiguity.specs.Searches.{ListsChoices, Certifies, VerdictTheorems, SearchTheorems}
use Rattle.ambiguity.proofs.Entries.{checked-at, stores_at, stops, zero-live, regular, lists, parts}
use Rattle.ambiguity.proofs.Held.{bytes_of, parting, not_parting, small, held_least, held-reached, held_list, held_number}
use Rattle.ambiguity.proofs.Choices.{choices-listed, choices-counted}

-- what is written over the front of a row
front_of : (front old : List ℕ) (k : ℕ) → length front ≡ k → take k (over front old) ≡ front
unfolding over
front_of front old k e = ap (λ (n : ℕ). take n (over front old)) (sym e) ∙ take-append_seam front (drop (length front) old)

-- the verdicts are apart
pub no_two : {A : Type 0} {n m k l : ℕ} → search.Unambiguous n m ≡ search.Potential k l → A
no_two e = let z : ◌≡◌ {A = ℕ} 0 1 = cc in absurd (let o : ⊥ = omega arith in o)

no_refusal : {A : Type 0} {cause : Cause} {at k l : ℕ} → search.Refused cause at ≡ search.Potential k l → A
no_refusal e = let z : ◌≡◌ {A = ℕ} 0 1 = cc in absurd (let o : ⊥ = omega arith in o)

no_certificate : {A : Type 0} {cause : Cause} {at k l : ℕ} → search.Refused cause at ≡ search.Unambiguous k l → A
no_certificate e = let z : ◌≡◌ {A = ℕ} 0 1 = cc in absurd (let o : ⊥ = omega arith in o)

-- and tell their numbers
same-potential : {n m k l : ℕ} → search.Potential n m ≡ search.Potential k l → (n ≡ k) × (m ≡ l)
same-potential e = (cc, cc)

same-unambiguous : {n m k l : ℕ} → search.Unambiguous n m ≡ search.Unambiguous k l → (n ≡ k) × (m ≡ l)
same-unambiguous e = (cc, cc)

module _ (t n : ℕ) (table : List ℕ) (m : ℕ) where
  module _ (G : Grammar) (s : StoresAt t n table m G) where
    -- the automaton with m callers and its moves as lists, which are regular
    abbrev A : Automaton
    A = callers limits G m

    abbrev M : Moves
    M = moves_with limits G m

    W : WellFormed limits G
    W = s.stores.is_table.well_formed

    R : Regular M
    R = regular G W s.stores.sentence m

    N : Lists A M
    N = lists G W s.stores.sentence m

    -- unambiguous with the certificate of the smallest set
    certifies : (r : SearchVerdict) → is_potential M ≡ false → r ≡ search.Unambiguous (size M) (looked_at M) → Certifies t n table m G r (bytes_of M)
    unfolding check_certificate
    certifies r e c =
        let k : SmallestCertificate A (bytes_of M) = small A M R N e in
        record {
          verdict = c;
          smallest = k;
          accepted = λ v h. h ∙ ap check_verdict (then-goes (check_with limits t n table m) (λ G'. check_bytes (moves_with limits G' m) (bytes_of M)) G (checked-at t n table m G s)
              ∙ (certificates_of A M R N (bytes_of M)).1 k.acceptable);
          reached = held-reached A M R N k;
          least_closed = held_least A M R N;
          listed = (smallest M, held_list A M R N k);
          number = λ l d. c ∙ ap (λ (n : ℕ). search.Unambiguous n (looked_at M)) (sym (held_number A M R N k l d));
        }

    module _ (before : Lent) (r : SearchVerdict) (after : Lent) where
      -- it stands in the front of what was lent
      certified : is_potential M ≡ false → promise.Certified M before r after → Certifies t n table m G r (take (byte_count (states_at G m)) after.certificate)
      unfolding bytes_of
      certified e c =
          subst (Certifies t n table m G r)
          (sym (ap (take (byte_count (states_at G m))) c.certificate
          ∙ front_of (bytes_of M) before.certificate (byte_count (states_at G m)) (bytes-length (smallest M) 0 (byte_count (states_at G m)))))
          (certifies r e c.verdict)

      -- what was looked at is within its limit
      within : (l : ℕ) → l ≡ looked_at M → (l ≡ looked_at M) × (l ≤ looked_limit M)
      within l e = (e, subst (λ (n : ℕ). n ≤ looked_limit M) (sym e) (with_limit limits G W (omega arith) (zero-live G W s.stores.sentence) m))

      -- and is the number of choices
      counted : (l : List Choice) → ListsChoices G m l → looked_at M ≡ length l
      counted = choices-counted G m R N

      verdict_theorems : (b : Bool) → is_potential M ≡ b → Told b M before r after → VerdictTheorems t n table m G r (take (byte_count (states_at G m)) after.certificate)
      verdict_theorems true e w =
          let p = parting A M R N (parts G W m) e in
          let k : (k l : ℕ) × (r ≡ search.Potential k l) = (length (shortest M), looked_at M, w.verdict) in
          record {
            potential = (λ q. p, λ q. k);
            otherwise = λ u. absurd (u p);
            one_of_two = inl k;
            certificates = λ l a. absurd (lacks-of A M R N l a ((is_element_lem (index (states_at G m) 1 1 1) (smallest M)).0 e));
            looked = λ n l q. elim q [
              | inl a ↦ no_two (sym a ∙ w.verdict)
              | inr a ↦ within l (same-potential (sym a ∙ w.verdict)).1
            ];
            choices = (_, choices-listed G m R N);
            looked_number = λ n k q l h. elim q [
              | inl a ↦ no_two (sym a ∙ w.verdict)
              | inr a ↦ (same-potential (sym a ∙ w.verdict)).1 ∙ counted l h
            ];
            one-tree = λ n l q. no_two (sym q ∙ w.verdict);
          }
      verdict_theorems false e c =
          let k = certified e c in
          let u = not_parting A M R N (parts G W m) e in
          record {
            potential = (λ (n, l, q). no_two (sym c.verdict ∙ q), λ q. absurd (u q));
            otherwise = λ u. k;
            one_of_two = inr k;
            certificates = λ l a. k;
            looked = λ n l q. elim q [
              | inl a ↦ within l (same-unambiguous (sym a ∙ c.verdict)).1
              | inr a ↦ no_two (sym c.verdict ∙ a)
            ];
            choices = (_, choices-listed G m R N);
            looked_number = λ n k q l h. elim q [
              | inl a ↦ (same-unambiguous (sym a ∙ c.verdict)).1 ∙ counted l h
              | inr a ↦ no_two (sym c.verdict ∙ a)
            ];
            one-tree = λ n l q. certified-at limits G W (omega arith) m _ k.smallest.acceptable;
          }

  module _ (before : Lent) (r : SearchVerdict) (after : Lent) (h : Searches t n table m before r after) where
    -- the promise, by what the refusals up to 8 and the test of the rows give
    answers_as : (o : Answer Grammar) → searchable limits t n table m before ≡ o → Answers limits m o before r after
    answers_as o e = subst (λ (o : Answer Grammar). Answers limits m o before r after) e h

    -- what follows the refusals up to 8
    abbrev go_on : Grammar → Answer Grammar
    go_on G = refuse_unless buffer_too_short 0 (is_enough (states_at G m) before) (done G)

    -- potential: the row written is the shortest witness
    abbrev Shortest : Grammar → ℕ → Type 0
    Shortest G k = ShortestWitness (callers limits G m) (take k after.witness) × (k ≤ triple_count (states_at G m))

    written : (G : Grammar) → StoresAt t n table m G → (b : Bool) → is_potential (moves_with limits G m) ≡ b → Told b (moves_with limits G m) before r after
        → (k l : ℕ) → r ≡ search.Potential k l → Shortest G k
    written G s true e y k l q =
        let row = shortest (moves_with limits G m) in
        let z : length row ≡ k = (same-potential (sym y.verdict ∙ q)).0 in
        let f : take k after.witness ≡ row = ap (take k) y.witness ∙ front_of row before.witness k z in
        let w = shortest-of (callers limits G m) (moves_with limits G m) (R G s) (N G s) ((is_element_lem (index (states_at G m) 1 1 1) (smallest (moves_with limits G m))).0 e) in
        (subst (ShortestWitness (callers limits G m)) (sym f) w.0, subst (λ (j : ℕ). j ≤ triple_count (states_at G m)) z w.1)
    written G s false e y k l q = no_two (sym y.verdict ∙ q)

    -- the grammar that is searched passes
    passed : (G : Grammar) → searchable limits t n table m before ≡ done G → check_with limits t n table m ≡ done G
    unfolding searchable
    passed G e =
        let x = then-done (check_with limits t n table m) go_on G e in
        x.1 ∙ (unless_done buffer_too_short 0 (is_enough (states_at x.0 m) before) (done x.0) G x.2).1

    row_written : (G : Grammar) → searchable limits t n table m before ≡ done G → Answers limits m (done G) before r after
        → (k l : ℕ) → r ≡ search.Potential k l → Shortest G k
    row_written G e a k l q = written G (stores_at t n table m G (passed G e)) (is_potential (moves_with limits G m)) refl a k l q

    -- the witness check accepts it
    witness_accepted : (o : Answer Grammar) → searchable limits t n table m before ≡ o → Answers limits m o before r after
        → (k l : ℕ) → r ≡ search.Potential k l → (v : CheckVerdict) → WitnessAnswer t n table m (take k after.witness) v → v ≡ check.Accepted
    unfolding check_witness
    witness_accepted (refused cause at) e a k l q v w = no_refusal (sym a.0 ∙ q)
    witness_accepted (done G) e a k l q v w =
        let s = stores_at t n table m G (passed G e) in
        w ∙ ap check_verdict (then-goes (check_with limits t n table m) (λ G. check_row (moves_with limits G m) (take k after.witness)) G (passed G e)
        ∙ (witnesses_of (callers limits G m) (moves_with limits G m) (R G s) (N G s) (take k after.witness)).1 (row_written G e a k l q).0.witness)

    shortest-written : (o : Answer Grammar) → searchable limits t n table m before ≡ o → Answers limits m o before r after
        → (G : Grammar) → StoresAt t n table m G → (k l : ℕ) → r ≡ search.Potential k l → Shortest G k
    shortest-written (refused cause at) e a G s k l q = no_refusal (sym a.0 ∙ q)
    shortest-written (done H) e a G s k l q =
        subst (λ (G : Grammar). Shortest G k) (done_inj (sym (passed H e) ∙ checked-at t n table m G s)) (row_written H e a k l q)

    -- an unambiguous answer is given only where the states fit and enough is lent
    pub answered_with : (k l : ℕ) → r ≡ search.Unambiguous k l → (G : Grammar) × StoresAt t n table m G × (is_enough (states_at G m) before ≡ true)
    unfolding searchable
    answered_with k l q = go (searchable limits t n table m before) refl h
      where
        go : (o : Answer Grammar) → searchable limits t n table m before ≡ o → Answers limits m o before r after
            → (G : Grammar) × StoresAt t n table m G × (is_enough (states_at G m) before ≡ true)
        go (refused cause at) e a = no_certificate (sym a.0 ∙ q)
        go (done G) e a =
            let x = then-done (check_with limits t n table m) go_on G e in
            let y = unless_done buffer_too_short 0 (is_enough (states_at x.0 m) before) (done x.0) G x.2 in
            (x.0, stores_at t n table m x.0 x.1, y.0)

    pub search_theorems : SearchTheorems t n table m before r after
    unfolding searchable
    search_theorems = record {
      refused = λ cause at e. answers_as (refused cause at) (then_stops (check_with limits t n table m) go_on cause at (stops t n table m e));
      short = λ G s e. answers_as (refused buffer_too_short 0)
          (then-goes (check_with limits t n table m) go_on G (checked-at t n table m G s) ∙ unless_fails buffer_too_short 0 (is_enough (states_at G m) before) (done G) e);
      enough = λ G s e. verdict_theorems G s before r after (is_potential (moves_with limits G m)) refl (answers_as (done G)
          (then-goes (check_with limits t n table m) go_on G (checked-at t n table m G s) ∙ unless_holds buffer_too_short 0 (is_enough (states_at G m) before) (done G) e));
      witness = witness_accepted (searchable limits t n table m before) refl h;
      shortest = shortest-written (searchable limits t n table m before) refl h;
      only = λ G s k l q row x. one-shortest (callers limits G m) row (take k after.witness) x
          (shortest-written (searchable limits t n table m before) refl h G s k l q).0;
    }
