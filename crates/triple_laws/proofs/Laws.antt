-- The laws of triples, certificates and witnesses over any regular lists of moves, and over an automaton whose moves these are.
-- Assumes nothing.
use Prim.Native.Nat.{ℕ, ◌<◌}
use mathlib.Core.Path.{◌≡◌, sym, subst₂}
use mathlib.Core.List.{List}
use mathlib.Core.Logic.{◌↔◌}
use lib.ListN.{length}
use native.Mathlib.Omega.{arith}
use Rattle.grammar.specs.Basics.{Mem, Distinct}
use Rattle.grammar.specs.Refusal.{done}
use Rattle.automaton.specs.Automaton.{Automaton}
use Rattle.automaton.specs.Moves.{Moves, listed, Regular, Lists}
use Rattle.triples.specs.Index.{index, triple_count}
use Rattle.triples.specs.Successor.{Successor, Reached}
use Rattle.triples.specs.Smallest.{smallest, size}
use Rattle.triples.specs.Certificate.{AcceptableCertificate, SmallestCertificate, certificate_of, check_bytes}
use Rattle.triples.specs.Witness.{Witness, check_row}
use Rattle.triple_laws.proofs.Records.{steps_in_range, successors_exact}
use Rattle.triple_laws.proofs.CertificateCheck as certificate
use Rattle.triple_laws.proofs.WitnessCheck as witness
use Rattle.triple_laws.proofs.SmallestSet as set
use Rattle.triple_laws.proofs.Numbered.{reached-same, acceptable_same, smallest-same, witness_same}

module _ (M : Moves) (R : Regular M) where
  inside : (f p q g p' q' : ℕ) → f < 2 → p < M.states → q < M.states → Successor (listed M) f p q g p' q'
      → (g < 2) × (p' < M.states) × (q' < M.states)
  inside f p q g p' q' hf hp hq s = steps_in_range M R hf hp hq s

  -- the certificate check accepts exactly the acceptable certificates
  pub accepts_exactly : (bytes : List ℕ) → (check_bytes M bytes ≡ done tt) ↔ AcceptableCertificate (listed M) bytes
  accepts_exactly = certificate.accepts_exactly M R.four (successors_exact M R) inside

  -- the witness check accepts exactly the witnesses
  pub witness_exactly : (row : List ℕ) → (check_row M row ≡ done tt) ↔ Witness (listed M) row
  witness_exactly = witness.witness_exactly M R.four (successors_exact M R) inside

  -- the smallest set is what is reached, without doubles, and its size is its cardinality
  pub reached_exactly : (f p q : ℕ) → f < 2 → p < M.states → q < M.states → Reached (listed M) f p q ↔ Mem (index M.states f p q) (smallest M)
  reached_exactly = set.reached_exactly M R.four (successors_exact M R) inside

  pub smallest_distinct : Distinct (smallest M)
  smallest_distinct = set.smallest_distinct M R.four (successors_exact M R) inside

  pub size_cardinal : (l : List ℕ) → Distinct l → ((i : ℕ) → Mem i l ↔ Mem i (smallest M)) → length l ≡ size M
  size_cardinal = set.size_cardinal M R.four (successors_exact M R) inside

  pub smallest-below : (i : ℕ) → Mem i (smallest M) → i < triple_count M.states
  smallest-below = set.smallest-below M R.four (successors_exact M R) inside

  -- its certificate, where it lacks (1,1,1), is the smallest acceptable one; where some certificate is acceptable it lacks it
  pub smallest-certificate : (Mem (index M.states 1 1 1) (smallest M) → ⊥) → SmallestCertificate (listed M) (certificate_of M.states (smallest M))
  smallest-certificate = set.smallest-certificate M R.four (successors_exact M R) inside

  pub acceptable_lacks : (bytes : List ℕ) → AcceptableCertificate (listed M) bytes → Mem (index M.states 1 1 1) (smallest M) → ⊥
  acceptable_lacks = set.acceptable_lacks M R.four (successors_exact M R) inside

module _ (A : Automaton) (M : Moves) (R : Regular M) (N : Lists A M) where
  -- the checks accept exactly the automaton's acceptable certificates and its witnesses
  pub certificates_of : (bytes : List ℕ) → (check_bytes M bytes ≡ done tt) ↔ AcceptableCertificate A bytes
  certificates_of bytes =
      let a = accepts_exactly M R bytes in
      let b = acceptable_same A M R N bytes in
      (λ e. b.1 (a.0 e), λ c. a.1 (b.0 c))

  pub witnesses_of : (row : List ℕ) → (check_row M row ≡ done tt) ↔ Witness A row
  witnesses_of row =
      let a = witness_exactly M R row in
      let b = witness_same A M R N row in
      (λ e. b.1 (a.0 e), λ w. a.1 (b.0 w))

  -- the smallest set is what is reached in it
  pub reached-of : {f : ℕ} {p q : A.State} → f < 2 → A.number p < A.states → A.number q < A.states
      → Reached A f p q ↔ Mem (index M.states f (A.number p) (A.number q)) (smallest M)
  reached-of {f} {p} {q} h j k =
      let a = reached-same A M R N {f = f} {p = p} {q = q} j k in
      let b = reached_exactly M R f (A.number p) (A.number q) h (omega (arith, N.states)) (omega (arith, N.states)) in
      (λ r. b.0 (a.0 r), λ m. a.1 (b.1 m))

  pub end-of : Reached A 1 A.last A.last ↔ Mem (index M.states 1 1 1) (smallest M)
  end-of =
      let h : A.number A.last < A.states = omega (arith, N.last, N.states, R.four) in
      let a = reached-same A M R N {f = 1} {p = A.last} {q = A.last} h h in
      let b = reached_exactly M R 1 1 1 (omega arith) (omega (arith, R.four)) (omega (arith, R.four)) in
      (λ r. b.0 (subst₂ (Reached (listed M) 1) N.last N.last (a.0 r)), λ m. a.1 (subst₂ (Reached (listed M) 1) (sym N.last) (sym N.last) (b.1 m)))

  -- its certificate is the automaton's smallest, where it lacks the end; where some certificate is acceptable it lacks it
  pub smallest-of : (Mem (index M.states 1 1 1) (smallest M) → ⊥) → SmallestCertificate A (certificate_of M.states (smallest M))
  smallest-of l = smallest-same A M R N _ (smallest-certificate M R l)

  pub lacks-of : (bytes : List ℕ) → AcceptableCertificate A bytes → Mem (index M.states 1 1 1) (smallest M) → ⊥
  lacks-of bytes a = acceptable_lacks M R bytes ((acceptable_same A M R N bytes).0 a)
