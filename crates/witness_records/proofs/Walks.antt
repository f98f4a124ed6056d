-- The walk over the records against the definition of the witness check. Assumes nothing.
use Rattle.std.specs.Prelude.{Option, Some, None, ◌⊎◌}
use Prim.Native.Nat.{ℕ, zero, suc, ◌+◌, ◌*◌, ◌≤◌, ◌<◌}
use mathlib.Core.Path.{◌≡◌, refl, ap, sym, ◌∙◌}
use mathlib.Core.Bool.{Bool, true, false}
use mathlib.Core.List.{List, [], ◌∷◌, map}
use mathlib.Core.Logic.{inl, inr}
use native.Mathlib.Decide.{ℕ_discrete, dec_lt}
use native.Mathlib.Omega.{arith}
use native.Mathlib.Nat.{mul-le-mul}
use lib.ListN.{length, get_or, drop}
use borrow.Author.Tests.{le-leb, lt-leb, eq-eqb, ne_eqb}
use Rattle.grammar.specs.Limits.{limits}
use Rattle.grammar.specs.Grammar.{Grammar}
use Rattle.grammar.specs.Refusal.{Answer, done, refused, and_then, witness_wrong}
use Rattle.grammar.specs.declared.TableVerdict.TheVariants as checked
use Rattle.grammar.proofs.Answers.{then-goes, then_stops}
use Rattle.grammar.specs.declared.Cause.{Cause}
use Rattle.automaton.specs.Moves.{Moves}
use Rattle.automaton.specs.Callers.{check_with}
use Rattle.automaton.specs.CallerMoves.{moves_with}
use Rattle.triples.specs.Index.{index, triple_count}
use Rattle.triples.specs.Verdict.{check_verdict}
use Rattle.triples.specs.Witness.{entry_of, check_on, check_row, check_witness_records}
use Rattle.triples.specs.declared.CheckVerdict.{CheckVerdict}
use Rattle.triples.specs.declared.CheckVerdict.TheVariants.{Refused}
use Rattle.witness_check.specs.Clauses.{step_at}
use Rattle.witness_check.proofs.WalkLaws.{walk-empty, walk_first, walk_start, walk-beyond, walk_wrong, walk_more, walk-short, walk_ends}
use Rattle.witness_records.specs.declared.TripleRecord.{TripleRecord}
use Rattle.witness_records.specs.declared.Board.{Board}
use Rattle.witness_records.specs.Records.{triple, triples}
use Rattle.witness_records.specs.Walk.{none, after, end_of}
use Rattle.witness_records.specs.Clauses.{ReadyFor, Begun}
use Rattle.witness_records.proofs.Entries.{index-end}

-- the entry of a record of the list
pub entry_at : (Q : ℕ) (es : List TripleRecord) (place : ℕ) → place < length es
    → entry_of Q (triple (get_or es place none)) ≡ get_or (map (entry_of Q) (triples es)) place 0
entry_at Q [] place h = absurd (omega arith)
entry_at Q (e ∷ es) zero h = refl
entry_at Q (e ∷ es) (suc place) h = entry_at Q es place (omega arith)

pub entries_length : (Q : ℕ) (es : List TripleRecord) → length (map (entry_of Q) (triples es)) ≡ length es
entries_length Q [] = refl
entries_length Q (e ∷ es) = ap suc (entries_length Q es)

-- the test of a step on a board's rows
abbrev pub follows : Board → ℕ → ℕ → Bool
follows w last j = step_at w.ahead w.after w.number w.member w.target w.terminals w.opening w.states last j

module _ (w : Board) (last place j : ℕ) where
  -- the ways out of one turn
  pub after-beyond : triple_count w.states ≤ j → ◌≡◌ {A = Option ℕ} None (after w last place j)
  unfolding after
  after-beyond h = simp (le-leb (triple_count w.states) j h)

  pub after_first : j < triple_count w.states → place ≡ 0 → j ≡ 0 → ◌≡◌ {A = Option ℕ} (Some 0) (after w last place j)
  unfolding after
  after_first k p e = simp (lt-leb (triple_count w.states) j k, eq-eqb place 0 p, eq-eqb j 0 e)

  pub after-first_wrong : j < triple_count w.states → place ≡ 0 → (j ≡ 0 → ⊥) → ◌≡◌ {A = Option ℕ} None (after w last place j)
  unfolding after
  after-first_wrong k p e = simp (lt-leb (triple_count w.states) j k, eq-eqb place 0 p, ne_eqb j 0 e)

  pub after_next : j < triple_count w.states → (place ≡ 0 → ⊥) → follows w last j ≡ true → ◌≡◌ {A = Option ℕ} (Some j) (after w last place j)
  unfolding after
  after_next k p e = simp (lt-leb (triple_count w.states) j k, ne_eqb place 0 p, e)

  pub after_wrong : j < triple_count w.states → (place ≡ 0 → ⊥) → follows w last j ≡ false → ◌≡◌ {A = Option ℕ} None (after w last place j)
  unfolding after
  after_wrong k p e = simp (lt-leb (triple_count w.states) j k, ne_eqb place 0 p, e)

-- before the entry at a place: nothing is done, or the check goes on from the entry before as the whole one
abbrev pub Stands : Moves → Board → List ℕ → ℕ → ℕ → Type 0
Stands M w row last place = ((place ≡ 0) × (last ≡ 0))
    ⊎ ((1 ≤ place) × (last < triple_count w.states) × (check_on M last place (drop place row) ≡ check_row M row))

none_some : (x : ℕ) → ◌≡◌ {A = Option ℕ} None (Some x) → ⊥
none_some x e = cc

module _ (M : Moves) (w : Board) (R : ReadyFor M w) (row : List ℕ) (last place : ℕ) where
  many : 0 < triple_count w.states
  many = let h = mul-le-mul {n₁ = 4} {m₁ = 4} R.regular.four R.regular.four in omega (arith, R.size, ap (λ (Q : ℕ). Q * Q) R.size, h)

  some_entry : place < length row → (length row ≡ 0 → ⊥)
  some_entry h e = omega arith

  -- no entry follows: the place is that of the first wrong one
  pub wrong : (j : ℕ) → j ≡ get_or row place 0 → place < length row → Stands M w row last place
      → (found : Option ℕ) → found ≡ after w last place j → ((x : ℕ) → found ≡ Some x → ⊥) → Refused witness_wrong place ≡ check_verdict (check_row M row)
  wrong j q h s found f n = elim s [
    | inl z ↦
        let other : get_or row 0 0 ≡ 0 → ⊥ = λ e.
        let o : j ≡ 0 = q ∙ ap (λ (k : ℕ). get_or row k 0) z.0 ∙ e in
        n 0 (f ∙ sym (after_first w last place j (omega (arith, many)) z.0 o)) in
        ap (λ (k : ℕ). Refused witness_wrong k) z.0
        ∙ ap check_verdict (walk_first M w.ahead w.after w.number w.member w.target w.terminals w.opening w.states R row (some_entry h) other)
    | inr x ↦ later x (dec_lt j (triple_count w.states)) (follows w last j) refl
  ]
    where
      later : (1 ≤ place) × (last < triple_count w.states) × (check_on M last place (drop place row) ≡ check_row M row) → Dec (j < triple_count w.states)
          → (b : Bool) → follows w last j ≡ b → Refused witness_wrong place ≡ check_verdict (check_row M row)
      later x (no k) b e =
          ap check_verdict (walk-beyond M w.ahead w.after w.number w.member w.target w.terminals w.opening w.states R row last place h x.1 (omega (arith, k, q)) ∙ x.2)
      later x (yes k) true e = absurd (n j (f ∙ sym (after_next w last place j k (λ z. omega (arith, x.0, z)) e)))
      later x (yes k) false e =
          ap check_verdict (walk_wrong M w.ahead w.after w.number w.member w.target w.terminals w.opening w.states R row last place h x.1 (omega (arith, k, q))
          (ap (follows w last) (sym q) ∙ e) ∙ x.2)

  -- an entry follows: the check goes on from it
  pub follow : (j : ℕ) → j ≡ get_or row place 0 → place < length row → Stands M w row last place
      → (next : ℕ) → Some next ≡ after w last place j → Stands M w row next (place + 1)
  follow j q h s next f = elim s [
    | inl z ↦ begun z (ℕ_discrete j 0) (dec_lt j (triple_count w.states))
    | inr x ↦ later x (dec_lt j (triple_count w.states)) (follows w last j) refl
  ]
    where
      begun : (place ≡ 0) × (last ≡ 0) → Dec (j ≡ 0) → Dec (j < triple_count w.states) → Stands M w row next (place + 1)
      begun z (yes e) d =
          let k : j < triple_count w.states = omega (arith, many, e) in
          let p : Some next ≡ Some 0 = f ∙ sym (after_first w last place j k z.0 e) in
          let x : next ≡ 0 = cc in
          let one : place + 1 ≡ 1 = omega (arith, z.0) in
          let first : get_or row 0 0 ≡ 0 = ap (λ (k : ℕ). get_or row k 0) (sym z.0) ∙ sym q ∙ e in
          inr (
            omega arith,
            omega (arith, many, x),
            ap (λ (i : ℕ). check_on M i (place + 1) (drop (place + 1) row)) x ∙ ap (λ (p : ℕ). check_on M 0 p (drop p row)) one
                ∙ walk_start M w.ahead w.after w.number w.member w.target w.terminals w.opening w.states R row (some_entry h) first,
          )
      begun z (no e) (yes k) = absurd (none_some next (after-first_wrong w last place j k z.0 e ∙ sym f))
      begun z (no e) (no k) = absurd (none_some next (after-beyond w last place j (omega (arith, k)) ∙ sym f))

      later : (1 ≤ place) × (last < triple_count w.states) × (check_on M last place (drop place row) ≡ check_row M row) → Dec (j < triple_count w.states)
          → (b : Bool) → follows w last j ≡ b → Stands M w row next (place + 1)
      later x (no k) b e = absurd (none_some next (after-beyond w last place j (omega (arith, k)) ∙ sym f))
      later x (yes k) true e =
          let p : Some next ≡ Some j = f ∙ sym (after_next w last place j k (λ z. omega (arith, x.0, z)) e) in
          let y : next ≡ j = cc in
          inr (
            omega arith,
            omega (arith, k, y),
            ap (λ (i : ℕ). check_on M i (place + 1) (drop (place + 1) row)) (y ∙ q)
                ∙ walk_more M w.ahead w.after w.number w.member w.target w.terminals w.opening w.states R row last place h x.1 (omega (arith, k, q)) (ap (follows w last) (sym q) ∙ e) ∙ x.2,
          )
      later x (yes k) false e = absurd (none_some next (after_wrong w last place j k (λ z. omega (arith, x.0, z)) e ∙ sym f))

  -- the end
  pub ended : place ≡ length row → Stands M w row last place → end_of w.states last (length row) ≡ check_verdict (check_row M row)
  unfolding end_of
  ended h s = elim s [
    | inl z ↦
        let short : length row ≡ 0 = sym h ∙ z.0 in
        let other : last ≡ w.states * w.states + w.states + 1 → ⊥ = λ e. omega (arith, z.1, e) in
        simp (ne_eqb last (w.states * w.states + w.states + 1) other)
        (ap (λ (n : ℕ). Refused witness_wrong n) short ∙ ap check_verdict (walk-empty M w.ahead w.after w.number w.member w.target w.terminals w.opening w.states R row short))
    | inr x ↦ last_one x (ℕ_discrete last (index w.states 1 1 1))
  ]
    where
      last_one : (1 ≤ place) × (last < triple_count w.states) × (check_on M last place (drop place row) ≡ check_row M row) → Dec (last ≡ index w.states 1 1 1)
          → end_of w.states last (length row) ≡ check_verdict (check_row M row)
      last_one x (yes e) =
          simp (eq-eqb last (w.states * w.states + w.states + 1) (e ∙ index-end w.states))
          (ap check_verdict (walk_ends M w.ahead w.after w.number w.member w.target w.terminals w.opening w.states R row last place (omega (arith, h)) e ∙ x.2))
      last_one x (no e) =
          simp (ne_eqb last (w.states * w.states + w.states + 1) (λ z. e (z ∙ sym (index-end w.states))))
          (ap (λ (n : ℕ). Refused witness_wrong n) (sym h) ∙ ap check_verdict (walk-short M w.ahead w.after w.number w.member w.target w.terminals w.opening w.states R row last place (omega (arith, h)) e ∙ x.2))

-- the answer is the definition's
module _ (t n : ℕ) (table : List ℕ) (m : ℕ) (w : Board) (es : List TripleRecord) (b : Begun t n table m w) where
  abbrev then : Grammar → Answer Unit
  then G = check_row (moves_with limits G m) (map (entry_of (moves_with limits G m).states) (triples es))

  -- of a table that passed
  pub passed-answer : ((c : Cause) (p : ℕ) → w.verdict ≡ checked.Refused c p → ⊥) → (v : CheckVerdict)
      → ((M : Moves) → ReadyFor M w → v ≡ check_verdict (check_row M (map (entry_of w.states) (triples es))))
      → v ≡ check_verdict (check_witness_records limits t n table m (triples es))
  unfolding check_witness_records
  passed-answer other v walked = go (check_with limits t n table m) refl
    where
      go : (o : Answer Grammar) → check_with limits t n table m ≡ o → v ≡ check_verdict (and_then (check_with limits t n table m) then)
      go (done G) e =
          let g = b.goes G e in
          walked (moves_with limits G m) g.1
          ∙ ap (λ Q. check_verdict (check_row (moves_with limits G m) (map (entry_of Q) (triples es)))) g.1.size
          ∙ ap check_verdict (sym (then-goes (check_with limits t n table m) then G e))
      go (refused c p) e = absurd (other c p (b.stops c p e))

  -- of one that is refused
  pub refused-answer : (c : Cause) (p : ℕ) → w.verdict ≡ checked.Refused c p → Refused c p ≡ check_verdict (check_witness_records limits t n table m (triples es))
  unfolding check_witness_records
  refused-answer c p r = go (check_with limits t n table m) refl
    where
      go : (o : Answer Grammar) → check_with limits t n table m ≡ o → Refused c p ≡ check_verdict (and_then (check_with limits t n table m) then)
      go (done G) e = let z : checked.Passed ≡ checked.Refused c p = sym (b.goes G e).0 ∙ r in absurd (cc)
      go (refused d q) e =
          let z : checked.Refused c p ≡ checked.Refused d q = sym r ∙ b.stops d q e in
          let x : c ≡ d = cc in
          let y : p ≡ q = cc in
          ap (λ c. Refused c p) x ∙ ap (λ p. Refused d p) y
          ∙ ap check_verdict (sym (then_stops (check_with limits t n table m) then d q e))
