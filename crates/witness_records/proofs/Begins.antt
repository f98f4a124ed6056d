-- What the table check's verdict leaves for the walk. Assumes nothing.
use Prim.Native.Nat.{ℕ}
use mathlib.Core.Path.{◌≡◌, refl, ap, sym, subst, ◌∙◌}
use mathlib.Core.List.{List}
use Rattle.grammar.specs.Limits.{limits}
use Rattle.grammar.specs.Grammar.{Grammar}
use Rattle.grammar.specs.Refusal.{Answer, done, refused}
use Rattle.grammar.specs.declared.TableVerdict.{TableVerdict}
use Rattle.grammar.specs.declared.TableVerdict.TheVariants.{Passed, Refused}
use Rattle.grammar.proofs.Answers.{no_answer, done_inj}
use Rattle.grammar.specs.declared.Cause.{Cause}
use Rattle.automaton.specs.Callers.{check_with}
use Rattle.automaton.specs.CallerMoves.{moves_with}
use Rattle.moves.specs.Tables.{Tables}
use Rattle.prepared.specs.declared.Prepared.{Prepared}
use Rattle.prepared.specs.Prepared.{Prepares}
use Rattle.witness_check.specs.Clauses.{Ready}
use Rattle.witness_check.proofs.ReadyLaws.{ready_of}

same-cause : {A : Type 0} (c : Cause) (p : ℕ) (d : Cause) (q : ℕ) → ◌≡◌ {A = Answer A} (refused c p) (refused d q) → Refused c p ≡ Refused d q
same-cause c p d q e = let x : c ≡ d = cc in let y : p ≡ q = cc in ap (λ c. Refused c p) x ∙ ap (λ p. Refused d p) y

module _ (t n : ℕ) (table : List ℕ) (m : ℕ) (w : Prepared) (rows : Tables) (P : Prepares t n table m w rows) where
  -- a table that is refused has its refusal for a verdict
  pub stops_as : (c : Cause) (p : ℕ) → check_with limits t n table m ≡ refused c p → w.verdict ≡ Refused c p
  stops_as c p e = go w.verdict refl
    where
      go : (v : TableVerdict) → w.verdict ≡ v → w.verdict ≡ Refused c p
      go Passed h = no_answer (sym e ∙ (P.passed_as h).1)
      go (Refused d q) h = h ∙ same-cause d q c p (sym (P.refused_as d q h) ∙ e)

  -- one that passes has the rows of its grammar
  abbrev ReadyRows : Grammar → Type 0
  ReadyRows G = Ready (moves_with limits G m) rows.ahead rows.after rows.number rows.member rows.target w.terminals w.kinds w.states

  pub goes_as : (G : Grammar) → check_with limits t n table m ≡ done G → (w.verdict ≡ Passed) × ReadyRows G
  goes_as G e = go w.verdict refl
    where
      go : (v : TableVerdict) → w.verdict ≡ v → (w.verdict ≡ Passed) × ReadyRows G
      go Passed h =
          let p = P.passed_as h in
          let r = p.2 in
          (h, subst ReadyRows (done_inj (sym p.1 ∙ e)) (ready_of (moves_with limits p.0 m) r.regular w.terminals w.kinds w.states r.size rows r.shows))
      go (Refused d q) h = no_answer (sym (P.refused_as d q h) ∙ e)
