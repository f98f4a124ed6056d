-- What a caller of the table check, or of its part up to 8, learns from its verdict. Assumes nothing.
use mathlib.Core.Path.{◌≡◌, refl, ap, ap₂, sym, ◌∙◌}
use mathlib.Core.List.{List}
use Prim.Native.Nat.{ℕ}
use native.Mathlib.Omega.{arith}
use Rattle.grammar.specs.Limits.{limits}
use Rattle.grammar.specs.Grammar.{Grammar, WellFormed}
use Rattle.grammar.specs.Record.{record_of}
use Rattle.grammar.specs.Refusal.{Answer, done, refused}
use Rattle.grammar.specs.TableCheck.{check_table, table_checked}
use Rattle.grammar.specs.declared.CheckedGrammar.{CheckedGrammar}
use Rattle.grammar.specs.declared.TableChecked.{TableChecked}
use Rattle.grammar.specs.declared.TableVerdict.TheVariants.{Passed, Refused}
use Rattle.grammar.proofs.WellFormed.{room}
use Rattle.grammar.proofs.Sentence.{takes_only}
use Rattle.grammar.specs.declared.Cause.{Cause}

-- passed: the answer is a grammar, and the record is that grammar's
passed-of : (o : Answer Grammar) → (table_checked o).verdict ≡ Passed → (G : Grammar) × (o ≡ done G) × ((table_checked o).grammar ≡ record_of G)
passed-of (done G) v = (G, refl, refl)
passed-of (refused c p) v = let z : ◌≡◌ {A = ℕ} 0 1 = cc in absurd (let o : ⊥ = omega arith in o)

-- refused: so is the answer
refused-of : (o : Answer Grammar) (c : Cause) (p : ℕ) → (table_checked o).verdict ≡ Refused c p → o ≡ refused c p
refused-of (done G) c p v = let z : ◌≡◌ {A = ℕ} 0 1 = cc in absurd (let o : ⊥ = omega arith in o)
refused-of (refused d q) c p v = let x : d ≡ c = cc in let y : q ≡ p = cc in ap₂ (λ c p. refused c p) x y

module _ (o : Answer Grammar) (r : TableChecked) (e : r ≡ table_checked o) where
  pub passed-answer : r.verdict ≡ Passed → (G : Grammar) × (o ≡ done G) × (r.grammar ≡ record_of G)
  passed-answer v =
      let p = passed-of o (ap (λ (r : TableChecked). r.verdict) (sym e) ∙ v) in
      (p.0, p.1, ap (λ (r : TableChecked). r.grammar) e ∙ p.2)

  pub refused-answer : (c : Cause) (p : ℕ) → r.verdict ≡ Refused c p → o ≡ refused c p
  refused-answer c p v = refused-of o c p (ap (λ (r : TableChecked). r.verdict) (sym e) ∙ v)

-- the table passes with a grammar, and the record is that grammar's
pub record PassedTable (t n : ℕ) (table : List ℕ) (g : CheckedGrammar) : Type 0 where
  pub grammar : Grammar
  pub checked : check_table limits t n table ≡ done grammar
  pub well_formed : WellFormed limits grammar
  pub same : g ≡ record_of grammar

module _ (t n : ℕ) (table : List ℕ) (r : TableChecked) (e : r ≡ table_checked (check_table limits t n table)) where
  pub passed-table : r.verdict ≡ Passed → PassedTable t n table r.grammar
  passed-table v =
      let p = passed-answer (check_table limits t n table) r e v in
      record { grammar = p.0; checked = p.1; well_formed = (takes_only limits room t n table p.0 p.1).well_formed; same = p.2 }

  pub refused-table : (c : Cause) (p : ℕ) → r.verdict ≡ Refused c p → check_table limits t n table ≡ refused c p
  refused-table = refused-answer (check_table limits t n table) r e
