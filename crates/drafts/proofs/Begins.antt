-- A new draft: what the table check's answer says of the row that is begun. Assumes nothing.
use Prim.Native.Nat.{ℕ, ◌+◌, ◌≤◌, ◌<◌}
use mathlib.Core.Path.{◌≡◌, ap, ap₂, sym, ◌∙◌}
use mathlib.Core.List.{List, ◌∷◌}
use native.Mathlib.Omega.{arith}
use lib.Dec.{leb}
use lib.ListN.{length}
use borrow.Author.Tests.{le-leb, lt-leb}
use Rattle.grammar.specs.Limits.{limits}
use Rattle.grammar.specs.Grammar.{Rule, Grammar, state_count}
use Rattle.grammar.specs.Table.{encode}
use Rattle.grammar.specs.Record.{record_of}
use Rattle.grammar.specs.Refusal.{done, refused, buffer_too_short}
use Rattle.grammar.specs.TableCheck.{stored_table}
use Rattle.grammar.specs.declared.CheckedGrammar.{CheckedGrammar}
use Rattle.grammar.proofs.Answers.{unless_holds, unless_fails, then-goes, then_stops}
use Rattle.grammar.proofs.Columns.{sizes}
use Rattle.grammar.proofs.WellFormed.{room, stored-only}
use Rattle.grammar.specs.declared.Cause.{Cause}
use Rattle.table_check.proofs.RecordLaws.{offset-size}
use Rattle.drafts.specs.Draft.{new_draft, marks_count}
use Rattle.drafts.specs.Row.{draft_room, splice, emptied, new_row, table_room}

pub new-refused : (t n : ℕ) (table row : List ℕ) (c : Cause) (p : ℕ) → stored_table limits t n table ≡ refused c p → new_row t n table row ≡ refused c p
unfolding new_row new_draft
new-refused t n table row c p e = then_stops (new_draft limits t n table) _ c p (then_stops (stored_table limits t n table) _ c p e)

-- the table has room in a block
pub table_fits : (rs : List Rule) → length (encode rs) + 4 ≡ length rs + state_count rs
table_fits rs = let a = offset-size rs in let b = sizes rs in omega (arith, a, b)

-- what a table that passes says
pub record Starts (t n : ℕ) (table row : List ℕ) (g : CheckedGrammar) : Type 0 where
  pub count : g.count ≤ limits.max_rules
  pub terminals : t ≤ limits.max_terminals
  pub nonterminals : n ≤ limits.max_nonterminals
  pub size : length table ≤ table_room
  pub short : length row < draft_room → new_row t n table row ≡ refused buffer_too_short 0
  pub begins : draft_room ≤ length row → new_row t n table row ≡ done (emptied marks_count (splice row 0 (t ∷ n ∷ (g.count + 1) ∷ table)))

pub starts : (t n : ℕ) (table row : List ℕ) (G : Grammar) (g : CheckedGrammar) → stored_table limits t n table ≡ done G → g ≡ record_of G → Starts t n table row g
unfolding new_row new_draft record_of
starts t n table row G g e q =
    let w = stored-only limits room t n table G e in
    let f = w.well_formed in
    let c : g.count ≡ length G.rules = ap (λ (g : CheckedGrammar). g.count) q in
    let k = f.count in
    let z = f.size in
    let a = table_fits G.rules in
    let b : length table ≡ length (encode G.rules) = ap length w.table in
    let x = f.terminals in
    let y = f.nonterminals.1 in
    let d : new_draft limits t n table ≡ done _ = then-goes (stored_table limits t n table) _ G e in
    record {
      count = omega (arith, c, k);
      terminals = omega (arith, x, w.terminals);
      nonterminals = omega (arith, y, w.nonterminals);
      size = omega (arith, b, a, k, z);
      short = λ h. then-goes (new_draft limits t n table) _ _ d ∙ unless_fails buffer_too_short 0 (leb draft_room (length row)) _ (lt-leb draft_room (length row) h);
      begins = λ h. then-goes (new_draft limits t n table) _ _ d ∙ unless_holds buffer_too_short 0 (leb draft_room (length row)) _ (le-leb draft_room (length row) h)
          ∙ ap₂ (λ (m : ℕ) (l : List ℕ). done (emptied marks_count (splice row 0 (t ∷ n ∷ (m + 1) ∷ l)))) (sym c) (sym w.table);
    }
