-- The refusals that come with callers, 21 and 8: when each is given, and that without callers neither is. Assumes nothing.
use Prim.Native.Nat.{ℕ, ◌≤◌, ◌<◌}
use mathlib.Core.Path.{◌≡◌, refl, sym, subst, ◌∙◌}
use mathlib.Core.List.{List}
use lib.Dec.{leb}
use lib.ListN.{length}
use borrow.Author.Tests.{le-leb, lt-leb, leb-true}
use Rattle.grammar.specs.Limits.{Limits}
use Rattle.grammar.specs.Grammar.{Grammar, WellFormed}
use Rattle.grammar.specs.Refusal.{Answer, done, refused, refuse_unless, and_then, too_many_states, too_many_callers}
use Rattle.grammar.specs.TableCheck.{check_table}
use Rattle.grammar.proofs.Answers.{then-done, then_stops, then-goes, unless_holds, unless_fails, unless_done}
use Rattle.grammar.proofs.Sentence.{takes_only}
use Rattle.automaton.specs.Callers.{spots, most_callers, check_callers, check_with}
use Rattle.triple_laws.proofs.CallerZero.{zero-states}
use Rattle.grammar.specs.declared.Cause.{Cause}

-- without callers nothing more is refused
zero-callers : (L : Limits) (G : Grammar) → WellFormed L G → check_callers L G 0 ≡ done G
unfolding check_callers
zero-callers L G W =
    unless_holds too_many_callers 0 (leb 0 most_callers) (refuse_unless too_many_states 0 (leb (length (spots L G 0)) L.max_states) (done G)) refl
    ∙ unless_holds too_many_states 0 (leb (length (spots L G 0)) L.max_states) (done G)
    (le-leb (length (spots L G 0)) L.max_states (subst (λ q. q ≤ L.max_states) (sym (zero-states L G)) W.size))

-- so the check with no caller is the table check
pub zero-check : (L : Limits) → 4 ≤ L.max_states → (t n : ℕ) (table : List ℕ) → check_with L t n table 0 ≡ check_table L t n table
unfolding check_with
zero-check L four t n table = go (check_table L t n table) refl
  where
    go : (a : Answer Grammar) → check_table L t n table ≡ a → and_then a (λ G. check_callers L G 0) ≡ a
    go (refused c p) e = then_stops (refused c p) (λ G. check_callers L G 0) c p refl
    go (done G) e =
        then-goes (done G) (λ G. check_callers L G 0) G refl ∙ zero-callers L G (takes_only L four t n table G e).well_formed

-- which of the two refusals it is, or none
module _ (L : Limits) (G : Grammar) (m : ℕ) where
  pub many_callers : most_callers < m → check_callers L G m ≡ refused too_many_callers 0
  unfolding check_callers
  many_callers h = unless_fails too_many_callers 0 (leb m most_callers) _ (lt-leb m most_callers h)

  pub many_states : m ≤ most_callers → L.max_states < length (spots L G m) → check_callers L G m ≡ refused too_many_states 0
  unfolding check_callers
  many_states h k =
      unless_holds too_many_callers 0 (leb m most_callers) _ (le-leb m most_callers h)
      ∙ unless_fails too_many_states 0 (leb (length (spots L G m)) L.max_states) _ (lt-leb (length (spots L G m)) L.max_states k)

  pub within : m ≤ most_callers → length (spots L G m) ≤ L.max_states → check_callers L G m ≡ done G
  unfolding check_callers
  within h k =
      unless_holds too_many_callers 0 (leb m most_callers) _ (le-leb m most_callers h)
      ∙ unless_holds too_many_states 0 (leb (length (spots L G m)) L.max_states) _ (le-leb (length (spots L G m)) L.max_states k)

  -- from an answer back
  pub within-only : (H : Grammar) → check_callers L G m ≡ done H → (G ≡ H) × (m ≤ most_callers) × (length (spots L G m) ≤ L.max_states)
  unfolding check_callers
  within-only H e =
      let a = unless_done too_many_callers 0 (leb m most_callers) _ H e in
      let b = unless_done too_many_states 0 (leb (length (spots L G m)) L.max_states) _ H a.1 in
      (done_is b.1, leb-true m most_callers a.0, leb-true (length (spots L G m)) L.max_states b.0)
    where
      done_is : done G ≡ done H → G ≡ H
      done_is q = cc

-- the table's refusal is that of the check with callers
pub table_stops : (L : Limits) (t n : ℕ) (table : List ℕ) (m : ℕ) (cause : Cause) (at : ℕ) → check_table L t n table ≡ refused cause at → check_with L t n table m ≡ refused cause at
unfolding check_with
table_stops L t n table m cause at e = then_stops (check_table L t n table) (λ G. check_callers L G m) cause at e

pub table-goes : (L : Limits) (t n : ℕ) (table : List ℕ) (m : ℕ) (G : Grammar) → check_table L t n table ≡ done G → check_with L t n table m ≡ check_callers L G m
unfolding check_with
table-goes L t n table m G e = then-goes (check_table L t n table) (λ G. check_callers L G m) G e

-- a table that passes with m callers passes, and the states fit
pub passed_with : (L : Limits) (t n : ℕ) (table : List ℕ) (m : ℕ) (G : Grammar) → check_with L t n table m ≡ done G
    → (check_table L t n table ≡ done G) × (m ≤ most_callers) × (length (spots L G m) ≤ L.max_states)
unfolding check_with
passed_with L t n table m G e =
    let a = then-done (check_table L t n table) (λ G. check_callers L G m) G e in
    let b = within-only L a.0 m G a.2 in
    subst (λ G. (check_table L t n table ≡ done G) × (m ≤ most_callers) × (length (spots L G m) ≤ L.max_states)) b.0 (a.1, b.1, b.2)
