-- What follows from the promises for drafts. Assumes nothing.
use Prim.Native.Nat.{ℕ, ◌+◌, ◌-◌, ◌≤◌, ◌<◌}
use mathlib.Core.Path.{◌≡◌, refl, ap, ap₂, sym, subst, ◌∙◌}
use mathlib.Core.Bool.{Bool, true, false}
use mathlib.Core.List.{List, [], ◌∷◌, ◌++◌}
use mathlib.Core.Option.{Option, none, some}
use native.Mathlib.Omega.{arith}
use lib.Dec.{leb}
use lib.ListN.{length, take, drop}
use borrow.Author.Tests.{leb-true, le-leb, lt-leb}
use Rattle.grammar.specs.Limits.{limits}
use Rattle.grammar.specs.Grammar.{Rule, Grammar, state_count}
use Rattle.grammar.specs.Table.{encode}
use Rattle.grammar.specs.Live.{has_sentence}
use Rattle.grammar.specs.Refusal.{Answer, done, refused, refuse_unless, and_then, buffer_too_short, no_sentence, not_present, cause_number}
use Rattle.grammar.specs.TableCheck.{stored_table, check_table, table_checked}
use Rattle.grammar.specs.declared.TableChecked.{TableChecked}
use Rattle.grammar.proofs.Answers.{no_answer, no_bool, done_inj, unless_holds, unless_fails, unless_done, then-done, then-goes, then_stops}
use Rattle.grammar.proofs.Causes.{CausedBy, cause, up_to, stored_causes}
use Rattle.grammar.proofs.WellFormed.{room, stores_all, stored-only}
use Rattle.grammar.proofs.Sentence.{refuses_exactly}
use Rattle.grammar.specs.declared.Cause.{Cause}
use Rattle.table_check.proofs.Callers.{refused-table}
use Rattle.drafts.specs.Draft.{Draft, Edit, add, return, marks_count, is_mark, with_rules, restored, kept, new_draft, taken, after}
use Rattle.drafts.specs.Row.{draft_room, table_at, block_of, rules_in, draft_or, draft_in, begun, new_row, stepped}
use Rattle.drafts.specs.Promise.{Leaves, answered, EditsDraft, BeginsDraft}
use Rattle.drafts.specs.Edits.{calls}
use Rattle.drafts.specs.Reading.{table_or, counted, placed, ShowsTable, PlacesTable}
use Rattle.drafts.specs.declared.DraftAnswer.{DraftAnswer}
use Rattle.drafts.specs.declared.DraftAnswer.TheVariants.{Done, Refused}
use Rattle.drafts.specs.declared.DraftCounts.TheVariants.{Counts}
use Rattle.drafts.specs.declared.TablePlace.TheVariants as places
use Rattle.drafts.proofs.Calls.{step_holds, every-row}
use Rattle.drafts.proofs.Fresh.{begun_holds}
use Rattle.drafts.proofs.Histories.{symbols-stay, mark-stays, marked, returned}
use Rattle.drafts.proofs.Opens.{open_steps}
use Rattle.drafts.proofs.Readouts.{place_tells}
use Rattle.drafts.proofs.Sound.{new_sound, sound_after}
use Rattle.drafts.proofs.Theorems.{answers_done, refused_leaves, refused-new}
use Rattle.drafts.proofs.Unread.{unread_more}
use Rattle.drafts.proofs.Withdrawals.{withdrawn}
use Rattle.ambiguity.specs.Entries.{IsTableOf}
use Rattle.ambiguity.specs.Drafts.{EditTheorems, PlaceTheorems, Called, none-called, called, draft_grammar, HistoryTheorems, BeginTheorems, DraftTheorems}
use Rattle.ambiguity.proofs.Entries.{is_taken, is_table, checked}

-- ---- every row

leaves_once : (o : Answer (List ℕ)) (before : List ℕ) (r r₂ : DraftAnswer) (row row₂ : List ℕ) → Leaves o before r row → Leaves o before r₂ row₂
    → (r ≡ r₂) × (row ≡ row₂)
leaves_once o before r r₂ row row₂ a b = (a.answer ∙ sym b.answer, a.leaves ∙ sym b.leaves)

short_row : (row : List ℕ) → length row < draft_room → draft_in row ≡ refused buffer_too_short 0
unfolding draft_in
short_row row h = unless_fails buffer_too_short 0 (leb draft_room (length row)) (draft_or row (rules_in (block_of row 0))) (lt-leb draft_room (length row) h)

empty-row : (row : List ℕ) → draft_room ≤ length row → rules_in (block_of row 0) ≡ none → draft_in row ≡ refused not_present 0
unfolding draft_in
empty-row row h e =
    unless_holds buffer_too_short 0 (leb draft_room (length row)) (draft_or row (rules_in (block_of row 0))) (le-leb draft_room (length row) h) ∙ ap (draft_or row) e

no_step_lem : (row : List ℕ) (s : Edit) (c : Cause) (p : ℕ) → draft_in row ≡ refused c p → stepped row s ≡ refused c p
unfolding stepped
no_step_lem row s c p e = then_stops (draft_in row) _ c p e

pub edit_theorems : (before : List ℕ) (s : Edit) (r : DraftAnswer) (row : List ℕ) → EditsDraft before s r row → EditTheorems before s r row
edit_theorems before s r row a = record {
  short = λ h. a.answer ∙ ap answered (no_step_lem before s buffer_too_short 0 (short_row before h));
  empty = λ h e. a.answer ∙ ap answered (no_step_lem before s not_present 0 (empty-row before h e));
  refused = λ c p e. refused_leaves before row s c p (subst (λ (r : DraftAnswer). EditsDraft before s r row) e a);
  edited = λ d h. ap draft_in a.leaves ∙ step_holds before d s h;
  determined = λ r₂ row₂ b. leaves_once (stepped before s) before r r₂ row row₂ a b;
}

pub table-place_theorems : (row part : List ℕ) → ShowsTable row part → PlaceTheorems row part
table-place_theorems row part a = record { placed = λ start entries e. go start entries (draft_in row) refl e }
  where
    go : (start entries : ℕ) (o : Answer Draft) → draft_in row ≡ o → PlacesTable row (places.Stands start entries) → part ≡ take entries (drop start row)
    go start entries (done d) q e =
        let p : places.Stands start entries ≡ places.Stands table_at (length (encode d.rules)) = e ∙ ap placed q in
        let x : start ≡ table_at = cc in
        let y : entries ≡ length (encode d.rules) = cc in
        a ∙ ap table_or q ∙ sym (ap₂ (λ (e s : ℕ). take e (drop s row)) y x ∙ place_tells row d q)
    go start entries (refused c p) q e =
        let w : places.Stands start entries ≡ places.Refused c p = e ∙ ap placed q in
        let z : ◌≡◌ {A = ℕ} 0 1 = cc in
        absurd (let o : ⊥ = omega arith in o)

-- ---- from a new draft on

called-calls : {before last : List ℕ} {history : List Edit} → Called before history last → last ≡ calls before history
unfolding calls
called-calls none-called = refl
called-calls {history = s ∷ more} (called r a k) = called-calls k ∙ ap (λ (row : List ℕ). calls row more) a.leaves

new-symbols : (t n : ℕ) (table : List ℕ) (d : Draft) → new_draft limits t n table ≡ done d → (d.terminals ≡ t) × (d.nonterminals ≡ n)
unfolding new_draft
new-symbols t n table d e =
    let g = done_inj (then-done (stored_table limits t n table) _ d e).2 in
    (ap (λ (d : Draft). d.terminals) (sym g), ap (λ (d : Draft). d.nonterminals) (sym g))

history_theorems : (t n : ℕ) (table : List ℕ) (d : Draft) (row last : List ℕ) (history : List Edit) → new_draft limits t n table ≡ done d
    → draft_in row ≡ done d → Called row history last → HistoryTheorems t n (after limits d history) last
history_theorems t n table new row last history b q k =
    let d = after limits new history in
    let G = draft_grammar d in
    let holds : draft_in last ≡ done d = ap draft_in (called-calls k) ∙ every-row row new history q in
    let y = symbols-stay limits new history in
    let z = new-symbols t n table new b in
    let x : d.terminals ≡ t = y.0 ∙ z.0 in
    let w : d.nonterminals ≡ n = y.1 ∙ z.1 in
    let s = sound_after limits new history (new_sound t n table new b) in
    let own : IsTableOf t n (encode d.rules) G = record { well_formed = s.own; terminals = x; nonterminals = w; stored = refl } in
    let part-of : (part : List ℕ) → ShowsTable last part → part ≡ encode d.rules = λ part e. e ∙ ap table_or holds in
    let held : (part : List ℕ) → ShowsTable last part → IsTableOf t n part G = λ part e. subst (λ (l : List ℕ). IsTableOf t n l G) (sym (part-of part e)) own in
    record {
      holds = holds;
      is_table = own;
      table = part-of;
      counts = λ r e. e ∙ ap counted holds
          ∙ ap₂ (λ (t n : ℕ). Counts t n (length d.rules) (length (encode d.rules)) (state_count d.rules)) x w;
      passed = λ part c e a h.
          ap (λ (r : TableChecked). r.verdict) (a ∙ ap table_checked (checked t n part G (record { is_table = held part e; sentence = h })));
      without = λ part c e a h.
          ap (λ (r : TableChecked). r.verdict)
          (a ∙ ap table_checked ((refuses_exactly limits room (omega arith) t n part 0).1 (refl, (G, is_taken t n part G (held part e), h))));
      next = λ s r row' a. subst (λ (o : Answer (List ℕ)). Leaves o last r row') (open_steps last s d holds) a;
    }

module _ (t n : ℕ) (table before : List ℕ) where
  stored : (G : Grammar) → IsTableOf t n table G → stored_table limits t n table ≡ done G
  stored G s = let a = s.terminals in let b = s.nonterminals in let c = s.stored in cc (stores_all limits G s.well_formed)

  -- the new draft of a table that is stored
  fresh : (G : Grammar) → stored_table limits t n table ≡ done G → (d : Draft) × (new_draft limits t n table ≡ done d)
  unfolding new_draft
  fresh G e = (_, then-goes (stored_table limits t n table) _ G e)

  not-begun : (c : Cause) (p : ℕ) → stored_table limits t n table ≡ refused c p → new_row t n table before ≡ refused c p
  unfolding new_row new_draft
  not-begun c p e = then_stops _ _ c p (then_stops (stored_table limits t n table) _ c p e)

  long-enough : (d : Draft) → new_draft limits t n table ≡ done d → draft_room ≤ length before → new_row t n table before ≡ done (begun before d)
  unfolding new_row
  long-enough d e h = then-goes (new_draft limits t n table) _ d e ∙ unless_holds buffer_too_short 0 (leb draft_room (length before)) _ (le-leb draft_room (length before) h)

  too_short : (d : Draft) → new_draft limits t n table ≡ done d → length before < draft_room → new_row t n table before ≡ refused buffer_too_short 0
  unfolding new_row
  too_short d e h = then-goes (new_draft limits t n table) _ d e ∙ unless_fails buffer_too_short 0 (leb draft_room (length before)) _ (lt-leb draft_room (length before) h)

  -- a row that is begun: the table is stored, and the row was long enough
  begun-from : (row : List ℕ) → new_row t n table before ≡ done row → (G : Grammar) × IsTableOf t n table G × (draft_room ≤ length before)
  unfolding new_row new_draft
  begun-from row e =
      let v = then-done (new_draft limits t n table) _ row e in
      let g = then-done (stored_table limits t n table) _ v.0 v.1 in
      let u = unless_done buffer_too_short 0 (leb draft_room (length before)) _ row v.2 in
      (g.0, is_table t n table g.0 (stored-only limits room t n table g.0 g.1), leb-true draft_room (length before) u.0)

  -- the table check refuses it with another cause than 19: so it is not stored
  refused-stored : (k : Cause) (at : ℕ) → check_table limits t n table ≡ refused k at → ¬ (k ≡ no_sentence) → stored_table limits t n table ≡ refused k at
  unfolding check_table refuse_unless and_then
  refused-stored k at e other = go (stored_table limits t n table) refl e
    where
      last : (G : Grammar) (b : Bool) → refuse_unless no_sentence 0 b (done G) ≡ refused k at → stored_table limits t n table ≡ refused k at
      last G true q = no_answer (sym q)
      last G false q = let z : no_sentence ≡ k = cc in absurd (other (sym z))

      go : (o : Answer Grammar) → stored_table limits t n table ≡ o → and_then o (λ G. refuse_unless no_sentence 0 (has_sentence limits G) (done G)) ≡ refused k at
          → stored_table limits t n table ≡ refused k at
      go (done G) s q = last G (has_sentence limits G) q
      go (refused c p) s q = s ∙ q

  -- 1 to 8, then 14: never 19
  never : (at : ℕ) → ¬ (new_row t n table before ≡ refused no_sentence at)
  unfolding new_row refuse_unless
  never at e = go (stored_table limits t n table) refl (stored_causes limits t n table)
    where
      last : (b : Bool) (row : List ℕ) → refuse_unless buffer_too_short 0 b (done row) ≡ refused no_sentence at → ⊥
      last true row q = no_answer (sym q)
      last false row q = let z : buffer_too_short ≡ no_sentence = cc in let n : cause_number buffer_too_short ≡ cause_number no_sentence = ap cause_number z in omega arith

      go : (o : Answer Grammar) → stored_table limits t n table ≡ o → CausedBy (up_to 8) o → ⊥
      go (done G) s c =
          let d = fresh G s in
          last (leb draft_room (length before)) (begun before d.0) (sym (then-goes (new_draft limits t n table) _ d.0 d.1) ∙ e)
      go (refused k p) s (cause h) =
          let z : ◌≡◌ {A = Answer (List ℕ)} (refused k p) (refused no_sentence at) = sym (not-begun k p s) ∙ e in
          let w : k ≡ no_sentence = cc in
          no_bool (sym (subst (λ (c : Cause). up_to 8 (cause_number c) ≡ true) w h))

  pub begin_theorems : (r : DraftAnswer) (row : List ℕ) → BeginsDraft t n table before r row → BeginTheorems t n table before r row
  begin_theorems r row a =
      let at_done : r ≡ Done → BeginsDraft t n table before Done row = λ e. subst (λ (r : DraftAnswer). BeginsDraft t n table before r row) e a in
      record {
        begins = λ G s h. let d = fresh G (stored G s) in a.answer ∙ ap answered (long-enough d.0 d.1 h);
        begins-only = λ e. begun-from row (answers_done (new_row t n table before) before row (at_done e));
        table-refused = λ c cause at v e other.
            a.answer ∙ ap answered (not-begun cause at (refused-stored cause at (refused-table t n table c v cause at e) other));
        never_19 = λ at e. never at (told (new_row t n table before) at (sym a.answer ∙ e));
        short = λ G s h. let d = fresh G (stored G s) in a.answer ∙ ap answered (too_short d.0 d.1 h);
        refused = λ c p e. refused-new t n table before row c p (subst (λ (r : DraftAnswer). BeginsDraft t n table before r row) e a);
        histories = λ e.
            let b = begun_holds t n table before row (answers_done (new_row t n table before) before row (at_done e)) in
            (b.0, b.1, λ history last k. history_theorems t n table b.0 row last history b.1 b.2 k);
        determined = λ r₂ row₂ b. leaves_once (new_row t n table before) before r r₂ row row₂ a b;
      }
    where
      told : (o : Answer (List ℕ)) (at : ℕ) → answered o ≡ Refused no_sentence at → o ≡ refused no_sentence at
      told (done l) at e = let z : ◌≡◌ {A = ℕ} 0 1 = cc in absurd (let o : ⊥ = omega arith in o)
      told (refused c p) at e = let x : c ≡ no_sentence = cc in let y : p ≡ at = cc in ap₂ (λ c p. refused c p) x y

-- ---- what an edit does

module _ (d : Draft) (eight : length d.marks ≡ marks_count) where
  returned_as : (k : ℕ) (e : Draft) → taken limits d (return k) ≡ done e → (kept d k ≡ some e.rules) × (e.marks ≡ d.marks)
  unfolding taken
  returned_as k e q = go (kept d k) (unless_done not_present k (is_mark k) (restored d k (kept d k)) e q).1
    where
      go : (o : Option (List Rule)) → restored d k o ≡ done e → (o ≡ some e.rules) × (e.marks ≡ d.marks)
      go none z = no_answer z
      go (some rules) z =
          let g : with_rules d rules ≡ e = done_inj z in
          (ap (λ (d : Draft). some d.rules) g, ap (λ (d : Draft). d.marks) (sym g))

  unread_past : (entries more : List ℕ) (e : Draft) → taken limits d (add entries) ≡ done e → taken limits d (add (entries ++ more)) ≡ done e
  unfolding taken
  unread_past entries more e q = unread_more limits d e entries more q

  pub draft_theorems : DraftTheorems d
  draft_theorems = record {
    eight = eight;
    withdrawn = λ i e q.
        let w = withdrawn limits d e i q in
        record { earlier = w.below; later = w.above; count = w.count; marks = w.marks };
    unread = unread_past;
    marked = λ k e q. let w = marked limits d e k q in (w.own eight, w.rules, w.others);
    returned = returned_as;
    stays = λ history k l absent. mark-stays limits d history k l absent;
    comes_back = λ history k l m absent. returned limits d history k l m eight absent;
  }
