-- The cause in a reply: every refusal that an entry promises has one of the documents', and every other reply has 0. Assumes nothing.
use Prim.Native.Nat.{ℕ, ◌≤◌}
use native.Mathlib.Omega.{arith}
use mathlib.Core.Path.{◌≡◌, refl, sym, subst}
use mathlib.Core.Bool.{Bool, true, false}
use lib.Dec.{leb, eqb}
use borrow.Author.Tests.{leb-true, eqb-true}
use mathlib.Core.Option.{Option, none, some}
use mathlib.Core.List.{List}
use mathlib.Core.Logic.{inl, inr}
use Rattle.grammar.specs.Limits.{limits}
use Rattle.grammar.specs.Grammar.{Grammar}
use Rattle.grammar.specs.Refusal.{Answer, done, refused, and_then, no_sentence, buffer_too_short, kinds_clash, too_many_callers, row_wrong, not_present, cause_number}
use Rattle.grammar.specs.TableCheck.{table_checked}
use Rattle.grammar.specs.declared.TableVerdict.TheVariants.{Passed}
use Rattle.grammar.proofs.Answers.{no_answer, and_both, or_one}
use Rattle.channels.specs.Promise.{ReadsPlan, as_trees}
use Rattle.channels.specs.Commands.{commands, table}
use Rattle.channels.specs.declared.PlanRead.{PlanRead}
use Rattle.channels.specs.declared.PlanRead.TheVariants as plan
use Rattle.drafts.specs.Draft.{Draft}
use Rattle.drafts.specs.Promise.{answered}
use Rattle.drafts.specs.Reading.{counted, placed}
use Rattle.drafts.specs.declared.DraftAnswer.TheVariants as edit
use Rattle.drafts.specs.declared.TablePlace.TheVariants as tablePlace
use Rattle.automaton.specs.Moves.{Moves}
use Rattle.automaton.specs.CallerMoves.{moves_with}
use Rattle.triples.specs.Verdict.{check_verdict}
use Rattle.triples.specs.declared.CheckVerdict.{CheckVerdict}
use Rattle.triples.specs.declared.CheckVerdict.TheVariants.{Accepted}
use Rattle.triples.specs.declared.Step.{Step}
use Rattle.automaton.specs.Strings.{Letter}
use Rattle.readings.specs.Promise.{strings_into, read_back_into, read_back}
use Rattle.readings.specs.declared.ReadBack.TheVariants as back
use Rattle.report.specs.Report.{reported}
use Rattle.report.specs.declared.Reported.TheVariants as report
use Rattle.rooms.specs.Room as search_room
use Rattle.rooms.specs.Room.{Room}
use Rattle.search.specs.Promise.{Lent, is_potential, Told, Answers}
use Rattle.search.specs.declared.SearchVerdict.{SearchVerdict}
use Rattle.steps.specs.Steps.{step_answer}
use Rattle.text.specs.Read.{Source}
use Rattle.text.specs.Rules.{check_text}
use Rattle.text.specs.Promise.{text_read, text_length, text_written}
use Rattle.text.specs.declared.TextLength.TheVariants as measured
use Rattle.text.specs.declared.TextWritten.TheVariants.{Written}
use Rattle.trees.specs.Promise.{FindsTrees, refuses, no_tree, several-trees, one-tree, too_short, room_told}
use Rattle.trees.specs.declared.TreesFound.{TreesFound}
use Rattle.trees.specs.declared.TreesRoom.TheVariants.{Entries}
use Rattle.witness_records.specs.Records.{triples}
use Rattle.ambiguity_c.specs.Replies.{table_reply, step_reply, check_reply, search_reply, room_reply, read_reply, write_reply, length_reply, report_reply, read_back_reply, trees_reply, trees_room_reply, draft_reply, draft_counts_reply, draft_table_reply, plan_reply}
use Rattle.ambiguity_c.specs.Causes.{Tells, TellsOr, JoinTells, CallerTells, RowTells, DraftTells, IsRead, IsRoom, IsVerdict, IsStep, IsFound, IsPlan, IsCounts, CauseTheorems}
use Rattle.grammar.proofs.Causes.{cause}
use Rattle.grammar.specs.declared.Cause.{Cause}
use Rattle.ambiguity_c.proofs.Refusals.{is_cause, Caused, is_cause_or, CausedOr, JoinCaused, CallerCaused, join_into, joined_into, check-table, nth-step, check_witness_lem, check-records, check-certificate, search_asked, search_room_lem, check-text, read_into_lem, text-from, write_into_lem, report_into_lem, strings_into_lem, check_sentence, trees-room, DraftCaused, new-draft, draft_in_lem, edit_row}

-- nothing is refused
tells_done : {X : Type 0} → X → Tells 0 X
tells_done x = record { known = omega arith; zero = λ e. x }

-- a refusal is not told by 0
tells_refused : {X : Type 0} (c : ℕ) → is_cause c ≡ true → Tells c X
tells_refused c h =
    let b = and_both (leb 1 c) (leb c (cause_number no_sentence)) h in
    let low : 1 ≤ c = leb-true 1 c b.0 in
    let high : c ≤ cause_number no_sentence = leb-true c (cause_number no_sentence) b.1 in
    record { known = high; zero = λ e. absurd (omega arith) }

-- with one other cause
answer-told : {X : Type 0} {other : ℕ} → X → TellsOr other 0 X
answer-told x = record { known = inl (omega arith); zero = λ e. x }

refusal_told : {X : Type 0} (other c : ℕ) → 1 ≤ other → is_cause_or other c ≡ true → TellsOr other c X
refusal_told other c l h = elim (or_one (is_cause c) (eqb c other) h) [
  | inl q ↦ let t = tells_refused c q in record { known = inl t.known; zero = t.zero }
  | inr q ↦
      let z : c ≡ other = eqb-true c other q in
      record { known = inr z; zero = λ e. absurd (omega arith) }
]

caller_told : {X : Type 0} (c : ℕ) → is_cause_or (cause_number too_many_callers) c ≡ true → CallerTells c X
caller_told c = refusal_told (cause_number too_many_callers) c (omega arith)

table_tells : (o : Answer Grammar) → Caused o → Tells (table_reply (table_checked o)).cause ((table_checked o).verdict ≡ Passed)
table_tells (done G) h = tells_done refl
table_tells (refused c p) (cause h) = tells_refused (cause_number c) h

step_tells : (o : Answer (Option Step)) → CallerCaused o → CallerTells (step_reply (step_answer o)).cause (IsStep (step_answer o))
step_tells (done none) h = answer-told (inr (refl, refl))
step_tells (done (some s)) h = answer-told (inl (refl, (s, refl)))
step_tells (refused c p) (cause h) = caller_told (cause_number c) h

check_tells : (o : Answer Unit) → CallerCaused o → CallerTells (check_reply (check_verdict o)).cause (check_verdict o ≡ Accepted)
check_tells (done u) h = answer-told refl
check_tells (refused c p) (cause h) = caller_told (cause_number c) h

verdict_tells : (o : Answer Unit) (v : CheckVerdict) → CallerCaused o → v ≡ check_verdict o → CallerTells (check_reply v).cause (v ≡ Accepted)
verdict_tells o v h a = subst (λ v. CallerTells (check_reply v).cause (v ≡ Accepted)) (sym a) (check_tells o h)

told_tells : (b : Bool) (M : Moves) (before : Lent) (v : SearchVerdict) (after : Lent) → Told b M before v after
    → CallerTells (search_reply v).cause (IsVerdict v)
told_tells true M before v after a =
    subst (λ v. CallerTells (search_reply v).cause (IsVerdict v)) (sym a.verdict) (answer-told (inr (refl, refl)))
told_tells false M before v after a =
    subst (λ v. CallerTells (search_reply v).cause (IsVerdict v)) (sym a.verdict) (answer-told (inl (refl, refl)))

search_tells : (m : ℕ) (o : Answer Grammar) (before : Lent) (v : SearchVerdict) (after : Lent) → CallerCaused o → Answers limits m o before v after
    → CallerTells (search_reply v).cause (IsVerdict v)
search_tells m (done G) before v after h a = told_tells (is_potential (moves_with limits G m)) (moves_with limits G m) before v after a
search_tells m (refused c p) before v after (cause h) a =
    subst (λ v. CallerTells (search_reply v).cause (IsVerdict v)) (sym a.0) (caller_told (cause_number c) h)

room_tells : (o : Answer Room) → CallerCaused o → CallerTells (room_reply (search_room.room_told o)).cause (IsRoom (search_room.room_told o))
room_tells (done r) h = answer-told refl
room_tells (refused c p) (cause h) = caller_told (cause_number c) h

read_tells : (o : Answer Source) → Caused o → Tells (read_reply (text_read o)).cause (IsRead (text_read o))
read_tells (done s) h = tells_done refl
read_tells (refused c p) (cause h) = tells_refused (cause_number c) h

write_tells : (o : Answer (List ℕ)) → Caused o
    → Tells (write_reply (text_written o)).cause (text_written o ≡ Written (write_reply (text_written o)).length)
write_tells (done s) h = tells_done refl
write_tells (refused c p) (cause h) = tells_refused (cause_number c) h

length_tells : (o : Answer (List ℕ)) → Caused o → Tells (length_reply (text_length o)).cause (text_length o ≡ measured.Bytes (length_reply (text_length o)).length)
length_tells (done s) h = tells_done refl
length_tells (refused c p) (cause h) = tells_refused (cause_number c) h

report_tells : (o : Answer (List ℕ)) → Caused o
    → Tells (report_reply (reported o)).cause (reported o ≡ report.Written (report_reply (reported o)).length)
report_tells (done s) h = tells_done refl
report_tells (refused c p) (cause h) = tells_refused (cause_number c) h

strings_tell : (o : Answer (List Letter × List Letter)) → Caused o
    → Tells (read_back_reply (read_back (done o))).cause
    (read_back (done o) ≡ back.Read (read_back_reply (read_back (done o))).left (read_back_reply (read_back (done o))).right)
strings_tell (done p) h = tells_done refl
strings_tell (refused c p) (cause h) = tells_refused (cause_number c) h

back_tells : (a b : ℕ) (lines : List ℕ) (o : Answer Source) → Caused o → let w = read_back (and_then o (λ s. done (strings_into limits a b lines s))) in
    Tells (read_back_reply w).cause (w ≡ back.Read (read_back_reply w).left (read_back_reply w).right)
unfolding and_then
back_tells a b lines (done s) h = strings_tell (strings_into limits a b lines s) (strings_into_lem limits a b lines s)
back_tells a b lines (refused c p) (cause h) = tells_refused (cause_number c) h

back_promised : (a b : ℕ) (text lines : List ℕ) → let w = read_back (read_back_into limits a b text lines) in
    Tells (read_back_reply w).cause (w ≡ back.Read (read_back_reply w).left (read_back_reply w).right)
unfolding read_back_into
back_promised a b text lines = back_tells a b lines (check_text limits text) (check-text limits text)

-- over two texts
join-read_tells : (o : Answer Source) → JoinCaused o → JoinTells (read_reply (text_read o)).cause (IsRead (text_read o))
join-read_tells (done s) h = answer-told refl
join-read_tells (refused c p) (cause h) = refusal_told (cause_number kinds_clash) (cause_number c) (omega arith) h

join-write_tells : (o : Answer (List ℕ)) → JoinCaused o
    → JoinTells (write_reply (text_written o)).cause (text_written o ≡ Written (write_reply (text_written o)).length)
join-write_tells (done s) h = answer-told refl
join-write_tells (refused c p) (cause h) = refusal_told (cause_number kinds_clash) (cause_number c) (omega arith) h

-- of a row of terminals
row-refused : (o : Answer Grammar) (c : Cause) (p : ℕ) → CausedOr (cause_number row_wrong) o → o ≡ refused c p → is_cause_or (cause_number row_wrong) (cause_number c) ≡ true
row-refused (done G) c p h e = no_answer (sym e)
row-refused (refused d q) c p (cause h) e = let z : d ≡ c = cc in subst (λ (c : Cause). is_cause_or (cause_number row_wrong) (cause_number c) ≡ true) z h

row_tells : (t n : ℕ) (table row work list : List ℕ) {v : TreesFound} {work' list' : List ℕ} → FindsTrees t n table row work list v work' list'
    → RowTells (trees_reply v).cause (IsFound v)
row_tells t n table row work list (refuses c p e) =
    refusal_told (cause_number row_wrong) (cause_number c) (omega arith) (row-refused _ c p (check_sentence limits t n table row work) e)
row_tells t n table row work list (no_tree G e a) = answer-told (inl (refl, refl))
row_tells t n table row work list (several-trees G e a) = answer-told (inr (inr (refl, refl)))
row_tells t n table row work list (one-tree G e rules a h) = answer-told (inr (inl (refl, refl)))
row_tells t n table row work list (too_short G e rules a h) = refusal_told (cause_number row_wrong) (cause_number buffer_too_short) (omega arith) refl

trees-room_tells : (o : Answer ℕ) → Caused o → Tells (trees_room_reply (room_told o)).cause (room_told o ≡ Entries (trees_room_reply (room_told o)).entries)
trees-room_tells (done e) h = tells_done refl
trees-room_tells (refused c p) (cause h) = tells_refused (cause_number c) h

-- of a row of the command set
plan_tells : (row work list : List ℕ) (v : PlanRead) (work' list' : List ℕ) → ReadsPlan row work list v work' list' → RowTells (plan_reply v).cause (IsPlan v)
plan_tells row work list plan.Nothing work' list' a = answer-told (inl (refl, refl))
plan_tells row work list (plan.Plan k) work' list' a = answer-told (inr (refl, refl))
plan_tells row work list (plan.Refused c p) work' list' a =
    let t = row_tells commands.terminals commands.nonterminals table row work list a in
    record { known = t.known; zero = λ e. refused-found c p (t.zero e) }
  where
    refused-found : (c : Cause) (p : ℕ) → IsFound (as_trees (plan.Refused c p)) → IsPlan (plan.Refused c p)
    refused-found c p (inl (e, q)) = let z : ◌≡◌ {A = ℕ} 0 1 = e in absurd (let o : ⊥ = omega arith in o)
    refused-found c p (inr (inl (e, q))) = let z : ◌≡◌ {A = ℕ} 0 2 = e in absurd (let o : ⊥ = omega arith in o)
    refused-found c p (inr (inr (e, q))) = let z : ◌≡◌ {A = ℕ} 0 3 = e in absurd (let o : ⊥ = omega arith in o)

-- of a draft
begun_tells : (o : Answer (List ℕ)) → Caused o → Tells (draft_reply (answered o)).cause (answered o ≡ edit.Done)
begun_tells (done row) h = tells_done refl
begun_tells (refused c p) (cause h) = tells_refused (cause_number c) h

draft-told : {X : Type 0} (c : ℕ) → is_cause_or (cause_number not_present) c ≡ true → DraftTells c X
draft-told c = refusal_told (cause_number not_present) c (omega arith)

edited_tells : (o : Answer (List ℕ)) → DraftCaused o → DraftTells (draft_reply (answered o)).cause (answered o ≡ edit.Done)
edited_tells (done row) h = answer-told refl
edited_tells (refused c p) (cause h) = draft-told (cause_number c) h

counted_tells : (o : Answer Draft) → DraftCaused o → DraftTells (draft_counts_reply (counted o)).cause (IsCounts (counted o))
counted_tells (done d) h = answer-told refl
counted_tells (refused c p) (cause h) = draft-told (cause_number c) h

placed_tells : (o : Answer Draft) → DraftCaused o → let v = placed o in
    DraftTells (draft_table_reply v).cause (v ≡ tablePlace.Stands (draft_table_reply v).start (draft_table_reply v).entries)
placed_tells (done d) h = answer-told refl
placed_tells (refused c p) (cause h) = draft-told (cause_number c) h

pub cause_theorems : CauseTheorems
cause_theorems = record {
  tables = λ t n table r a.
      subst (λ r. Tells (table_reply r).cause (r.verdict ≡ Passed)) (sym a) (table_tells _ (check-table limits t n table));
  steps = λ t n table m f p q ask a k u.
      subst (λ s. CallerTells (step_reply s).cause (IsStep s)) (sym (a k u)) (step_tells _ (nth-step limits t n table m f p q k));
  witnesses = λ t n table m row v a. verdict_tells _ v (check_witness_lem limits t n table m row) a;
  records = λ t n table m entries v a. verdict_tells _ v (check-records limits t n table m (triples entries)) a;
  certificates = λ t n table m bytes v a. verdict_tells _ v (check-certificate limits t n table m bytes) a;
  searches = λ t n table m before v after a. search_tells m _ before v after (search_asked limits t n table m before) a;
  rooms = λ t n table m v a. subst (λ v. CallerTells (room_reply v).cause (IsRoom v)) (sym a) (room_tells _ (search_room_lem limits t n table m));
  reads = λ text table starts lengths v table' starts' lengths' a.
      subst (λ v. Tells (read_reply v).cause (IsRead v)) (sym a.answer) (read_tells _ (read_into_lem limits _ _ _ text));
  writes = λ t n table bytes starts lengths out v out' a.
      subst (λ v. Tells (write_reply v).cause (v ≡ Written (write_reply v).length)) (sym a.answer)
      (write_tells _ (write_into_lem limits t n table bytes starts lengths _));
  text-lengths = λ t n table bytes starts lengths v a.
      subst (λ v. Tells (length_reply v).cause (v ≡ measured.Bytes (length_reply v).length)) (sym a) (length_tells _ (text-from limits t n table bytes starts lengths));
  joins = λ robot addon table v table' a.
      subst (λ v. JoinTells (read_reply v).cause (IsRead v)) (sym a.answer) (join-read_tells _ (join_into limits _ robot addon));
  joined_texts = λ robot addon out v out' a.
      subst (λ v. JoinTells (write_reply v).cause (v ≡ Written (write_reply v).length)) (sym a.answer)
      (join-write_tells _ (joined_into limits _ robot addon));
  reports = λ text out v out' a.
      subst (λ v. Tells (report_reply v).cause (v ≡ report.Written (report_reply v).length)) (sym a.answer)
      (report_tells _ (report_into_lem _ text));
  backs = λ text lines left right v left' right' a.
      subst (λ v. Tells (read_back_reply v).cause (v ≡ back.Read (read_back_reply v).left (read_back_reply v).right)) (sym a.answer)
      (back_promised _ _ text lines);
  trees = λ t n table row work list v work' list' a. row_tells t n table row work list a;
  trees_rooms = λ t n table v a.
      subst (λ v. Tells (trees_room_reply v).cause (v ≡ Entries (trees_room_reply v).entries)) (sym a) (trees-room_tells _ (trees-room limits t n table));
  drafts_begun = λ t n table draft v draft' a.
      subst (λ v. Tells (draft_reply v).cause (v ≡ edit.Done)) (sym a.answer) (begun_tells _ (new-draft t n table draft));
  drafts_edited = λ draft s v draft' a.
      subst (λ v. DraftTells (draft_reply v).cause (v ≡ edit.Done)) (sym a.answer) (edited_tells _ (edit_row draft s));
  draft-counts = λ draft v a. subst (λ v. DraftTells (draft_counts_reply v).cause (IsCounts v)) (sym a) (counted_tells _ (draft_in_lem draft));
  draft-tables = λ draft v a.
      subst (λ v. DraftTells (draft_table_reply v).cause (v ≡ tablePlace.Stands (draft_table_reply v).start (draft_table_reply v).entries)) (sym a)
      (placed_tells _ (draft_in_lem draft));
  plans = plan_tells;
}
