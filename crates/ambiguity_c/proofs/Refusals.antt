-- Every refusal of the entries' definitions has one of the documents' causes. Assumes nothing.
use Prim.Native.Nat.{ℕ, suc, ◌+◌, ◌≤◌}
use mathlib.Core.Path.{◌≡◌, refl, ap}
use mathlib.Core.Bool.{Bool, true, ◌||◌}
use mathlib.Core.List.{List, [], ◌∷◌}
use mathlib.Core.Option.{Option, none, some}
use native.Mathlib.Omega.{arith}
use borrow.Author.Tests.{leb-true, le-leb}
use lib.Dec.{leb, eqb}
use Rattle.grammar.specs.Limits.{Limits, limits}
use Rattle.grammar.specs.Grammar.{Rule}
use Rattle.grammar.specs.Refusal.{Answer, too_many_states, certificate_length, spare_bit, start_missing, end_present, successor_missing, buffer_too_short, witness_wrong, malformed, name_unknown, name_repeated, no_sentence, kinds_clash, too_many_callers, row_wrong, too_many_rules, not_present, cause_number}
use Rattle.grammar.specs.TableCheck.{check_table}
use Rattle.grammar.proofs.Answers.{and_both, both_and}
use Rattle.grammar.proofs.Causes.{CausedBy, result, cause, unless, next, up_to, caused_more, stored_causes, next_causes}
use Rattle.drafts.specs.Draft.{Draft, Edit, add, withdraw, mark, return, restored, kept, new_draft, add_rule, taken}
use Rattle.drafts.specs.Row.{draft_or, rules_in, block_of, draft_in, stepped, new_row}
use Rattle.automaton.specs.Moves.{Moves}
use Rattle.automaton.specs.Callers.{check_callers, check_with}
use Rattle.automaton.specs.CallerMoves.{moves_with}
use Rattle.triples.specs.Certificate.{check_bytes, check_certificate}
use Rattle.triples.specs.Witness.{check_on, check_row, check_witness, check_witness_records}
use Rattle.trees.specs.Trees as trees
use Rattle.modules.specs.Joined.{joined_text, refuse_clash, join_texts, joined_table_into, joined_text_into}
use Rattle.report.specs.Report.{report_into}
use Rattle.rooms.specs.Room.{search_room}
use Rattle.search.specs.Promise.{Lent, searchable}
use Rattle.steps.specs.Steps.{nth_step}
use Rattle.readings.specs.Readings.{read_words, read_strings}
use Rattle.readings.specs.Promise.{strings_into}
use Rattle.text.specs.Read.{Source}
use Rattle.text.specs.Rules.{last_tests, check_text, read_into}
use Rattle.text.specs.Print.{text_from, write_into}
use Rattle.text.proofs.Causes.{or_none, whole-line, gather_causes, text_causes, admit_causes, module_causes}

-- the documents' causes
abbrev pub is_cause : ℕ → Bool
is_cause = up_to (cause_number no_sentence)

-- a result, or a refusal with one of the causes
abbrev pub Caused : {A : Type 0} → Answer A → Type 0
Caused o = CausedBy is_cause o

-- the first ones are among them
more : (last : ℕ) → last ≤ cause_number no_sentence → (c : ℕ) → up_to last c ≡ true → is_cause c ≡ true
more last h c e =
    let b = and_both (leb 1 c) (leb c last) e in
    let low : c ≤ last = leb-true c last b.1 in
    both_and (leb 1 c) (leb c (cause_number no_sentence)) b.0 (le-leb c (cause_number no_sentence) (omega arith))

pub check-table : (L : Limits) (t n : ℕ) (table : List ℕ) → Caused (check_table L t n table)
unfolding check_table
check-table L t n table = next _ _ (caused_more (more (cause_number too_many_states) (omega arith)) _ (stored_causes L t n table)) (λ G. unless no_sentence _ _ _ refl result)

-- one other too
abbrev pub is_cause_or : ℕ → ℕ → Bool
is_cause_or other c = is_cause c || eqb c other

abbrev pub CausedOr : ℕ → {A : Type 0} → Answer A → Type 0
CausedOr other o = CausedBy (is_cause_or other) o

still : (other c : ℕ) → is_cause c ≡ true → is_cause_or other c ≡ true
still other c e = ap (λ (b : Bool). b || eqb c other) e

-- ---- with callers, where 21 is a cause too

abbrev pub CallerCaused : {A : Type 0} → Answer A → Type 0
CallerCaused o = CausedOr (cause_number too_many_callers) o

-- the refusals up to 8
check_with_lem : (L : Limits) (t n : ℕ) (table : List ℕ) (m : ℕ) → CallerCaused (check_with L t n table m)
unfolding check_with check_callers
check_with_lem L t n table m =
    next _ _ (caused_more (still (cause_number too_many_callers)) _ (check-table L t n table)) (λ G. unless too_many_callers _ _ _ refl (unless too_many_states _ _ _ refl result))

pub nth-step : (L : Limits) (t n : ℕ) (table : List ℕ) (m f p q k : ℕ) → CallerCaused (nth_step L t n table m f p q k)
unfolding nth_step
nth-step L t n table m f p q k = next _ _ (check_with_lem L t n table m) (λ G. result)

check-bytes : (M : Moves) (bytes : List ℕ) → Caused (check_bytes M bytes)
unfolding check_bytes
check-bytes M bytes =
    unless certificate_length _ _ _ refl
    (unless spare_bit _ _ _ refl
    (unless start_missing _ _ _ refl
    (unless end_present _ _ _ refl
    (unless successor_missing _ _ _ refl result))))

pub check-certificate : (L : Limits) (t n : ℕ) (table : List ℕ) (m : ℕ) (bytes : List ℕ) → CallerCaused (check_certificate L t n table m bytes)
unfolding check_certificate
check-certificate L t n table m bytes = next _ _ (check_with_lem L t n table m) (λ G. caused_more (still (cause_number too_many_callers)) _ (check-bytes (moves_with L G m) bytes))

check-on : (M : Moves) (i place : ℕ) (row : List ℕ) → Caused (check_on M i place row)
unfolding check_on
check-on M i place [] = unless witness_wrong _ _ _ refl result
check-on M i place (j ∷ is) = unless witness_wrong _ _ _ refl (check-on M j (suc place) is)

check-row : (M : Moves) (row : List ℕ) → Caused (check_row M row)
unfolding check_row
check-row M [] = cause refl
check-row M (i ∷ is) = unless witness_wrong _ _ _ refl (check-on M i 1 is)

pub check_witness_lem : (L : Limits) (t n : ℕ) (table : List ℕ) (m : ℕ) (row : List ℕ) → CallerCaused (check_witness L t n table m row)
unfolding check_witness
check_witness_lem L t n table m row = next _ _ (check_with_lem L t n table m) (λ G. caused_more (still (cause_number too_many_callers)) _ (check-row (moves_with L G m) row))

pub check-records : (L : Limits) (t n : ℕ) (table : List ℕ) (m : ℕ) (entries : List (ℕ × ℕ × ℕ)) → CallerCaused (check_witness_records L t n table m entries)
unfolding check_witness_records
check-records L t n table m entries = next _ _ (check_with_lem L t n table m) (λ G. caused_more (still (cause_number too_many_callers)) _ (check-row (moves_with L G m) _))

pub search_asked : (L : Limits) (t n : ℕ) (table : List ℕ) (m : ℕ) (l : Lent) → CallerCaused (searchable L t n table m l)
unfolding searchable
search_asked L t n table m l = next _ _ (check_with_lem L t n table m) (λ G. unless buffer_too_short _ _ _ refl result)

pub search_room_lem : (L : Limits) (t n : ℕ) (table : List ℕ) (m : ℕ) → CallerCaused (search_room L t n table m)
unfolding search_room
search_room_lem L t n table m = next _ _ (check_with_lem L t n table m) (λ G. result)

-- ---- texts

last_tests_lem : (L : Limits) (s : Source) → Caused (last_tests L s)
unfolding last_tests
last_tests_lem L s = next _ _ (caused_more (more (cause_number name_repeated) (omega arith)) _ (admit_causes L L.max_rules [] 0 s.rules)) (λ rules. unless no_sentence _ _ _ refl result)

pub check-text : (L : Limits) (text : List ℕ) → Caused (check_text L text)
unfolding check_text
check-text L text =
    next _ _ (caused_more (more (cause_number name_repeated) (omega arith)) _ (text_causes L text)) (λ s. next _ _ (last_tests_lem L s) (λ G. result))

pub read_into_lem : (L : Limits) (e s l : ℕ) (text : List ℕ) → Caused (read_into L e s l text)
unfolding read_into
read_into_lem L e s l text = next _ _ (check-text L text) (λ source. unless buffer_too_short _ _ _ refl result)

pub text-from : (L : Limits) (t n : ℕ) (table bytes starts lengths : List ℕ) → Caused (text_from L t n table bytes starts lengths)
unfolding text_from
text-from L t n table bytes starts lengths =
    next _ _ (check-table L t n table) (λ G. next _ _ (gather_causes refl bytes starts lengths 0 (t + n)) (λ names. unless name_repeated _ _ _ refl result))

pub write_into_lem : (L : Limits) (t n : ℕ) (table bytes starts lengths : List ℕ) (room : ℕ) → Caused (write_into L t n table bytes starts lengths room)
unfolding write_into
write_into_lem L t n table bytes starts lengths room =
    next _ _ (text-from L t n table bytes starts lengths) (λ text. unless buffer_too_short _ _ _ refl result)

pub report_into_lem : (room : ℕ) (text : List ℕ) → Caused (report_into room text)
unfolding report_into
report_into_lem room text = unless buffer_too_short _ _ _ refl result

read-words : (L : Limits) (t count : ℕ) (names : List (List ℕ)) (at : ℕ) (value : List ℕ) → Caused (read_words L t count names at value)
unfolding read_words
read-words L t count names at value = or_none malformed _ _ _ refl (λ ws. unless name_unknown _ _ _ refl result)

read_strings_lem : (L : Limits) (t count : ℕ) (names : List (List ℕ)) (lines : List ℕ) → Caused (read_strings L t count names lines)
unfolding read_strings
read_strings_lem L t count names lines =
    whole-line 1 _ _ refl (λ first more.
    or_none malformed _ _ _ refl (λ l. next _ _ (read-words L t count names 1 l) (λ u.
    whole-line 2 more _ refl (λ second rest.
    unless malformed _ _ _ refl (or_none malformed _ _ _ refl (λ r. next _ _ (read-words L t count names 2 r) (λ v. result)))))))

-- the lines, and 14
pub strings_into_lem : (L : Limits) (a b : ℕ) (lines : List ℕ) (s : Source) → Caused (strings_into L a b lines s)
unfolding strings_into
strings_into_lem L a b lines s = next _ _ (read_strings_lem L _ _ _ lines) (λ p. unless buffer_too_short _ _ _ refl result)

-- ---- two texts, where 20 is a cause too

abbrev pub JoinCaused : {A : Type 0} → Answer A → Type 0
JoinCaused o = CausedOr (cause_number kinds_clash) o

join_texts_lem : (L : Limits) (robot addon : List ℕ) → JoinCaused (join_texts L robot addon)
unfolding join_texts refuse_clash
join_texts_lem L robot addon =
    next _ _ (caused_more (still (cause_number kinds_clash)) _ (check-text L robot)) (λ r.
    next _ _ (caused_more (λ c h. still (cause_number kinds_clash) c (more (cause_number name_repeated) (omega arith) c h)) _ (module_causes L addon)) (λ m.
    unless kinds_clash _ _ _ refl (unless kinds_clash _ _ _ refl (caused_more (still (cause_number kinds_clash)) _ (check-text L (joined_text L r m))))))

pub join_into : (L : Limits) (e : ℕ) (robot addon : List ℕ) → JoinCaused (joined_table_into L e robot addon)
unfolding joined_table_into
join_into L e robot addon = next _ _ (join_texts_lem L robot addon) (λ s. unless buffer_too_short _ _ _ refl result)

pub joined_into : (L : Limits) (e : ℕ) (robot addon : List ℕ) → JoinCaused (joined_text_into L e robot addon)
unfolding joined_text_into
joined_into L e robot addon = next _ _ (join_texts_lem L robot addon) (λ s. unless buffer_too_short _ _ _ refl result)

-- ---- a row of terminals, where 22 is a cause too

pub check_sentence : (L : Limits) (t n : ℕ) (table row work : List ℕ) → CausedOr (cause_number row_wrong) (trees.check_row L t n table row work)
unfolding trees.check_row
check_sentence L t n table row work =
    next _ _ (caused_more (still (cause_number row_wrong)) _ (check-table L t n table)) (λ G. unless row_wrong _ _ _ refl (unless buffer_too_short _ _ _ refl result))

pub trees-room : (L : Limits) (t n : ℕ) (table : List ℕ) → Caused (trees.trees_room L t n table)
unfolding trees.trees_room
trees-room L t n table = next _ _ (check-table L t n table) (λ G. result)

-- ---- a draft, where 23 is a cause too, but for a new one

pub new-draft : (t n : ℕ) (table row : List ℕ) → Caused (new_row t n table row)
unfolding new_row new_draft
new-draft t n table row =
    next _ _ (next _ _ (caused_more (more (cause_number too_many_states) (omega arith)) _ (stored_causes limits t n table)) (λ G. result)) (λ d. unless buffer_too_short _ _ _ refl result)

abbrev pub DraftCaused : {A : Type 0} → Answer A → Type 0
DraftCaused o = CausedOr (cause_number not_present) o

draft_or_lem : (row : List ℕ) (o : Option (List Rule)) → DraftCaused (draft_or row o)
draft_or_lem row none = cause refl
draft_or_lem row (some rules) = result

pub draft_in_lem : (row : List ℕ) → DraftCaused (draft_in row)
unfolding draft_in
draft_in_lem row = unless buffer_too_short _ _ _ refl (draft_or_lem row (rules_in (block_of row 0)))

restored_causes : (d : Draft) (k : ℕ) (o : Option (List Rule)) → DraftCaused (restored d k o)
restored_causes d k none = cause refl
restored_causes d k (some rules) = result

edit_causes : (d : Draft) (s : Edit) → DraftCaused (taken limits d s)
unfolding taken add_rule
edit_causes d (add entries) =
    unless too_many_rules _ _ _ refl
    (next _ _ (caused_more (λ c h. still (cause_number not_present) c (more (cause_number too_many_states) (omega arith) c h)) _ (next_causes limits _ _ _ d.rules _)) (λ k. result))
edit_causes d (withdraw i) = unless not_present _ _ _ refl result
edit_causes d (mark k) = unless not_present _ _ _ refl result
edit_causes d (return k) = unless not_present _ _ _ refl (restored_causes d k (kept d k))

pub edit_row : (row : List ℕ) (s : Edit) → DraftCaused (stepped row s)
unfolding stepped
edit_row row s = next _ _ (draft_in_lem row) (λ d. next _ _ (edit_causes d s) (λ e. result))
