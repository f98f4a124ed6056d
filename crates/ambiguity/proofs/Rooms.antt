-- What follows from the promises of the room told beforehand. Assumes nothing.
use Prim.Native.Nat.{ℕ, ◌+◌, ◌*◌, ◌≤◌}
use mathlib.Core.Path.{◌≡◌, refl, ap, sym, subst, subst₂, ◌∙◌}
use mathlib.Core.Bool.{Bool, true, false, not}
use mathlib.Core.List.{List}
use mathlib.Core.Logic.{◌⊎◌, inl, inr}
use native.Mathlib.Omega.{arith}
use borrow.Author.Tests.{le-leb, leb-true, eqb-true}
use lib.Dec.{leb, eqb}
use lib.ListN.{length}
use Rattle.grammar.specs.Limits.{limits}
use Rattle.grammar.specs.Grammar.{Grammar}
use Rattle.grammar.specs.Refusal.{Answer, done, refused, buffer_too_short, name_repeated, no_sentence, cause_number}
use Rattle.grammar.specs.TableCheck.{check_table}
use Rattle.grammar.proofs.Answers.{no_bool, no_answer, and_both, both_and, then-goes, then_stops}
use Rattle.grammar.proofs.Causes.{CausedBy, result, cause, unless, next, up_to, caused_more, stored_causes}
use Rattle.grammar.specs.declared.Cause.{Cause}
use Rattle.automaton.specs.AllMoves.{move_count}
use Rattle.automaton.specs.Callers.{check_with}
use Rattle.automaton.specs.CallerMoves.{moves_with}
use Rattle.triples.specs.Index.{triple_count}
use Rattle.triples.specs.Certificate.{byte_count}
use Rattle.figures.proofs.Callers.{with_list, with_cardinal}
use Rattle.search.specs.Promise.{Lent, is_enough, Searches}
use Rattle.search.specs.declared.SearchVerdict.{SearchVerdict}
use Rattle.search.specs.declared.SearchVerdict.TheVariants as search
use Rattle.rooms.specs.Room.{room_of, search_room, room_told, RoomAnswer}
use Rattle.rooms.specs.declared.SearchRoom.{SearchRoom}
use Rattle.rooms.specs.declared.SearchRoom.TheVariants as room
use Rattle.text.specs.Print.{text_from, write_into}
use Rattle.text.proofs.Causes.{gather_causes}
use Rattle.text.proofs.RoundTrip.{table-refuses, into_refused, into_short, into_done}
use Rattle.text.proofs.Promises.{told_as, told-refused}
use Rattle.text.specs.Promise.{text_length, text_written, afterwards, WritesText, LengthAnswer}
use Rattle.text.specs.declared.TextLength.{TextLength}
use Rattle.text.specs.declared.TextWritten.{TextWritten}
use Rattle.text.specs.declared.TextWritten.TheVariants as writer
use Rattle.table_check.proofs.Callers.{refused-table}
use Rattle.ambiguity.specs.Entries.{StoresAt, states_at}
use Rattle.ambiguity.specs.Searches.{Certifies}
use Rattle.ambiguity.specs.Rooms.{LentThat, LentLess, RoomTheorems, LengthTheorems}
use Rattle.ambiguity.proofs.Entries.{checked-at, stores_at, stops, zero-live}
use Rattle.ambiguity.proofs.Searches.{search_theorems}

-- ---- a search

-- the room that is told is that of a grammar's moves with m callers
record IsRoomOf (G : Grammar) (m q b e x : ℕ) : Type 0 where
  size : q ≡ states_at G m
  certificate : b ≡ byte_count (states_at G m)
  entries : e ≡ triple_count (states_at G m)
  moves : x ≡ move_count (moves_with limits G m)

-- lent that much or less, by the search's own test
that_enough : (Q : ℕ) (l : Lent) → LentThat (byte_count Q) (triple_count Q) l → is_enough Q l ≡ true
unfolding is_enough
that_enough Q l h =
    both_and _ _ (le-leb _ _ h.0) (both_and _ _ (le-leb _ _ h.1) (both_and _ _ (le-leb _ _ h.2) (le-leb _ _ h.3)))

less_short : (Q : ℕ) (l : Lent) → LentLess (byte_count Q) (triple_count Q) l → is_enough Q l ≡ false
less_short Q l h = go (is_enough Q l) refl
  where
    absent : LentThat (byte_count Q) (triple_count Q) l → LentLess (byte_count Q) (triple_count Q) l → ⊥
    absent t (inl x) = let y = t.0 in omega arith
    absent t (inr (inl x)) = let y = t.1 in omega arith
    absent t (inr (inr (inl x))) = let y = t.2 in omega arith
    absent t (inr (inr (inr x))) = let y = t.3 in omega arith

    that : is_enough Q l ≡ true → LentThat (byte_count Q) (triple_count Q) l
    that e =
        unfold is_enough in
        let a = and_both (leb (byte_count Q) (length l.certificate)) _ e in
        let b = and_both (leb (triple_count Q) (length l.queue)) _ a.1 in
        let c = and_both (leb (triple_count Q) (length l.parents)) (leb (triple_count Q) (length l.witness)) b.1 in
        (leb-true _ _ a.0, leb-true _ _ b.0, leb-true _ _ c.0, leb-true _ _ c.1)

    go : (b : Bool) → is_enough Q l ≡ b → b ≡ false
    go true e = absurd (absent (that e) h)
    go false e = refl

-- a verdict is no refusal
verdict_given : (t n : ℕ) (table : List ℕ) (m : ℕ) (G : Grammar) (v : SearchVerdict) (written : List ℕ)
    → ((k l : ℕ) × (v ≡ search.Potential k l)) ⊎ Certifies t n table m G v written → (c : Cause) (p : ℕ) → ¬ (v ≡ search.Refused c p)
verdict_given t n table m G v written (inl (k, l, q)) c p e = let z : search.Potential k l ≡ search.Refused c p = sym q ∙ e in absurd (let y : ◌≡◌ {A = ℕ} 0 1 = cc in omega arith)
verdict_given t n table m G v written (inr k) c p e = let z = sym k.verdict ∙ e in absurd (let y : ◌≡◌ {A = ℕ} 0 1 = cc in omega arith)

module _ (t n : ℕ) (table : List ℕ) (m : ℕ) where
  -- where the search gave a verdict, it was lent enough
  answered : (G : Grammar) → StoresAt t n table m G → (before : Lent) (v : SearchVerdict) (after : Lent) → Searches t n table m before v after
      → (k l : ℕ) → (v ≡ search.Unambiguous k l) ⊎ (v ≡ search.Potential k l) → is_enough (states_at G m) before ≡ true
  answered G s before v after a k l y = go (is_enough (states_at G m) before) refl
    where
      apart : (v ≡ search.Unambiguous k l) ⊎ (v ≡ search.Potential k l) → v ≡ search.Refused buffer_too_short 0 → ⊥
      apart (inl q) e = let z : search.Unambiguous k l ≡ search.Refused buffer_too_short 0 = sym q ∙ e in let o : ◌≡◌ {A = ℕ} 0 1 = cc in omega arith
      apart (inr q) e = let z : search.Potential k l ≡ search.Refused buffer_too_short 0 = sym q ∙ e in let o : ◌≡◌ {A = ℕ} 0 1 = cc in omega arith

      go : (b : Bool) → is_enough (states_at G m) before ≡ b → b ≡ true
      go true e = refl
      go false e = absurd (apart y ((search_theorems t n table m before v after a).short G s e).0)

  module _ (r : SearchRoom) (h : RoomAnswer t n table m r) where
    -- the answer, by what the refusals up to 8 give
    room-passed : (G : Grammar) → check_with limits t n table m ≡ done G → r ≡ room_told (done (room_of (moves_with limits G m)))
    unfolding search_room
    room-passed G e = h ∙ ap room_told (then-goes (check_with limits t n table m) (λ G. done (room_of (moves_with limits G m))) G e)

    room-refused : (c : Cause) (p : ℕ) → check_with limits t n table m ≡ refused c p → r ≡ room.Refused c p
    unfolding search_room
    room-refused c p e = h ∙ ap room_told (then_stops (check_with limits t n table m) (λ G. done (room_of (moves_with limits G m))) c p e)

    -- the room of a grammar that passes
    abbrev room_at : Grammar → SearchRoom
    room_at G = room.Room (states_at G m) (byte_count (states_at G m)) (triple_count (states_at G m)) (move_count (moves_with limits G m))

    -- the table passed, the states fit, and the numbers are its grammar's
    room_of_lem : (q b e x : ℕ) → r ≡ room.Room q b e x → (G : Grammar) × StoresAt t n table m G × IsRoomOf G m q b e x
    room_of_lem q b e x y = go (check_with limits t n table m) refl
      where
        go : (o : Answer Grammar) → check_with limits t n table m ≡ o → (G : Grammar) × StoresAt t n table m G × IsRoomOf G m q b e x
        go (done G) c =
            let z : room.Room q b e x ≡ room_at G = sym y ∙ room-passed G c in
            (G, stores_at t n table m G c, record { size = cc; certificate = cc; entries = cc; moves = cc })
        go (refused c p) d = let z : room.Room q b e x ≡ room.Refused c p = sym y ∙ room-refused c p d in absurd (let w : ◌≡◌ {A = ℕ} 0 1 = cc in omega arith)

    pub room_theorems : RoomTheorems t n table m r
    room_theorems = record {
      refused = λ cause at a. room-refused cause at (stops t n table m a);
      told = λ G s. (_, room-passed G (checked-at t n table m G s));
      enough = λ q b e x y before v after a l at.
          let k = room_of_lem q b e x y in
          let G = k.0 in
          let w = (search_theorems t n table m before v after a).enough G k.1
          (that_enough (states_at G m) before (subst₂ (λ b e. LentThat b e before) k.2.certificate k.2.entries l)) in
          verdict_given t n table m G v _ w.one_of_two buffer_too_short at;
      short = λ q b e x y before v after a l.
          let k = room_of_lem q b e x y in
          let G = k.0 in
          (search_theorems t n table m before v after a).short G k.1
          (less_short (states_at G m) before (subst₂ (λ b e. LentLess b e before) k.2.certificate k.2.entries l));
      looked = λ q b e x y before v after a k l z.
          let g = room_of_lem q b e x y in
          let G = g.0 in
          let w = (search_theorems t n table m before v after a).enough G g.1 (answered G g.1 before v after a k l z) in
          subst₂ (λ q x. l ≤ x * x + 2 * (q * x)) (sym g.2.size) (sym g.2.moves) (w.looked k l z).1;
      listed = λ G s. let W = s.stores.is_table.well_formed in with_list limits G W (omega arith) (zero-live G W s.stores.sentence) m;
      number = λ G s q b e x y l d.
          let W = s.stores.is_table.well_formed in
          let z : room.Room q b e x ≡ room_at G = sym y ∙ room-passed G (checked-at t n table m G s) in
          let c : x ≡ move_count (moves_with limits G m) = cc in
          c ∙ sym (with_cardinal limits G W (omega arith) (zero-live G W s.stores.sentence) m l d);
    }

-- ---- the writer

-- every cause but 14
abbrev not_short : ℕ → Bool
not_short c = not (eqb c (cause_number buffer_too_short))

few_causes : (c : ℕ) → up_to 8 c ≡ true → not_short c ≡ true
few_causes c h =
    let k : c ≤ 8 = leb-true c 8 (and_both (leb 1 c) (leb c 8) h).1 in
    go (eqb c (cause_number buffer_too_short)) refl k
  where
    go : (b : Bool) → eqb c (cause_number buffer_too_short) ≡ b → c ≤ 8 → not b ≡ true
    go true e k = let z : c ≡ cause_number buffer_too_short = eqb-true c (cause_number buffer_too_short) e in absurd (omega arith)
    go false e k = refl

text_causes : (t n : ℕ) (table bytes starts lengths : List ℕ) → CausedBy not_short (text_from limits t n table bytes starts lengths)
unfolding text_from check_table
text_causes t n table bytes starts lengths =
    next _ _ (next _ _ (caused_more few_causes _ (stored_causes limits t n table)) (λ G. unless no_sentence _ _ _ refl result))
    (λ G. next _ _ (gather_causes refl bytes starts lengths 0 (t + n)) (λ names. unless name_repeated _ _ _ refl result))

not_caused : {A : Type 0} (o : Answer A) (at : ℕ) → CausedBy not_short o → ¬ (o ≡ refused buffer_too_short at)
not_caused (done a) at h e = no_answer (sym e)
not_caused (refused c p) at (cause h) e =
    let z : c ≡ buffer_too_short = cc in
    no_bool (sym (subst (λ (c : Cause). not_short (cause_number c) ≡ true) z h))

module _ (t n : ℕ) (table bytes starts lengths : List ℕ) (r : TextLength) (h : LengthAnswer t n table bytes starts lengths r) where
  abbrev text : Answer (List ℕ)
  text = text_from limits t n table bytes starts lengths

  -- the writer, from its answer
  write_is : (o : Answer (List ℕ)) (out : List ℕ) (v : TextWritten) (out' : List ℕ) → WritesText t n table bytes starts lengths out v out'
      → write_into limits t n table bytes starts lengths (length out) ≡ o → (v ≡ text_written o) × (out' ≡ afterwards o (λ text. text) out)
  write_is o out v out' w e = (w.answer ∙ ap text_written e, w.out-after ∙ ap (λ (o : Answer (List ℕ)). afterwards o (λ text. text) out) e)

  pub length_theorems : LengthTheorems t n table bytes starts lengths r
  length_theorems = record {
    table-refused = λ c cause at a d. h ∙ ap text_length (table-refuses limits t n table bytes starts lengths cause at (refused-table t n table c a cause at d));
    refused = λ c p e out v out' w. write_is (refused c p) out v out' w (into_refused limits t n table bytes starts lengths (length out) c p (told-refused text c p (sym e ∙ h)));
    enough = λ k e out v out' w l.
        let b = told_as text k (sym e ∙ h) in
        (write_is (done b.0) out v out' w (into_done limits t n table bytes starts lengths (length out) b.0 b.1 (omega (arith, l, b.2)))).0 ∙ ap (λ (k : ℕ). writer.Written k) b.2;
    short = λ k e out v out' w l.
        let b = told_as text k (sym e ∙ h) in
        write_is (refused buffer_too_short 0) out v out' w (into_short limits t n table bytes starts lengths (length out) b.0 b.1 (omega (arith, l, b.2)));
    never_14 = λ at e. not_caused text at (text_causes t n table bytes starts lengths) (told-refused text buffer_too_short at (sym e ∙ h));
  }
