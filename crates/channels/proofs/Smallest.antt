-- What the search writes for the command set: one test over the smallest set, of its size, of the successors to look at and of its
-- certificate, which is computed; then the law from the test to the search's answer. Assumes nothing.
use Prim.Native.Nat.{ℕ}
use mathlib.Core.Path.{◌≡◌, refl, sym, ap, ap₂, subst, ◌∙◌}
use mathlib.Core.Bool.{Bool, true, false, ◌&&◌}
use mathlib.Core.List.{List}
use lib.Dec.{eqb}
use lib.ListN.{length, take, drop}
use lib.Seq.{take-append_seam}
use borrow.Author.Tests.{eqb-true}
use Rattle.grammar.specs.Basics.{each, over}
use Rattle.grammar.specs.Limits.{limits}
use Rattle.grammar.specs.Grammar.{Grammar, rule, state_count}
use Rattle.grammar.specs.Refusal.{Answer, done, refuse_unless, buffer_too_short}
use Rattle.grammar.specs.TableCheck.{same_codes}
use Rattle.grammar.specs.Live.{has, has_all, concluded, waiting, rounds, nonterminals_of, productive, usable, reachable, has_sentence, is_live}
use Rattle.grammar.proofs.Answers.{and_both, unless_holds, then-goes}
use Rattle.grammar.proofs.Plain.{same_codes_lem}
use Rattle.automaton.specs.AllMoves.{numbers, leaving, all_moves, move_count}
use Rattle.automaton.specs.Moves.{Moves}
use Rattle.automaton.specs.PositionMoves.{shown, aheads, rules_of, completed, past, ahead_row, openings, closings}
use Rattle.automaton.specs.Callers.{check_with}
use Rattle.automaton.specs.CallerMoves.{moves_with}
use Rattle.triples.specs.Records.{left_alone, right_alone, both_shift, both_close, choices, insert, ordered, records}
use Rattle.triples.specs.Smallest.{is_element, push, push_all, explore, successors, smallest, size}
use Rattle.triples.specs.Looked.{total, looked_at}
use Rattle.triples.specs.Certificate.{bits_from, bytes_from, certificate_of}
use Rattle.rooms.specs.Room.{search_room, room_told, room_of, RoomAnswer}
use Rattle.rooms.specs.declared.SearchRoom.{SearchRoom}
use Rattle.rooms.specs.declared.SearchRoom.TheVariants.{Room}
use Rattle.search.specs.Promise.{Lent, is_potential, is_enough, searchable, Told, Answers, Searches}
use Rattle.search.specs.declared.SearchVerdict.{SearchVerdict}
use Rattle.search.specs.declared.SearchVerdict.TheVariants.{Unambiguous}
use Rattle.ambiguity.proofs.Entries.{checked-at}
use Rattle.ambiguity.proofs.FrontPage.{front_page}
use Rattle.ambiguity.proofs.Searches.{no_two}
use Rattle.channels.specs.Commands.{commands, table, certificate}
use Rattle.channels.proofs.Closed.{stored_at, acceptable}

-- the moves without callers
abbrev M : Moves
M = moves_with limits commands 0

-- what is to hold of the smallest set: its size, the successors to look at, its certificate
set_test : List ℕ → Bool
set_test set = eqb (length set) 90 && (eqb (total (λ i. length (successors M i)) set) 163 && same_codes (certificate_of 27 set) certificate)

computed : set_test (smallest M) ≡ true
unfolding set_test same_codes total bits_from bytes_from smallest explore push_all push successors records ordered insert choices both_close both_shift
    right_alone left_alone closings openings ahead_row shown past completed rules_of aheads each is_element rule has has_all concluded waiting rounds
    nonterminals_of productive usable reachable has_sentence is_live state_count certificate
computed = refl

sized : size M ≡ 90
unfolding set_test
sized = eqb-true (size M) 90 (and_both (eqb (size M) 90) _ computed).0

looked : looked_at M ≡ 163
unfolding set_test looked_at
looked =
    let a = (and_both (eqb (size M) 90) _ computed).1 in
    eqb-true (looked_at M) 163 (and_both (eqb (looked_at M) 163) _ a).0

-- the certificate of the smallest set is the constant
written : certificate_of 27 (smallest M) ≡ certificate
unfolding set_test looked_at
written =
    let a = (and_both (eqb (size M) 90) _ computed).1 in
    (same_codes_lem (certificate_of 27 (smallest M)) certificate).0 (and_both (eqb (looked_at M) 163) _ a).1

-- the moves, each counted once
counted : move_count M ≡ 49
unfolding numbers leaving all_moves closings openings ahead_row shown past completed rules_of aheads each rule has has_all concluded waiting rounds nonterminals_of productive usable
    reachable has_sentence is_live state_count
counted = refl

-- and what a search is to be lent
pub told-before : (r : SearchRoom) → RoomAnswer commands.terminals commands.nonterminals table 0 r → r ≡ Room 27 183 1458 49
unfolding search_room state_count
told-before r e =
    e ∙ ap room_told (then-goes (check_with limits commands.terminals commands.nonterminals table 0) (λ G. done (room_of (moves_with limits G 0))) commands
    (checked-at commands.terminals commands.nonterminals table 0 commands stored_at))
    ∙ ap (λ (m : ℕ). Room 27 183 1458 m) counted

-- it stands in the front of what is lent
front : (old : List ℕ) → take 183 (over certificate old) ≡ certificate
unfolding over certificate
front old = take-append_seam certificate (drop (length certificate) old)

module _ (before : Lent) (r : SearchVerdict) (after : Lent) where
  told : r ≡ Unambiguous (size M) (looked_at M) → (potential : Bool) → Told potential M before r after
      → (r ≡ Unambiguous 90 163) × (take 183 after.certificate ≡ certificate)
  unfolding state_count
  told v true y = no_two (sym v ∙ y.verdict)
  told v false y = (
    v ∙ ap₂ (λ (n l : ℕ). Unambiguous n l) sized looked,
    ap (take 183) (y.certificate ∙ ap (λ (bytes : List ℕ). over bytes before.certificate) written) ∙ front before.certificate,
  )

  -- the search, lent enough, writes it
  pub searched : Searches commands.terminals commands.nonterminals table 0 before r after → is_enough 27 before ≡ true
      → (r ≡ Unambiguous 90 163) × (take 183 after.certificate ≡ certificate)
  unfolding searchable state_count
  searched h e =
      let S = front_page.searches commands.terminals commands.nonterminals table 0 before r after h in
      let v = ((S.enough commands stored_at e).certificates certificate acceptable).verdict in
      let go : Grammar → Answer Grammar = λ G. refuse_unless buffer_too_short 0 (is_enough (moves_with limits G 0).states before) (done G) in
      let q : searchable limits commands.terminals commands.nonterminals table 0 before ≡ done commands =
      then-goes (check_with limits commands.terminals commands.nonterminals table 0) go commands
      (checked-at commands.terminals commands.nonterminals table 0 commands stored_at)
      ∙ unless_holds buffer_too_short 0 (is_enough 27 before) (done commands) e in
      told v (is_potential M) (subst (λ (o : Answer Grammar). Answers limits 0 o before r after) q h)
