-- Every row of the grammars on file says true: one test, which the checker computes over the whole table, and a lemma from the test
-- to the claim of a row. Assumes nothing.
use Prim.Native.Nat.{ℕ}
use mathlib.Core.Path.{◌≡◌, refl, ap, subst, sym, ◌∙◌}
use mathlib.Core.Logic.{◌↔◌}
use mathlib.Core.Bool.{Bool, true, false, not, ◌&&◌}
use mathlib.Core.List.{List, [], ◌∷◌}
use native.Mathlib.Omega.{arith}
use lib.Dec.{eqb}
use lib.ListN.{length}
use borrow.Author.Tests.{eqb-true, not-true}
use Rattle.grammar.specs.Basics.{Mem, here, there, each}
use Rattle.grammar.specs.Limits.{limits}
use Rattle.grammar.specs.Grammar.{Grammar, rule, state_count, WellFormed}
use Rattle.grammar.specs.Table.{encode, decode_up_to, decode}
use Rattle.grammar.specs.Refusal.{Answer, done, refused, refuse_unless, and_then}
use Rattle.grammar.specs.TableCheck.{same_codes, is_among, declared_front, read_rule, next_rule, check_from, stored_table, check_table}
use Rattle.grammar.specs.Tree.{HasTwoTrees}
use Rattle.grammar.specs.Live.{has, has_all, concluded, waiting, rounds, nonterminals_of, productive, usable, reachable, has_sentence, is_live}
use Rattle.grammar.proofs.Answers.{no_bool, and_both}
use Rattle.grammar.proofs.Plain.{same_codes_lem}
use Rattle.grammar.proofs.Rules.{decode-encode}
use Rattle.grammar.proofs.Steps.{grammar_of}
use Rattle.grammar.proofs.WellFormed.{stored-only, room}
use Rattle.grammar.proofs.Live.{has_sentence_lem}
use Rattle.grammar.proofs.Sentence.{with_sentence, without_sentence_lem}
use Rattle.grammar.proofs.Palindromes.{palindromes, palindromes-one}
use Rattle.automaton.specs.Strings.{Potential, Unambiguous}
use Rattle.automaton.specs.Moves.{Moves, Regular, Lists}
use Rattle.automaton.specs.PositionMoves.{shown, aheads, rules_of, completed, past, ahead_row, openings, closings}
use Rattle.automaton.specs.Callers.{up_to, items_from, same_items, place_of, items, code_at, items_before, chains, spots, callers}
use Rattle.automaton.specs.CallerMoves.{spot_ahead, spot_after, live_rules, spot_openings, returns, spot_closings, moves_with}
use Rattle.triples.specs.Index.{index}
use Rattle.triples.specs.Records.{left_alone, right_alone, both_shift, both_close, choices, insert, ordered, records}
use Rattle.triples.specs.Smallest.{is_element, push, push_all, explore, successors, smallest, size}
use Rattle.triples.specs.Certificate.{SmallestCertificate, bits_from, bytes_from, certificate_of}
use Rattle.triple_laws.proofs.Explore.{is_element_lem, not_element}
use Rattle.triple_laws.proofs.Laws.{end-of, smallest-of}
use Rattle.triple_laws.proofs.CallerPosition.{with_listed, with_regular}
use Rattle.parting.proofs.Callers.{spots-reached}
use Rattle.on_file.specs.Rows.{Claim, without_sentence, unambiguous, certified, potential, potential_only, Row, Claimed, answer_of, Says, rows}

-- the table is that of a grammar
passes : Answer Grammar → Bool
passes (done G) = true
passes (refused cause at) = false

abbrev grammar : Row → Grammar
grammar r = grammar_of r.terminals r.nonterminals (decode r.table)

-- the claim's test beside that of a sentence, from Q and the smallest set: whether (1,1,1) is in it, its size, its certificate
claim_test : ℕ → List ℕ → Grammar → List ℕ → Claim → Bool
claim_test Q set G table without_sentence = true
claim_test Q set G table (unambiguous n) = not (is_element (index Q 1 1 1) set) && eqb (length set) n
claim_test Q set G table (certified n bytes) = not (is_element (index Q 1 1 1) set) && (eqb (length set) n && same_codes (certificate_of Q set) bytes)
claim_test Q set G table potential = is_element (index Q 1 1 1) set
claim_test Q set G table potential_only =
    is_element (index Q 1 1 1) set && (eqb G.terminals 1 && (eqb G.nonterminals 1 && same_codes table (encode palindromes.rules)))

-- the test of a sentence: all but the first claim have one
sentence_test : Grammar → Claim → Bool
sentence_test G without_sentence = not (has_sentence limits G)
sentence_test G (unambiguous n) = has_sentence limits G
sentence_test G (certified n bytes) = has_sentence limits G
sentence_test G potential = has_sentence limits G
sentence_test G potential_only = has_sentence limits G

row_test : Row → Bool
row_test r =
    let M = moves_with limits (grammar r) r.callers in
    passes (stored_table limits r.terminals r.nonterminals r.table)
    && (eqb (length (spots limits (grammar r) r.callers)) r.states
    && (sentence_test (grammar r) r.claim && claim_test M.states (smallest M) (grammar r) r.table r.claim))

every_test : List Row → Bool
every_test [] = true
every_test (r ∷ rs) = row_test r && every_test rs

-- such a table has the grammar of its decoding
passed : (t n : ℕ) (table : List ℕ) → passes (stored_table limits t n table) ≡ true → stored_table limits t n table ≡ done (grammar_of t n (decode table))
unfolding passes
passed t n table e = go (stored_table limits t n table) refl e
  where
    go : (o : Answer Grammar) → stored_table limits t n table ≡ o → passes o ≡ true → stored_table limits t n table ≡ done (grammar_of t n (decode table))
    go (done G) q p =
        let T = stored-only limits room t n table G q in
        let d : decode table ≡ G.rules = ap decode T.table ∙ decode-encode G.rules in
        q ∙ ap done (λ i. record { terminals = T.terminals i; nonterminals = T.nonterminals i; rules = sym d i })
    go (refused c p) q e = no_bool (sym e)

-- the verdict with m callers, from the smallest set
module _ (G : Grammar) (W : WellFormed limits G) (m : ℕ) where
  abbrev M : Moves
  M = moves_with limits G m

  N : Lists (callers limits G m) M
  N = with_listed limits G W (omega arith) m

  R : has_sentence limits G ≡ true → Regular M
  unfolding is_live
  R h = with_regular limits G W (omega arith) h m

  potential-listed : has_sentence limits G ≡ true → Potential (callers limits G m) ↔ Mem (index M.states 1 1 1) (smallest M)
  potential-listed h =
      let r = end-of (callers limits G m) M (R h) N in
      let p = spots-reached limits G W (omega arith) m in
      (λ s. r.0 (p.0 s), λ m. p.1 (r.1 m))

  not_listed : not (is_element (index M.states 1 1 1) (smallest M)) ≡ true → Mem (index M.states 1 1 1) (smallest M) → ⊥
  not_listed e = (not_element (index M.states 1 1 1) (smallest M)).0 (not-true (is_element (index M.states 1 1 1) (smallest M)) e)

  lone : has_sentence limits G ≡ true → not (is_element (index M.states 1 1 1) (smallest M)) ≡ true → Unambiguous (callers limits G m)
  lone h e s = not_listed e ((potential-listed h).0 s)

  parted : has_sentence limits G ≡ true → is_element (index M.states 1 1 1) (smallest M) ≡ true → Potential (callers limits G m)
  parted h e = (potential-listed h).1 ((is_element_lem (index M.states 1 1 1) (smallest M)).0 e)

  claimed : (table : List ℕ) (c : Claim) → G.rules ≡ decode table → sentence_test G c ≡ true → claim_test M.states (smallest M) G table c ≡ true → Claimed G m c
  unfolding sentence_test claim_test Claimed
  claimed table without_sentence d h e = λ s. no_bool (sym ((has_sentence_lem limits G W (omega arith)).1 s) ∙ not-true (has_sentence limits G) h)
  claimed table (unambiguous n) d h e =
      let a = and_both (not (is_element (index M.states 1 1 1) (smallest M))) (eqb (size M) n) e in
      (lone h a.0, eqb-true (size M) n a.1)
  claimed table (certified n bytes) d h e =
      let a = and_both (not (is_element (index M.states 1 1 1) (smallest M))) _ e in
      let b = and_both (eqb (size M) n) (same_codes (certificate_of M.states (smallest M)) bytes) a.1 in
      let s = smallest-of (callers limits G m) M (R h) N (not_listed a.0) in
      (lone h a.0, eqb-true (size M) n b.0, subst (SmallestCertificate (callers limits G m)) ((same_codes_lem (certificate_of M.states (smallest M)) bytes).0 b.1) s)
  claimed table potential d h e = parted h e
  claimed table potential_only d h e =
      let a = and_both (is_element (index M.states 1 1 1) (smallest M)) _ e in
      let b = and_both (eqb G.terminals 1) _ a.1 in
      let c = and_both (eqb G.nonterminals 1) (same_codes table (encode palindromes.rules)) b.1 in
      let x : G.rules ≡ palindromes.rules = d ∙ ap decode ((same_codes_lem table (encode palindromes.rules)).0 c.1) ∙ decode-encode palindromes.rules in
      let p : palindromes ≡ G = λ i. record {
        terminals = sym (eqb-true G.terminals 1 b.0) i;
        nonterminals = sym (eqb-true G.nonterminals 1 c.0) i;
        rules = sym x i;
      } in
      (parted h a.0, subst (λ (G : Grammar). (w : List ℕ) → ¬ HasTwoTrees limits G w) p palindromes-one)

-- the table check's answer, from the test of a sentence
answered : (t n : ℕ) (table : List ℕ) (G : Grammar) (c : Claim) → stored_table limits t n table ≡ done G → sentence_test G c ≡ true
    → check_table limits t n table ≡ answer_of G c
unfolding sentence_test answer_of
answered t n table G without_sentence q e = without_sentence_lem limits t n table G q (not-true (has_sentence limits G) e)
answered t n table G (unambiguous k) q e = with_sentence limits t n table G q e
answered t n table G (certified k bytes) q e = with_sentence limits t n table G q e
answered t n table G potential q e = with_sentence limits t n table G q e
answered t n table G potential_only q e = with_sentence limits t n table G q e

row-says : (r : Row) → row_test r ≡ true → Says r
unfolding row_test
row-says r e =
    let G = grammar r in
    let a = and_both (passes (stored_table limits r.terminals r.nonterminals r.table)) _ e in
    let b = and_both (eqb (length (spots limits G r.callers)) r.states) _ a.1 in
    let c = and_both (sentence_test G r.claim) _ b.1 in
    let p = passed r.terminals r.nonterminals r.table a.0 in
    record {
      grammar = G;
      stored = p;
      answers = answered r.terminals r.nonterminals r.table G r.claim p c.0;
      count = eqb-true (length (spots limits G r.callers)) r.states b.0;
      claimed = claimed G (stored-only limits room r.terminals r.nonterminals r.table G p).well_formed r.callers r.table r.claim refl c.0 c.1;
    }

every-says : {r : Row} (rs : List Row) → every_test rs ≡ true → Mem r rs → Says r
unfolding every_test
every-says (s ∷ rs) e here = row-says s (and_both (row_test s) (every_test rs) e).0
every-says (s ∷ rs) e (there m) = every-says rs (and_both (row_test s) (every_test rs) e).1 m
every-says {r = r} [] e x'' = elim x'' [ ]

computed : every_test rows ≡ true
unfolding every_test row_test sentence_test claim_test passes rows stored_table check_from next_rule read_rule declared_front is_among same_codes refuse_unless and_then decode_up_to state_count encode
    rule each has has_all concluded waiting rounds nonterminals_of productive usable reachable has_sentence is_live
    shown aheads rules_of completed past ahead_row openings closings
    up_to items_from same_items place_of items code_at items_before chains spots spot_ahead spot_after live_rules spot_openings returns spot_closings
    left_alone right_alone both_shift both_close choices insert ordered records
    is_element push push_all explore successors smallest bits_from bytes_from
computed = refl

-- every row says true
pub every-row : (r : Row) → Mem r rows → Says r
every-row r m = every-says rows computed m
