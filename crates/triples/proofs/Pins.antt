-- Small closed cases of the definitions at the byte limits: the grammars on file and others with their sizes, step
-- records written out, bits, certificates and witnesses with each refusal.
-- An edit of a move, of the order of the records, of a bit or of a check in specs/ fails here.
-- Assumes nothing.
use mathlib.Core.Path.{◌≡◌, refl}
use mathlib.Core.Bool.{Bool, true, false}
use mathlib.Core.List.{List, [], ◌∷◌, ◌++◌}
use Prim.Native.Nat.{ℕ}
use lib.ListN.{length, replicate}
use Rattle.grammar.specs.Limits.{byte_limits}
use Rattle.grammar.specs.Grammar.{Grammar, rule, state_count}
use Rattle.grammar.specs.Table.{decode_up_to, decode}
use Rattle.grammar.specs.Refusal.{Answer, done, refused, refuse_unless, and_then, out_of_range, truncated, certificate_length, spare_bit, start_missing, end_present, successor_missing, witness_wrong, no_sentence}
use Rattle.grammar.specs.TableCheck.{same_codes, is_among, declared_front, read_rule, next_rule, check_from, stored_table, check_table}
use Rattle.grammar.specs.Basics.{each}
use Rattle.grammar.specs.Live.{has, has_all, concluded, waiting, rounds, nonterminals_of, productive, usable, reachable, has_sentence, is_live}
use Rattle.automaton.specs.Items.{states}
use Rattle.automaton.specs.PositionMoves.{moves_of, shown, aheads, rules_of, completed, past, ahead_row, openings, closings}
use Rattle.automaton.specs.Callers.{up_to, items_from, items, spots, check_callers, check_with}
use Rattle.triples.specs.declared.Move.TheVariants.{Opening, Closing, Symbol, Still}
use Rattle.triples.specs.declared.Step.{Step}
use Rattle.triples.specs.Index.{index, triple_count, layer_of, left_of, right_of}
use Rattle.triples.specs.Records.{step}
use Rattle.triples.specs.Records.{left_alone, right_alone, both_shift, both_close, choices, insert, ordered, records}
use Rattle.triples.specs.Smallest.{is_element, push, push_all, explore, successors, smallest}
use Rattle.triples.specs.Certificate.{byte_count, bit, bits_from, bytes_from, certificate_of}
use Rattle.triples.specs.Certificate.{lowest, are_set, check_bytes, check_certificate}
use Rattle.triples.specs.Witness.{check_on, check_row, check_witness, entry_of, check_witness_records}

-- t, n and a table; its grammar
record Tables : Type 0 where
  terminals : ℕ
  nonterminals : ℕ
  table : List ℕ

abbrev tables : ℕ → ℕ → List ℕ → Tables
tables t n table = record { terminals = t; nonterminals = n; table = table }

abbrev grammar : Tables → Grammar
grammar s = record { terminals = s.terminals; nonterminals = s.nonterminals; rules = decode s.table }

-- to unfold one of these is to unfold all that it uses
lived : Tables → ℕ → Bool
unfolding decode_up_to rule each has has_all concluded waiting rounds nonterminals_of productive usable reachable has_sentence is_live
lived s i = is_live byte_limits (grammar s) i

opened : Tables → ℕ → List (ℕ × ℕ)
unfolding lived shown aheads rules_of ahead_row openings
opened s p = openings byte_limits (grammar s) (is_live byte_limits (grammar s)) p

closed : Tables → ℕ → List (ℕ × ℕ)
unfolding lived shown aheads completed past ahead_row closings
closed s p = closings byte_limits (grammar s) (is_live byte_limits (grammar s)) p

steps : Tables → ℕ → ℕ → ℕ → List Step
unfolding opened closed state_count left_alone right_alone both_shift both_close choices insert ordered records
steps s f p q = records (moves_of byte_limits (grammar s)) f p q

reached : Tables → List ℕ
unfolding steps is_element push push_all explore successors smallest
reached s = smallest (moves_of byte_limits (grammar s))

-- Q, the size, and whether (1,1,1) is reached
figures : Tables → ℕ × ℕ × Bool
unfolding reached
figures s =
    let Q = states (grammar s) in
    let l = reached s in
    (Q, length l, is_element (index Q 1 1 1) l)

certificate : Tables → List ℕ
unfolding reached bits_from bytes_from
certificate s = certificate_of (states (grammar s)) (reached s)

-- the table check, and the certificate check and the witness check without callers
check_rules : Tables → Answer Grammar
unfolding decode_up_to state_count same_codes is_among declared_front read_rule next_rule check_from stored_table check_table refuse_unless and_then
    has has_all concluded waiting rounds nonterminals_of productive has_sentence
check_rules s = check_table byte_limits s.terminals s.nonterminals s.table

check_bits : Tables → List ℕ → Answer Unit
unfolding check_rules certificate up_to items_from items spots check_callers check_with lowest are_set check_bytes check_certificate
check_bits s bytes = check_certificate byte_limits s.terminals s.nonterminals s.table 0 bytes

check_path : Tables → List ℕ → Answer Unit
unfolding check_bits check_on check_row check_witness
check_path s row = check_witness byte_limits s.terminals s.nonterminals s.table 0 row

check_entries : Tables → List (ℕ × ℕ × ℕ) → Answer Unit
unfolding check_path check_witness_records
check_entries s entries = check_witness_records byte_limits s.terminals s.nonterminals s.table 0 entries

-- no rule
abbrev bare : Tables
bare = tables 0 1 []

-- S →
abbrev empty : Tables
empty = tables 0 1 (128 ∷ 0 ∷ [])

-- S → a
abbrev single : Tables
single = tables 1 1 (128 ∷ 1 ∷ 1 ∷ [])

-- S → S a; S → a
abbrev leftward : Tables
leftward = tables 1 1 (128 ∷ 2 ∷ 128 ∷ 1 ∷ 128 ∷ 1 ∷ 1 ∷ [])

-- S → a S b; S →
abbrev nested : Tables
nested = tables 2 1 (128 ∷ 3 ∷ 1 ∷ 128 ∷ 2 ∷ 128 ∷ 0 ∷ [])

-- S → S
abbrev circle : Tables
circle = tables 0 1 (128 ∷ 1 ∷ 128 ∷ [])

-- S → S; S →
abbrev looped : Tables
looped = tables 0 1 (128 ∷ 1 ∷ 128 ∷ 128 ∷ 0 ∷ [])

-- S → S; S → a
abbrev circular : Tables
circular = tables 1 1 (128 ∷ 1 ∷ 128 ∷ 128 ∷ 1 ∷ 1 ∷ [])

-- S → a S a; S → a
abbrev palindromes : Tables
palindromes = tables 1 1 (128 ∷ 3 ∷ 1 ∷ 128 ∷ 1 ∷ 128 ∷ 1 ∷ 1 ∷ [])

-- S → A; S → B; A → ; B →
abbrev twice : Tables
twice = tables 0 3 (128 ∷ 1 ∷ 129 ∷ 128 ∷ 1 ∷ 130 ∷ 129 ∷ 0 ∷ 130 ∷ 0 ∷ [])

-- S → A; S → B; A → A a a; A → a; B → a a
abbrev counted : Tables
counted = tables 1 3 (128 ∷ 1 ∷ 129 ∷ 128 ∷ 1 ∷ 130 ∷ 129 ∷ 3 ∷ 129 ∷ 1 ∷ 1 ∷ 129 ∷ 1 ∷ 1 ∷ 130 ∷ 2 ∷ 1 ∷ 1 ∷ [])

-- S → a S; S → S S; S →
abbrev spreading : Tables
spreading = tables 1 1 (128 ∷ 2 ∷ 1 ∷ 128 ∷ 128 ∷ 2 ∷ 128 ∷ 128 ∷ 128 ∷ 0 ∷ [])

-- S → ; S → A a; A →
abbrev ended : Tables
ended = tables 1 2 (128 ∷ 0 ∷ 128 ∷ 2 ∷ 129 ∷ 1 ∷ 129 ∷ 0 ∷ [])

-- S → ; S → a S a
abbrev framed : Tables
framed = tables 1 1 (128 ∷ 0 ∷ 128 ∷ 3 ∷ 1 ∷ 128 ∷ 1 ∷ [])

-- S → ; S → S S
abbrev squared : Tables
squared = tables 0 1 (128 ∷ 0 ∷ 128 ∷ 2 ∷ 128 ∷ 128 ∷ [])

-- S → a; S → S S
abbrev pairs : Tables
pairs = tables 1 1 (128 ∷ 1 ∷ 1 ∷ 128 ∷ 2 ∷ 128 ∷ 128 ∷ [])

-- S → A b; S → A B; A → a; B → b
abbrev either : Tables
either = tables 2 3 (128 ∷ 2 ∷ 129 ∷ 2 ∷ 128 ∷ 2 ∷ 129 ∷ 130 ∷ 129 ∷ 1 ∷ 1 ∷ 130 ∷ 1 ∷ 2 ∷ [])

-- S → a; S → A; A → A: no sentence uses the last two
abbrev course : Tables
course = tables 1 2 (128 ∷ 1 ∷ 1 ∷ 128 ∷ 1 ∷ 129 ∷ 129 ∷ 1 ∷ 129 ∷ [])

-- S → a; S → A B; A → a; B → B: no sentence uses the last three
abbrev barren : Tables
barren = tables 1 3 (128 ∷ 1 ∷ 1 ∷ 128 ∷ 2 ∷ 129 ∷ 130 ∷ 129 ∷ 1 ∷ 1 ∷ 130 ∷ 1 ∷ 130 ∷ [])

-- all with a sentence pass the table check, with the grammar that is taken here; the two without are 19 at 0
all_pass : (check_rules bare ≡ refused no_sentence 0) × (check_rules empty ≡ done (grammar empty))
    × (check_rules single ≡ done (grammar single)) × (check_rules leftward ≡ done (grammar leftward))
    × (check_rules nested ≡ done (grammar nested)) × (check_rules circle ≡ refused no_sentence 0)
    × (check_rules looped ≡ done (grammar looped)) × (check_rules circular ≡ done (grammar circular))
    × (check_rules palindromes ≡ done (grammar palindromes)) × (check_rules twice ≡ done (grammar twice))
    × (check_rules counted ≡ done (grammar counted)) × (check_rules spreading ≡ done (grammar spreading))
    × (check_rules ended ≡ done (grammar ended)) × (check_rules framed ≡ done (grammar framed))
    × (check_rules squared ≡ done (grammar squared)) × (check_rules pairs ≡ done (grammar pairs))
    × (check_rules either ≡ done (grammar either)) × (check_rules course ≡ done (grammar course))
    × (check_rules barren ≡ done (grammar barren))
unfolding check_rules
all_pass = (refl, refl, refl, refl, refl, refl, refl, refl, refl, refl, refl, refl, refl, refl, refl, refl, refl, refl, refl)

-- a state opens each rule of the nonterminal ahead; a rule's end closes to every item past its nonterminal
moves : (opened either 0 ≡ (0, 2) ∷ [])
    × (opened either 1 ≡ [])
    × (opened either 2 ≡ (1, 4) ∷ (2, 7) ∷ [])
    × (opened either 3 ≡ [])
    × (opened either 4 ≡ (3, 10) ∷ [])
    × (opened either 5 ≡ [])
    × (opened either 8 ≡ (4, 12) ∷ [])
    × (closed either 0 ≡ [])
    × (closed either 1 ≡ [])
    × (closed either 2 ≡ [])
    × (closed either 3 ≡ (0, 1) ∷ [])
    × (closed either 6 ≡ (1, 3) ∷ [])
    × (closed either 11 ≡ (3, 5) ∷ (3, 8) ∷ [])
    × (closed either 13 ≡ (4, 9) ∷ [])
unfolding opened closed
moves = (refl, refl, refl, refl, refl, refl, refl, refl, refl, refl, refl, refl, refl, refl)

-- items of rules that are not live have no moves, and no move leads to them: of S → a; S → A; A → A state 2 opens only S → a, which
-- closes; S → ·A opens nothing, and the ends of the other rules do not close
dead_moves : (opened course 0 ≡ (0, 2) ∷ [])
    × (opened course 2 ≡ (1, 4) ∷ [])
    × (opened course 6 ≡ [])
    × (opened course 8 ≡ [])
    × (closed course 3 ≡ (0, 1) ∷ [])
    × (closed course 5 ≡ (1, 3) ∷ [])
    × (closed course 7 ≡ [])
    × (closed course 9 ≡ [])
    × (steps course 0 6 6 ≡ [])
unfolding steps
dead_moves = (refl, refl, refl, refl, refl, refl, refl, refl, refl)

-- of S → a; S → A B; A → a; B → B the rule A → a, which S reaches only through a rule that is in no tree, closes to no state and
-- stands before no terminal; without a sentence states 0 and 3 do not move
barren-moves : (opened barren 6 ≡ [])
    × (closed barren 10 ≡ [])
    × (steps barren 0 9 9 ≡ [])
    × (opened bare 0 ≡ [])
    × (closed bare 3 ≡ [])
    × (opened circle 0 ≡ [])
    × (opened circle 2 ≡ [])
    × (closed circle 5 ≡ [])
unfolding steps
barren-moves = (refl, refl, refl, refl, refl, refl, refl, refl)

-- (0,0,0): each side opens 0, if there is a sentence; (1,1,1): nothing
ends : (steps looped 0 0 0 ≡ step 0 0 2 Still (Opening 0) ∷ step 0 2 0 (Opening 0) Still ∷ []) × (steps looped 1 1 1 ≡ [])
    × (steps circle 0 0 0 ≡ [])
unfolding steps
ends = (refl, refl, refl)

-- out of range: a state of Q, a layer above 1
out_of_range_lem : (steps looped 0 7 0 ≡ []) × (steps looped 0 0 7 ≡ []) × (steps looped 2 0 0 ≡ []) × (steps looped 2 5 4 ≡ [])
unfolding steps
out_of_range_lem = (refl, refl, refl, refl)

-- records that lead back come first, left before right: two openings; a closing and an opening; two closings
back-first : (steps looped 0 4 4
    ≡ step 0 4 4 (Opening 1) Still ∷ step 0 4 4 Still (Opening 1) ∷ step 0 4 6 Still (Opening 2)
    ∷ step 0 5 5 (Symbol 128) (Symbol 128) ∷ step 0 6 4 (Opening 2) Still ∷ [])
    × (steps looped 1 5 4
    ≡ step 1 5 4 (Closing 1) Still ∷ step 1 5 4 Still (Opening 1) ∷ step 1 3 4 (Closing 1) Still ∷ step 1 5 6 Still (Opening 2) ∷ [])
    × (steps looped 1 5 5
    ≡ step 1 5 5 (Closing 1) Still ∷ step 1 5 5 Still (Closing 1)
    ∷ step 1 3 5 (Closing 1) Still ∷ step 1 5 3 Still (Closing 1) ∷ [])
unfolding steps
back-first = (refl, refl, refl)

-- equal closings do not part; unequal ones do, both moving
closings-part : (steps looped 0 5 5 ≡ [])
    × (steps looped 0 5 3 ≡ step 1 3 1 (Closing 1) (Closing 0) ∷ step 1 5 1 (Closing 1) (Closing 0) ∷ [])
    × (steps twice 0 8 9 ≡ step 1 5 7 (Closing 3) (Closing 4) ∷ [])
unfolding steps
closings-part = (refl, refl, refl)

-- a closing parts beside a terminal, which stays, and not beside a nonterminal, which opens
closing-beside : (steps leftward 0 3 5 ≡ step 1 1 5 (Closing 0) Still ∷ [])
    × (steps leftward 0 5 3 ≡ step 1 5 1 Still (Closing 0) ∷ [])
    × (steps leftward 0 8 7 ≡ step 1 3 7 (Closing 2) Still ∷ step 1 5 7 (Closing 2) Still ∷ [])
    × (steps spreading 0 6 8 ≡ step 0 6 4 Still (Opening 1) ∷ step 0 6 7 Still (Opening 2) ∷ step 0 6 10 Still (Opening 3) ∷ [])
unfolding steps
closing-beside = (refl, refl, refl, refl)

-- an opening beside a terminal does not part
opening-beside : (steps leftward 0 4 7 ≡ step 0 4 7 (Opening 1) Still ∷ step 0 7 7 (Opening 2) Still ∷ [])
    × (steps leftward 0 7 4 ≡ step 0 7 4 Still (Opening 1) ∷ step 0 7 7 Still (Opening 2) ∷ [])
unfolding steps
opening-beside = (refl, refl)

-- before one nonterminal: both shift it in layer 0, neither in layer 1
nonterminal-shifts : (steps spreading 0 5 8
    ≡ step 0 4 8 (Opening 1) Still ∷ step 0 5 4 Still (Opening 1) ∷ step 0 5 7 Still (Opening 2) ∷ step 0 5 10 Still (Opening 3)
    ∷ step 0 6 9 (Symbol 128) (Symbol 128) ∷ step 0 7 8 (Opening 2) Still ∷ step 0 10 8 (Opening 3) Still ∷ [])
    × (steps spreading 1 5 8
    ≡ step 1 4 8 (Opening 1) Still ∷ step 1 5 4 Still (Opening 1) ∷ step 1 5 7 Still (Opening 2) ∷ step 1 5 10 Still (Opening 3)
    ∷ step 1 7 8 (Opening 2) Still ∷ step 1 10 8 (Opening 3) Still ∷ [])
unfolding steps
nonterminal-shifts = (refl, refl)

-- before one terminal both shift it in either layer; before unequal symbols neither shifts
terminal-shifts : (steps leftward 0 5 7 ≡ step 0 6 8 (Symbol 1) (Symbol 1) ∷ [])
    × (steps leftward 1 5 7 ≡ step 1 6 8 (Symbol 1) (Symbol 1) ∷ [])
    × (steps nested 0 4 6 ≡ [])
    × (steps nested 1 4 6 ≡ [])
unfolding steps
terminal-shifts = (refl, refl, refl, refl)

-- document 01's rows that are unambiguous, and S → S
unambiguous-rows : (figures bare ≡ (4, 1, false))
    × (figures empty ≡ (5, 10, false))
    × (figures single ≡ (6, 11, false))
    × (figures leftward ≡ (9, 24, false))
    × (figures nested ≡ (9, 30, false))
    × (figures counted ≡ (17, 82, false))
    × (figures circle ≡ (6, 1, false))
unfolding figures
unambiguous-rows = (refl, refl, refl, refl, refl, refl, refl)

-- its rows that are potential
potential-rows : (figures circular ≡ (8, 26, true))
    × (figures palindromes ≡ (10, 79, true))
    × (figures twice ≡ (10, 53, true))
unfolding figures
potential-rows = (refl, refl, refl)

-- with rules that no sentence uses: S → a with states more
unused-rows : (figures course ≡ (10, 11, false)) × (figures barren ≡ (13, 11, false))
unfolding figures
unused-rows = (refl, refl)

-- other grammars: the first has size 38 if only one of two closings moves, the second is unambiguous if layer 1 forgets openings
other-rows : (figures ended ≡ (9, 32, false))
    × (figures framed ≡ (9, 64, true))
    × (figures looped ≡ (7, 25, true))
    × (figures squared ≡ (8, 71, true))
    × (figures pairs ≡ (9, 85, true))
    × (figures either ≡ (14, 49, true))
unfolding figures
other-rows = (refl, refl, refl, refl, refl, refl)

-- indices, their number and their bytes
indices : (index 6 1 1 1 ≡ 43) × (index 6 0 5 4 ≡ 34) × (index 256 1 255 255 ≡ 131071)
    × (layer_of 6 43 ≡ 1) × (left_of 6 43 ≡ 1) × (right_of 6 43 ≡ 1)
    × (layer_of 6 34 ≡ 0) × (left_of 6 34 ≡ 5) × (right_of 6 34 ≡ 4)
    × (triple_count 6 ≡ 72) × (triple_count 9 ≡ 162) × (byte_count 6 ≡ 9) × (byte_count 9 ≡ 21) × (byte_count 10 ≡ 25)
indices = (refl, refl, refl, refl, refl, refl, refl, refl, refl, refl, refl, refl, refl, refl)

-- bit 0 is the lowest of byte 0, bit 7 its highest, bit 8 the lowest of byte 1; a bit past the bytes is 0
bits : (bit (1 ∷ 0 ∷ []) 0 ≡ 1) × (bit (1 ∷ 0 ∷ []) 7 ≡ 0) × (bit (1 ∷ 0 ∷ []) 8 ≡ 0)
    × (bit (128 ∷ 2 ∷ []) 0 ≡ 0) × (bit (128 ∷ 2 ∷ []) 7 ≡ 1) × (bit (128 ∷ 2 ∷ []) 8 ≡ 0) × (bit (128 ∷ 2 ∷ []) 9 ≡ 1)
    × (bit (0 ∷ 1 ∷ []) 0 ≡ 0) × (bit (0 ∷ 1 ∷ []) 7 ≡ 0) × (bit (0 ∷ 1 ∷ []) 8 ≡ 1) × (bit (0 ∷ 1 ∷ []) 16 ≡ 0)
bits = (refl, refl, refl, refl, refl, refl, refl, refl, refl, refl, refl)

-- the bytes of some indices
bytes_of : (certificate_of 2 (0 ∷ 3 ∷ []) ≡ 9 ∷ []) × (certificate_of 3 (7 ∷ 8 ∷ 17 ∷ 17 ∷ []) ≡ 128 ∷ 1 ∷ 2 ∷ [])
unfolding is_element bits_from bytes_from
bytes_of = (refl, refl)

abbrev single-bytes : List ℕ
single-bytes = 0x15 ∷ 0x50 ∷ 0x21 ∷ 0x15 ∷ 0x08 ∷ 0 ∷ 0 ∷ 0 ∷ 0 ∷ []

-- of S → S a; S → a all bytes but the last, which has two bits and six past them
abbrev leftward-front : List ℕ
leftward-front =
    0x95 ∷ 0 ∷ 0x54 ∷ 0x42 ∷ 0x51 ∷ 0x09 ∷ 0x05 ∷ 0x90 ∷ 0x4a ∷ 0 ∷ 0x01 ∷ 0x80 ∷ 0 ∷ 0 ∷ 0 ∷ 0x80 ∷ 0 ∷ 0 ∷ 0 ∷ 0 ∷ []

-- the smallest certificates
smallest-bytes : (certificate single ≡ single-bytes) × (certificate leftward ≡ leftward-front ++ (0 ∷ []))
unfolding certificate
smallest-bytes = (refl, refl)

-- of the other unambiguous rows the smallest certificate passes; of a potential one it has (1,1,1)
smallest_cases : (check_bits empty (certificate empty) ≡ done tt)
    × (check_bits nested (certificate nested) ≡ done tt)
    × (check_bits counted (certificate counted) ≡ done tt)
    × (check_bits course (certificate course) ≡ done tt)
    × (check_bits looped (certificate looped) ≡ refused end_present 57)
    × (check_bits twice (certificate twice) ≡ refused end_present 111)
unfolding check_bits
smallest_cases = (refl, refl, refl, refl, refl, refl)

-- without a sentence no certificate is looked at: neither that of the smallest set, nor one over all rules, nor one of a wrong length
bare_cases : (check_bits bare (1 ∷ 0 ∷ 0 ∷ 0 ∷ []) ≡ refused no_sentence 0)
    × (check_bits bare (0x05 ∷ 0x85 ∷ 0 ∷ 0 ∷ []) ≡ refused no_sentence 0)
    × (check_bits bare [] ≡ refused no_sentence 0)
    × (check_bits circle (certificate circle) ≡ refused no_sentence 0)
unfolding check_bits
bare_cases = (refl, refl, refl, refl)

-- document 01's cases for S → a: the right one; its first eight bytes, one byte more, no byte; all 0; all 0xFF; only bit 0
single_cases : (check_bits single single-bytes ≡ done tt)
    × (check_bits single (0x15 ∷ 0x50 ∷ 0x21 ∷ 0x15 ∷ 0x08 ∷ 0 ∷ 0 ∷ 0 ∷ []) ≡ refused certificate_length 0)
    × (check_bits single (single-bytes ++ (0 ∷ [])) ≡ refused certificate_length 0)
    × (check_bits single [] ≡ refused certificate_length 0)
    × (check_bits single (replicate 9 0) ≡ refused start_missing 0)
    × (check_bits single (replicate 9 0xff) ≡ refused end_present 43)
    × (check_bits single (1 ∷ replicate 8 0) ≡ refused successor_missing 0)
unfolding check_bits
single_cases = (refl, refl, refl, refl, refl, refl, refl)

-- a larger one: with (1,1,4), which has no successor; with (1,3,4) and without its successor (1,1,4), at (1,3,4)
larger_cases : (check_bits single (0x15 ∷ 0x50 ∷ 0x21 ∷ 0x15 ∷ 0x08 ∷ 0x40 ∷ 0 ∷ 0 ∷ 0 ∷ []) ≡ done tt)
    × (check_bits single (0x15 ∷ 0x50 ∷ 0x21 ∷ 0x15 ∷ 0x08 ∷ 0 ∷ 0 ∷ 0x04 ∷ 0 ∷ []) ≡ refused successor_missing 58)
unfolding check_bits
larger_cases = (refl, refl)

-- a smaller one: without (0,4,4), at the lower of the two that lack it; without (0,5,5), at (0,4,4)
smaller_cases : (check_bits single (0x15 ∷ 0x50 ∷ 0x21 ∷ 0x05 ∷ 0x08 ∷ 0 ∷ 0 ∷ 0 ∷ 0 ∷ []) ≡ refused successor_missing 16)
    × (check_bits single (0x15 ∷ 0x50 ∷ 0x21 ∷ 0x15 ∷ 0 ∷ 0 ∷ 0 ∷ 0 ∷ 0 ∷ []) ≡ refused successor_missing 28)
unfolding check_bits
smaller_cases = (refl, refl)

-- Q of 9: the right one; bit 162, the last bit, the lower of two past 2Q²; bit 161 is a triple's
spare_cases : (check_bits leftward (leftward-front ++ (0 ∷ [])) ≡ done tt)
    × (check_bits leftward (leftward-front ++ (0x04 ∷ [])) ≡ refused spare_bit 162)
    × (check_bits leftward (leftward-front ++ (0x80 ∷ [])) ≡ refused spare_bit 167)
    × (check_bits leftward (leftward-front ++ (0x90 ∷ [])) ≡ refused spare_bit 164)
    × (check_bits leftward (leftward-front ++ (0x02 ∷ [])) ≡ refused successor_missing 161)
unfolding check_bits
spare_cases = (refl, refl, refl, refl, refl)

-- the order, each refusal before the next: a table fault, 9, 10, 11, 12, 13
certificate_order : (check_bits (tables 128 1 []) [] ≡ refused out_of_range 0)
    × (check_bits (tables 1 1 (128 ∷ [])) [] ≡ refused truncated 0)
    × (check_bits leftward (replicate 22 0xff) ≡ refused certificate_length 0)
    × (check_bits leftward (replicate 20 0 ++ (0x04 ∷ [])) ≡ refused spare_bit 162)
    × (check_bits single (0 ∷ 0 ∷ 0 ∷ 0 ∷ 0 ∷ 0x08 ∷ 0 ∷ 0 ∷ 0 ∷ []) ≡ refused start_missing 0)
    × (check_bits single (1 ∷ 0 ∷ 0 ∷ 0 ∷ 0 ∷ 0x08 ∷ 0 ∷ 0 ∷ 0 ∷ []) ≡ refused end_present 43)
unfolding check_bits
certificate_order = (refl, refl, refl, refl, refl, refl)

-- of S → S; S → : (0,0,0), (0,2,0), (0,2,2), (0,4,2), (0,5,3), (1,3,1), (1,1,1); with (0,4,2) twice
right_paths : (check_path looped (0 ∷ 14 ∷ 16 ∷ 30 ∷ 38 ∷ 71 ∷ 57 ∷ []) ≡ done tt)
    × (check_path looped (0 ∷ 14 ∷ 16 ∷ 30 ∷ 30 ∷ 38 ∷ 71 ∷ 57 ∷ []) ≡ done tt)
unfolding check_path
right_paths = (refl, refl)

-- no entry; another first entry, alone and before a right rest; another entry in the middle, one of 2Q²; the end cut off, all
-- but the first cut off; an entry after (1,1,1); a table fault first; of S → S, which has no sentence, no row is looked at
wrong_paths : (check_path looped [] ≡ refused witness_wrong 0)
    × (check_path looped (57 ∷ []) ≡ refused witness_wrong 0)
    × (check_path looped (14 ∷ 16 ∷ 30 ∷ 38 ∷ 71 ∷ 57 ∷ []) ≡ refused witness_wrong 0)
    × (check_path looped (0 ∷ 14 ∷ 16 ∷ 38 ∷ 71 ∷ 57 ∷ []) ≡ refused witness_wrong 3)
    × (check_path looped (0 ∷ 14 ∷ 98 ∷ 30 ∷ 38 ∷ 71 ∷ 57 ∷ []) ≡ refused witness_wrong 2)
    × (check_path looped (0 ∷ 14 ∷ 16 ∷ 30 ∷ 38 ∷ 71 ∷ []) ≡ refused witness_wrong 6)
    × (check_path looped (0 ∷ []) ≡ refused witness_wrong 1)
    × (check_path looped (0 ∷ 14 ∷ 16 ∷ 30 ∷ 38 ∷ 71 ∷ 57 ∷ 57 ∷ []) ≡ refused witness_wrong 7)
    × (check_path (tables 0 0 []) [] ≡ refused out_of_range 0)
    × (check_path circle (0 ∷ 12 ∷ 14 ∷ 26 ∷ 33 ∷ 55 ∷ 43 ∷ []) ≡ refused no_sentence 0)
unfolding check_path
wrong_paths = (refl, refl, refl, refl, refl, refl, refl, refl, refl, refl)

-- a record's index; 72, that is 2Q², for a layer above 1 and a state of Q or more
entries : (entry_of 6 (0, 5, 4) ≡ 34) × (entry_of 6 (1, 1, 1) ≡ 43)
    × (entry_of 6 (2, 0, 0) ≡ 72) × (entry_of 6 (3, 1, 0) ≡ 72) × (entry_of 6 (0, 6, 0) ≡ 72) × (entry_of 6 (1, 0, 7) ≡ 72)
entries = (refl, refl, refl, refl, refl, refl)

-- the same of records: a right row; for (0,2,0) the record (0,1,7), for (1,1,1) the record (0,8,1), of equal index; a layer of 2
record_paths :
    (check_entries looped ((0, 0, 0) ∷ (0, 2, 0) ∷ (0, 2, 2) ∷ (0, 4, 2) ∷ (0, 5, 3) ∷ (1, 3, 1) ∷ (1, 1, 1) ∷ []) ≡ done tt)
    × (check_entries looped ((0, 0, 0) ∷ (0, 1, 7) ∷ (0, 2, 2) ∷ (0, 4, 2) ∷ (0, 5, 3) ∷ (1, 3, 1) ∷ (1, 1, 1) ∷ []) ≡ refused witness_wrong 1)
    × (check_entries looped ((0, 0, 0) ∷ (0, 2, 0) ∷ (0, 2, 2) ∷ (0, 4, 2) ∷ (0, 5, 3) ∷ (1, 3, 1) ∷ (0, 8, 1) ∷ []) ≡ refused witness_wrong 6)
    × (check_entries looped ((0, 0, 0) ∷ (2, 2, 0) ∷ []) ≡ refused witness_wrong 1)
    × (check_entries looped [] ≡ refused witness_wrong 0)
unfolding check_entries
record_paths = (refl, refl, refl, refl, refl)
