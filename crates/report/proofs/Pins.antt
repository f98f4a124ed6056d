-- Small closed cases of the definitions: document 01's example, the two readings of a witness, the three kinds of answer, 48 states and 49, and a fault of the
-- text before the states. An edit of a definition in specs/ fails here. Assumes nothing.
use mathlib.Core.Path.{◌≡◌, refl}
use mathlib.Core.List.{List, [], ◌∷◌}
use Prim.Native.Nat.{ℕ}
use Prim.Native.Char.{code}
use Prim.Native.String.{String, [] as empty, ◌∷◌ as ◌then◌}
use lib.ListN.{replicate}
use Rattle.grammar.specs.Grammar.{state_count}
use Rattle.grammar.specs.Refusal.{Answer, done, refused, refuse_unless, and_then, rule_repeated, buffer_too_short, malformed, no_sentence, cause_number}
use Rattle.grammar.specs.TableCheck.{same_codes, is_among}
use Rattle.grammar.specs.Basics.{each}
use Rattle.grammar.specs.Grammar.{rule}
use Rattle.grammar.specs.Live.{has, has_all, concluded, waiting, rounds, nonterminals_of, productive, usable, reachable, has_sentence, is_live}
use Rattle.automaton.specs.PositionMoves.{shown as codes_of, aheads, rules_of, completed, past, ahead_row, openings, closings}
use Rattle.triples.specs.Records.{left_alone, right_alone, both_shift, both_close, choices, insert, ordered, records}
use Rattle.triples.specs.Smallest.{is_element, push, push_all, explore, successors, smallest}
use Rattle.text.specs.Pieces.{split_on}
use Rattle.text.specs.Names.{is_name_byte, all, any, is_name, folded, same_name, has_double, place}
use Rattle.text.specs.Keys.{key_table, key_lengths, key, value_of}
use Rattle.text.specs.Read.{Source, refuse_none, names_of, declaration, body_of, sides_of, number_of, is_known}
use Rattle.text.specs.Read.{code_of, rule_of, rule_line, rule_lines, whole_line, read_lines, read_text}
use Rattle.text.specs.Rules.{admit, last_tests, check_text}
use Rattle.text.specs.Pieces.{join, led_by, ended_by}
use Rattle.text.specs.Numbers.{decimal_to}
use Rattle.text.specs.Read.{symbol_of}
use Rattle.text.specs.Print.{name_of}
use Rattle.triples.specs.Shortest.{first_row, row_of, fewest, shortest}
use Rattle.triples.specs.Sides.{records_to, side_of}
use Rattle.readings.specs.Readings.{words, reading_lines}
use Rattle.report.specs.Report.{judge, witness_lines, report_of}

-- the bytes of an ASCII text
bytes : String → List ℕ
bytes empty = []
bytes (c then s) = code c ∷ bytes s

-- to unfold one of these is to unfold all that it uses
judged : String → Answer Source
unfolding bytes judge check_text last_tests admit is_among same_codes state_count read_text read_lines whole_line rule_lines rule_line rule_of code_of
    is_known number_of place sides_of body_of declaration names_of refuse_none value_of key key_table key_lengths has_double same_name folded
    is_name any all is_name_byte split_on refuse_unless and_then
    has has_all concluded waiting rounds nonterminals_of productive has_sentence
judged text = judge (bytes text)

lived : String → List ℕ
unfolding judged report_of rule each usable reachable is_live
lived text = report_of (bytes text)

shown : String → List ℕ
unfolding lived decimal_to each codes_of aheads rules_of completed past ahead_row openings closings left_alone right_alone both_shift
    both_close choices insert ordered records is_element push push_all explore successors smallest witness_lines first_row row_of fewest
    shortest records_to side_of words reading_lines name_of symbol_of join led_by ended_by
shown text = lived text

-- document 01's example
example : shown "terminals=a\nnonterminals=S\nrule=S: a\n" ≡ bytes "states=6\nverdict=unambiguous\nreached=11\n"
unfolding shown
example = refl

-- a potential verdict prints the two sides of the shortest witness
two_readings : shown "terminals=a\nnonterminals=S\nrule=S: S\nrule=S:\n" ≡ bytes "states=7\nverdict=potential\nleft=(0 S )0\nright=(0 (1 S )1 )0\n"
unfolding shown
two_readings = refl

-- a refusal
refusal : shown "terminals=a\nnonterminals=S\nrule=S: b\n" ≡ bytes "refused=17\nat=3\n"
unfolding shown
refusal = refl

-- the cause, or 0
abbrev cause : Answer Source → ℕ
cause (done s) = 0
cause (refused c p) = cause_number c

-- 48 states pass, 49 do not, and a rule that stands twice comes before them
states_48 : cause (judged "terminals=a\nnonterminals=S\nrule=S: a a a a a a a a a a a a\nrule=S: a a a a a a a a a a a\nrule=S: a a a a a a a a a a\nrule=S: a a a a a a a\n") ≡ 0
unfolding judged
states_48 = refl

states_49 : judged "terminals=a\nnonterminals=S\nrule=S: a a a a a a a a a a a a\nrule=S: a a a a a a a a a a a\nrule=S: a a a a a a a a a a\nrule=S: a a a a a a a a\n" ≡ refused buffer_too_short 0
unfolding judged
states_49 = refl

fault_first : judged "terminals=a\nnonterminals=S\nrule=S: a a a a a a a a a a a a\nrule=S: a a a a a a a a a a a\nrule=S: a a a a a a a a a a\nrule=S: a a a a a a a a\nrule=S: a a a a a a a a\n" ≡ refused rule_repeated 49
unfolding judged
fault_first = refl

-- 19 comes before them too
sentence_first : judged "terminals=a\nnonterminals=S\nrule=S: S a a a a a a a a a a a\nrule=S: S a a a a a a a a a a\nrule=S: S a a a a a a a a a\nrule=S: S a a a a a a a\n" ≡ refused no_sentence 0
unfolding judged
sentence_first = refl

-- 4,096 bytes are read, 4,097 are not
bytes_4096 : judge (replicate 4096 0) ≡ refused malformed 1
unfolding judged
bytes_4096 = refl

bytes_4097 : judge (replicate 4097 0) ≡ refused buffer_too_short 0
unfolding judged
bytes_4097 = refl
