-- Small joins, computed: lists, rules, the joined text's table, each refusal in its order, names shown. Assumes nothing.
use mathlib.Core.Path.{◌≡◌, refl}
use mathlib.Core.List.{List, [], ◌∷◌, map}
use Prim.Native.Nat.{ℕ}
use Prim.Native.Char.{code}
use Prim.Native.String.{String, [] as empty, ◌∷◌ as ◌then◌}
use Rattle.grammar.specs.Limits.{Limits, byte_limits}
use Rattle.grammar.specs.Grammar.{Rule, state_count}
use Rattle.grammar.specs.Table.{encode}
use Rattle.grammar.specs.Refusal.{Answer, done, refused, refuse_unless, and_then, out_of_range, rule_repeated, too_many_rules, too_many_states, buffer_too_short, name_unknown, no_sentence, kinds_clash}
use Rattle.grammar.specs.TableCheck.{same_codes, is_among}
use Rattle.text.specs.Pieces.{split_on, led_by, join, ended_by}
use Rattle.text.specs.Names.{is_name_byte, all, any, is_name, folded, same_name, has_double, place}
use Rattle.text.specs.Keys.{key_table, key_lengths, key, value_of}
use Rattle.text.specs.Read.{Source, refuse_none, names_of, declaration, body_of, sides_of, number_of, is_known}
use Rattle.text.specs.Read.{code_of, symbol_of, rule_of, rule_line, rule_lines, whole_line, read_lines, read_text}
use Rattle.grammar.specs.Live.{has, has_all, concluded, waiting, rounds, nonterminals_of, productive, has_sentence}
use Rattle.text.specs.Rules.{admit, last_tests, check_text, check_module}
use Rattle.text.specs.Print.{print_line, name_of, print_rule, printed}
use Rattle.text.specs.Promise.{starts_from, name_starts, name_lengths}
use Rattle.modules.specs.Joined.{meet, added, added_rules, joined, refuse_clash, join_texts, joined_table_into, joined_text_into}
use Rattle.modules.specs.Shown.{declared_in, place_of_name, place_among, place_in, shown}
use Rattle.modules.specs.declared.Place.{Place}
use Rattle.modules.specs.declared.Place.TheVariants.{Robot, Module, Neither}

bytes : String → List ℕ
bytes empty = []
bytes (c then s) = code c ∷ bytes s

abbrev rule : ℕ → List ℕ → Rule
rule x w = record { left = x; right = w }

abbrev source : List String → List String → List Rule → Source
source ts ns rules = record { terminals = map bytes ts; nonterminals = map bytes ns; rules = rules }

joins : String → String → Answer Source
unfolding bytes read_text read_lines whole_line rule_lines rule_line rule_of code_of is_known number_of place sides_of body_of
    declaration names_of refuse_none value_of key key_table key_lengths has_double same_name folded is_name any all is_name_byte
    split_on refuse_unless and_then admit check_text is_among same_codes state_count printed print_rule print_line name_of symbol_of led_by join ended_by
    meet added added_rules joined check_module refuse_clash join_texts last_tests has has_all concluded waiting rounds nonterminals_of productive has_sentence
joins robot addon = join_texts byte_limits (bytes robot) (bytes addon)

shows : String → String → ℕ → Place
unfolding joins declared_in place_of_name place_among place_in shown name_starts name_lengths starts_from
shows robot addon i = shown byte_limits (bytes robot) (bytes addon) i

-- room for two names of each kind, two rules and 9 states
abbrev few : Limits
few = record { max_terminals = 2; nonterminal_base = 128; max_nonterminals = 2; max_length = 12; max_rules = 2; max_states = 9; max_text = 200 }

joins-few : String → String → Answer Source
unfolding joins
joins-few robot addon = join_texts few (bytes robot) (bytes addon)

joins_into : ℕ → Answer Source
unfolding joins joined_table_into encode
joins_into entries = joined_table_into byte_limits entries (bytes "terminals=a\nnonterminals=S\nrule=S:\n") (bytes "terminals=\nnonterminals=S\n")

writes_into : ℕ → Answer (List ℕ)
unfolding joins joined_text_into
writes_into room = joined_text_into byte_limits room (bytes "terminals=a\nnonterminals=S\nrule=S:\n") (bytes "terminals=\nnonterminals=S\n")

-- b and H are added; the module's start is no start here; a rule that is there is not added again
heated : joins "terminals=a\nnonterminals=S\nrule=S: a\n" "terminals=b,a\nnonterminals=H,S\nrule=H: b S\nrule=S: a\nrule=S: H\n"
    ≡ done (source ("a" ∷ "b" ∷ []) ("S" ∷ "H" ∷ []) (rule 128 (1 ∷ []) ∷ rule 129 (2 ∷ 128 ∷ []) ∷ rule 128 (129 ∷ []) ∷ []))
unfolding joins
heated = refl

-- names that differ in case are the same name, shown as the robot spells it; S is declared by both
in-capitals : joins "terminals=Take\nnonterminals=S\nrule=S: take\n" "terminals=TAKE,b\nnonterminals=s\nrule=S: Take\nrule=s: b\n"
    ≡ done (source ("Take" ∷ "b" ∷ []) ("S" ∷ []) (rule 128 (1 ∷ []) ∷ rule 128 (2 ∷ []) ∷ []))
unfolding joins
in-capitals = refl

-- the robot's faults, 19 among them, the module's, which may lack sentences, 20 at the module's line
orders : (joins "terminals=a\nnonterminals=S\nrule=S: b\n" "" ≡ refused name_unknown 3)
    × (joins "terminals=a\nnonterminals=S\n" "" ≡ refused no_sentence 0)
    × (joins "terminals=a\nnonterminals=S\nrule=S:\n" "terminals=S\nnonterminals=\n" ≡ refused out_of_range 2)
    × (joins "terminals=a\nnonterminals=S\nrule=S:\n" "terminals=S\nnonterminals=a\nrule=a:\nrule=a:\n" ≡ refused rule_repeated 2)
    × (joins "terminals=a\nnonterminals=S\nrule=S:\n" "terminals=s\nnonterminals=A\n" ≡ refused kinds_clash 1)
    × (joins "terminals=a\nnonterminals=S\nrule=S:\n" "terminals=b\nnonterminals=A\n" ≡ refused kinds_clash 2)
    × (joins "terminals=a\nnonterminals=S\nrule=S:\n" "terminals=b\nnonterminals=H\n" ≡ done (source ("a" ∷ "b" ∷ []) ("S" ∷ "H" ∷ []) (rule 128 [] ∷ [])))
unfolding joins
orders = (refl, refl, refl, refl, refl, refl, refl)

-- faults of the joined text: 1 at either line, 7 and 8 at the rule's offset in the joined table; a rule that is there counts once
past-limits : (joins-few "terminals=a,b\nnonterminals=S\nrule=S:\n" "terminals=B,c\nnonterminals=S\n" ≡ refused out_of_range 1)
    × (joins-few "terminals=b\nnonterminals=S\nrule=S:\n" "terminals=c\nnonterminals=A,H\n" ≡ refused out_of_range 2)
    × (joins-few "terminals=a\nnonterminals=S\nrule=S:\nrule=S: a\n" "terminals=a\nnonterminals=S\nrule=S: S\n" ≡ refused too_many_rules 5)
    × (joins-few "terminals=a\nnonterminals=S\nrule=S: a a\n" "terminals=a\nnonterminals=S\nrule=S: a S\n" ≡ refused too_many_states 4)
    × (joins-few "terminals=a\nnonterminals=S\nrule=S:\nrule=S: a\n" "terminals=A\nnonterminals=s\nrule=s: A\n"
    ≡ done (source ("a" ∷ []) ("S" ∷ []) (rule 128 [] ∷ rule 128 (1 ∷ []) ∷ [])))
unfolding joins-few
past-limits = (refl, refl, refl, refl, refl)

-- 14 comes last: one entry, or one byte, too few
too_short : (joins_into 1 ≡ refused buffer_too_short 0) × (joins_into 2 ≡ done (source ("a" ∷ []) ("S" ∷ []) (rule 128 [] ∷ [])))
    × (writes_into 34 ≡ refused buffer_too_short 0) × (writes_into 35 ≡ done (bytes "terminals=a\nnonterminals=S\nrule=S:\n"))
unfolding joins_into writes_into bytes
too_short = (refl, refl, refl, refl)

-- names shown, of the robot where both declare, of the module, of neither, of refused texts
names-shown : (shows "terminals=a\nnonterminals=S\nrule=S:\n" "terminals=A,b\nnonterminals=H\n" 0 ≡ Robot 10 1)
    × (shows "terminals=a\nnonterminals=S\nrule=S:\n" "terminals=A,b\nnonterminals=H\n" 1 ≡ Module 12 1)
    × (shows "terminals=a\nnonterminals=S\nrule=S:\n" "terminals=A,b\nnonterminals=H\n" 2 ≡ Robot 25 1)
    × (shows "terminals=a\nnonterminals=S\nrule=S:\n" "terminals=b\nnonterminals=H\n" 3 ≡ Module 25 1)
    × (shows "terminals=a\nnonterminals=S\nrule=S:\n" "terminals=b\nnonterminals=H\n" 4 ≡ Neither)
    × (shows "terminals=a\nnonterminals=S\nrule=S:\n" "terminals=S\nnonterminals=H\n" 0 ≡ Neither)
unfolding shows bytes
names-shown = (refl, refl, refl, refl, refl, refl)
