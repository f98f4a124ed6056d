-- Small closed cases of the definitions at the byte limits, at small ones where a number is large and, last, at the limits in force:
-- texts with their sources, each refusal of the reader and the writer with its position, the order of the refusals, and lengths told beforehand.
-- An edit of a definition in specs/ fails here.
-- Assumes nothing.
use mathlib.Core.Path.{◌≡◌, refl}
use mathlib.Core.Bool.{true, false}
use mathlib.Core.List.{List, [], ◌∷◌, map}
use mathlib.Core.Option.{none, some}
use Prim.Native.Nat.{ℕ}
use Prim.Native.Char.{code}
use lib.ListN.{length, replicate}
use lib.Dec.{leb}
use borrow.Author.Tests.{le-leb, lt-leb}
use native.Mathlib.Omega.{arith}
use Prim.Native.String.{String, [] as empty, ◌∷◌ as ◌then◌}
use Rattle.grammar.specs.Limits.{Limits, byte_limits, limits}
use Rattle.grammar.specs.Grammar.{Rule, state_count}
use Rattle.grammar.specs.Table.{encode}
use Rattle.grammar.proofs.Answers.{unless_holds, unless_fails}
use Rattle.grammar.specs.Refusal.{Answer, done, refused, refuse_unless, and_then, out_of_range, rule_too_long, code_undeclared, rule_repeated, too_many_rules, too_many_states, buffer_too_short, malformed, name_unknown, name_repeated, no_sentence}
use Rattle.grammar.specs.TableCheck.{same_codes, is_among, declared_front, read_rule, next_rule, check_from, stored_table, check_table}
use Rattle.grammar.specs.Live.{has, has_all, concluded, waiting, rounds, nonterminals_of, productive, has_sentence}
use Rattle.text.specs.Pieces.{split_on, led_by, join, ended_by}
use Rattle.text.specs.Names.{is_name_byte, all, any, is_name, folded, same_name, has_double, place}
use Rattle.text.specs.Keys.{key_table, key_lengths, key, value_of}
use Rattle.text.specs.Read.{Source, refuse_none, names_of, declaration, body_of, sides_of, number_of, is_known}
use Rattle.text.specs.Read.{code_of, symbol_of, rule_of, rule_line, rule_lines, whole_line, read_lines, read_text}
use Rattle.text.specs.Spelling.{spelling, spelled_line, spelled_lines, spelled_text}
use Rattle.text.specs.Rules.{admit, last_tests, check_text, read_into}
use Rattle.text.specs.Print.{print_line, name_of, print_rule, printed, name_at, gather, first_double, text_from, write_into}
use Rattle.text.specs.Promise.{starts_from, name_starts, name_lengths, text_length}
use Rattle.text.specs.declared.TextLength.{TextLength}
use Rattle.text.specs.declared.TextLength.TheVariants.{Bytes, Refused}

-- the bytes of an ASCII text
bytes : String → List ℕ
bytes empty = []
bytes (c then s) = code c ∷ bytes s

abbrev rule : ℕ → List ℕ → Rule
rule x w = record { left = x; right = w }

abbrev source : List String → List String → List Rule → Source
source ts ns rules = record { terminals = map bytes ts; nonterminals = map bytes ns; rules = rules }

-- 2 terminals, 3 nonterminals from code 10 on, 1 code on the right, 1 rule, 6 states, 45 bytes
abbrev small : Limits
small = record {
  max_terminals = 2;
  nonterminal_base = 10;
  max_nonterminals = 3;
  max_length = 1;
  max_rules = 1;
  max_states = 6;
  max_text = 45;
}

-- the same with room for 2 rules and a long text
abbrev roomy : Limits
roomy = record {
  max_terminals = 2;
  nonterminal_base = 10;
  max_nonterminals = 3;
  max_length = 1;
  max_rules = 2;
  max_states = 6;
  max_text = 200;
}

-- to unfold one of these is to unfold all that it uses
read : String → Answer Source
unfolding bytes read_text read_lines whole_line rule_lines rule_line rule_of code_of is_known number_of place sides_of body_of
    declaration names_of refuse_none value_of key key_table key_lengths has_double same_name folded is_name any all is_name_byte
    split_on refuse_unless and_then
read text = read_text byte_limits (bytes text)

read_small : String → Answer Source
unfolding read
read_small text = read_text small (bytes text)

check : Limits → String → Answer Source
unfolding read check_text last_tests admit is_among same_codes state_count has has_all concluded waiting rounds nonterminals_of productive has_sentence
check L text = check_text L (bytes text)

into : ℕ → ℕ → ℕ → String → Answer Source
unfolding check read_into encode
into entries starts lengths text = read_into byte_limits entries starts lengths (bytes text)

print : Source → List ℕ
unfolding bytes printed print_rule name_of symbol_of print_line ended_by join led_by key key_table key_lengths
print s = printed byte_limits s

spell : List String → String → List ℕ
unfolding read spelled_text spelled_lines spelled_line spelling join led_by
spell names text = spelled_text (map bytes names) (bytes text)

told_length : ℕ → ℕ → List ℕ → String → List ℕ → List ℕ → TextLength
unfolding print text_from gather name_at first_double refuse_none is_name is_name_byte all any same_name folded refuse_unless
    and_then check_table stored_table check_from next_rule read_rule declared_front is_among same_codes state_count encode
    has has_all concluded waiting rounds nonterminals_of productive has_sentence
told_length t n table lent starts lengths = text_length (text_from byte_limits t n table (bytes lent) starts lengths)

write : ℕ → ℕ → List ℕ → String → List ℕ → List ℕ → ℕ → Answer (List ℕ)
unfolding told_length write_into
write t n table lent starts lengths room = write_into byte_limits t n table (bytes lent) starts lengths room

-- ---- names

-- letters, digits and the hyphen, and the bytes beside them
name-bytes : (map is_name_byte (96 ∷ 97 ∷ 122 ∷ 123 ∷ []) ≡ false ∷ true ∷ true ∷ false ∷ [])
    × (map is_name_byte (64 ∷ 65 ∷ 90 ∷ 91 ∷ []) ≡ false ∷ true ∷ true ∷ false ∷ [])
    × (map is_name_byte (47 ∷ 48 ∷ 57 ∷ 58 ∷ []) ≡ false ∷ true ∷ true ∷ false ∷ [])
    × (map is_name_byte (44 ∷ 45 ∷ 46 ∷ 95 ∷ []) ≡ false ∷ true ∷ false ∷ false ∷ [])
unfolding is_name_byte
name-bytes = (refl, refl, refl, refl)

-- 0, 1, 15 and 16 bytes
name-lengths : (is_name [] ≡ false)
    × (is_name (bytes "a") ≡ true)
    × (is_name (bytes "a-z-A-Z-0-9-abc") ≡ true)
    × (is_name (bytes "a-z-A-Z-0-9-abcd") ≡ false)
unfolding bytes is_name all is_name_byte
name-lengths = (refl, refl, refl, refl)

-- capital letters count as small ones; the bytes beside letters, digits and the hyphen count as they are
folds : (map folded (64 ∷ 65 ∷ 90 ∷ 91 ∷ []) ≡ 64 ∷ 97 ∷ 122 ∷ 91 ∷ [])
    × (map folded (96 ∷ 97 ∷ 122 ∷ 123 ∷ []) ≡ 96 ∷ 97 ∷ 122 ∷ 123 ∷ [])
    × (map folded (45 ∷ 48 ∷ 57 ∷ []) ≡ 45 ∷ 48 ∷ 57 ∷ [])
unfolding folded
folds = (refl, refl, refl)

-- a name is not the same as its front; case does not count
names-differ : (same_name (bytes "a") (bytes "a") ≡ true)
    × (same_name (bytes "a") (bytes "ab") ≡ false)
    × (same_name (bytes "ab") (bytes "a") ≡ false)
    × (same_name (bytes "A") (bytes "a") ≡ true)
    × (same_name (bytes "a") (bytes "A") ≡ true)
    × (same_name (bytes "Take-9") (bytes "tAKE-9") ≡ true)
    × (same_name (bytes "A") (bytes "b") ≡ false)
    × (same_name (bytes "@") (bytes "`") ≡ false)
    × (same_name (bytes "[") (bytes "{") ≡ false)
unfolding bytes same_name folded
names-differ = (refl, refl, refl, refl, refl, refl, refl, refl, refl)

-- ---- what texts say, and how sources are printed

-- S → a; S without rules; an empty right side; two of each kind, used in another case than they are declared in
texts : (read "terminals=a\nnonterminals=S\nrule=S: a\n" ≡ done (source ("a" ∷ []) ("S" ∷ []) (rule 128 (1 ∷ []) ∷ [])))
    × (read "terminals=\nnonterminals=S\n" ≡ done (source [] ("S" ∷ []) []))
    × (read "terminals=\nnonterminals=S\nrule=S:\n" ≡ done (source [] ("S" ∷ []) (rule 128 [] ∷ [])))
    × (read "terminals=a,B\nnonterminals=S,t\nrule=s: T b\nrule=t: A S\n"
    ≡ done (source ("a" ∷ "B" ∷ []) ("S" ∷ "t" ∷ []) (rule 128 (129 ∷ 2 ∷ []) ∷ rule 129 (1 ∷ 128 ∷ []) ∷ [])))
unfolding read
texts = (refl, refl, refl, refl)

-- the same printed: each name as it is declared
prints : (print (source ("a" ∷ []) ("S" ∷ []) (rule 128 (1 ∷ []) ∷ [])) ≡ bytes "terminals=a\nnonterminals=S\nrule=S: a\n")
    × (print (source [] ("S" ∷ []) []) ≡ bytes "terminals=\nnonterminals=S\n")
    × (print (source [] ("S" ∷ []) (rule 128 [] ∷ [])) ≡ bytes "terminals=\nnonterminals=S\nrule=S:\n")
    × (print (source ("a" ∷ "B" ∷ []) ("S" ∷ "t" ∷ []) (rule 128 (129 ∷ 2 ∷ []) ∷ rule 129 (1 ∷ 128 ∷ []) ∷ []))
    ≡ bytes "terminals=a,B\nnonterminals=S,t\nrule=S: t B\nrule=t: a S\n")
unfolding print
prints = (refl, refl, refl, refl)

-- a text in declared spelling: uses take it, the lines that declare stay, and so do keys and names that are not declared
spells : (spell ("a" ∷ "B" ∷ "S" ∷ "t" ∷ []) "terminals=a,B\nnonterminals=S,t\nrule=s: T b\nrule=t: A S\n"
    ≡ bytes "terminals=a,B\nnonterminals=S,t\nrule=S: t B\nrule=t: a S\n")
    × (spell ("TAKE" ∷ "rule" ∷ []) "terminals=TAKE\nnonterminals=rule\nrule=RULE: take Take\nrule=rule:\n"
    ≡ bytes "terminals=TAKE\nnonterminals=rule\nrule=rule: TAKE TAKE\nrule=rule:\n")
    × (spell ("a" ∷ "S" ∷ []) "terminals=A\nnonterminals=s\nRule=s: A\nrule=s: B A\n"
    ≡ bytes "terminals=A\nnonterminals=s\nRule=s: A\nrule=S: B a\n")
unfolding spell
spells = (refl, refl, refl)

-- the names' starts and lengths; none for no terminals
spans : (name_starts (source ("a" ∷ "bc" ∷ []) ("S" ∷ "T" ∷ []) []) ≡ 10 ∷ 12 ∷ 28 ∷ 30 ∷ [])
    × (name_starts (source [] ("S" ∷ []) []) ≡ 24 ∷ [])
    × (name_lengths (bytes "a" ∷ bytes "bc" ∷ bytes "S" ∷ bytes "T" ∷ []) ≡ 1 ∷ 2 ∷ 1 ∷ 1 ∷ [])
unfolding bytes name_starts starts_from name_lengths print_line join led_by key key_table key_lengths
spans = (refl, refl, refl)

-- ---- the reader's refusals

-- 16 at a line that is missing, unended or blank, wherever it stands
cause_16_lines : (read "" ≡ refused malformed 1)
    × (read "terminals=a" ≡ refused malformed 1)
    × (read "terminals=a\n" ≡ refused malformed 2)
    × (read "terminals=a\nnonterminals=S" ≡ refused malformed 2)
    × (read "terminals=a\nnonterminals=S\nrule=S: a" ≡ refused malformed 3)
    × (read "terminals=a\nnonterminals=S\n\n" ≡ refused malformed 3)
    × (read "terminals=a\nnonterminals=S\n\nrule=S: a\n" ≡ refused malformed 3)
    × (read "terminals=a\nnonterminals=S\nrule=S: a\n\n" ≡ refused malformed 4)
    × (read "\nnonterminals=S\n" ≡ refused malformed 1)
unfolding read
cause_16_lines = (refl, refl, refl, refl, refl, refl, refl, refl, refl)

-- 16 at a line with another key, in another order, or without an equals sign; keys are no names, so their case counts
cause_16_keys : (read "terminal=a\nnonterminals=S\n" ≡ refused malformed 1)
    × (read "nonterminals=S\nterminals=a\n" ≡ refused malformed 1)
    × (read "terminals\nnonterminals=S\n" ≡ refused malformed 1)
    × (read " terminals=a\nnonterminals=S\n" ≡ refused malformed 1)
    × (read "terminals=a\nterminals=S\n" ≡ refused malformed 2)
    × (read "terminals=a\nnonterminals=S\nrules=S: a\n" ≡ refused malformed 3)
    × (read "terminals=a\nnonterminals=S\nterminals=b\n" ≡ refused malformed 3)
    × (read "Terminals=a\nnonterminals=S\n" ≡ refused malformed 1)
    × (read "terminals=a\nnonTerminals=S\n" ≡ refused malformed 2)
    × (read "terminals=a\nnonterminals=S\nRule=S: a\n" ≡ refused malformed 3)
unfolding read
cause_16_keys = (refl, refl, refl, refl, refl, refl, refl, refl, refl, refl)

-- 16 at a list with an empty or malformed name
cause_16_names : (read "terminals=a,\nnonterminals=S\n" ≡ refused malformed 1)
    × (read "terminals=,a\nnonterminals=S\n" ≡ refused malformed 1)
    × (read "terminals=a, b\nnonterminals=S\n" ≡ refused malformed 1)
    × (read "terminals=a_b\nnonterminals=S\n" ≡ refused malformed 1)
    × (read "terminals=a\r\nnonterminals=S\n" ≡ refused malformed 1)
    × (read "terminals=a\nnonterminals=S,,T\n" ≡ refused malformed 2)
    × (read "terminals=a\nnonterminals=abcdefghijklmnop\n" ≡ refused malformed 2)
unfolding read
cause_16_names = (refl, refl, refl, refl, refl, refl, refl)

-- 16 at a rule without or with two colons, without a space before a name, with a space at the end or two in a row, with a
-- malformed name on the left or on the right
cause_16_rules : (read "terminals=a\nnonterminals=S\nrule=S\n" ≡ refused malformed 3)
    × (read "terminals=a\nnonterminals=S\nrule=S: a:\n" ≡ refused malformed 3)
    × (read "terminals=a\nnonterminals=S\nrule=S:a\n" ≡ refused malformed 3)
    × (read "terminals=a\nnonterminals=S\nrule=S: a \n" ≡ refused malformed 3)
    × (read "terminals=a\nnonterminals=S\nrule=S: a  a\n" ≡ refused malformed 3)
    × (read "terminals=a\nnonterminals=S\nrule=S: \n" ≡ refused malformed 3)
    × (read "terminals=a\nnonterminals=S\nrule=: a\n" ≡ refused malformed 3)
    × (read "terminals=a\nnonterminals=S\nrule=S : a\n" ≡ refused malformed 3)
    × (read "terminals=a\nnonterminals=S\nrule=S: a\nrule=S: _\n" ≡ refused malformed 4)
unfolding read
cause_16_rules = (refl, refl, refl, refl, refl, refl, refl, refl, refl)

-- 18 at the line that declares a name again, in whatever case
cause_18 : (read "terminals=a,b,a\nnonterminals=S\n" ≡ refused name_repeated 1)
    × (read "terminals=a\nnonterminals=S,S\n" ≡ refused name_repeated 2)
    × (read "terminals=a,b\nnonterminals=S,b\n" ≡ refused name_repeated 2)
    × (read "terminals=a,A\nnonterminals=S\n" ≡ refused name_repeated 1)
    × (read "terminals=a\nnonterminals=S,s\n" ≡ refused name_repeated 2)
    × (read "terminals=a,Take\nnonterminals=S,tAKE\n" ≡ refused name_repeated 2)
unfolding read
cause_18 = (refl, refl, refl, refl, refl, refl)

-- 1 at the line with no nonterminal or with too many names
cause_1 : (read "terminals=a\nnonterminals=\n" ≡ refused out_of_range 2)
    × (read_small "terminals=a,b,c\nnonterminals=S\n" ≡ refused out_of_range 1)
    × (read_small "terminals=\nnonterminals=S,T,U,V\n" ≡ refused out_of_range 2)
    × (read_small "terminals=a,b\nnonterminals=S,T,U\n" ≡ done (source ("a" ∷ "b" ∷ []) ("S" ∷ "T" ∷ "U" ∷ []) []))
unfolding read_small
cause_1 = (refl, refl, refl, refl)

-- 17 at a rule with an unknown name, or a terminal's on the left
cause_17 : (read "terminals=a\nnonterminals=S\nrule=S: b\n" ≡ refused name_unknown 3)
    × (read "terminals=a\nnonterminals=S\nrule=T: a\n" ≡ refused name_unknown 3)
    × (read "terminals=a\nnonterminals=S\nrule=a: a\n" ≡ refused name_unknown 3)
    × (read "terminals=a\nnonterminals=S\nrule=S: S-\n" ≡ refused name_unknown 3)
    × (read "terminals=a\nnonterminals=S\nrule=S: a\nrule=S: aa\n" ≡ refused name_unknown 4)
unfolding read
cause_17 = (refl, refl, refl, refl, refl)

-- 4 at a rule of 13 names, not of 12
cause_4 : (read "terminals=a\nnonterminals=S\nrule=S: a a a a a a a a a a a a a\n" ≡ refused rule_too_long 3)
    × (read "terminals=a\nnonterminals=S\nrule=S: a a a a a a a a a a a a\n"
    ≡ done (source ("a" ∷ []) ("S" ∷ []) (rule 128 (replicate 12 1) ∷ [])))
unfolding read
cause_4 = (refl, refl)

-- 16 at line 0 for a text of 46 bytes, not of 45
too_long : (read_small "terminals=a\nnonterminals=S\nrule=S: aaaaaaaaa\n" ≡ refused name_unknown 3)
    × (read_small "terminals=a\nnonterminals=S\nrule=S: aaaaaaaaaa\n" ≡ refused malformed 0)
unfolding read_small
too_long = (refl, refl)

-- in a line 16 before 18 before 1, and 16 before 17 before 4; the first line with a fault counts
reader_order : (read "terminals=a,a,_\nnonterminals=S\n" ≡ refused malformed 1)
    × (read_small "terminals=a,b,a\nnonterminals=S\n" ≡ refused name_repeated 1)
    × (read "terminals=a\nnonterminals=S\nrule=T: b _\n" ≡ refused malformed 3)
    × (read "terminals=a\nnonterminals=S\nrule=S: a a a a a a a a a a a a b\n" ≡ refused name_unknown 3)
    × (read "terminals=a,a\nnonterminals=\nrule\n" ≡ refused name_repeated 1)
    × (read "terminals=a\nnonterminals=\nrule\n" ≡ refused out_of_range 2)
    × (read "terminals=a\nnonterminals=S\nrule=S: b\nrule" ≡ refused name_unknown 3)
unfolding read_small
reader_order = (refl, refl, refl, refl, refl, refl, refl)

-- 7, 6 and 8 at the rule's offset in the table, in this order, and after all lines; a rule in another case is the same rule
rules_order : (check small "terminals=a\nnonterminals=S\nrule=S:\nrule=S:\n" ≡ refused too_many_rules 2)
    × (check roomy "terminals=a\nnonterminals=S\nrule=S: a\nrule=S: a\n" ≡ refused rule_repeated 3)
    × (check roomy "terminals=a\nnonterminals=S\nrule=S:\nrule=S: a\n" ≡ refused too_many_states 2)
    × (check roomy "terminals=a\nnonterminals=S\nrule=S: a\n" ≡ done (source ("a" ∷ []) ("S" ∷ []) (rule 10 (1 ∷ []) ∷ [])))
    × (check byte_limits "terminals=a\nnonterminals=S\nrule=S: a\nrule=S:\nrule=S: a\n" ≡ refused rule_repeated 5)
    × (check byte_limits "terminals=a\nnonterminals=S\nrule=S: a\nrule=S: a\nrule=S: b\n" ≡ refused name_unknown 5)
    × (check byte_limits "terminals=a\nnonterminals=S\nrule=S: a\nrule=s: A\n" ≡ refused rule_repeated 3)
unfolding check
rules_order = (refl, refl, refl, refl, refl, refl, refl)

-- 19 at 0 where S has no finite tree, after 8 and before 14; one whose only sentence is empty passes
cause_19 : (check byte_limits "terminals=a\nnonterminals=S\n" ≡ refused no_sentence 0)
    × (check byte_limits "terminals=a\nnonterminals=S,B\nrule=S: a B\nrule=B: S\n" ≡ refused no_sentence 0)
    × (check roomy "terminals=a\nnonterminals=S\nrule=S: S\nrule=S: S\n" ≡ refused rule_repeated 3)
    × (into 0 0 0 "terminals=a\nnonterminals=S\nrule=S: S\n" ≡ refused no_sentence 0)
    × (check byte_limits "terminals=\nnonterminals=S\nrule=S:\n" ≡ done (source [] ("S" ∷ []) (rule 128 [] ∷ [])))
unfolding check into
cause_19 = (refl, refl, refl, refl, refl)

-- 14 at 0 where a lent row is short of 3 entries, 2 starts or 2 lengths, and after all else
cause_14 : (into 3 2 2 "terminals=a\nnonterminals=S\nrule=S: a\n" ≡ done (source ("a" ∷ []) ("S" ∷ []) (rule 128 (1 ∷ []) ∷ [])))
    × (into 2 2 2 "terminals=a\nnonterminals=S\nrule=S: a\n" ≡ refused buffer_too_short 0)
    × (into 3 1 2 "terminals=a\nnonterminals=S\nrule=S: a\n" ≡ refused buffer_too_short 0)
    × (into 3 2 1 "terminals=a\nnonterminals=S\nrule=S: a\n" ≡ refused buffer_too_short 0)
    × (into 0 0 0 "terminals=a\nnonterminals=S\nrule=S: a\nrule=S: a\n" ≡ refused rule_repeated 3)
unfolding into
cause_14 = (refl, refl, refl, refl, refl)

-- ---- the writer

-- names lent in any order, with room for 37 bytes; in 36 it is 14 at 0
writes : (write 1 1 (128 ∷ 1 ∷ 1 ∷ []) "Sa" (1 ∷ 0 ∷ []) (1 ∷ 1 ∷ []) 37
    ≡ done (bytes "terminals=a\nnonterminals=S\nrule=S: a\n"))
    × (write 1 1 (128 ∷ 1 ∷ 1 ∷ []) "Sa" (1 ∷ 0 ∷ []) (1 ∷ 1 ∷ []) 36 ≡ refused buffer_too_short 0)
    × (write 0 1 (128 ∷ 0 ∷ []) "S" (0 ∷ 9 ∷ []) (1 ∷ 9 ∷ []) 100 ≡ done (bytes "terminals=\nnonterminals=S\nrule=S:\n"))
unfolding write
writes = (refl, refl, refl)

-- a name needs an entry in both rows, and its bytes
lent-names : (name_at (bytes "abc") (1 ∷ []) (2 ∷ []) 0 ≡ some (bytes "bc"))
    × (name_at (bytes "abc") [] (2 ∷ []) 0 ≡ none)
    × (name_at (bytes "abc") (1 ∷ []) [] 0 ≡ none)
    × (name_at (bytes "abc") (2 ∷ []) (2 ∷ []) 0 ≡ none)
unfolding bytes name_at
lent-names = (refl, refl, refl, refl)

-- 16 at the symbol without a start, without a length, past the bytes, or with a malformed name
writer_16 : (write 1 1 (128 ∷ 0 ∷ []) "aS" (0 ∷ []) (1 ∷ 1 ∷ []) 100 ≡ refused malformed 1)
    × (write 1 1 (128 ∷ 0 ∷ []) "aS" (0 ∷ 1 ∷ []) (1 ∷ []) 100 ≡ refused malformed 1)
    × (write 1 1 (128 ∷ 0 ∷ []) "aS" (0 ∷ 1 ∷ []) (1 ∷ 2 ∷ []) 100 ≡ refused malformed 1)
    × (write 1 1 (128 ∷ 0 ∷ []) "_S" (0 ∷ 1 ∷ []) (1 ∷ 1 ∷ []) 100 ≡ refused malformed 0)
    × (write 1 1 (128 ∷ 0 ∷ []) "aS" (0 ∷ 1 ∷ []) (0 ∷ 1 ∷ []) 100 ≡ refused malformed 0)
unfolding write
writer_16 = (refl, refl, refl, refl, refl)

-- 18 at the lowest symbol whose name an earlier one has, in whatever case; names are written as they are lent
writer_18 : (write 2 2 (128 ∷ 0 ∷ []) "ab" (0 ∷ 1 ∷ 0 ∷ 1 ∷ []) (1 ∷ 1 ∷ 1 ∷ 1 ∷ []) 100 ≡ refused name_repeated 2)
    × (write 1 2 (128 ∷ 0 ∷ []) "ab" (1 ∷ 0 ∷ 0 ∷ []) (1 ∷ 1 ∷ 1 ∷ []) 100 ≡ refused name_repeated 2)
    × (write 1 1 (128 ∷ 0 ∷ []) "sS" (0 ∷ 1 ∷ []) (1 ∷ 1 ∷ []) 100 ≡ refused name_repeated 1)
    × (write 1 1 (128 ∷ 1 ∷ 1 ∷ []) "TAKEs" (0 ∷ 4 ∷ []) (4 ∷ 1 ∷ []) 100
    ≡ done (bytes "terminals=TAKE\nnonterminals=s\nrule=s: TAKE\n"))
unfolding write
writer_18 = (refl, refl, refl, refl)

-- table faults before 16 before 18 before 14
writer_order : (write 1 0 [] "" [] [] 0 ≡ refused out_of_range 0)
    × (write 1 1 (128 ∷ 1 ∷ 2 ∷ []) "" [] [] 0 ≡ refused code_undeclared 2)
    × (write 1 1 [] "" [] [] 0 ≡ refused no_sentence 0)
    × (write 2 1 (128 ∷ 0 ∷ []) "a_" (0 ∷ 0 ∷ 1 ∷ []) (1 ∷ 1 ∷ 1 ∷ []) 0 ≡ refused malformed 2)
    × (write 1 1 (128 ∷ 0 ∷ []) "a" (0 ∷ 0 ∷ []) (1 ∷ 1 ∷ []) 0 ≡ refused name_repeated 1)
unfolding write
writer_order = (refl, refl, refl, refl, refl)

-- ---- the length told beforehand

-- the bytes that the writer writes, the last line's end counted; a name one byte longer in each of its two lines; an empty right side
told-lengths : (told_length 1 1 (128 ∷ 1 ∷ 1 ∷ []) "Sa" (1 ∷ 0 ∷ []) (1 ∷ 1 ∷ []) ≡ Bytes 37)
    × (told_length 1 1 (128 ∷ 1 ∷ 1 ∷ []) "Sab" (1 ∷ 0 ∷ []) (2 ∷ 1 ∷ []) ≡ Bytes 39)
    × (told_length 0 1 (128 ∷ 0 ∷ []) "S" (0 ∷ []) (1 ∷ []) ≡ Bytes 34)
unfolding told_length
told-lengths = (refl, refl, refl)

-- the writer's refusals but 14, in its order: table faults, 19 the last of them, then 16, then 18
told_refusals : (told_length 1 0 [] "" [] [] ≡ Refused out_of_range 0)
    × (told_length 1 1 (128 ∷ 1 ∷ 2 ∷ []) "" [] [] ≡ Refused code_undeclared 2)
    × (told_length 1 1 [] "" [] [] ≡ Refused no_sentence 0)
    × (told_length 1 1 (128 ∷ 0 ∷ []) "aS" (0 ∷ 1 ∷ []) (1 ∷ []) ≡ Refused malformed 1)
    × (told_length 2 1 (128 ∷ 0 ∷ []) "a_" (0 ∷ 0 ∷ 1 ∷ []) (1 ∷ 1 ∷ 1 ∷ []) ≡ Refused malformed 2)
    × (told_length 1 1 (128 ∷ 0 ∷ []) "a" (0 ∷ 0 ∷ []) (1 ∷ 1 ∷ []) ≡ Refused name_repeated 1)
    × (told_length 1 1 (128 ∷ 0 ∷ []) "aA" (0 ∷ 1 ∷ []) (1 ∷ 1 ∷ []) ≡ Refused name_repeated 1)
unfolding told_length
told_refusals = (refl, refl, refl, refl, refl, refl, refl)

-- ---- the limits in force

-- the first and the last names of 2,000 terminals and of 2,000 nonterminals have these codes, and these codes those names
wide-codes : (map (code_of limits 2000) (0 ∷ 1999 ∷ 2000 ∷ 3999 ∷ []) ≡ 1 ∷ 2000 ∷ 32768 ∷ 34767 ∷ [])
    × (map (symbol_of limits 2000) (1 ∷ 2000 ∷ 32768 ∷ 34767 ∷ []) ≡ 0 ∷ 1999 ∷ 2000 ∷ 3999 ∷ [])
unfolding code_of symbol_of
wide-codes = (refl, refl)

-- 16 at line 0 for a text of 262,145 bytes; one of 262,144 bytes is read by its lines
wide_texts : (text : List ℕ)
    → (length text ≡ 262145 → read_text limits text ≡ refused malformed 0)
    × (length text ≡ 262144 → read_text limits text ≡ read_lines limits (split_on 10 text))
unfolding read_text
wide_texts text =
    let m = limits.max_text in
    let test = leb (length text) m in (
      λ e. unless_fails malformed 0 test (read_lines limits (split_on 10 text)) (lt-leb (length text) m (omega (arith, e))),
      λ e. unless_holds malformed 0 test (read_lines limits (split_on 10 text)) (le-leb (length text) m (omega (arith, e))),
    )
