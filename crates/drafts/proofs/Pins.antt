-- The definitions of drafts on small cases, computed: a draft with S → a, histories and blocks. PinsNew, PinsAdd, PinsWithdraw, PinsNumbers,
-- PinsMarked, PinsReturn and PinsKept have those of single edits, each by itself. Assumes nothing.
use Prim.Native.Nat.{ℕ}
use mathlib.Core.Path.{◌≡◌, refl}
use mathlib.Core.List.{List, [], ◌∷◌}
use mathlib.Core.Option.{Option, none, some}
use Rattle.grammar.specs.Limits.{Limits, limits}
use Rattle.grammar.specs.Grammar.{Rule, state_count}
use Rattle.grammar.specs.Live.{has, has_all, concluded, waiting, rounds, nonterminals_of, productive, has_sentence}
use Rattle.grammar.specs.Table.{encode, decode_up_to}
use Rattle.grammar.specs.Refusal.{Answer, refused, refuse_unless, and_then, buffer_too_short}
use Rattle.grammar.specs.TableCheck.{same_codes, is_among, declared_front, read_rule, next_rule, check_from, stored_table, check_table}
use Rattle.drafts.specs.Draft.{Draft, Edit, add, withdraw, mark, return, without, new_draft, add_rule, taken, after}
use Rattle.drafts.specs.Row.{walk, end_of, rules_in, draft_room, draft_in}

-- the code of S, a rule of it, and a draft whose marks are empty
abbrev pub S : ℕ
S = 32768

abbrev pub rule : List ℕ → Rule
rule right = record { left = S; right = right }

abbrev pub empty : List (Option (List Rule))
empty = none ∷ none ∷ none ∷ none ∷ none ∷ none ∷ none ∷ none ∷ []

abbrev pub draft : List Rule → List (Option (List Rule)) → Draft
draft rules marks = record { terminals = 2; nonterminals = 1; rules = rules; marks = marks }

abbrev pub one : Draft
one = draft (rule (1 ∷ []) ∷ []) empty

abbrev pub three : Draft
three = draft (rule (1 ∷ []) ∷ rule (2 ∷ []) ∷ rule [] ∷ []) empty

-- no more than one rule
abbrev pub few : Limits
few = record { max_terminals = 2000; nonterminal_base = 32768; max_nonterminals = 2000; max_length = 12; max_rules = 1; max_states = 1024; max_text = 262144 }

-- a new draft, an edit, a history; by the test for a sentence, which no draft uses, a wrong answer computes too
unfoldable pub new : ℕ → ℕ → List ℕ → Answer Draft
unfolding new_draft stored_table check_from next_rule read_rule declared_front is_among same_codes state_count refuse_unless and_then check_table has has_all concluded waiting rounds nonterminals_of productive has_sentence
new t n table = new_draft limits t n table

unfoldable pub step : Limits → Draft → Edit → Answer Draft
unfolding taken add_rule without encode next_rule read_rule declared_front is_among same_codes state_count refuse_unless and_then
step L d s = taken L d s

unfoldable pub history : Draft → List Edit → Draft
unfolding step after
history d h = after limits d h

-- ---- histories

-- marked, edited, returned: the rules as they were, and the marks in being
mark_edit_return : history one (mark 8 ∷ withdraw 1 ∷ mark 1 ∷ return 8 ∷ [])
    ≡ draft (rule (1 ∷ []) ∷ []) (some [] ∷ none ∷ none ∷ none ∷ none ∷ none ∷ none ∷ some (rule (1 ∷ []) ∷ []) ∷ [])
unfolding history
mark_edit_return = refl

-- marking again replaces that mark alone
mark-again : history one (mark 1 ∷ mark 2 ∷ withdraw 1 ∷ mark 1 ∷ [])
    ≡ draft [] (some [] ∷ some (rule (1 ∷ []) ∷ []) ∷ none ∷ none ∷ none ∷ none ∷ none ∷ none ∷ [])
unfolding history
mark-again = refl

-- a mark of a draft without rules is no empty mark
mark-of-none : (history one (withdraw 1 ∷ mark 8 ∷ add (S ∷ 0 ∷ []) ∷ return 7 ∷ return 8 ∷ [])).rules ≡ []
unfolding history
mark-of-none = refl

-- refused edits change nothing
refused_edits : history one (return 3 ∷ withdraw 5 ∷ add [] ∷ mark 9 ∷ []) ≡ one
unfolding history
refused_edits = refl

-- ---- blocks of a row

-- an empty mark, no rules, one rule with entries past it, and a rule that runs past the block
blocks : (rules_in (0 ∷ S ∷ 0 ∷ []) ≡ none) × (rules_in (1 ∷ 7 ∷ []) ≡ some []) × (rules_in (2 ∷ S ∷ 1 ∷ 1 ∷ 5 ∷ []) ≡ some (rule (1 ∷ []) ∷ [])) × (rules_in (2 ∷ S ∷ 3 ∷ 1 ∷ []) ≡ none)
unfolding end_of walk decode_up_to
blocks = (refl, refl, refl, refl)

short_row : (draft_room ≡ 12827) × (draft_in [] ≡ refused buffer_too_short 0)
unfolding draft_in refuse_unless
short_row = (refl, refl)
