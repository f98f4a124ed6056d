-- A draft in a lent row: t, n, and nine blocks. Block 0 is the draft's, block k is mark k's. A block's first entry is one more than
-- the number of its rules, 0 where the mark is empty; the table of the rules follows, and what lies past the table is not read.
-- Every row that is long enough holds one draft or none, which a walk over block 0 decides: whether t, n and the rules are those of a
-- grammar is not tried again. A mark's block that holds no rules is an empty mark. Assumes nothing.
use Rattle.std.specs.Prelude.{ℕ, zero, suc, ◌+◌, ◌-◌, ◌*◌, Bool, ◌&&◌, List, [], ◌∷◌, ◌++◌, leb, ltb, length, get_or, set, take, drop}
use Rattle.std.proofs.Math.Option.{Option, none, some}
use Rattle.grammar.specs.Basics.{choose}
use Rattle.grammar.specs.Limits.{limits}
use Rattle.grammar.specs.Grammar.{Rule}
use Rattle.grammar.specs.Table.{encode, decode, length_at}
use Rattle.grammar.specs.Refusal.{Answer, done, refused, refuse_unless, and_then, buffer_too_short, not_present}
use Rattle.drafts.specs.Draft.{Draft, Edit, add, withdraw, mark, return, marks_count, new_draft, taken}

-- a table has as many entries as its rules and states together, less 4: so this is enough
abbrev pub table_room : ℕ
table_room = limits.max_rules + limits.max_states

abbrev pub block_size : ℕ
block_size = 1 + table_room

-- where block j begins
abbrev pub block_at : ℕ → ℕ
block_at j = 2 + j * block_size

-- where the draft's own table begins
abbrev pub table_at : ℕ
table_at = block_at 0 + 1

-- how long a row must be
abbrev pub draft_room : ℕ
draft_room = 2 + (1 + marks_count) * block_size

abbrev pub block_of : List ℕ → ℕ → List ℕ
block_of row j = take block_size (drop (block_at j) row)

-- the rule at a place lies whole in the block
abbrev pub is_whole : List ℕ → ℕ → Bool
is_whole block at = leb (at + 2) (length block) && leb (at + 2 + length_at block at) (length block)

-- where m rules that begin at a place end, if each lies whole in the block
unfoldable pub walk : ℕ → List ℕ → ℕ → Option ℕ
walk zero block at = some at
walk (suc m) block at = choose (is_whole block at) (walk m block (at + 2 + length_at block at)) none

-- where the rules of a block end, if it holds rules
unfoldable pub end_of : List ℕ → Option ℕ
end_of block = choose (ltb 0 (get_or block 0 0)) (walk (get_or block 0 0 - 1) block 1) none

-- the rules of a block, if it holds rules
abbrev pub rules_to : List ℕ → Option ℕ → Option (List Rule)
rules_to block none = none
rules_to block (some end) = some (decode (take (end - 1) (drop 1 block)))

abbrev pub rules_in : List ℕ → Option (List Rule)
rules_in block = rules_to block (end_of block)

-- the rules of m blocks from block j on
unfoldable pub marks_from : ℕ → ℕ → List ℕ → List (Option (List Rule))
marks_from zero j row = []
marks_from (suc m) j row = rules_in (block_of row j) ∷ marks_from m (j + 1) row

abbrev pub draft_with : List ℕ → List Rule → Draft
draft_with row rules = record { terminals = get_or row 0 0; nonterminals = get_or row 1 0; rules = rules; marks = marks_from marks_count 1 row }

abbrev pub draft_or : List ℕ → Option (List Rule) → Answer Draft
draft_or row none = refused not_present 0
draft_or row (some rules) = done (draft_with row rules)

-- the draft that a row holds: 14 at 0 for a row that is too short, 23 at 0 for one whose block 0 holds no rules
unfoldable pub draft_in : List ℕ → Answer Draft
draft_in row = refuse_unless buffer_too_short 0 (leb draft_room (length row)) (draft_or row (rules_in (block_of row 0)))

-- some entries written into a row from a place on
abbrev pub splice : List ℕ → ℕ → List ℕ → List ℕ
splice row at xs = take at row ++ xs ++ drop (at + length xs) row

-- some rules as the front of a block, and written into block j
abbrev pub image : List Rule → List ℕ
image rules = (length rules + 1) ∷ encode rules

abbrev pub put : List ℕ → ℕ → List Rule → List ℕ
put row j rules = splice row (block_at j) (image rules)

-- the block that an edit writes
abbrev pub target : Edit → ℕ
target (add entries) = 0
target (withdraw i) = 0
target (mark k) = k
target (return k) = 0

-- the row after an edit, or the refusal
unfoldable pub stepped : List ℕ → Edit → Answer (List ℕ)
stepped row s = and_then (draft_in row) (λ d. and_then (taken limits d s) (λ e. done (put row (target s) e.rules)))

-- the row with the marks 1 to m emptied
unfoldable pub emptied : ℕ → List ℕ → List ℕ
emptied zero row = row
emptied (suc m) row = set (emptied m row) (block_at (suc m)) 0

abbrev pub begun : List ℕ → Draft → List ℕ
begun row d = emptied marks_count (splice row 0 (d.terminals ∷ d.nonterminals ∷ image d.rules))

-- the row of a new draft, or the refusal: 1 to 8, then 14 at 0
unfoldable pub new_row : ℕ → ℕ → List ℕ → List ℕ → Answer (List ℕ)
new_row t n table row =
    and_then (new_draft limits t n table) (λ d.
    refuse_unless buffer_too_short 0 (leb draft_room (length row)) (done (begun row d)))
