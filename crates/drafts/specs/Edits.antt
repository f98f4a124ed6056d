-- What the inner functions of an edit ask and leave. Assumes nothing.
use Rattle.std.specs.Prelude.{ℕ, ◌+◌, ◌-◌, ◌≤◌, ◌≡◌, ◌⊎◌, List, [], ◌∷◌, ◌++◌, length, get_or, set, take, drop, leb, ltb}
use Rattle.std.proofs.Math.Option.{Option, none, some}
use Rattle.std.proofs.Math.Seq.{paste}
use Rattle.grammar.specs.Basics.{choose}
use Rattle.grammar.specs.Limits.{limits}
use Rattle.grammar.specs.Grammar.{Rule}
use Rattle.grammar.specs.Table.{encode, length_at}
use Rattle.grammar.specs.Refusal.{Answer, done, refused, refuse_unless, and_then, buffer_too_short, not_present}
use Rattle.table_check.specs.Clauses.{next_or_full}
use Rattle.drafts.specs.Draft.{Edit}
use Rattle.drafts.specs.Row.{stepped, table_room, draft_room, block_of, walk, end_of, draft_in}
use Rattle.drafts.specs.Promise.{row_after}
use Rattle.drafts.specs.declared.FoundDraft.{FoundDraft}
use Rattle.drafts.specs.declared.FoundDraft.TheVariants.{Opened, Shut}

-- both parts lie in the row, and none that is still to be read is written
pub record Apart (from to n size : ℕ) : Type 0 where
  pub source : from + n ≤ size
  pub goal : to + n ≤ size
  pub order : (to ≤ from) ⊎ (from + n ≤ to)

-- where the draft's rules end in its block, or why the row holds none
abbrev pub end_or : Option ℕ → Answer ℕ
end_or none = refused not_present 0
end_or (some end) = done end

unfoldable pub open_row : List ℕ → Answer ℕ
open_row row = refuse_unless buffer_too_short 0 (leb draft_room (length row)) (end_or (end_of (block_of row 0)))

abbrev pub opening : Answer ℕ → FoundDraft
opening (done end) = Opened end
opening (refused cause at) = Shut cause at

-- so many rules are whole
pub record Reaches (block : List ℕ) (m : ℕ) : Type 0 where
  pub end : ℕ
  pub walks : walk m block 1 ≡ some end
  pub room : 1 ≤ length block

-- a rule stands at a place, before the end of the draft's table
pub record Removable (row : List ℕ) (from end : ℕ) : Type 0 where
  pub past : 3 ≤ from
  pub whole : from + 2 + length_at row from ≤ 2 + end
  pub within : 2 + end ≤ length row
  pub one : 1 ≤ get_or row 2 0

-- the row without the rule at a place
abbrev pub removed : List ℕ → ℕ → ℕ → List ℕ
removed row from end =
    set (paste row from (drop (from + 2 + length_at row from) row) (2 + end - (from + 2 + length_at row from))) 2 (get_or row 2 0 - 1)

-- no rule has more entries; a table and a rule past it
abbrev pub longest : ℕ
longest = 2 + limits.max_length

abbrev pub try_room : ℕ
try_room = table_room + longest

-- the entries that are looked at
abbrev pub entries_read : ℕ → ℕ
entries_read m = choose (ltb longest m) longest m

-- the faults of the rule that follows the draft's table, of which no more entries are looked at than a rule has; its length
unfoldable pub add_read : List ℕ → List ℕ → Answer ℕ
add_read row entries =
    and_then (draft_in row) (λ d.
    next_or_full d.terminals d.nonterminals (encode d.rules ++ take longest entries) (length d.rules) (length (encode d.rules)))

-- up to the offset the table is whole rules; a rule of length k stands there
pub record Leading (table : List ℕ) (at k : ℕ) : Type 0 where
  pub rules : List Rule
  pub front : take at table ≡ encode rules
  pub whole : at + 2 + k ≤ length table

-- up to the offset the table is so many whole rules
pub record Led (table : List ℕ) (count at : ℕ) : Type 0 where
  pub rules : List Rule
  pub front : take at table ≡ encode rules
  pub size : length rules ≡ count
  pub within : at ≤ length table

-- there is room for the rule and for its number
pub record Appendable (row : List ℕ) (end : ℕ) (entries : List ℕ) (k : ℕ) : Type 0 where
  pub room : 2 + end + (2 + k) ≤ length row
  pub whole : 2 + k ≤ length entries
  pub past : 1 ≤ end
  pub count : get_or row 2 0 ≤ limits.max_rules

-- the row with the rule past the last one
abbrev pub appended : List ℕ → ℕ → List ℕ → ℕ → List ℕ
appended row end entries k = set (paste row (2 + end) entries (2 + k)) 2 (get_or row 2 0 + 1)

-- the row that a history of edits leaves, each called on the row before it
unfoldable pub calls : List ℕ → List Edit → List ℕ
calls row [] = row
calls row (s ∷ history) = calls (row_after row (stepped row s)) history
