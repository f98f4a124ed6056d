-- What the entries over two texts promise: the answer, and every lent row afterwards.
-- Source: document 02, [10]. Assumes nothing.
use Rattle.std.specs.Prelude.{ℕ, ◌≡◌, List, length}
use Rattle.grammar.specs.Limits.{limits}
use Rattle.grammar.specs.Table.{encode}
use Rattle.text.specs.Promise.{text_read, text_written, afterwards}
use Rattle.text.specs.declared.TextRead.{TextRead}
use Rattle.text.specs.declared.TextWritten.{TextWritten}
use Rattle.modules.specs.Joined.{joined_table_into, joined_text_into}
use Rattle.modules.specs.Shown.{shown, part_of, Inside}
use Rattle.modules.specs.declared.Place.{Place}

-- the joined table, from both texts and a lent row
pub record JoinsTexts (robot addon table : List ℕ) (r : TextRead) (table' : List ℕ) : Type 0 where
  pub answer : r ≡ text_read (joined_table_into limits (length table) robot addon)
  pub table-after : table' ≡ afterwards (joined_table_into limits (length table) robot addon) (λ s. encode s.rules) table

-- the joined text, from both texts and a lent output
pub record WritesJoined (robot addon out : List ℕ) (r : TextWritten) (out' : List ℕ) : Type 0 where
  pub answer : r ≡ text_written (joined_text_into limits (length out) robot addon)
  pub out-after : out' ≡ afterwards (joined_text_into limits (length out) robot addon) (λ text. text) out

-- where the name shown for symbol i stands, in its text
pub record ShowsPlace (robot addon : List ℕ) (i : ℕ) (place : Place) : Type 0 where
  pub is : place ≡ shown limits robot addon i
  pub inside : Inside robot addon place

-- and the name
abbrev pub ShowsName : List ℕ → List ℕ → ℕ → List ℕ → Type 0
ShowsName robot addon i part = part ≡ part_of robot addon (shown limits robot addon i)
