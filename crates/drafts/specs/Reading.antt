-- What the entries that read a draft promise, each of the draft that the row holds. Assumes nothing.
use Rattle.std.specs.Prelude.{ℕ, ◌≡◌, List, [], length}
use Rattle.grammar.specs.Grammar.{state_count}
use Rattle.grammar.specs.Table.{encode}
use Rattle.grammar.specs.Refusal.{Answer, done, refused}
use Rattle.drafts.specs.Draft.{Draft}
use Rattle.drafts.specs.Row.{table_at, draft_in}
use Rattle.drafts.specs.declared.DraftCounts.{DraftCounts}
use Rattle.drafts.specs.declared.DraftCounts.TheVariants as counts
use Rattle.drafts.specs.declared.TablePlace.{TablePlace}
use Rattle.drafts.specs.declared.TablePlace.TheVariants as places

-- the table of a draft; nothing if there is none
abbrev pub table_or : Answer Draft → List ℕ
table_or (done d) = encode d.rules
table_or (refused cause at) = []

-- t, n, the number of its rules, the entries of its table, and Q
abbrev pub counted : Answer Draft → DraftCounts
counted (done d) = counts.Counts d.terminals d.nonterminals (length d.rules) (length (encode d.rules)) (state_count d.rules)
counted (refused cause at) = counts.Refused cause at

-- where its table begins in the row, and its entries
abbrev pub placed : Answer Draft → TablePlace
placed (done d) = places.Stands table_at (length (encode d.rules))
placed (refused cause at) = places.Refused cause at

abbrev pub ShowsTable : List ℕ → List ℕ → Type 0
ShowsTable row part = part ≡ table_or (draft_in row)

abbrev pub CountsDraft : List ℕ → DraftCounts → Type 0
CountsDraft row r = r ≡ counted (draft_in row)

abbrev pub PlacesTable : List ℕ → TablePlace → Type 0
PlacesTable row r = r ≡ placed (draft_in row)
