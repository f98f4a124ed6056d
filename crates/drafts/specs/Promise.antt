-- What the entries that edit a draft promise: the answer, and the whole row afterwards. Assumes nothing.
use Rattle.std.specs.Prelude.{ℕ, ◌≡◌, List}
use Rattle.grammar.specs.Refusal.{Answer, done, refused}
use Rattle.drafts.specs.Draft.{Edit}
use Rattle.drafts.specs.Row.{stepped, new_row}
use Rattle.drafts.specs.declared.DraftAnswer.{DraftAnswer}
use Rattle.drafts.specs.declared.DraftAnswer.TheVariants.{Done, Refused}

-- the answer as the code gives it, and the row that is left: a refusal leaves it as it was
abbrev pub answered : Answer (List ℕ) → DraftAnswer
answered (done row) = Done
answered (refused cause at) = Refused cause at

abbrev pub row_after : List ℕ → Answer (List ℕ) → List ℕ
row_after before (done row) = row
row_after before (refused cause at) = before

-- an entry answers so and leaves this row
pub record Leaves (o : Answer (List ℕ)) (before : List ℕ) (r : DraftAnswer) (row : List ℕ) : Type 0 where
  pub answer : r ≡ answered o
  pub leaves : row ≡ row_after before o

-- an edit: what it makes of the draft that the row holds
abbrev pub EditsDraft : List ℕ → Edit → DraftAnswer → List ℕ → Type 0
EditsDraft before s r row = Leaves (stepped before s) before r row

-- a new draft
abbrev pub BeginsDraft : ℕ → ℕ → List ℕ → List ℕ → DraftAnswer → List ℕ → Type 0
BeginsDraft t n table before r row = Leaves (new_row t n table before) before r row
