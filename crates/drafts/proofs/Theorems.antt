-- What the promises tell: what an entry that answers Done did, that a refused call leaves the row as it was, and that a row which
-- holds a draft has all its marks. Assumes nothing.
use Prim.Native.Nat.{ℕ}
use mathlib.Core.Path.{◌≡◌, ap, sym, ◌∙◌}
use mathlib.Core.List.{List}
use native.Mathlib.Omega.{arith}
use lib.ListN.{length}
use Rattle.grammar.specs.Refusal.{Answer, done, refused}
use Rattle.grammar.specs.declared.Cause.{Cause}
use Rattle.drafts.specs.Draft.{Draft, Edit, marks_count}
use Rattle.drafts.specs.Row.{new_row, draft_in, stepped}
use Rattle.drafts.specs.Promise.{Leaves, BeginsDraft, EditsDraft}
use Rattle.drafts.specs.declared.DraftAnswer.TheVariants.{Done, Refused}
use Rattle.drafts.proofs.Holdings.{holding, marks_length}

-- what an entry that answers Done did, and one that refuses: the row as it was
pub answers_done : (o : Answer (List ℕ)) (before row : List ℕ) → Leaves o before Done row → o ≡ done row
answers_done (done after) before row a = ap done (sym a.leaves)
answers_done (refused c p) before row a = let e : Done ≡ Refused c p = a.answer in let z : ◌≡◌ {A = ℕ} 0 1 = cc in absurd (let o : ⊥ = omega arith in o)

answers_refused : (o : Answer (List ℕ)) (before row : List ℕ) (c : Cause) (p : ℕ) → Leaves o before (Refused c p) row → row ≡ before
answers_refused (done after) before row c p a = let e : Refused c p ≡ Done = a.answer in let z : ◌≡◌ {A = ℕ} 0 1 = cc in absurd (let o : ⊥ = omega arith in o)
answers_refused (refused d q) before row c p a = a.leaves

-- a refused edit leaves the row as it was
pub refused_leaves : (before row : List ℕ) (s : Edit) (c : Cause) (p : ℕ) → EditsDraft before s (Refused c p) row → row ≡ before
refused_leaves before row s c p a = answers_refused (stepped before s) before row c p a

pub refused-new : (t n : ℕ) (table before row : List ℕ) (c : Cause) (p : ℕ) → BeginsDraft t n table before (Refused c p) row → row ≡ before
refused-new t n table before row c p a = answers_refused (new_row t n table before) before row c p a

-- every row that holds a draft has all its marks
pub all_marks : (row : List ℕ) (d : Draft) → draft_in row ≡ done d → length d.marks ≡ marks_count
all_marks row d e = ap (λ (d : Draft). length d.marks) (holding row d e).same ∙ marks_length marks_count 1 row
