-- `drafts::edits::begin` meets its contract: the table, then the three entries before it, then the marks.
-- Assumes nothing.
use Prim.Native.Nat.{ℕ}
use mathlib.Core.Path.{ap, ◌∙◌}
use mathlib.Core.List.{List}
use native.Mathlib.Omega.{arith}
use lib.ListN.{set}
use Rattle.drafts.specs.Row.{emptied}
use Rattle.drafts.specs.Draft.{marks_count}
use Rattle.drafts.proofs.Entries.{begin-row}
use Rattle.drafts.proofs.edits.begin.Goals as goal

pub returns : goal.returns
returns c = let a = c.args in
    c.empty_marks.ensures
    ∙ ap (λ (l : List ℕ). emptied marks_count (set (set (set l 0 a.t) 1 a.n) 2 a.cell)) c.put_entries.ensures
    ∙ ap (emptied marks_count) (begin-row a.row.now a.table.now a.t a.n a.cell (omega (arith, c.requires.0)))
