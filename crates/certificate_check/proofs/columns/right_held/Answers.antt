-- right_held meets its contract: a note says what was found held, and is taken only then.
use native.Mathlib.Omega.{arith}
use mathlib.Core.Path.{◌≡◌, refl, ap, sym, subst, ◌∙◌}
use Prim.Native.Nat.{ℕ, ◌+◌}
use lib.ListN.{get_or}
use Rattle.grammar.proofs.Answers.{no_bool}
use Rattle.certificate_check.specs.Columns.{Noting}
use Rattle.certificate_check.proofs.ColumnLaws.{note_more, note_row}
use Rattle.certificate_check.proofs.columns.right_held.Goals as goal

pub returns-then-right-eq0 : goal.returns-then-right-eq0
returns-then-right-eq0 c = record { row_held = λ q h. absurd (omega (arith, c.if-right-eq0.true, h)); noted_2 = c.requires.noted }

pub returns-then-from-row : goal.returns-then-from-row
returns-then-from-row c = let a = c.args in
    let n : get_or a.seen.now a.kind 0 ≡ a.row + 1 = ap (λ (d : ℕ). get_or a.seen.now d 0) (sym c.from-c.ensures) ∙ sym c.from.ensures ∙ c.if-from-row.true in
    record { row_held = λ q h. (c.requires.noted.each a.kind a.row n).row c.requires.q_le_max_states.1; noted_2 = c.requires.noted }

pub returns-then-not-row_held : goal.returns-then-not-row_held
returns-then-not-row_held c = record { row_held = λ q. no_bool (sym q); noted_2 = c.requires.noted }

pub returns : goal.returns
returns c = let a = c.args in
    let s = c.row_held.ensures (c.if-not-row_held.false) in record {
      row_held = λ q h. s;
      noted_2 = note_more a.first.now a.targets.now a.q a.bytes.now a.seen.now c.from-c.result a.row (a.row + 1) refl c.requires.noted
          (subst (λ (d : ℕ). Noting a.first.now a.targets.now a.q a.bytes.now d a.row) (sym c.from-c.ensures)
          (note_row a.first.now a.targets.now a.q a.bytes.now a.kind a.row c.requires.q_le_max_states.1 s));
    }
