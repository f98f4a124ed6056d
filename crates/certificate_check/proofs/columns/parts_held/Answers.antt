-- parts_held meets its contract: a note says what was found held, and is taken only then.
use native.Mathlib.Omega.{arith}
use mathlib.Core.Path.{◌≡◌, refl, ap, sym, subst, ◌∙◌}
use Prim.Native.Nat.{ℕ, ◌+◌, ◌*◌}
use lib.ListN.{get_or}
use Rattle.grammar.proofs.Answers.{no_bool}
use Rattle.certificate_check.specs.Columns.{Noting}
use Rattle.certificate_check.proofs.ColumnLaws.{note_more, note_pairs}
use Rattle.certificate_check.proofs.columns.parts_held.Goals as goal

pub returns-then-pairs-eq0 : goal.returns-then-pairs-eq0
returns-then-pairs-eq0 c = record { pairs_held = λ q h. absurd (omega (arith, c.if-pairs-eq0.true, h)); noted_2 = c.requires.noted }

pub returns-then-from-note : goal.returns-then-from-note
returns-then-from-note c = let a = c.args in
    let n : get_or a.seen.now a.right 0 ≡ 2 * a.q + a.left + 1 =
    ap (λ (d : ℕ). get_or a.seen.now d 0) (sym c.from-c.ensures) ∙ sym c.from-2.ensures ∙ c.if-from-note.true
    ∙ ap (λ (d : ℕ). 2 * a.q + d + 1) c.from.ensures in
    record { pairs_held = λ q h. (c.requires.noted.each a.right (2 * a.q + a.left) n).pairs a.left refl; noted_2 = c.requires.noted }

pub returns-then-not-pairs_held : goal.returns-then-not-pairs_held
returns-then-not-pairs_held c = record { pairs_held = λ q. no_bool (sym q); noted_2 = c.requires.noted }

pub returns : goal.returns
returns c = let a = c.args in
    let s = c.pairs_held.ensures (c.if-not-pairs_held.false) in
    let n : 2 * a.q + c.from.result + 1 ≡ 2 * a.q + a.left + 1 = ap (λ (d : ℕ). 2 * a.q + d + 1) c.from.ensures in record {
      pairs_held = λ q h. s;
      noted_2 = note_more a.first.now a.targets.now a.q a.bytes.now a.seen.now c.from-c.result (2 * a.q + a.left) (2 * a.q + c.from.result + 1) n c.requires.noted
          (subst (λ (d : ℕ). Noting a.first.now a.targets.now a.q a.bytes.now d (2 * a.q + a.left)) (sym c.from-c.ensures)
          (note_pairs a.first.now a.targets.now a.q a.bytes.now a.left a.right s));
    }
