-- `readings_read::values::put_value` meets its contract: `Writing` holds at the cursor. Assumes nothing.
use native.Mathlib.Omega.{arith}
use Prim.Native.Nat.{ℕ, ◌≤◌, ◌+◌}
use mathlib.Core.Path.{sym, ap, subst, ◌∙◌}
use mathlib.Core.List.{List, [], ◌∷◌, map}
use lib.ListN.{length, drop, length-map}
use Rattle.text.specs.Pieces.{split_on}
use Rattle.text.specs.Spelled.{spelled}
use Rattle.names.specs.Found.{part}
use Rattle.names.proofs.Pieces.{piece_more, piece_last, piece_first}
use Rattle.readings.specs.Readings.{pieces_of}
use Rattle.readings_read.specs.Words.{entry_at}
use Rattle.readings_read.proofs.Words.{pieces_none, pieces_some}
use Rattle.readings_read.proofs.Passes.{entry-at, Writing, writing_start, writing-room, writing-put, writing-done}
use Rattle.readings_read.proofs.values.put_value.Goals as goal

-- the letters have room
fits : (f : List ℕ → ℕ) (v row : List ℕ) → length (pieces_of v) ≤ length row → length (map f (pieces_of v)) ≤ length row
fits f v row h = omega (arith, length-map (pieces_of v) f, h)

pub returns-then-n-eq0 : goal.returns-then-n-eq0
returns-then-n-eq0 c = let a = c.args in
    let ns = spelled a.text.now a.starts.now a.lengths.now in
    let front = map (entry_at a.t a.count ns) (pieces_of a.v.now) in
    writing-done front a.row.now 0 a.row.now
    (subst (Writing front a.row.now 0 a.row.now) (ap (map (entry_at a.t a.count ns)) (pieces_none a.v.now c.if-n-eq0.true))
    (writing_start front a.row.now (fits (entry_at a.t a.count ns) a.v.now a.row.now c.requires.1)))

pub loop-t-init : goal.loop-t-init
loop-t-init c = let a = c.args in
    let ns = spelled a.text.now a.starts.now a.lengths.now in
    let front = map (entry_at a.t a.count ns) (pieces_of a.v.now) in (
      omega arith,
      omega arith,
      subst (λ ps. Writing front a.row.now 0 a.row.now (map (entry_at a.t a.count ns) ps)) (pieces_some a.v.now (omega (arith, c.if-n-eq0.false)))
          (writing_start front a.row.now (fits (entry_at a.t a.count ns) a.v.now a.row.now c.requires.1)),
    )

pub bounds-row-j : goal.bounds-row-j
bounds-row-j c = let a = c.args in
    let ns = spelled a.text.now a.starts.now a.lengths.now in
    writing-room (map (entry_at a.t a.count ns) (pieces_of a.v.now)) a.row.now c.loop-t.j c.loop-t.row _ _ _
    (ap (map (entry_at a.t a.count ns)) (piece_first 32 a.v.now c.loop-t.a c.find-e.result (omega arith) c.find-e.ensures.at).1) c.loop-t.invariant.2

pub returns-then-n-e : goal.returns-then-n-e
returns-then-n-e c = let a = c.args in
    let ns = spelled a.text.now a.starts.now a.lengths.now in
    let p = part c.loop-t.a c.find-e.result a.v.now in
    let x = c.unwrap_or.ensures ∙ entry-at a.t a.count ns p c.read_piece.result c.read_piece.ensures in
    writing-done (map (entry_at a.t a.count ns) (pieces_of a.v.now)) a.row.now (c.loop-t.j + 1) _
    (writing-put (map (entry_at a.t a.count ns) (pieces_of a.v.now)) a.row.now c.loop-t.j c.loop-t.row _ c.unwrap_or.result []
    (ap (map (entry_at a.t a.count ns)) (piece_last 32 a.v.now c.loop-t.a c.find-e.result (omega arith) c.find-e.ensures.at c.if-n-e.true)
    ∙ ap (λ x. x ∷ []) (sym x)) c.loop-t.invariant.2)

pub loop-t-preserved : goal.loop-t-preserved
loop-t-preserved c = let a = c.args in
    let ns = spelled a.text.now a.starts.now a.lengths.now in
    let p = part c.loop-t.a c.find-e.result a.v.now in
    let rest = map (entry_at a.t a.count ns) (split_on 32 (drop (c.find-e.result + 1) a.v.now)) in
    let x = c.unwrap_or.ensures ∙ entry-at a.t a.count ns p c.read_piece.result c.read_piece.ensures in (
      omega arith,
      omega arith,
      writing-put (map (entry_at a.t a.count ns) (pieces_of a.v.now)) a.row.now c.loop-t.j c.loop-t.row _ c.unwrap_or.result rest
          (ap (map (entry_at a.t a.count ns)) (piece_more 32 a.v.now c.loop-t.a c.find-e.result (omega arith) c.find-e.ensures.at c.if-n-e.false)
          ∙ ap (λ x. x ∷ rest) (sym x)) c.loop-t.invariant.2,
    )
