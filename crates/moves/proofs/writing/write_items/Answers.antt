-- write_items meets its contract: d codes of the line are written.
use native.Mathlib.Omega.{arith}
use Prim.Native.Nat.{ℕ, ◌+◌}
use mathlib.Core.Path.{◌≡◌, refl, ap, sym, ◌∙◌}
use mathlib.Core.List.{List, [], ◌∷◌}
use lib.ListN.{length, set}
use Rattle.moves.specs.Tables.{kept}
use Rattle.moves.specs.Clauses.{write}
use Rattle.moves.proofs.Writes.{writing_more, writing-end, one-write, map_constant}
use Rattle.moves.proofs.writing.write_items.Goals as goal

pub loop-d-preserved : goal.loop-d-preserved
loop-d-preserved c = let a = c.args in
    let l = c.loop-d in (
      writing_more (kept a.live) a.codes.now (0 ∷ []) a.at a.ahead.now l.ahead l.d (a.at + l.d) c.kept_code.result (omega arith) c.kept_code.ensures refl l.invariant.0,
      writing_more (λ x. a.i) a.codes.now (a.i ∷ []) a.at a.number.now l.number l.d (a.at + l.d) a.i (omega arith) refl refl l.invariant.1,
    )

pub returns : goal.returns
returns c = let a = c.args in
    let l = c.loop-d in
    let e : length a.codes.now ≡ l.d = omega arith in
    let f = writing-end (kept a.live) a.codes.now (0 ∷ []) a.at a.ahead.now l.ahead l.d (omega arith) l.invariant.0 in
    let g = writing-end (λ x. a.i) a.codes.now (a.i ∷ []) a.at a.number.now l.number l.d (omega arith) l.invariant.1 in record {
      ahead_after = ap (λ (n : ℕ). set l.ahead (a.at + n) 0) e ∙ sym (one-write l.ahead (a.at + l.d) 0) ∙ f;
      number_after = ap (λ (n : ℕ). set l.number (a.at + n) a.i) e ∙ sym (one-write l.number (a.at + l.d) a.i) ∙ g
          ∙ ap (λ (vs : List ℕ). write a.number.now a.at vs) (map_constant a.i a.codes.now);
    }
