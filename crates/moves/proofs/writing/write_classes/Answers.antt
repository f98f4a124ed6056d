-- write_classes meets its contract: d codes of the line are written.
use native.Mathlib.Omega.{arith}
use Prim.Native.Nat.{ℕ, ◌+◌, ◌*◌}
use mathlib.Core.Path.{◌≡◌, refl, ap, sym, ◌∙◌}
use mathlib.Core.List.{List, [], ◌∷◌, ◌++◌, map, append-nil}
use lib.ListN.{length, set}
use Rattle.grammar.specs.Limits.{limits}
use Rattle.moves.specs.Tables.{class_of, kept}
use Rattle.moves.specs.Clauses.{write}
use Rattle.moves.proofs.Writes.{writing_more, writing-end, one-write, first-write, no_write, map-twice}
use Rattle.moves.proofs.writing.write_classes.Goals as goal

pub loop-d-preserved : goal.loop-d-preserved
loop-d-preserved c = let a = c.args in
    let l = c.loop-d in (
      writing_more (λ x. class_of limits a.m (2 * a.m) (kept a.live x)) a.codes.now (class_of limits 0 (2 * a.m) (kept a.live a.left) ∷ []) a.at a.member.now
          l.member l.d (a.at + l.d) c.class_of-in-loop-d.result (omega arith) c.class_of-in-loop-d.ensures refl l.invariant.0,
      writing_more (λ x. class_of limits 0 (2 * a.m + 1) (kept a.live x)) a.codes.now [] (a.at + 1) (set a.target.now a.at c.class_of.result)
          l.target l.d (a.at + l.d + 1) c.class_of-in-loop-d-2.result (omega arith) c.class_of-in-loop-d-2.ensures (omega arith) l.invariant.1,
    )

pub returns : goal.returns
returns c = let a = c.args in
    let l = c.loop-d in
    let left = c.class_of in
    let opens : ℕ → ℕ = λ x. class_of limits a.m (2 * a.m) (kept a.live x) in
    let closes : ℕ → ℕ = λ x. class_of limits 0 (2 * a.m + 1) (kept a.live x) in
    let x = kept a.live a.left in
    let e : length a.codes.now ≡ l.d = omega arith in
    let g = writing-end opens a.codes.now (class_of limits 0 (2 * a.m) (kept a.live a.left) ∷ []) a.at a.member.now l.member l.d (omega arith) l.invariant.0 in
    let t = writing-end closes a.codes.now [] (a.at + 1) (set a.target.now a.at left.result) l.target l.d (omega arith) l.invariant.1 in record {
      member_after = ap (λ (v : ℕ). set l.member (a.at + length a.codes.now) v) c.class_of-2.ensures
          ∙ ap (λ (n : ℕ). set l.member (a.at + n) (class_of limits 0 (2 * a.m) x)) e
          ∙ sym (one-write l.member (a.at + l.d) (class_of limits 0 (2 * a.m) x)) ∙ g
          ∙ ap (λ (vs : List ℕ). write a.member.now a.at (vs ++ (class_of limits 0 (2 * a.m) x ∷ []))) (map-twice (class_of limits a.m (2 * a.m)) (kept a.live) a.codes.now);
      target_after = sym (no_write l.target (a.at + 1 + l.d)) ∙ t
          ∙ ap (λ (v : ℕ). write (set a.target.now a.at v) (a.at + 1) (map closes a.codes.now ++ [])) left.ensures
          ∙ ap (λ (vs : List ℕ). write (set a.target.now a.at (class_of limits a.m (2 * a.m + 1) x)) (a.at + 1) vs) (append-nil (map closes a.codes.now))
          ∙ sym (first-write a.target.now a.at (class_of limits a.m (2 * a.m + 1) x) (map closes a.codes.now))
          ∙ ap (λ (vs : List ℕ). write a.target.now a.at (class_of limits a.m (2 * a.m + 1) x ∷ vs)) (map-twice (class_of limits 0 (2 * a.m + 1)) (kept a.live) a.codes.now);
    }
