-- copy meets its contract: before turn i the first i bytes are the top bytes of `from` and the others as they were.
use mathlib.Core.Path.{◌≡◌, refl, ap, sym, subst, ◌∙◌}
use mathlib.Core.List.{List, ◌++◌}
use Prim.Native.Nat.{ℕ, zero-le}
use native.Mathlib.Nat.{le_antisymm}
use native.Mathlib.Numerals.{add-one-le}
use native.Mathlib.Omega.{arith}
use lib.ListN.{get_or, set, take, drop, length-map, length-set}
use lib.Seq.{length-take-le}
use Rattle.tops.specs.Tops.{top, tops}
use Rattle.tops.proofs.Laws.{get_d_map}
use Rattle.clearing.proofs.Laws.{over_is}
use Rattle.search.proofs.FinishLaws.{copy_more}
use Rattle.search.proofs.finish.copy.Goals as goal

pub loop-i-init : goal.loop-i-init
loop-i-init c = (zero-le, refl, refl)

pub loop-i-preserved : goal.loop-i-preserved
loop-i-preserved c = let l = c.loop-i in
    let t = c.loop-i-test.true in
    let a = c.args in
    let bytes = tops a.from.now in (
      add-one-le t,
      ap (λ (v : ℕ). set l.to l.i v) (c.top_of.ensures ∙ sym (get_d_map top refl a.from.now l.i))
          ∙ ap (λ (r : List ℕ). set r l.i (get_or bytes l.i 0)) l.invariant.1
          ∙ copy_more bytes a.to.now l.i (omega (arith, t, c.requires.0, length-map a.from.now top)) (omega (arith, t, c.requires.1)),
      length-set l.to l.i c.top_of.result ∙ l.invariant.2,
    )

pub shape_of-to : goal.shape_of-to
shape_of-to c = c.loop-i.invariant.2

pub returns : goal.returns
returns c = let l = c.loop-i in
    let a = c.args in
    let bytes = tops a.from.now in
    subst (λ (k : ℕ). l.to ≡ take k bytes ++ drop k a.to.now) (le_antisymm l.invariant.0 c.loop-i-test.false) l.invariant.1
    ∙ over_is (take a.n bytes) a.to.now a.n (length-take-le a.n bytes (omega (arith, c.requires.0, length-map a.from.now top)))
