-- lowest_set meets its contract: every bit before the window looked at is clear.
use native.Mathlib.Omega.{arith}
use mathlib.Core.Path.{◌≡◌, subst, sym}
use Prim.Native.Nat.{ℕ, ◌+◌, ◌*◌, ◌/◌, ◌≤◌, ◌<◌}
use mathlib.Core.Bool.{false}
use lib.ListN.{length}
use Rattle.triples.specs.Certificate.{is_set}
use Rattle.bits.specs.Windows.{window_end}
use Rattle.bits.proofs.WindowLaws.{window_near, window_whole, window_clear, lowest_clear, lowest-found}
use Rattle.certificate_check.proofs.BitLaws.{clear_more, clear_past, set_found, set-none}
use Rattle.certificate_check.proofs.scan.lowest_set.Reads as reads
use Rattle.certificate_check.proofs.scan.lowest_set.Lts as lts
use Rattle.certificate_check.proofs.scan.lowest_set.Goals as goal
use Rattle.certificate_check.proofs.scan.lowest_set.Lts as lts
use Rattle.certificate_check.proofs.scan.lowest_set.Reads as reads
use Rattle.certificate_check.proofs.scan.lowest_set.Tie as tie

abbrev Place-After-lowest_one : Type 0
Place-After-lowest_one = lts.After-lowest_one tie.the-claims reads.Pre reads.Post goal.the-invariant-loop-i goal.the-decreases-loop-i

abbrev Place-After-window_end : Type 0
Place-After-window_end = lts.After-window_end tie.the-claims reads.Pre reads.Post goal.the-invariant-loop-i goal.the-decreases-loop-i

pub loop-i-init : goal.loop-i-init
loop-i-init c = (omega arith, omega (arith, c.requires.0, c.requires.1), λ k h l u. absurd (omega arith))

-- the bits before the one found are clear
passed : (c : Place-After-lowest_one) → let a = c.args in
    (k : ℕ) → a.from ≤ k → k < c.loop-i.i + c.lowest_one.result → k < a.to → is_set a.bytes.now k ≡ false
passed c =
    let a = c.args in
    let l = c.loop-i in
    clear_more a.bytes.now a.from a.to l.i (l.i + c.lowest_one.result) l.invariant.2
    (lowest_clear a.bytes.now l.i (window_end (length a.bytes.now) l.i) c.window-window.result c.lowest_one.result c.window-window.ensures c.lowest_one.ensures)

pub returns-then-found-to : goal.returns-then-found-to
returns-then-found-to c = let a = c.args in
    let l = c.loop-i in
    set_found a.bytes.now a.from a.to (l.i + c.lowest_one.result) (omega (arith, l.invariant.0)) c.if-found-to.true (passed c.before.before)
    (lowest-found a.bytes.now l.i (window_end (length a.bytes.now) l.i) c.window-window.result c.lowest_one.result c.window-window.ensures c.lowest_one.ensures)

pub returns-then-window-ne0 : goal.returns-then-window-ne0
returns-then-window-ne0 c = let a = c.args in
    let l = c.loop-i in
    set-none a.bytes.now a.from a.to (l.i + c.lowest_one.result) c.requires.0 c.if-found-to.false (passed c.before.before)

-- where the window ends
ends : (c : Place-After-window_end) → let n = length c.args.bytes.now in let i = c.loop-i.i in
    let e = c.window_end.result in (i < e) × (8 * (e / 8) ≡ e) × (e / 8 ≤ n) × (i < 8 * n)
ends c =
    let i = c.loop-i.i in
    let n = length c.args.bytes.now in
    let h : i < 8 * n = omega (arith, c.loop-i-test.true, c.requires.1) in
    let near = window_near n i in
    let whole = window_whole n i h in
    subst (λ (e : ℕ). (i < e) × (8 * (e / 8) ≡ e) × (e / 8 ≤ n) × (i < 8 * n)) (sym c.window_end.ensures) (near.0, whole.0, whole.1, h)

pub skip_zeros-i-requires : goal.skip_zeros-i-requires
skip_zeros-i-requires c = (ends c.before).2

pub overflow_mul-i : goal.overflow_mul-i
overflow_mul-i c = omega (arith, c.skip_zeros-i.ensures.high, c.requires.2)

pub loop-i-smaller : goal.loop-i-smaller
loop-i-smaller c = let e = ends c.before.before in omega (arith, e, c.skip_zeros-i.ensures.low)

pub loop-i-preserved : goal.loop-i-preserved
loop-i-preserved c = let a = c.args in
    let l = c.loop-i in
    let e = ends c.before.before in (
      omega (arith, e, c.skip_zeros-i.ensures.low, l.invariant.0),
      omega (arith, c.skip_zeros-i.ensures.high),
      clear_more a.bytes.now a.from a.to l.i (8 * c.skip_zeros-i.result) l.invariant.2
          (clear_past a.bytes.now l.i c.window_end.result (c.window_end.result / 8) c.skip_zeros-i.result
          (subst (λ (m : ℕ). (k : ℕ) → l.i ≤ k → k < m → is_set a.bytes.now k ≡ false) (sym c.window_end.ensures)
          (window_clear a.bytes.now l.i (window_end (length a.bytes.now) l.i) c.window-window.result c.window-window.ensures c.if-window-ne0.false)) e.1 c.skip_zeros-i.ensures),
    )

pub returns : goal.returns
returns c = let a = c.args in
    let l = c.loop-i in
    set-none a.bytes.now a.from a.to l.i c.requires.0 c.loop-i-test.false l.invariant.2
