-- `joining::naming::number_names` meets its contract: up to the index the row has the numbers, and `next` follows what was added.
-- Assumes nothing.
use Rattle.std.proofs.Common.{◌≡◌, ℕ, ◌+◌, ◌<◌, ◌≤◌, sym, ap, ◌∙◌, length, arith}
use Rattle.text.specs.Spelled.{spelled}
use Rattle.text.proofs.Spans.{length-spelled}
use Rattle.joining.proofs.Loops.{counted_known, counted_added, number_all, added-all, none-added}
use Rattle.joining.proofs.naming.number_names.Goals as goal
use Rattle.joining.proofs.naming.number_names.Goals.{then-k-n, else-k-n}

pub loop-i-init : goal.loop-i-init
loop-i-init c = let a = c.args in
    let names = spelled a.robot.now a.starts.now a.lengths.now in
    let xs = spelled a.addon.now a.firsts.now a.sizes.now in
    let none = none-added names xs (length a.starts.now) a.numbers.now in
    (omega arith, omega (arith, none.0), sym none.1)

pub loop-i-preserved : goal.loop-i-preserved
loop-i-preserved c = let l = c.loop-i in
    let a = c.args in
    let n = length a.starts.now in
    let names = spelled a.robot.now a.starts.now a.lengths.now in
    let xs = spelled a.addon.now a.firsts.now a.sizes.now in
    let size = length-spelled a.addon.now a.firsts.now a.sizes.now c.requires.addon_spans.paired in
    let q : n ≡ length names = sym (length-spelled a.robot.now a.starts.now a.lengths.now c.requires.lexicon.spans.paired) in
    let h : l.i < length xs = omega (arith, size, c.loop-i-test.true) in
    let room : length xs ≤ length a.numbers.now = omega (arith, size, c.requires.room) in
    let k = c.number_of-k in
    elim c.if-k-n.branch [
      | then-k-n w ↦
          let x = counted_known names xs l.i h a.numbers.now l.numbers n l.next k.result room q l.invariant.1 l.invariant.2 k.ensures w.if-k-n.true in
          (omega (arith, w.next-is, l.invariant.0), omega (arith, w.next-is, x.0), w.numbers-is ∙ x.1)
      | else-k-n w ↦
          let x = counted_added names xs l.i h a.numbers.now l.numbers n l.next k.result room q l.invariant.1 l.invariant.2 k.ensures w.if-k-n.false in
          (omega (arith, w.next-is, l.invariant.0), w.next-is ∙ x.0, w.numbers-is ∙ x.1)
    ]

pub returns : goal.returns
returns c = let l = c.loop-i in
    let a = c.args in
    let names = spelled a.robot.now a.starts.now a.lengths.now in
    let xs = spelled a.addon.now a.firsts.now a.sizes.now in
    let e : l.i ≡ length xs = omega (arith, length-spelled a.addon.now a.firsts.now a.sizes.now c.requires.addon_spans.paired, c.loop-i-test.false) in
    record {
      count = l.invariant.1 ∙ ap (λ (k : ℕ). length a.starts.now + k) (added-all names xs l.i e);
      row = l.invariant.2 ∙ number_all names xs a.numbers.now (length a.starts.now) l.i e;
    }
