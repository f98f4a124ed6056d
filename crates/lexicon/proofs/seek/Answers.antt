-- `lexicon::seek` meets its contract: each name that is x is still ahead, and links go to later names, so the search ends. Assumes nothing.
use Rattle.std.proofs.Common.{ℕ, ◌≡◌, ◌<◌, ◌+◌, ◌-◌, ◌*◌, Bool, true, false, List, get_or, take, drop, sym, ap, ◌∙◌, arith}
use Rattle.text.specs.Names.{same_name}
use Rattle.lexicon.specs.Tree.{name_of, Grown}
use Rattle.lexicon.proofs.Tree.{seek_start, seek_on, seek_gap}
use Rattle.lexicon.proofs.Numbers.{part_is}
use Rattle.lexicon.proofs.seek.Goals as goal

-- what is compared is name q
compared : (text starts lengths x : List ℕ) (q : ℕ) (r t : Bool) → r ≡ same_name x (take (get_or starts q 0 + get_or lengths q 0 - get_or starts q 0) (drop (get_or starts q 0) text))
    → r ≡ t → same_name x (name_of text starts lengths q) ≡ t
compared text starts lengths x q r t e h = ap (same_name x) (sym (part_is text starts lengths q)) ∙ sym e ∙ h

pub loop-count-init : goal.loop-count-init
loop-count-init c = let s = seek_start (name_of c.args.text.now c.args.starts.now c.args.lengths.now) c.args.links.now c.args.count c.args.x.now c.requires.grown in
    (c.requires.grown.root, omega arith, s.0, s.1)

pub returns-then-same_name : goal.returns-then-same_name
returns-then-same_name c = record {
  inside = c.loop-count.invariant.0;
  same = compared c.args.text.now c.args.starts.now c.args.lengths.now c.args.x.now c.loop-count.q c.same_name.result true c.same_name.ensures c.if-same_name.true;
}

pub returns-then-next-eq0 : goal.returns-then-next-eq0
returns-then-next-eq0 c = let other = compared c.args.text.now c.args.starts.now c.args.lengths.now c.args.x.now c.loop-count.q c.same_name.result false c.same_name.ensures c.if-same_name.false in
    seek_gap (name_of c.args.text.now c.args.starts.now c.args.lengths.now) c.args.links.now c.args.count c.args.x.now c.loop-count.q c.loop-count.d
    c.loop-count.invariant.2 c.loop-count.invariant.3 other
    _ (ap (λ (w : ℕ). 2 * c.loop-count.q + w) c.bit.ensures.0) c.loop-count.invariant.0 (sym c.from-next.ensures ∙ c.if-next-eq0.true)

-- a link goes to a later name
later : (name : ℕ → List ℕ) (C : List ℕ) (count q t i : ℕ) → Grown name C count → t < 2 → i ≡ get_or C (2 * q + t) 0 → (i ≡ 0 → ⊥) → (q < i) × (i < count)
later name C count q t i g s e n = let p : 0 < get_or C (2 * q + t) 0 = omega arith in (omega (arith, g.forward _ p), omega (arith, g.link _ p))

pub loop-count-smaller : goal.loop-count-smaller
loop-count-smaller c = let w = later _ c.args.links.now c.args.count c.loop-count.q c.bit.result c.from-next.result c.requires.grown c.bit.ensures.1 c.from-next.ensures c.if-next-eq0.false in
    omega (arith, w.0, w.1)

pub loop-count-preserved : goal.loop-count-preserved
loop-count-preserved c = let w = later _ c.args.links.now c.args.count c.loop-count.q c.bit.result c.from-next.result c.requires.grown c.bit.ensures.1 c.from-next.ensures c.if-next-eq0.false in
    let other = compared c.args.text.now c.args.starts.now c.args.lengths.now c.args.x.now c.loop-count.q c.same_name.result false c.same_name.ensures c.if-same_name.false in
    let o = seek_on (name_of c.args.text.now c.args.starts.now c.args.lengths.now) c.args.links.now c.args.count c.args.x.now c.loop-count.q c.loop-count.d
    c.loop-count.invariant.2 c.loop-count.invariant.3 other
    c.from-next.result (c.from-next.ensures ∙ ap (λ (w : ℕ). get_or c.args.links.now (2 * c.loop-count.q + w) 0) c.bit.ensures.0) (omega (arith, w.0)) in
    (w.1, omega (arith, w.0, c.loop-count.invariant.1), o.0, o.1)
