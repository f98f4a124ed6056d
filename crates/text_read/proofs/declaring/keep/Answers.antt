-- `text_read::declaring::keep` meets its contract: the rows that are filled have the tree's names in front, so planting goes on there.
-- Assumes nothing.
use native.Mathlib.Omega.{arith}
use mathlib.Core.Path.{sym}
use lib.Seq.{length-take-le}
use Rattle.text_read.proofs.Held.{kept-planted, kept-told, kept-held}
use Rattle.text_read.proofs.declaring.keep.Goals as goal

pub slice_bounds-grow-end-2 : goal.slice_bounds-grow-end-2
slice_bounds-grow-end-2 c = sym (length-take-le _ c.fill.new.starts (omega (arith, c.requires.3.starts-room)))

pub slice_bounds-grow-end-4 : goal.slice_bounds-grow-end-4
slice_bounds-grow-end-4 c = sym (length-take-le _ c.fill.new.lengths (omega (arith, c.requires.3.lengths-room)))

pub grow-requires : goal.grow-requires
grow-requires c = let a = c.args in
    kept-planted a.text.now a.b a.f a.count a.from a.starts.now a.lengths.now a.links.now c.fill.new.starts c.fill.new.lengths
    c.requires.0 c.requires.1 c.requires.2 c.requires.3 c.fill.ensures.firsts c.fill.ensures.sizes

pub returns : goal.returns
returns c = let a = c.args in record {
  told = kept-told a.text.now a.b a.f a.count a.from a.starts.now a.lengths.now a.links.now c.fill.new.starts c.fill.new.lengths
      c.requires.0 c.requires.1 c.requires.2 c.requires.3 c.fill.ensures.firsts c.fill.ensures.sizes c.grow.result c.grow.ensures.value;
  held = kept-held a.text.now a.b a.f a.count a.from a.starts.now a.lengths.now a.links.now c.fill.new.starts c.fill.new.lengths
      c.requires.0 c.requires.1 c.requires.2 c.requires.3 c.fill.ensures.firsts c.fill.ensures.sizes c.grow.new.links c.grow.result c.grow.ensures.lexicon;
}
