-- `text_read::keeping::keep_text` meets its contract: the length; then a row of zeros has no link. Assumes nothing.
use native.Mathlib.Omega.{arith}
use Prim.Native.Nat.{ℕ, ◌*◌}
use lib.ListN.{length-replicate}
use Rattle.lexicon.proofs.Tree.{no_links}
use Rattle.text_read.specs.Values.{all_names}
use Rattle.text_read.proofs.Whole.{text-long, refused-names}
use Rattle.text_read.proofs.keeping.keep_text.Goals as goal
use Rattle.grammar.specs.Refusal.{malformed}

pub returns-then-text-gt-MAX_TEXT : goal.returns-then-text-gt-MAX_TEXT
returns-then-text-gt-MAX_TEXT c = let a = c.args in
    let r = text-long a.text.now c.if-text-gt-MAX_TEXT.true in
    record { told = r; names = refused-names _ malformed 0 a.starts.now a.lengths.now r }

pub keep_lines-requires : goal.keep_lines-requires
keep_lines-requires c = let p = c.requires in
    (omega (arith, c.if-text-gt-MAX_TEXT.false), p, omega (arith, p.most, length-replicate {A = ℕ} (2 * all_names) 0), no_links (2 * all_names))

pub returns : goal.returns
returns c = c.keep_lines.ensures
