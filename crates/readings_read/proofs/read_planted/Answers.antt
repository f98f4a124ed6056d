-- `readings_read::read_planted` meets its contract: no two names are the same, so the planting ends past the last. Assumes nothing.
use native.Mathlib.Omega.{arith}
use Prim.Native.Nat.{ℕ, ◌+◌, ◌*◌}
use mathlib.Core.Path.{◌∙◌}
use lib.ListN.{length-replicate}
use Rattle.grammar.specs.Limits.{limits}
use Rattle.text.specs.Spelled.{spelled}
use Rattle.text.proofs.Spans.{length-spelled}
use Rattle.text.proofs.Gather.{first_double_lem}
use Rattle.lexicon.proofs.Tree.{no_links}
use Rattle.readings_read.proofs.read_planted.Goals as goal

-- two links for each name of a grammar
abbrev links : ℕ
links = 2 * (limits.max_terminals + limits.max_nonterminals)

pub plant-requires : goal.plant-requires
plant-requires c = let n = c.requires in
    let m = length-replicate {A = ℕ} links 0 in
    record { spans = (n.spans, omega (arith, n.few, n.most), omega (arith, n.few, n.most, m)); by_index = no_links links }

pub read_lines-requires : goal.read_lines-requires
read_lines-requires c = let a = c.args in
    let n = c.requires in record {
      named = n;
      lexicon = c.plant.ensures.lexicon
          (c.plant.ensures.value ∙ (first_double_lem (spelled a.text.now a.starts.now a.lengths.now)).1 n.once
          ∙ length-spelled a.text.now a.starts.now a.lengths.now n.spans.paired);
    }
