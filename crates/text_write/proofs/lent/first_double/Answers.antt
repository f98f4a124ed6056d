-- `text_write::lent::first_double` meets its contract: the planting answers the lowest name that an earlier one is. Assumes nothing.
use native.Mathlib.Omega.{arith}
use Prim.Native.Nat.{ℕ, ◌+◌, ◌*◌}
use lib.ListN.{length-replicate}
use Rattle.grammar.specs.Limits.{limits}
use Rattle.lexicon.proofs.Tree.{no_links}
use Rattle.text_write.proofs.lent.first_double.Goals as goal

-- two links for each name of a grammar
abbrev links : ℕ
links = 2 * (limits.max_terminals + limits.max_nonterminals)

pub plant-requires : goal.plant-requires
plant-requires c = let r = c.requires.0 in
    record { spans = (record { paired = r.paired; inside = r.inside }, omega (arith, c.requires.1), omega (arith, c.requires.1, length-replicate {A = ℕ} links 0)); by_index = no_links links }
