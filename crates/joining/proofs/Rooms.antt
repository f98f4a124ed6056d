-- Local rows of zeros suffice for two texts and their names. Assumes nothing.
use Prim.Native.Nat.{ℕ}
use mathlib.Core.List.{List}
use native.Mathlib.Omega.{arith}
use lib.ListN.{length, replicate, length-replicate}
use Rattle.grammar.specs.Limits.{limits}
use Rattle.text_read.specs.Values.{all_names}
use Rattle.text_read.specs.Lines.{kept_entries}
use Rattle.text_read.proofs.Rooms.{rows-large}
use Rattle.joining.specs.Joins.{JoinRows}

pub rows_both : (robot addon : List ℕ)
    → JoinRows robot addon (replicate kept_entries 0) (replicate all_names 0) (replicate all_names 0)
    (replicate kept_entries 0) (replicate all_names 0) (replicate all_names 0)
    (replicate limits.max_terminals 0) (replicate limits.max_nonterminals 0)
rows_both robot addon = record {
  robot-rows = rows-large (length robot);
  addon-rows = rows-large (length addon);
  both = omega (arith, length-replicate {A = ℕ} kept_entries 0);
  terminals-room = omega (arith, length-replicate {A = ℕ} limits.max_terminals 0);
  nonterminals-room = omega (arith, length-replicate {A = ℕ} limits.max_nonterminals 0);
}
