-- `text_read::value::count_names` meets its contract: no bytes are no names, else the pieces between commas. Assumes nothing.
use native.Mathlib.Omega.{arith}
use mathlib.Core.Path.{◌≡◌, sym, ap, ◌∙◌}
use lib.ListN.{length}
use borrow.Author.Tests.{eqb-true, eqb-false}
use Rattle.names.proofs.Pieces.{names-split, names-none}
use Rattle.text_read.specs.Values.{counted}
use Rattle.text_read.proofs.Values.{counted-end}
use Rattle.text_read.proofs.value.count_names.Goals as goal

pub returns-then-is_empty : goal.returns-then-is_empty
returns-then-is_empty c = sym (ap (counted 0) (names-none c.args.v.now (eqb-true _ _ (sym c.if-is_empty.ensures))) ∙ counted-end 0)

pub returns : goal.returns
returns c = c.count_pieces.ensures ∙ sym (ap (counted 0) (names-split c.args.v.now (let h : length c.args.v.now ≡ 0 → ⊥ = eqb-false _ _ (sym c.if-is_empty.ensures) in omega arith)))
