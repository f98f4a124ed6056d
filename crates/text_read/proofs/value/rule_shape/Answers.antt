-- `text_read::value::rule_shape` meets its contract: the first colon is the only one, since names have none. Assumes nothing.
use native.Mathlib.Omega.{arith}
use mathlib.Core.Path.{sym, ap, subst, ◌∙◌}
use Rattle.std.specs.Prelude as P
use Rattle.text_read.specs.declared.Shape.{Shape}
use Rattle.text_read.specs.Lines.{ShapeTold}
use Prim.Native.Nat.{◌+◌}
use Rattle.text.specs.Pieces.{split_on}
use Rattle.text_read.specs.Values.{body_counted}
use Rattle.text_read.proofs.Values.{tail-part}
use Rattle.text_read.proofs.Shapes.{shape-none, shape-head, shape-body, shape-found}
use Rattle.text_read.proofs.value.rule_shape.Goals as goal

pub returns-then-n-e : goal.returns-then-n-e
returns-then-n-e c = let v = c.args.v.now in
    shape-none v c.find-e.result c.find-e.ensures.at c.if-n-e.true

pub returns-in_err-count : goal.returns-in_err-count
returns-in_err-count c = let v = c.args.v.now in
    subst (λ (r : P.Option Shape). ShapeTold c.args.v.now r) (sym c.from_residual.ensures)
    (shape-body v c.find-e.result c.find-e.ensures.at (omega arith) (sym c.is_name.ensures ∙ c.if-is_name.true)
    (ap (λ w. body_counted (split_on 32 w)) (sym (tail-part v (c.find-e.result + 1))) ∙ sym c.body_count.ensures ∙ c.in_err-count.was))

pub returns-then-is_name : goal.returns-then-is_name
returns-then-is_name c = let v = c.args.v.now in
    shape-found v c.find-e.result c.find-e.ensures.at (omega arith) _ (sym c.is_name.ensures ∙ c.if-is_name.true)
    (ap (λ w. body_counted (split_on 32 w)) (sym (tail-part v (c.find-e.result + 1))) ∙ sym c.body_count.ensures ∙ c.in_ok-count.was)

pub returns : goal.returns
returns c = let v = c.args.v.now in
    shape-head v c.find-e.result c.find-e.ensures.at (omega arith) (sym c.is_name.ensures ∙ c.if-is_name.false)
