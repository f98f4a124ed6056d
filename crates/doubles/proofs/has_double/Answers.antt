-- `doubles::has_double` meets its contract: what is left after a block has a name twice if all has. Assumes nothing.
use Rattle.std.proofs.Common.{◌++◌, List, ℕ, ap, sym, ◌∙◌, arith}
use Rattle.text.specs.Names.{has_double}
use Rattle.text.specs.Read.{names_of}
use Rattle.names.proofs.Pieces.{names-none}
use Rattle.doubles.proofs.Blocks.{names-past, names-all, none_left}
use Rattle.doubles.proofs.has_double.Goals as goal

pub returns-then-n-eq0 : goal.returns-then-n-eq0
returns-then-n-eq0 c = sym (none_left (names_of c.args.earlier.now) (names_of c.args.v.now) c.requires.1 (names-none c.args.v.now c.if-n-eq0.true))

pub loop-a-init : goal.loop-a-init
loop-a-init c = ap (λ (w : List (List ℕ)). has_double (names_of c.args.earlier.now ++ w)) (sym (names-all c.args.v.now (omega (arith, c.if-n-eq0.false))))

pub try_block-requires : goal.try_block-requires
try_block-requires c = (
  c.requires.0,
  omega (arith, c.loop-a-test.true),
  record {
    some = omega (arith, c.requires.2.some, c.loop-a.auto.starts);
    paired = c.loop-a.auto.starts ∙ c.requires.2.paired ∙ sym c.loop-a.auto.lengths;
    few = omega (arith, c.requires.2.few, c.loop-a.auto.starts);
    room = omega (arith, c.requires.2.room, c.loop-a.auto.starts, c.loop-a.auto.links);
  },
)

pub returns-in_default : goal.returns-in_default
returns-in_default c = sym (sym c.loop-a.invariant ∙ c.in_default.ensures)

pub loop-a-smaller : goal.loop-a-smaller
loop-a-smaller c = omega (arith, c.loop-a-test.true, c.in-Some.ensures.0)

pub loop-a-preserved : goal.loop-a-preserved
loop-a-preserved c = sym c.in-Some.ensures.1 ∙ c.loop-a.invariant

pub returns : goal.returns
returns c = sym (sym c.loop-a.invariant ∙ none_left (names_of c.args.earlier.now) _ c.requires.1 (names-past c.args.v.now c.loop-a.a (omega (arith, c.loop-a-test.false))))
