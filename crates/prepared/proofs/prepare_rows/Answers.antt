-- prepare_rows meets its contract: 21 comes first; the rows of the record's grammar are built, and callers added to them.
use borrow.Author.Rules.{rules}
use native.Mathlib.Omega.{arith}
use lib.ListN.{length}
use mathlib.Core.Path.{◌≡◌, refl}
use Rattle.grammar.specs.Refusal.{too_many_callers}
use Rattle.grammar.specs.Limits.{limits}
use Rattle.triple_laws.proofs.CallerChecks.{many_callers}
use Rattle.live.proofs.ColumnLaws.{lent_record}
use Rattle.moves.proofs.Built.{few-nonterminals, room_of_lem}
use Rattle.prepared.proofs.Rows.{stopped_for, begun-of, without}
use Rattle.prepared.proofs.prepare_rows.Goals as goal

pub returns-then-callers-gt-MAX_CALLERS : goal.returns-then-callers-gt-MAX_CALLERS
returns-then-callers-gt-MAX_CALLERS c = λ G k. stopped_for G c.args.callers _ _ too_many_callers 0 (many_callers limits G c.args.callers c.if-callers-gt-MAX_CALLERS.true) c.stopped.ensures

pub build-requires : goal.build-requires
build-requires c = let p = c.requires in
    record { columns_of = (p.0, p.1.columns); room = room_of_lem _ _ (lent_record p.1.columns) (search rules) (search rules) (search rules) (search rules) (search rules) (search rules) (search rules) }

pub add_callers-requires : goal.add_callers-requires
add_callers-requires c = let p = c.requires in record { le_callers = (omega (arith, c.if-callers-gt0.true), c.if-callers-gt-MAX_CALLERS.false); t_value = (p.0, p.1.terminals, begun-of _ _ _ _ _ _ _ _ _ p.1 _ _ (c.build.ensures p.0 p.1.columns)) }

pub returns-then-callers-gt0 : goal.returns-then-callers-gt0
returns-then-callers-gt0 c = λ G k. c.add_callers.ensures G k.terminals (begun-of _ _ _ _ _ _ _ _ _ k _ _ (c.build.ensures G k.columns))

pub overflow_add-kinds : goal.overflow_add-kinds
overflow_add-kinds c = let p = c.requires in
    omega (arith, few-nonterminals _ (lent_record p.1.columns))

pub returns : goal.returns
returns c = let z : c.args.callers ≡ 0 = omega (arith, c.if-callers-gt0.false) in
    let long : length c.build.new.targets ≡ limits.max_states
    = omega (arith, c.build.auto.targets, c.build-arg-6-1.given) in
    λ G k. without _ _ _ _ _ _ _ _ _ k _ z _ _ _ (c.build.ensures G k.columns) refl refl refl refl long
