-- `joining::naming::count_kinds` meets its contract: what either kind tells, and the refusal that follows. Assumes nothing.
use Rattle.std.proofs.Common.{arith}
use Rattle.joining.proofs.Refusals.{first_clash, second_clash, many_terminals, many_nonterminals}
use Rattle.joining.proofs.naming.count_kinds.Goals as goal

pub returns-in_default : goal.returns-in_default
returns-in_default c = λ a. first_clash _ _ _ _ a c.in_default.ensures

pub returns-in_default-match_kind : goal.returns-in_default-match_kind
returns-in_default-match_kind c = λ a. second_clash _ _ _ _ a c.in-Some.ensures.0 c.in_default-match_kind.ensures

pub returns-then-a-gt-MAX_TERMINALS : goal.returns-then-a-gt-MAX_TERMINALS
returns-then-a-gt-MAX_TERMINALS c = let e = c.in-Some-match_kind.ensures in
    λ a. many_terminals _ _ _ _ a c.in-Some.ensures.0 e.0 (omega (arith, e.1))

pub returns-then-b-gt-MAX_NONTERMINALS : goal.returns-then-b-gt-MAX_NONTERMINALS
returns-then-b-gt-MAX_NONTERMINALS c = let e = c.in-Some-match_kind.ensures in
    λ a. many_nonterminals _ _ _ _ a c.in-Some.ensures.0 e.0 (omega (arith, e.1)) (omega (arith, c.in-Some.ensures.1))
