-- search meets its contract: the table check answers first, then the four lengths are compared; a refusal changes nothing.
use native.Mathlib.Omega.{arith}
use Prim.Native.Nat.{ℕ, ◌*◌, ◌≤◌}
use mathlib.Core.Path.{◌≡◌, refl, sym, subst}
use mathlib.Core.Bool.{false}
use Rattle.plans.specs.Clauses.{most_square}
use Rattle.grammar.specs.Grammar.{Grammar}
use Rattle.grammar.specs.Refusal.{Answer, done, refused, buffer_too_short}
use Rattle.grammar.specs.Limits.{limits}
use Rattle.grammar.specs.declared.Cause.{Cause}
use Rattle.automaton.specs.Callers.{check_with}
use Rattle.automaton.specs.CallerMoves.{moves_with}
use Rattle.moves.specs.Tables.{Tables, tables}
use Rattle.prepared.specs.Prepared.{RowsOf}
use Rattle.plans.proofs.PlanLaws.{product_le}
use Rattle.plans.proofs.Planned.{planned-of}
use Rattle.explore.proofs.LaidLaws.{laid_of}
use Rattle.search.specs.Promise.{Lent, lent, is_enough, searchable, Answers}
use Rattle.search.specs.Finish.{Enough}
use Rattle.search.specs.declared.SearchVerdict.TheVariants.{Refused}
use Rattle.search.proofs.LentLaws.{is_enough_lem, short-certificate, short_queue, short_parents, short_witness, search_refused, search_short, search_enough}
use Rattle.search.proofs.search.Goals as goal
use Rattle.search.proofs.search.Lts as lts
use Rattle.search.proofs.search.Reads as reads
use Rattle.search.proofs.search.Tie as tie

abbrev Start : Type 0
Start = lts.Start tie.the-claims reads.Pre reads.Post tie.handed_clauses

abbrev Place-After-prepare : Type 0
Place-After-prepare = lts.After-prepare tie.the-claims reads.Pre reads.Post tie.handed_clauses

abbrev Place-Past-After-enum_told : Type 0
Place-Past-After-enum_told = lts.Past-After-enum_told tie.the-claims reads.Pre reads.Post tie.handed_clauses

abbrev Place-Else4 : Type 0
Place-Else4 = lts.Else4 tie.the-claims reads.Pre reads.Post tie.handed_clauses

before : Start → Lent
before e = lent e.args.certificate.now e.args.queue.now e.args.parents.now e.args.witness.now

-- the seven rows
abbrev prepared : Place-After-prepare → Tables
prepared c = tables c.prepare-w.new.ahead c.prepare-w.new.number c.prepare-w.new.member c.prepare-w.new.target c.prepare-w.new.first c.prepare-w.new.targets c.prepare-w.new.after

-- a refusal of the definition, with all that is lent unchanged
refused_as : (e : Start) (s : Answer Grammar) (cause : Cause) (at : ℕ) → s ≡ refused cause at → Answers limits e.args.callers s (before e) (Refused cause at) (before e)
refused_as e s cause at q = subst (λ (x : Answer Grammar). Answers limits e.args.callers x (before e) (Refused cause at) (before e)) (sym q) (refl, refl)

-- the table passes, and the rows are its grammar's
passed : (c : Place-Past-After-enum_told) → let a = c.args in
    (G : Grammar) × (check_with limits a.t a.n a.table.now a.callers ≡ done G) × RowsOf (moves_with limits G a.callers) c.prepare-w.result (prepared c.before)
passed c = c.prepare-w.ensures.passed_as c.in-Passed.is

few : (c : Place-Past-After-enum_told) → let q = c.prepare-w.result.states in q * q ≤ most_square
few c = let h = c.prepare-w.ensures.sized.most in product_le _ _ h h

-- what is lent is too short
short : (c : Place-Past-After-enum_told) → is_enough c.prepare-w.result.states (before c.before.before.before.before.before.before.before.before.before.before.before.before.before.before) ≡ false
    → Answers limits c.args.callers (searchable limits c.args.t c.args.n c.args.table.now c.args.callers (before c.before.before.before.before.before.before.before.before.before.before.before.before.before.before)) (before c.before.before.before.before.before.before.before.before.before.before.before.before.before.before) (Refused buffer_too_short 0) (before c.before.before.before.before.before.before.before.before.before.before.before.before.before.before)
short c s =
    let p = passed c in
    refused_as c.before.before.before.before.before.before.before.before.before.before.before.before.before.before _ _ _ (search_short c.args.t c.args.n c.args.table.now c.args.callers (before c.before.before.before.before.before.before.before.before.before.before.before.before.before.before) p.0 p.1
    (subst (λ (q : ℕ). is_enough q (before c.before.before.before.before.before.before.before.before.before.before.before.before.before.before) ≡ false) p.2.size s))

-- or enough
enough-at : (c : Place-Else4) → Enough c.prepare-w.result.states (before c.before.before.before.before.before.before.before.before.before.before.before.before.before.before.before.before.before.before)
unfolding before
enough-at c = record {
  certificate = c.if-certificate-count.false;
  queue = c.if-queue-count.false;
  parents = c.if-parents-count.false;
  witness = omega (arith, c.if-witness-count.false);
}

pub returns-in-Refused : goal.returns-in-Refused
unfolding before
returns-in-Refused c = let a = c.args in
    refused_as c.before.before.before.before.before.before.before.before.before.before.before.before.before.before.before _ _ _ (search_refused a.t a.n a.table.now a.callers (before c.before.before.before.before.before.before.before.before.before.before.before.before.before.before.before) c.in-Refused.cause c.in-Refused.at
    (c.prepare-w.ensures.refused_as c.in-Refused.cause c.in-Refused.at c.in-Refused.is))

pub overflow_mul-count : goal.overflow_mul-count
overflow_mul-count c = omega (arith, few c.before)

pub overflow_mul-count-in-Passed : goal.overflow_mul-count-in-Passed
overflow_mul-count-in-Passed c = omega (arith, few c.before)

pub overflow_add-count : goal.overflow_add-count
overflow_add-count c = omega (arith, few c.before)

pub returns-then-certificate-count : goal.returns-then-certificate-count
unfolding before
returns-then-certificate-count c = short c.before.before (short-certificate _ (before c.before.before.before.before.before.before.before.before.before.before.before.before.before.before.before.before) c.if-certificate-count.true)

pub returns-then-queue-count : goal.returns-then-queue-count
unfolding before
returns-then-queue-count c = short c.before.before.before (short_queue _ (before c.before.before.before.before.before.before.before.before.before.before.before.before.before.before.before.before.before) c.if-certificate-count.false c.if-queue-count.true)

pub returns-then-parents-count : goal.returns-then-parents-count
unfolding before
returns-then-parents-count c = short c.before.before.before.before (short_parents _ (before c.before.before.before.before.before.before.before.before.before.before.before.before.before.before.before.before.before.before) c.if-certificate-count.false c.if-queue-count.false c.if-parents-count.true)

pub returns-then-witness-count : goal.returns-then-witness-count
unfolding before
returns-then-witness-count c = short c.before.before.before.before.before (short_witness _ (before c.before.before.before.before.before.before.before.before.before.before.before.before.before.before.before.before.before.before.before) c.if-certificate-count.false c.if-queue-count.false c.if-parents-count.false c.if-witness-count.true)

pub search_rows-requires : goal.search_rows-requires
unfolding before
search_rows-requires c = let p = passed c.before.before.before.before.before.before.before.before.before.before.before.before.before.before.before in
    let r = p.2 in
    record { laid = laid_of (moves_with limits p.0 c.args.callers) r.regular _ _ _ r.size (prepared c.before.before.before.before.before.before.before.before.before.before.before.before.before.before.before.before) r.shows (omega (arith, r.long)); enough = enough-at c.before.before.before.before.before.before.before.before.before.before.before }

pub returns-in-Passed : goal.returns-in-Passed
unfolding before
returns-in-Passed c = let p = passed c.before.before.before.before.before.before.before.before.before.before.before.before.before.before.before.before.before.before.before.before.before.before.before.before in
    let r = p.2 in
    subst (λ (x : Answer Grammar). Answers limits c.args.callers x (before c.before.before.before.before.before.before.before.before.before.before.before.before.before.before.before.before.before.before.before.before.before.before.before.before.before.before.before.before.before.before.before.before.before.before.before.before.before.before) c.search_rows.result (lent c.search_rows.new.certificate c.search_rows.new.queue c.search_rows.new.parents c.search_rows.new.witness))
    (sym (search_enough c.args.t c.args.n c.args.table.now c.args.callers (before c.before.before.before.before.before.before.before.before.before.before.before.before.before.before.before.before.before.before.before.before.before.before.before.before.before.before.before.before.before.before.before.before.before.before.before.before.before.before) p.0 p.1
    (is_enough_lem _ (before c.before.before.before.before.before.before.before.before.before.before.before.before.before.before.before.before.before.before.before.before.before.before.before.before.before.before.before.before.before.before.before.before.before.before.before.before.before.before) (subst (λ (q : ℕ). Enough q (before c.before.before.before.before.before.before.before.before.before.before.before.before.before.before.before.before.before.before.before.before.before.before.before.before.before.before.before.before.before.before.before.before.before.before.before.before.before.before)) r.size (enough-at c.before.before.before.before.before.before.before.before.before.before.before.before.before.before.before.before.before.before.before.before)))))
    (c.search_rows.ensures (moves_with limits p.0 c.args.callers) r.regular
    (planned-of (moves_with limits p.0 c.args.callers) r.regular _ _ _ r.size (prepared c.before.before.before.before.before.before.before.before.before.before.before.before.before.before.before.before.before.before.before.before.before.before.before.before.before) r.shows (omega (arith, r.long))))
