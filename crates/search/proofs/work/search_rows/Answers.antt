-- search_rows meets its contract: what is explored is the smallest closed set, the answer is by its marks, and the rows are cleared.
use native.Mathlib.Omega.{arith}
use Prim.Native.Nat.{ℕ, ◌+◌, ◌*◌, ◌≤◌}
use mathlib.Core.Path.{◌≡◌, ap, sym, subst₂, ◌∙◌}
use mathlib.Core.List.{List}
use lib.ListN.{length, get_or, drop}
use Rattle.plans.specs.Clauses.{most_square}
use Rattle.triples.specs.Index.{triple_count}
use Rattle.plans.specs.Plan.{Rows, rows}
use Rattle.plans.proofs.PlanLaws.{square-of}
use Rattle.search.specs.Promise.{lent, Told, is_potential}
use Rattle.search.proofs.FinishLaws.{linked}
use Rattle.clearing.proofs.Laws.{cleared_at_lem, cleared-rest}
use Rattle.search.proofs.WorkLaws.{rest_is, zero_marks}
use Rattle.search.proofs.AnswerLaws.{told, looked_is}
use Rattle.search.proofs.work.search_rows.Reads as reads
use Rattle.search.proofs.work.search_rows.Lts as lts
use Rattle.search.proofs.work.search_rows.Goals as goal
use Rattle.search.proofs.work.search_rows.Lts as lts
use Rattle.search.proofs.work.search_rows.Reads as reads
use Rattle.search.proofs.work.search_rows.Tie as tie

abbrev Start : Type 0
Start = lts.Start tie.the-claims reads.Pre reads.Post tie.handed_clauses

table : Start → Rows
table e = rows e.args.ahead.now e.args.number.now e.args.member.now e.args.first.now e.args.after.now

small : (e : Start) → (16 ≤ e.args.q * e.args.q) × (e.args.q * e.args.q ≤ most_square)
small e = square-of e.args.q e.requires.laid.verified.fits.four e.requires.laid.verified.fits.few

pub overflow_mul-square : goal.overflow_mul-square
overflow_mul-square c = omega (arith, (small c.before.before.before.before.before).1)

pub overflow_add-square : goal.overflow_add-square
overflow_add-square c = omega (arith, (small c.before.before.before.before.before.before).1)

pub clear-requires : goal.clear-requires
clear-requires c = omega (arith, (small c.before.before.before.before.before.before).0, c.requires.enough.parents)

pub explore-found-requires : goal.explore-found-requires
explore-found-requires c = let q = c.args.q in
    let long : triple_count q ≤ length c.clear.new.row = omega (arith, c.requires.enough.parents, c.clear.auto) in record {
      laid = c.requires.laid;
      q_in_bounds = (
        c.requires.enough.queue,
        long,
        zero_marks q c.clear.new.row c.requires.laid.verified.fits.four long (λ i. omega (arith, c.slice_known-5-1.given i))
            (λ i h. ap (λ (l : List ℕ). get_or l i 0) c.clear.ensures ∙ cleared_at_lem (q * q + 1) c.args.parents.now i h),
      );
    }

pub answer-r-requires : goal.answer-r-requires
unfolding table
answer-r-requires c = let a = c.args in
    let x = c.explore-found.ensures.explored in record { marked = x.going.marked; linked = linked (table c.before.before.before.before.before.before.before.before.before.before.before.before.before.before.before.before.before) a.targets.now a.t a.m a.q _ x.going; le_q = (c.requires.laid.verified.fits.four, c.requires.laid.verified.fits.few, c.requires.enough.certificate, c.requires.enough.witness) }

pub overflow_mul-n : goal.overflow_mul-n
overflow_mul-n c = omega (arith, (small c.before.before.before.before.before.before.before.before.before.before.before.before.before.before.before.before.before.before.before.before.before.before.before).1)

pub clear-requires-3 : goal.clear-requires-3
clear-requires-3 c = omega (arith, c.requires.enough.parents, c.clear.auto.row, c.explore-found.auto.parents)

pub returns : goal.returns
unfolding table
returns c = λ G W p.
    let a = c.args in
    let x = c.explore-found.ensures in
    let n = triple_count a.q in
    let row = c.explore-found.new.parents in
    let rest : drop n row ≡ drop n a.parents.now
    = rest_is n row c.clear.new.row x.explored.parents_rest x.explored.marks_rest ∙ ap (drop n) c.clear.ensures
    ∙ cleared-rest (a.q * a.q + 1) n a.parents.now (omega (arith, (small c.before.before.before.before.before.before.before.before.before.before.before.before.before.before.before.before.before.before.before.before.before.before.before.before.before.before.before.before.before.before.before).0)) in
    subst₂ (λ (q₂ p₂ : List ℕ). Told (is_potential G) G (lent a.certificate.now a.queue.now a.parents.now a.witness.now) c.answer-r.result (lent c.answer-r.new.certificate q₂ p₂ c.answer-r.new.witness))
    (sym c.clear-2.ensures) (sym c.clear-3.ensures)
    (told G W (table c.before.before.before.before.before.before.before.before.before.before.before.before.before.before.before.before.before.before.before.before.before.before.before.before.before.before.before.before.before.before.before) a.targets.now a.t a.m a.q p a.queue.now _ _ _ x.explored a.parents.now row rest a.certificate.now a.witness.now _
    (x.looked_value ∙ looked_is G W (table c.before.before.before.before.before.before.before.before.before.before.before.before.before.before.before.before.before.before.before.before.before.before.before.before.before.before.before.before.before.before.before) a.targets.now a.t a.m a.q p a.queue.now _ _ _ x.explored) c.answer-r.result _ _ c.answer-r.ensures)
