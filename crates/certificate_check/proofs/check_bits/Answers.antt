-- check_bits meets its contract: each return is one refusal of the definition, in its order.
use native.Mathlib.Omega.{arith}
use mathlib.Core.Bool.{true}
use mathlib.Core.Path.{◌≡◌, sym, ◌∙◌}
use Prim.Native.Nat.{◌*◌, ◌≤◌, ◌<◌}
use Rattle.plans.specs.Clauses.{most_square}
use Rattle.triples.specs.Index.{index, triple_count}
use Rattle.triples.specs.Certificate.{byte_count, is_set}
use Rattle.triples.proofs.Index.{index_below}
use Rattle.plans.proofs.PlanLaws.{square-of}
use Rattle.certificate_check.proofs.CheckLaws.{spare_at, wrong_length, spare_set, start_clear, end-set, some-lacks, none-lacks}
use Rattle.certificate_check.proofs.check_bits.Goals as goal
use Rattle.certificate_check.proofs.check_bits.Lts as lts
use Rattle.certificate_check.proofs.check_bits.Reads as reads
use Rattle.certificate_check.proofs.check_bits.Tie as tie

abbrev Start : Type 0
Start = lts.Start tie.the-claims reads.Pre reads.Post tie.handed_clauses

abbrev Place-Else2 : Type 0
Place-Else2 = lts.Else2 tie.the-claims reads.Pre reads.Post tie.handed_clauses

abbrev Place-Else3 : Type 0
Place-Else3 = lts.Else3 tie.the-claims reads.Pre reads.Post tie.handed_clauses

-- the square of the number of states is small
few : (e : Start) → (16 ≤ e.args.q * e.args.q) × (e.args.q * e.args.q ≤ most_square)
few e = square-of e.args.q e.requires.fits.four e.requires.fits.few

pub overflow_mul-count : goal.overflow_mul-count
overflow_mul-count c = omega (arith, few c.before.before)

pub overflow_mul-count-2 : goal.overflow_mul-count-2
overflow_mul-count-2 c = omega (arith, few c.before.before)

pub overflow_add-size : goal.overflow_add-size
overflow_add-size c = omega (arith, few c.before.before)

pub returns-then-bytes-size : goal.returns-then-bytes-size
returns-then-bytes-size c = let a = c.args in λ G p. wrong_length G a.bytes.now a.q p.size c.if-bytes-size.true

pub overflow_mul-past : goal.overflow_mul-past
overflow_mul-past c = omega (arith, few c.before.before.before)

pub lowest_set-spare-requires : goal.lowest_set-spare-requires
lowest_set-spare-requires c = (omega (arith, few c.before.before.before), omega (arith, c.if-bytes-size.false), omega (arith, few c.before.before.before, c.if-bytes-size.false))

pub returns-then-spare-past : goal.returns-then-spare-past
returns-then-spare-past c = let a = c.args in
    λ G p. spare_set G a.bytes.now a.q p.size c.if-bytes-size.false c.lowest_set-spare.result c.lowest_set-spare.ensures c.if-spare-past.true

-- no spare bit is set
spare : (c : Place-Else2) → let a = c.args in spare_at a.q a.bytes.now ≡ 8 * byte_count a.q
spare c = sym c.lowest_set-spare.ensures ∙ c.if-spare-past.false

pub is_set-requires : goal.is_set-requires
is_set-requires c = omega (arith, few c.before.before.before.before.before, c.if-bytes-size.false)

pub returns-then-not-is_set : goal.returns-then-not-is_set
returns-then-not-is_set c = let a = c.args in
    λ G p. start_clear G a.bytes.now a.q p.size c.if-bytes-size.false (spare c.before.before.before) (sym c.is_set.ensures ∙ c.if-not-is_set.true)

-- the first bit is set
first : (c : Place-Else3) → is_set c.args.bytes.now 0 ≡ true
first c = sym c.is_set.ensures ∙ c.if-not-is_set.false

pub index_of-end-requires : goal.index_of-end-requires
index_of-end-requires c = (c.requires.fits.few, omega arith, omega arith, omega arith)

pub is_set-requires-2 : goal.is_set-requires-2
is_set-requires-2 c = let h : index c.args.q 1 1 1 < triple_count c.args.q = index_below c.args.q 1 1 1 (omega arith) (omega (arith, c.requires.fits.four)) (omega (arith, c.requires.fits.four)) in
    omega (arith, h, c.index_of-end.ensures, c.if-bytes-size.false)

pub returns-then-is_set : goal.returns-then-is_set
returns-then-is_set c = let a = c.args in λ G p. end-set G a.bytes.now a.q p.size c.if-bytes-size.false (spare c.before.before.before.before.before.before) (first c.before.before.before.before) c.index_of-end.result c.index_of-end.ensures (sym c.is_set-2.ensures ∙ c.if-is_set.true)

pub lowest_lacking-lacking-requires : goal.lowest_lacking-lacking-requires
lowest_lacking-lacking-requires c = record { verified = c.requires; q_bound = (omega (arith, c.if-bytes-size.false), omega (arith, few c.before.before.before.before.before.before.before.before.before.before, c.if-bytes-size.false)) }

pub returns-then-lacking-count : goal.returns-then-lacking-count
returns-then-lacking-count c = let a = c.args in λ G p. some-lacks G a.bytes.now a.q p.size c.if-bytes-size.false (spare c.before.before.before.before.before.before.before.before) (first c.before.before.before.before.before.before) c.index_of-end.result c.index_of-end.ensures (sym c.is_set-2.ensures ∙ c.if-is_set.false)
    c.lowest_lacking-lacking.result (c.lowest_lacking-lacking.ensures G p) c.if-lacking-count.true

pub returns : goal.returns
returns c = let a = c.args in λ G p. none-lacks G a.bytes.now a.q p.size c.if-bytes-size.false (spare c.before.before.before.before.before.before.before.before) (first c.before.before.before.before.before.before) c.index_of-end.result c.index_of-end.ensures (sym c.is_set-2.ensures ∙ c.if-is_set.false)
    c.lowest_lacking-lacking.result (c.lowest_lacking-lacking.ensures G p) c.if-lacking-count.false
