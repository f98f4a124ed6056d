-- shift_held meets its contract: without a shift there is nothing to be held; with one the states that are looked up are those after it.
use borrow.Author.Rules.{rules}
use native.Mathlib.Omega.{arith}
use mathlib.Core.Path.{◌≡◌, ap, ap₂, sym, subst, ◌∙◌}
use Prim.Native.Nat.{ℕ, ◌*◌, ◌<◌}
use lib.ListN.{length, get_or}
use Rattle.triples.specs.Index.{index}
use Rattle.triples.specs.Certificate.{is_set}
use Rattle.certificate_check.proofs.columns.shift_held.Goals as goal
use Rattle.certificate_check.proofs.columns.shift_held.Lts as lts
use Rattle.certificate_check.proofs.columns.shift_held.Reads as reads
use Rattle.certificate_check.proofs.columns.shift_held.Tie as tie

abbrev Place-After-index_of : Type 0
Place-After-index_of = lts.After-index_of tie.the-claims reads.Pre reads.Post tie.handed_clauses

pub returns-then-shift-eq0 : goal.returns-then-shift-eq0
returns-then-shift-eq0 c = λ q h. absurd (omega (arith, c.if-shift-eq0.true, h))

pub bounds-after-a : goal.bounds-after-a
bounds-after-a c = let p = c.requires.q_le_max_states in omega (arith, p.0, p.2)

pub bounds-after-b : goal.bounds-after-b
bounds-after-b c = let p = c.requires.q_le_max_states in omega (arith, p.0, p.3)

pub index_of-beside-requires : goal.index_of-beside-requires
index_of-beside-requires c = let p = c.requires.q_le_max_states in
    (p.0, omega (arith, p.1), search rules, search rules)

-- the index is that of the states after the shift
beside : (c : Place-After-index_of) → let a = c.args in
    c.index_of-beside.result ≡ index a.q a.f (get_or a.after.now a.a 0) (get_or a.after.now a.b 0)
beside c =
    let a = c.args in
    c.index_of-beside.ensures ∙ ap₂ (λ (u v : ℕ). index a.q a.f u v) c.from-u.ensures c.from-v.ensures

pub is_set-requires : goal.is_set-requires
is_set-requires c = subst (λ (i : ℕ). i < 8 * length c.args.bytes.now) (sym (beside c.before)) (c.requires.b_bound (omega (arith, c.if-shift-eq0.false)))

pub returns : goal.returns
returns c = let a = c.args in
    λ q h. ap (is_set a.bytes.now) (sym (beside c.before.before)) ∙ sym c.is_set.ensures ∙ q
