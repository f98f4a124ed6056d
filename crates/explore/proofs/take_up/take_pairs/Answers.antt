-- take_pairs meets its contract: the flag is set, or the grid is pushed and it is set then.
use mathlib.Core.Path.{◌≡◌, sym, ap, ◌∙◌, subst, subst₂}
use mathlib.Core.List.{List}
use borrow.Author.Rules.{rules}
use Prim.Native.Nat.{ℕ, ◌+◌, ◌*◌, ◌^◌, ◌<◌}
use native.Mathlib.Omega.{arith}
use lib.ListN.{length, get_or}
use Rattle.triples.specs.Index.{index}
use Rattle.triples.specs.Certificate.{is_set}
use Rattle.bits.specs.Bits.{with_bit}
use Rattle.tops.specs.Tops.{tops}
use Rattle.explore.specs.State.{State, state, Pushed, Grid, Once, again, first}
use Rattle.explore.proofs.AddsLaws.{wide_fits}
use Rattle.explore.proofs.take_up.take_pairs.Goals as goal
use Rattle.explore.proofs.take_up.take_pairs.Lts as lts
use Rattle.explore.proofs.take_up.take_pairs.Reads as reads
use Rattle.explore.proofs.take_up.take_pairs.Tie as tie

abbrev Place-After-index_of : Type 0
Place-After-index_of = lts.After-index_of tie.the-claims reads.Pre reads.Post tie.handed_clauses

once_first : (place : ℕ) (P : ℕ → Type 0) (key k : ℕ) (s : State) (queue parents parents' marks row : List ℕ) (count : ℕ) → k ≡ key
    → row ≡ with_bit marks k → parents' ≡ parents → Pushed place P s (state queue parents marks count) → Once place P key s (state queue parents' row count)
once_first place P key k s queue parents parents' marks row count e h l p =
    subst₂ (λ (q m : List ℕ). Once place P key s (state queue q m count)) (sym l) (sym (h ∙ ap (with_bit marks) e)) (first p)

-- the index of the first pair fits
small : (c : Place-After-index_of) → c.index_of-corner.result < 2 ^ 32
small c =
    let q = c.args.q in let few = c.requires.q_le_max_states.0 in let v : c.from-v.result < 65536 = search rules in omega (arith, c.index_of-corner.ensures, wide_fits q q (omega (arith, few)) few, wide_fits c.from-u.result q (search rules) few, v)

-- the flag's place, as the contract has it
key : (c : Place-After-index_of) → let a = c.args in
    a.flags + c.index_of-corner.result ≡ a.flags + index a.q 1 (get_or a.targets.now a.p.left_from 0) (get_or a.targets.now a.p.right_from 0)
key c =
    let a = c.args in
    ap (λ (i : ℕ). a.flags + i)
    (c.index_of-corner.ensures ∙ ap (λ (u : ℕ). index a.q 1 u c.from-v.result) c.from-u.ensures
    ∙ ap (λ (v : ℕ). index a.q 1 (get_or a.targets.now a.p.left_from 0) v) c.from-v.ensures)

inside : (c : Place-After-index_of) → let a = c.args in a.flags + c.index_of-corner.result < 8 * length a.parents.now
inside c =
    subst (λ (x : ℕ). x < 8 * length c.args.parents.now) (sym (key c)) c.requires.right_from_bound

pub index_of-corner-requires : goal.index_of-corner-requires
index_of-corner-requires c = (c.requires.q_le_max_states.0, omega arith, search rules, search rules)

pub overflow_add-flags : goal.overflow_add-flags
overflow_add-flags c = omega (arith, small c.before, c.requires.q_le_max_states.2)

pub is_marked-requires : goal.is_marked-requires
is_marked-requires c = inside c.before

pub returns-then-is_marked : goal.returns-then-is_marked
returns-then-is_marked c = let a = c.args in
    again (ap (is_set (tops a.parents.now)) (sym (key c.before.before.before)) ∙ sym c.is_marked.ensures ∙ c.if-is_marked.true)

pub push_grid-end-requires : goal.push_grid-end-requires
push_grid-end-requires c = let p = c.requires.q_le_max_states in
    let r = c.requires.lines_nonzero in record {
      marked = c.requires.marked;
      q_le_max_states = (
        p.0,
        p.1,
        omega arith,
        omega (arith, r.2, r.4),
        omega arith,
        omega (arith, r.3, r.4),
      );
      by_index = c.requires.by_index;
      grid_order = c.requires.grid_order;
    }

pub overflow_add-flags-2 : goal.overflow_add-flags-2
overflow_add-flags-2 c = omega (arith, small c.before.before.before.before.before.before.before.before.before.before.before.before.before, c.requires.q_le_max_states.2)

pub mark-requires : goal.mark-requires
mark-requires c = omega (arith, inside c.before.before.before.before.before.before.before.before.before.before.before.before.before, c.push_grid-end.auto.parents)

pub returns : goal.returns
returns c = let a = c.args in
    once_first a.place
    (Grid a.targets.now a.q a.p.left_from (a.p.left_from + a.lines) a.p.right_from (a.p.right_from + a.p.columns) (a.q * a.q))
    _ _ _ _ _ _ _ _ _ (key c.before.before.before.before.before.before.before.before.before.before.before.before.before.before.before.before) c.mark.ensures.bits c.mark.ensures.places c.push_grid-end.ensures
