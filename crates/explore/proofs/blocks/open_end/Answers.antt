-- open_end meets its contract: its two tests are the cases of the definition.
use native.Mathlib.Omega.{arith}
use borrow.Author.Rules.{rules}
use Prim.Native.Nat.{ℕ, ◌+◌, ◌*◌, ◌≤◌, ◌<◌}
use mathlib.Core.Path.{refl, ap, sym, subst, ◌∙◌}
use lib.ListN.{length, get_or}
use Rattle.grammar.specs.Limits.{limits}
use Rattle.triples.specs.Certificate.{is_set}
use Rattle.bits.specs.Bits.{with_bit}
use Rattle.tops.specs.Tops.{tops}
use Rattle.explore.specs.State.{Opened, short, shut, fresh}
use Rattle.explore.proofs.AddsLaws.{wide_fits}
use Rattle.explore.proofs.blocks.open_end.Reads as reads
use Rattle.explore.proofs.blocks.open_end.Lts as lts
use Rattle.explore.proofs.blocks.open_end.Goals as goal
use Rattle.explore.proofs.blocks.open_end.Lts as lts
use Rattle.explore.proofs.blocks.open_end.Reads as reads
use Rattle.explore.proofs.blocks.open_end.Tie as tie

abbrev Place-After-from : Type 0
Place-After-from = lts.After-from tie.the-claims reads.Pre reads.Post tie.handed_clauses

small : (c : Place-After-from) → c.from.result * c.args.stride ≤ 65536 * limits.max_states
small c = wide_fits c.from.result c.args.stride (search rules) c.requires.span_in_bounds.3

inside : (c : Place-After-from) → let a = c.args in a.flags + (a.base + c.from.result * a.stride) < 8 * length a.parents.now
inside c =
    let a = c.args in
    subst (λ (u : ℕ). a.flags + (a.base + u * a.stride) < 8 * length a.parents.now) (sym c.from.ensures) (c.requires.stride_bound (omega (arith, c.if-span-lt2.false)))

pub returns-then-span-lt2 : goal.returns-then-span-lt2
returns-then-span-lt2 c = record { opened = short (omega (arith, c.if-span-lt2.true)); parents_unchanged = refl }

pub overflow_mul-flag : goal.overflow_mul-flag
overflow_mul-flag c = omega (arith, small c.before)

pub overflow_add-flag : goal.overflow_add-flag
overflow_add-flag c = omega (arith, small c.before, c.requires.span_in_bounds.2)

pub overflow_add-flag-2 : goal.overflow_add-flag-2
overflow_add-flag-2 c = omega (arith, small c.before, c.requires.span_in_bounds.2, c.requires.span_in_bounds.4)

pub is_marked-requires : goal.is_marked-requires
is_marked-requires c = inside c.before

pub returns-then-is_marked : goal.returns-then-is_marked
returns-then-is_marked c = let a = c.args in
    record { opened = shut (ap (λ (u : ℕ). is_set (tops a.parents.now) (a.flags + (a.base + u * a.stride))) (sym c.from.ensures) ∙ sym c.is_marked.ensures ∙ c.if-is_marked.true); parents_unchanged = refl }

pub mark-requires : goal.mark-requires
mark-requires c = inside c.before.before.before.before

pub returns : goal.returns
returns c = let a = c.args in record {
  opened = subst (Opened (tops a.parents.now) (a.flags + (a.base + get_or a.row.now a.from 0 * a.stride)) a.from a.span (a.from + a.span))
      (ap (λ (u : ℕ). with_bit (tops a.parents.now) (a.flags + (a.base + u * a.stride))) (sym c.from.ensures) ∙ sym c.mark.ensures.bits)
      (fresh (omega (arith, c.if-span-lt2.false)));
  parents_unchanged = c.mark.ensures.places;
}
