-- `report::telling::put_table` meets its contract: the rows that it lends suffice, so the search answers, and each verdict has its
-- lines. Assumes nothing.
use native.Mathlib.Omega.{arith}
use mathlib.Core.Path.{◌≡◌, ap, sym}
use mathlib.Core.List.{List, ◌++◌}
use Prim.Native.Nat.{ℕ, ◌≤◌}
use lib.ListN.{length, replicate, length-replicate}
use lib.Seq.{length-take-le}
use Rattle.grammar.specs.Limits.{limits}
use Rattle.grammar.specs.TableCheck.{check_table}
use Rattle.text.specs.Spelled.{spelled}
use Rattle.text_write.proofs.Filling.{Filling, filling_start, filling_room, filling_ran, filling_last, wrote_as}
use Rattle.search.specs.Promise.{Lent, lent}
use Rattle.search.specs.declared.SearchVerdict.TheVariants as search
use Rattle.report.specs.Clauses.{unambiguous_lines, potential_lines, table_lines, sides_lines}
use Rattle.report.proofs.Told.{Rows, no_refusal}
use Rattle.report.proofs.Lines.{lines-most, unambiguous-lines, potential-lines, potential_fits, speakable}
use Rattle.report.proofs.telling.put_table.Goals as goal
use Rattle.report.proofs.telling.put_table.Lts as lts
use Rattle.report.proofs.telling.put_table.Reads as reads
use Rattle.report.proofs.telling.put_table.Tie as tie

abbrev Place-After-search : Type 0
Place-After-search = lts.After-search tie.the-claims reads.Pre reads.Post

abbrev Start : Type 0
Start = lts.Start tie.the-claims reads.Pre reads.Post

abbrev Place-Past-After-known_told : Type 0
Place-Past-After-known_told = lts.Past-After-known_told tie.the-claims reads.Pre reads.Post

abbrev Place-Past-After-known_told2 : Type 0
Place-Past-After-known_told2 = lts.Past-After-known_told2 tie.the-claims reads.Pre reads.Post

abbrev Place-After-put_potential : Type 0
Place-After-put_potential = lts.After-put_potential tie.the-claims reads.Pre reads.Post

abbrev before : Lent
before = lent (replicate 576 0) (replicate 4608 0) (replicate 4608 0) (replicate 4608 0)

abbrev after : Place-After-search → Lent
after k = lent k.search-verdict.new.certificate k.search-verdict.new.queue k.search-verdict.new.parents k.search-verdict.new.witness

suffice : Rows before
suffice = record {
  certificate = length-replicate {A = ℕ} 576 0;
  queue = length-replicate {A = ℕ} 4608 0;
  parents = length-replicate {A = ℕ} 4608 0;
  witness = length-replicate {A = ℕ} 4608 0;
}

-- what is to be written
abbrev whole : Start → List ℕ
whole s = table_lines (check_table limits s.args.t s.args.n s.args.table.now) (spelled s.args.text.now s.args.starts.now s.args.lengths.now)

abbrev sides : Start → List ℕ
sides s = sides_lines (check_table limits s.args.t s.args.n s.args.table.now) (spelled s.args.text.now s.args.starts.now s.args.lengths.now)

is_size : (k : Place-After-search) (r l : ℕ) → k.search-verdict.result ≡ search.Unambiguous r l → unambiguous_lines k.args.q r ≡ whole k.before.before.before.before.before.before.before.before.before.before
is_size k r l e = unambiguous-lines _ _ _ _ _ _ _ k.requires.0 before k.search-verdict.result (after k) suffice k.search-verdict.ensures r l e

is_sides : (k : Place-After-search) (r l : ℕ) → k.search-verdict.result ≡ search.Potential r l → whole k.before.before.before.before.before.before.before.before.before.before ≡ potential_lines k.args.q ++ sides k.before.before.before.before.before.before.before.before.before.before
is_sides k r l e = potential-lines _ _ _ _ _ _ _ k.requires.0 before k.search-verdict.result (after k) suffice k.search-verdict.ensures r l e

fits : (k : Place-After-search) (r l : ℕ) → k.search-verdict.result ≡ search.Potential r l → r ≤ length (after k).witness
fits k r l e = potential_fits _ _ _ _ _ _ _ k.requires.0 before k.search-verdict.result (after k) suffice k.search-verdict.ensures r l e

begins : (k : Place-After-search) → Filling 0 k.args.out.now (whole k.before.before.before.before.before.before.before.before.before.before) 0 k.args.out.now (whole k.before.before.before.before.before.before.before.before.before.before)
begins k = filling_start 0 _ _ (omega (arith, lines-most _ _ _ _ _ _ _ k.requires.0, k.requires.1))

-- of the branches: the verdict's numbers
abbrev reached : (c : Place-Past-After-known_told) → (r l : ℕ) × (c.search-verdict.result ≡ search.Unambiguous r l)
reached c = (c.in-Unambiguous.reached, c.in-Unambiguous.field-1, c.in-Unambiguous.is)

abbrev entries : (c : Place-Past-After-known_told2) → (r l : ℕ) × (c.search-verdict.result ≡ search.Potential r l)
entries c = (c.in-Potential.entries, c.in-Potential.field-1, c.in-Potential.is)

-- of the second branch: what is still to be written after the verdict
after-potential : (c : Place-After-put_potential) →
    Filling 0 c.args.out.now (whole c.before.before.before.before.before.before.before.before.before.before.before.before.before.before.before.before.before) c.put_potential-at.result c.put_potential-at.new.out (sides c.before.before.before.before.before.before.before.before.before.before.before.before.before.before.before.before.before)
after-potential c =
    filling_ran (potential_lines c.args.q) (sides c.before.before.before.before.before.before.before.before.before.before.before.before.before.before.before.before.before) (is_sides c.before.before.before.before.before.before.before (entries c.before.before).0 (entries c.before.before).1 (entries c.before.before).2) c.put_potential-at.ensures (begins c.before.before.before.before.before.before.before)

pub put_unambiguous-requires : goal.put_unambiguous-requires
put_unambiguous-requires c = omega (arith, ap length (is_size c.before.before.before.before.before.before.before (reached c.before.before).0 (reached c.before.before).1 (reached c.before.before).2), lines-most _ _ _ _ _ _ _ c.requires.0, c.requires.1)

pub put_potential-at-requires : goal.put_potential-at-requires
put_potential-at-requires c = omega (arith, filling_room (potential_lines c.args.q) (sides c.before.before.before.before.before.before.before.before.before.before.before.before.before.before.before.before.before) (is_sides c.before.before.before.before.before.before.before (entries c.before.before).0 (entries c.before.before).1 (entries c.before.before).2) (begins c.before.before.before.before.before.before.before))

pub slice_bounds-witness-end : goal.slice_bounds-witness-end
slice_bounds-witness-end c = omega (arith, fits c.before.before.before.before.before.before.before.before.before.before.before (entries c.before.before.before.before.before.before).0 (entries c.before.before.before.before.before.before).1 (entries c.before.before.before.before.before.before).2, c.search-verdict.auto.witness, length-replicate {A = ℕ} 4608 0)

pub slice_bounds-put_sides-end : goal.slice_bounds-put_sides-end
slice_bounds-put_sides-end c = sym (length-take-le _ _ (fits c.before.before.before.before.before.before.before.before.before.before.before.before (entries c.before.before.before.before.before.before.before).0 (entries c.before.before.before.before.before.before.before).1 (entries c.before.before.before.before.before.before.before).2))

pub put_sides-requires : goal.put_sides-requires
put_sides-requires c = speakable _ _ _ _ _ _ _ c.requires.0 before c.search-verdict.result (after c.before.before.before.before.before.before.before.before.before.before.before.before) suffice c.search-verdict.ensures (entries c.before.before.before.before.before.before.before).0 (entries c.before.before.before.before.before.before.before).1 (entries c.before.before.before.before.before.before.before).2
    c.put_potential-at.result c.put_potential-at.new.out (omega (arith, c.put_potential-at.ensures.place)) (omega (arith, (after-potential c.before.before.before.before.before).long, c.requires.1))

pub returns-in-Unambiguous : goal.returns-in-Unambiguous
returns-in-Unambiguous c = wrote_as (is_size c.before.before.before.before.before.before.before.before.before.before (reached c.before.before.before.before.before).0 (reached c.before.before.before.before.before).1 (reached c.before.before.before.before.before).2) c.put_unambiguous.ensures

pub returns-in-Potential : goal.returns-in-Potential
returns-in-Potential c = filling_last c.put_sides.ensures (after-potential c.before.before.before.before.before.before.before.before)

pub returns-in-Refused : goal.returns-in-Refused
returns-in-Refused c = no_refusal _ _ _ _ _ _ _ c.requires.0 before c.search-verdict.result (after c.before.before.before.before.before.before) suffice c.search-verdict.ensures c.in-Refused.field-0 c.in-Refused.field-1 c.in-Refused.is
