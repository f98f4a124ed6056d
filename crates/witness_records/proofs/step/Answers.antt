-- step meets its contract: the tests in the order of the definition.
use mathlib.Core.Path.{◌≡◌, ap, sym, ◌∙◌}
use Prim.Native.Nat.{ℕ}
use Rattle.triples.specs.Witness.{entry_of}
use Rattle.witness_records.specs.declared.Board.{Board}
use Rattle.witness_records.specs.declared.TripleRecord.{TripleRecord}
use Rattle.witness_records.specs.Records.{triple}
use Rattle.witness_records.specs.Walk.{after}
use Rattle.witness_records.proofs.Walks.{after-beyond, after_first, after-first_wrong, after_next, after_wrong}
use Rattle.witness_records.proofs.step.Goals as goal

-- the entry is the record's
entered : (w : Board) (last place : ℕ) (e : TripleRecord) (next : ℕ) → next ≡ entry_of w.states (triple e)
    → after w last place next ≡ after w last place (entry_of w.states (triple e))
entered w last place e next h = ap (after w last place) h

pub returns-then-q-next : goal.returns-then-q-next
returns-then-q-next c = let a = c.args in
    after-beyond a.w.now a.last a.place c.entry_of-next.result c.if-q-next.true ∙ entered a.w.now a.last a.place a.e c.entry_of-next.result c.entry_of-next.ensures

pub returns-then-next-eq0 : goal.returns-then-next-eq0
returns-then-next-eq0 c = let a = c.args in
    after_first a.w.now a.last a.place c.entry_of-next.result c.if-q-next.false c.if-place-eq0.true c.if-next-eq0.true ∙ entered a.w.now a.last a.place a.e c.entry_of-next.result c.entry_of-next.ensures

pub returns-then-place-eq0 : goal.returns-then-place-eq0
returns-then-place-eq0 c = let a = c.args in
    after-first_wrong a.w.now a.last a.place c.entry_of-next.result c.if-q-next.false c.if-place-eq0.true c.if-next-eq0.false ∙ entered a.w.now a.last a.place a.e c.entry_of-next.result c.entry_of-next.ensures

pub returns-then-is_successor : goal.returns-then-is_successor
returns-then-is_successor c = let a = c.args in
    after_next a.w.now a.last a.place c.entry_of-next.result c.if-q-next.false c.if-place-eq0.false (sym c.is_successor.ensures ∙ c.if-is_successor.true)
    ∙ entered a.w.now a.last a.place a.e c.entry_of-next.result c.entry_of-next.ensures

pub returns : goal.returns
returns c = let a = c.args in
    after_wrong a.w.now a.last a.place c.entry_of-next.result c.if-q-next.false c.if-place-eq0.false (sym c.is_successor.ensures ∙ c.if-is_successor.false)
    ∙ entered a.w.now a.last a.place a.e c.entry_of-next.result c.entry_of-next.ensures
