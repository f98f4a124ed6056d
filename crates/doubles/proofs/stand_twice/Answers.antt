-- `doubles::stand_twice` meets its contract: where all names were planted, the lexicon has the block. Assumes nothing.
use Rattle.std.proofs.Common.{ℕ, ◌≡◌, ◌≤◌, false, List, [], length, ap, sym, ◌∙◌, arith}
use borrow.Author.Tests.{eqb-true, eqb-false}
use Rattle.text.specs.Names.{has_double}
use Rattle.text.specs.Print.{first_double}
use Rattle.text.specs.Read.{names_of}
use Rattle.text.specs.Spelled.{spelled}
use Rattle.text.proofs.Spans.{length-spelled}
use Rattle.names.proofs.Pieces.{names-none}
use Rattle.lexicon.proofs.Doubles.{first_once, first-within, first-twice}
use Rattle.doubles.specs.Blocks.{meet, names_from}
use Rattle.doubles.proofs.Names.{meet-none, stand_in, stand_later, stand_earlier}
use Rattle.doubles.proofs.Blocks.{names-all}
use Rattle.doubles.proofs.stand_twice.Goals as goal

module _ (v starts lengths : List ℕ) (paired : length starts ≡ length lengths) (planted : ℕ) (value : planted ≡ first_double [] (spelled v starts lengths)) (l : length starts ≤ planted) where
  -- all of the block were planted
  whole : planted ≡ length starts
  whole = omega (arith, value, l, first-within [] (spelled v starts lengths), length-spelled v starts lengths paired)

  once : has_double (spelled v starts lengths) ≡ false
  once = first_once (spelled v starts lengths) (sym value ∙ whole ∙ sym (length-spelled v starts lengths paired))

pub returns-then-plant-starts : goal.returns-then-plant-starts
returns-then-plant-starts c = sym (stand_in (names_of c.args.earlier.now) (names_from c.args.v.now c.args.next) (spelled c.args.v.now c.args.starts.now c.args.lengths.now)
    (first-twice (spelled c.args.v.now c.args.starts.now c.args.lengths.now)
    (omega (arith, c.if-plant-starts.true, c.plant.ensures.value, length-spelled c.args.v.now c.args.starts.now c.args.lengths.now c.requires.spans.0.paired))))

pub shared-requires : goal.shared-requires
shared-requires c = c.plant.ensures.lexicon (whole c.args.v.now c.args.starts.now c.args.lengths.now c.requires.spans.0.paired c.plant.result c.plant.ensures.value c.if-plant-starts.false)

pub returns-then-shared : goal.returns-then-shared
returns-then-shared c = sym (stand_later (names_of c.args.earlier.now) (names_from c.args.v.now c.args.next) (spelled c.args.v.now c.args.starts.now c.args.lengths.now)
    (once c.args.v.now c.args.starts.now c.args.lengths.now c.requires.spans.0.paired c.plant.result c.plant.ensures.value c.if-plant-starts.false)
    (sym c.shared.ensures ∙ c.if-shared.true))

pub returns-then-is_empty : goal.returns-then-is_empty
returns-then-is_empty c = sym (stand_earlier (names_of c.args.earlier.now) (names_from c.args.v.now c.args.next) (spelled c.args.v.now c.args.starts.now c.args.lengths.now)
    (once c.args.v.now c.args.starts.now c.args.lengths.now c.requires.spans.0.paired c.plant.result c.plant.ensures.value c.if-plant-starts.false)
    (sym c.shared.ensures ∙ c.if-shared.false)
    ∙ ap (λ (ns : List (List ℕ)). meet ns (spelled c.args.v.now c.args.starts.now c.args.lengths.now)) (names-none c.args.earlier.now (eqb-true _ _ (sym c.if-is_empty.ensures)))
    ∙ meet-none (spelled c.args.v.now c.args.starts.now c.args.lengths.now))

pub shared-requires-2 : goal.shared-requires-2
shared-requires-2 c = c.plant.ensures.lexicon (whole c.args.v.now c.args.starts.now c.args.lengths.now c.requires.spans.0.paired c.plant.result c.plant.ensures.value c.if-plant-starts.false)

pub returns : goal.returns
returns c = c.shared-2.ensures
    ∙ ap (λ (ns : List (List ℕ)). meet ns (spelled c.args.v.now c.args.starts.now c.args.lengths.now))
    (sym (names-all c.args.earlier.now (let h : length c.args.earlier.now ≡ 0 → ⊥ = eqb-false _ _ (sym c.if-is_empty.ensures) in omega arith)))
    ∙ sym (stand_earlier (names_of c.args.earlier.now) (names_from c.args.v.now c.args.next) (spelled c.args.v.now c.args.starts.now c.args.lengths.now)
    (once c.args.v.now c.args.starts.now c.args.lengths.now c.requires.spans.0.paired c.plant.result c.plant.ensures.value c.if-plant-starts.false)
    (sym c.shared.ensures ∙ c.if-shared.false))
