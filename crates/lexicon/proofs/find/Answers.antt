-- `lexicon::find` meets its contract: no two names are the same, so the one that is met is the lowest. Assumes nothing.
use Rattle.std.proofs.Common.{ℕ, ◌≡◌, List, Result, Ok, Err, length, ◌∙◌, sym, arith}
use Rattle.std.specs.Result.{result_unwrap_or}
use Rattle.text.specs.Names.{same_name, place}
use Rattle.text.specs.Spelled.{spelled}
use Rattle.lexicon.specs.Tree.{name_of, Told, Lexicon}
use Rattle.lexicon.proofs.Numbers.{place_of, place-past}
use Rattle.lexicon.proofs.find.Goals as goal

-- what a search tells is the place of x
number : (text starts lengths links x : List ℕ) → Lexicon text starts lengths links → (r : Result ℕ ℕ) → Told (name_of text starts lengths) links (length starts) x r
    → place (same_name x) (spelled text starts lengths) ≡ result_unwrap_or r (length starts)
number text starts lengths links x l (Ok q) t = place_of text starts lengths l.spans x q l.apart t.inside t.same
number text starts lengths links x l (Err i) t = place-past text starts lengths l.spans x t.absent

pub returns-then-n-eq0 : goal.returns-then-n-eq0
returns-then-n-eq0 c =
    omega (arith, place-past c.args.text.now c.args.starts.now c.args.lengths.now c.requires.spans c.args.x.now (λ s l. absurd (omega (arith, l, c.if-n-eq0.true))), c.if-n-eq0.true)

pub seek-requires : goal.seek-requires
seek-requires c = record { spans = (c.requires.spans, omega arith, c.requires.few, c.requires.room); grown = c.requires.grown (omega (arith, c.if-n-eq0.false)) }

pub returns : goal.returns
returns c = c.unwrap_or.ensures ∙ sym (number c.args.text.now c.args.starts.now c.args.lengths.now c.args.links.now c.args.x.now c.requires c.seek.result c.seek.ensures)
