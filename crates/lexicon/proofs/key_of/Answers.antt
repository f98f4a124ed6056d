-- `lexicon::key_of` meets its contract: the key of the folded bytes, one by one. Assumes nothing.
use Rattle.std.proofs.Common.{ℕ, ◌+◌, ◌*◌, ◌%◌, ◌∙◌, rules}
use Rattle.std.proofs.lemmas.Iterator.{YieldsList-from_slice}
use Rattle.std.proofs.lemmas.Iterator.Consumers.{fold_from_yields_List}
use borrow.Author.Tests.{tests}
use Rattle.text.specs.Names.{folded}
use Rattle.lexicon.specs.Tree.{key_span, key_factor, key_of}
use Rattle.lexicon.proofs.Tree.{key_fold}
use Rattle.lexicon.proofs.key_of.Goals as goal

pub returns : goal.returns
unfolding key_of
returns c = fold_from_yields_List _ (λ (k b : ℕ). (k % key_span + folded b) * key_factor) 0 c.fold.result c.fold.ensures.ran (YieldsList-from_slice c.args.x.now c.iter.ensures.rest) (λ k x b q h. search (rules, tests))
    ∙ key_fold 0 c.args.x.now
