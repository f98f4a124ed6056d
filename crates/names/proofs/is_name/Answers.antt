-- `names::is_name` meets its contract: all bytes pass. Assumes nothing.
use Rattle.std.proofs.Common.{ℕ, ◌≡◌, ◌∙◌, ◌&&◌, sym, arith, rules, refl, List, length, ◌≢◌}
use Rattle.std.specs.List.{list_all}
use Rattle.std.proofs.lemmas.Iterator.{YieldsList-from_slice}
use Rattle.std.proofs.lemmas.Iterator.Search.{all_from_yields_List}
use Rattle.std.proofs.lemmas.List.Recursion.{same_from_clauses}
use borrow.Author.Tests.{tests, eqb-true, eqb-false}
use Rattle.text.specs.Names.{is_name_byte, all}
use Rattle.names.proofs.Names.{name-short, name-long, name-bytes}
use Rattle.names.proofs.is_name.Goals as goal
use Rattle.names.proofs.is_name.Goals.{then-is_empty-via-then-is_empty, then-is_empty-via-else-is_empty+then-s-gt15}

all-list : (s : List ℕ) → all is_name_byte s ≡ list_all is_name_byte s
unfolding all
all-list s = same_from_clauses (all is_name_byte) (list_all is_name_byte) (λ b t. is_name_byte b && t) refl (λ x xs. refl) (λ x xs. refl) s

pub returns-then-is_empty : goal.returns-then-is_empty
returns-then-is_empty c = elim c.then-is_empty.branch [
  | then-is_empty-via-then-is_empty w ↦ sym (name-short c.args.s.now (omega (arith, eqb-true _ _ (sym w.if-is_empty.ensures))))
  | then-is_empty-via-else-is_empty+then-s-gt15 w ↦ sym (name-long c.args.s.now (omega arith))
]

pub returns : goal.returns
returns c = all_from_yields_List is_name_byte _ _ c.all.result c.all.ensures.ran (YieldsList-from_slice c.args.s.now cc) (λ x b q k. search (rules, tests))
    ∙ sym (name-bytes c.args.s.now (let h : length c.args.s.now ≢ 0 = eqb-false _ _ (sym c.if-is_empty.ensures) in omega arith) (omega arith) ∙ all-list c.args.s.now)
