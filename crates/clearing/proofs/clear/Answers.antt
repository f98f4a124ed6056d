-- clear meets its contract: the front is filled with zeros.
use Rattle.std.proofs.Common.{◌≡◌, ◌∙◌, ℕ, ◌++◌, ap, drop, length, length-take-le, replicate, List}
use Rattle.std.proofs.lemmas.List.{length-replicate}
use Rattle.clearing.proofs.Laws.{over_is}
use Rattle.clearing.proofs.clear.Goals as goal

pub returns : goal.returns
returns c =
    let n = c.args.n in
    let row = c.args.row.now in
    let zeros : c.fill.new.self ≡ replicate n 0 = c.fill.ensures.after (λ y h. h) ∙ ap (λ (k : ℕ). replicate k 0) (length-take-le n row c.requires) in
    ap (λ (front : List ℕ). front ++ drop n row) zeros ∙ over_is (replicate n 0) row n (length-replicate n 0)
