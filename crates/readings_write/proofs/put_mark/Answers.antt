-- `readings_write::put_mark` meets its contract: the parenthesis, then the number. Assumes nothing.
use mathlib.Core.Path.{refl}
use mathlib.Core.List.{[], ◌∷◌}
use Rattle.text.specs.Numbers.{decimal}
use Rattle.text_write.proofs.Filling.{Filling, filling_start, filling_ran, filling_last}
use Rattle.readings_write.proofs.put_mark.Goals as goal
use Rattle.readings_write.proofs.put_mark.Lts as lts
use Rattle.readings_write.proofs.put_mark.Reads as reads
use Rattle.readings_write.proofs.put_mark.Tie as tie

abbrev Place-After-put_byte : Type 0
Place-After-put_byte = lts.After-put_byte tie.the-claims reads.Pre reads.Post

-- the number comes next
after_paren : (c : Place-After-put_byte) →
    let a = c.args in
    Filling a.at a.out.now (a.paren ∷ decimal a.number) c.put_byte-j.result c.put_byte-j.new.out (decimal a.number)
after_paren c =
    filling_ran (c.args.paren ∷ []) _ refl c.put_byte-j.ensures (filling_start _ _ _ c.requires)

pub returns : goal.returns
returns c = filling_last c.put_number.ensures (after_paren c.before.before.before.before.before.before.before)
