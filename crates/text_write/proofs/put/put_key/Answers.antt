-- `text_write::put::put_key` meets its contract: the key, then the sign. Assumes nothing.
use Rattle.std.proofs.Common.{[], ◌∷◌, ◌++◌, ap, sym}
use Rattle.text_write.proofs.Filling.{filling_start, filling_ran, filling_last}
use Rattle.text_write.proofs.put.put_key.Goals as goal

pub returns : goal.returns
returns c = filling_last c.put_byte.ensures
    (filling_ran _ _ (ap (λ w. w ++ (61 ∷ [])) (sym c.key.ensures)) c.put_bytes-j.ensures (filling_start _ _ _ c.requires.1))
