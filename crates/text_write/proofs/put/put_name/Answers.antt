-- `text_write::put::put_name` meets its contract: the part of the bytes is the name. Assumes nothing.
use Rattle.std.proofs.Common.{refl, ap, length, arith}
use Rattle.text_write.proofs.Filling.{wrote_as}
use Rattle.text_write.proofs.LentLaws.{name-taken}
use Rattle.text_write.proofs.put.put_name.Goals as goal

pub put_bytes-requires : goal.put_bytes-requires
put_bytes-requires c = let a = c.args in
    omega (arith, ap length (name-taken a.i _ _ c.requires.0 c.requires.1 refl refl), c.requires.2)

pub returns : goal.returns
returns c = let a = c.args in wrote_as (name-taken a.i _ _ c.requires.0 c.requires.1 refl refl) c.put_bytes.ensures
