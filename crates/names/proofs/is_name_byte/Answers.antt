-- `names::is_name_byte` meets its contract: the letters and digits are std's. Assumes nothing.
use Rattle.std.proofs.Common.{ℕ, ◌≡◌, ◌||◌, eqb, arith}
use Rattle.std.specs.Char.{is_ascii_alphanumeric}
use Rattle.text.specs.Names.{is_name_byte}
use Rattle.names.proofs.is_name_byte.Goals as goal
use Rattle.std.proofs.lemmas.Bool.Decides.{nat_tests}

alphanumeric-or-hyphen : (b : ℕ) → is_name_byte b ≡ is_ascii_alphanumeric b || eqb b 45
unfolding is_name_byte
alphanumeric-or-hyphen b = grind (arith, nat_tests)

pub returns-then-is_ascii_alphanumeric : goal.returns-then-is_ascii_alphanumeric
returns-then-is_ascii_alphanumeric c = grind (arith, c.if-is_ascii_alphanumeric.ensures.value, alphanumeric-or-hyphen c.args.b)

pub returns-else-is_ascii_alphanumeric : goal.returns-else-is_ascii_alphanumeric
returns-else-is_ascii_alphanumeric c = grind (arith, c.if-is_ascii_alphanumeric.ensures.value, alphanumeric-or-hyphen c.args.b)
