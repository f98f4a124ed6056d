-- certificate_byte meets its contract: the constant is the certificate of the definitions.
use borrow.Author.Rules.{rules}
use native.Mathlib.Omega.{arith}
use mathlib.Core.Path.{sym}
use lib.ListN.{get_or-eq_default}
use Rattle.channels.specs.Commands.{certificate}
use Rattle.channels.proofs.certificate.certificate_byte.Goals as goal

pub returns-then-i-lt-BYTES : goal.returns-then-i-lt-BYTES
unfolding certificate
returns-then-i-lt-BYTES c = search rules

-- past its end
pub returns-else-i-lt-BYTES : goal.returns-else-i-lt-BYTES
unfolding certificate
returns-else-i-lt-BYTES c = sym (get_or-eq_default certificate 0 {n = c.args.i} (omega (arith, c.if-i-lt-BYTES.false)))
