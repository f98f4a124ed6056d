-- The six rows of a value that holds them lent. Assumes nothing.
use Rattle.std.specs.Prelude.{◌≡◌}
use Rattle.caller_rule.specs.declared.Rows.{Rows}
use Rattle.caller_rule.specs.RuleRows.{Six, six}

abbrev pub six_of : Rows → Six
six_of r = six r.ahead.now r.number.now r.member.now r.target.now r.after.now r.down.now

-- they are the same loans
abbrev pub SameLoans : Rows → Rows → Type 0
SameLoans old new =
    (new.ahead.ghost_name ≡ old.ahead.ghost_name) × (new.number.ghost_name ≡ old.number.ghost_name) × (new.member.ghost_name ≡ old.member.ghost_name)
    × (new.target.ghost_name ≡ old.target.ghost_name) × (new.after.ghost_name ≡ old.after.ghost_name) × (new.down.ghost_name ≡ old.down.ghost_name)
