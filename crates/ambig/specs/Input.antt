-- What is known of an input. Assumes nothing.
use Rattle.std.specs.Prelude.{ℕ, ◌≤◌, ◌<◌, List, Option, Result, Ok, Err, length, take}
use Rattle.std.specs.Io.KnownBytes.{Consumes, IsAtEnd}
use Rattle.ambig.specs.declared.Failure.{Failure}

-- of what an input has left, where that is known: the bytes read are the front of the text, and fewer than there is room for only if
-- no more are left; after a failed read what was taken is some front of the text
abbrev pub ReadsText : Option (List ℕ) → Option (List ℕ) → Result ℕ Failure → List ℕ → Type 0
ReadsText old new (Ok n) text = Consumes old new (take n text) × (n < length text → IsAtEnd new)
ReadsText old new (Err e) text = (n : ℕ) × (n ≤ length text) × Consumes old new (take n text)
