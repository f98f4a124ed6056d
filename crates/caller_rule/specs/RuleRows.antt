-- What the contracts say of the states of one rule: six rows, written dot by dot and caller by caller. Assumes nothing.
use Rattle.std.specs.Prelude.{ℕ, zero, suc, ◌+◌, ◌-◌, ◌*◌, ◌≤◌, ◌<◌, ◌≡◌, Bool, ◌⊎◌, List, eqb, leb, length, get_or}
use Rattle.grammar.specs.Basics.{choose}
use Rattle.grammar.specs.Limits.{limits}

-- in a row w entries from place `at` on are written, by their number, and no others
pub record Wrote (old new : List ℕ) (at w : ℕ) (f : ℕ → ℕ) : Type 0 where
  pub size : length new ≡ length old
  pub inside : (r : ℕ) → r < w → get_or new (at + r) 0 ≡ f r
  pub outside : (k : ℕ) → (k < at) ⊎ (at + w ≤ k) → get_or new k 0 ≡ get_or old k 0

-- the class that a state moves by: at its rule's end its caller's, before a nonterminal its own with the farthest caller dropped
abbrev pub member_class : Bool → ℕ → ℕ → ℕ → ℕ → ℕ
member_class ends x K c d = choose ends c (choose (leb limits.nonterminal_base x) (K + d) (2 * K))

-- the class that leads to it: at dot 0 its caller's, past a nonterminal that of the state before it
abbrev pub target_class : Bool → ℕ → ℕ → ℕ → ℕ → ℕ
target_class begins y K c e = choose begins (K + c) (choose (leb limits.nonterminal_base y) e (2 * K + 1))

-- the callers are states of the level below, K of them, which have ranks; what is summed is small
pub record Small (callers ranks : List ℕ) (K low behind at : ℕ) : Type 0 where
  pub kinds : K ≤ limits.max_states
  pub many : length callers ≤ limits.max_states
  pub from : at ≤ limits.max_states
  pub ranked : limits.max_states ≤ length ranks
  pub below : (r : ℕ) → r < length callers → get_or callers r 0 < limits.max_states
  pub little : (c : ℕ) → get_or ranks c 0 ≤ limits.max_states
  pub low-few : low ≤ limits.max_states
  pub behind_few : behind ≤ limits.max_states

-- six rows, each with an entry for a state
pub record Six : Type 0 where
  pub ahead : List ℕ
  pub number : List ℕ
  pub member : List ℕ
  pub target : List ℕ
  pub after : List ℕ
  pub down : List ℕ

-- these six
abbrev pub six : List ℕ → List ℕ → List ℕ → List ℕ → List ℕ → List ℕ → Six
six a n m t e d = record { ahead = a; number = n; member = m; target = t; after = e; down = d }

-- they have room up to a place
pub record Wide (q : ℕ) (rows : Six) : Type 0 where
  pub ahead : q ≤ length rows.ahead
  pub number : q ≤ length rows.number
  pub member : q ≤ length rows.member
  pub target : q ≤ length rows.target
  pub after : q ≤ length rows.after
  pub down : q ≤ length rows.down

-- they have kept their lengths
pub record Alike (old new : Six) : Type 0 where
  pub ahead : length new.ahead ≡ length old.ahead
  pub number : length new.number ≡ length old.number
  pub member : length new.member ≡ length old.member
  pub target : length new.target ≡ length old.target
  pub after : length new.after ≡ length old.after
  pub down : length new.down ≡ length old.down

-- the states of an item with w callers are written from `at` on
pub record ItemWritten (i x y : ℕ) (begins ends : Bool) (K : ℕ) (callers ranks : List ℕ) (low behind at w : ℕ) (old new : Six) : Type 0 where
  pub ahead : Wrote old.ahead new.ahead at w (λ r. x)
  pub number : Wrote old.number new.number at w (λ r. i)
  pub member : Wrote old.member new.member at w (λ r. member_class ends x K (get_or callers r 0) (low + get_or ranks (get_or callers r 0) 0))
  pub target : Wrote old.target new.target at w (λ r. target_class begins y K (get_or callers r 0) (behind + get_or ranks (get_or callers r 0) 0))
  pub after : Wrote old.after new.after at w (λ r. at + r + length callers)
  pub down : Wrote old.down new.down at w (λ r. low + get_or ranks (get_or callers r 0) 0)

-- ---- the states of a rule, item by item

-- the code before a dot, or 0
abbrev pub code_before : List ℕ → ℕ → ℕ
code_before codes zero = 0
code_before codes (suc d) = get_or codes d 0

-- the number one dot earlier, or 0
abbrev pub low_before : ℕ → ℕ → ℕ → ℕ
low_before l narrow zero = 0
low_before l narrow (suc d) = l - narrow

-- n blocks of w entries each are written from a place on, by block and place in it, and no others
pub record WroteBlocks (old new : List ℕ) (at w n : ℕ) (f : ℕ → ℕ → ℕ) : Type 0 where
  pub size : length new ≡ length old
  pub inside : (d r : ℕ) → d < n → r < w → get_or new (at + d * w + r) 0 ≡ f d r
  pub outside : (k : ℕ) → (k < at) ⊎ (at + n * w ≤ k) → get_or new k 0 ≡ get_or old k 0

-- what a rule's states are written from is small
pub record Ruled (codes callers ranks : List ℕ) (K narrow low at : ℕ) : Type 0 where
  pub kinds : K ≤ limits.max_states
  pub short : length codes ≤ limits.max_states
  pub ranked : limits.max_states ≤ length ranks
  pub below : (r : ℕ) → r < length callers → get_or callers r 0 < limits.max_states
  pub little : (c : ℕ) → get_or ranks c 0 ≤ limits.max_states
  pub many : length callers ≤ limits.max_states
  pub room : at + (length codes + 1) * length callers ≤ limits.max_states
  pub low-room : low + (length codes + 1) * narrow ≤ limits.max_states

-- the states of a rule's first n dots are written from `at` on
pub record RuleWritten (i : ℕ) (codes : List ℕ) (K : ℕ) (callers ranks : List ℕ) (narrow low at n : ℕ) (old new : Six) : Type 0 where
  pub ahead : WroteBlocks old.ahead new.ahead at (length callers) n (λ d r. get_or codes d 0)
  pub number : WroteBlocks old.number new.number at (length callers) n (λ d r. i)
  pub member : WroteBlocks old.member new.member at (length callers) n (λ d r.
      member_class (eqb d (length codes)) (get_or codes d 0) K (get_or callers r 0) (low + d * narrow + get_or ranks (get_or callers r 0) 0))
  pub target : WroteBlocks old.target new.target at (length callers) n (λ d r.
      target_class (eqb d 0) (code_before codes d) K (get_or callers r 0) (low_before (low + d * narrow) narrow d + get_or ranks (get_or callers r 0) 0))
  pub after : WroteBlocks old.after new.after at (length callers) n (λ d r. at + d * length callers + r + length callers)
  pub down : WroteBlocks old.down new.down at (length callers) n (λ d r. low + d * narrow + get_or ranks (get_or callers r 0) 0)
