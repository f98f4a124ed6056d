-- What the contracts say of a level: its first four states, and those of every rule. Assumes nothing.
use Rattle.std.specs.Prelude.{ℕ, ◌+◌, ◌-◌, ◌*◌, ◌≤◌, ◌<◌, ◌≡◌, List, [], ◌∷◌, eqb, length, get_or, take, drop}
use Rattle.grammar.specs.Basics.{choose}
use Rattle.grammar.specs.Limits.{limits}
use Rattle.live.specs.Marks.{before, right_at}
use Rattle.caller_rows.specs.Clauses.{Filled, Segmented, start_of}
use Rattle.caller_rule.specs.RuleRows.{member_class, target_class, Six, code_before, low_before, RuleWritten}

-- two entries
abbrev pub ends : ℕ → ℕ → ℕ → ℕ
ends a b p = choose (eqb p 0) a b

-- states 0 and 1 are written
pub record EndsWritten (K : ℕ) (old new : Six) : Type 0 where
  pub ahead : Filled old.ahead new.ahead 2 (ends 0 0)
  pub number : Filled old.number new.number 2 (ends 0 0)
  pub member : Filled old.member new.member 2 (ends K (2 * K))
  pub target : Filled old.target new.target 2 (ends (2 * K + 1) 0)
  pub after : Filled old.after new.after 2 (ends 0 0)
  pub down : Filled old.down new.down 2 (ends 0 1)

-- states 0 and 1 and those of rule 0, which the start calls
abbrev pub FrontWritten : ℕ → List ℕ → Six → Six → Type 0
FrontWritten K ranks old new = (mid : Six) × EndsWritten K old mid × RuleWritten 0 (limits.nonterminal_base ∷ []) K (0 ∷ []) ranks 1 2 2 2 mid new

-- the callers of a rule, numbered from 0
abbrev pub callers_of : List ℕ → List ℕ → List ℕ → List ℕ → ℕ → List ℕ
callers_of lefts first widths callers i = take (get_or widths i 0) (drop (get_or first (get_or lefts i 0 - limits.nonterminal_base) 0) callers)

-- one row of a level: states 0 and 1, those of rule 0, and of n rules the blocks of their dots
pub record LevelRow (old new : List ℕ) (n : ℕ) (ends : ℕ → ℕ) (zeroth : ℕ → ℕ) (start width dots : ℕ → ℕ) (f : ℕ → ℕ → ℕ → ℕ) : Type 0 where
  pub size : length new ≡ length old
  pub first_two : (p : ℕ) → p < 2 → get_or new p 0 ≡ ends p
  pub next_two : (d : ℕ) → d < 2 → get_or new (2 + d) 0 ≡ zeroth d
  pub rules : (i d r : ℕ) → i < n → d < dots i → r < width i → get_or new (start i + d * width i + r) 0 ≡ f i d r

-- what the levels are written from
pub record Levelled (lefts lengths codes : List ℕ) (count K : ℕ) (first callers below widths ranks : List ℕ) : Type 0 where
  pub kinds : K ≤ limits.max_states
  pub count_few : count ≤ limits.max_rules
  pub lefts-long : count ≤ length lefts
  pub lengths-long : count ≤ length lengths
  pub widths_long : count ≤ length widths
  pub below-long : count ≤ length below
  pub segmented : (i : ℕ) → i < count → Segmented first (get_or lefts i 0)
  pub callers_in : (i : ℕ) → i < count → get_or first (get_or lefts i 0 - limits.nonterminal_base) 0 + get_or widths i 0 ≤ length callers
  pub codes_in : (i : ℕ) → i < count → before lengths i + get_or lengths i 0 ≤ length codes
  pub short : (i : ℕ) → i < count → get_or lengths i 0 ≤ limits.max_length
  pub callers-small : (k : ℕ) → k < length callers → get_or callers k 0 < limits.max_states
  pub callers-few : length callers ≤ limits.max_states
  pub codes-few : length codes ≤ limits.max_rules * limits.max_length
  pub ranked : limits.max_states ≤ length ranks
  pub little : (c : ℕ) → get_or ranks c 0 ≤ limits.max_states
  pub room : start_of lengths widths count ≤ limits.max_states
  pub low-room : start_of lengths below count ≤ limits.max_states

module _ (lefts lengths codes : List ℕ) (K : ℕ) (first callers below widths ranks : List ℕ) where
  -- a row of the first n rules, rule i written by f (i + 1) from its codes, its callers, the number one level below and of its own
  abbrev pub Row : ℕ → (ℕ → ℕ) → (ℕ → List ℕ → List ℕ → ℕ → ℕ → ℕ → ℕ → ℕ → ℕ) → List ℕ → List ℕ → Type 0
  Row n ends f old new = LevelRow old new n ends (λ d. f 0 (limits.nonterminal_base ∷ []) (0 ∷ []) 1 2 2 d 0)
      (start_of lengths widths) (λ i. get_or widths i 0) (λ i. get_or lengths i 0 + 1)
      (λ i. f (i + 1) (right_at lengths codes i) (callers_of lefts first widths callers i) (get_or below i 0) (start_of lengths below i) (start_of lengths widths i))

  -- all states of n rules are written
  pub record LevelWritten (n : ℕ) (old new : Six) : Type 0 where
    pub ahead : Row n (ends 0 0) (λ i codes callers narrow low at d r. get_or codes d 0) old.ahead new.ahead
    pub number : Row n (ends 0 0) (λ i codes callers narrow low at d r. i) old.number new.number
    pub member : Row n (ends K (2 * K)) (λ i codes callers narrow low at d r.
        member_class (eqb d (length codes)) (get_or codes d 0) K (get_or callers r 0) (low + d * narrow + get_or ranks (get_or callers r 0) 0)) old.member new.member
    pub target : Row n (ends (2 * K + 1) 0) (λ i codes callers narrow low at d r.
        target_class (eqb d 0) (code_before codes d) K (get_or callers r 0) (low_before (low + d * narrow) narrow d + get_or ranks (get_or callers r 0) 0)) old.target new.target
    pub after : Row n (ends 0 0) (λ i codes callers narrow low at d r. at + d * length callers + r + length callers) old.after new.after
    pub down : Row n (ends 0 1) (λ i codes callers narrow low at d r. low + d * narrow + get_or ranks (get_or callers r 0) 0) old.down new.down

  -- where states 0 to 3 stand, those of n rules are added to them
  abbrev pub RulesWritten : ℕ → Six → Six → Type 0
  RulesWritten n old new = (oldest : Six) → LevelWritten 0 oldest old → LevelWritten n oldest new
