-- The states of a rule are written dot by dot: what each dot adds. Assumes nothing.
use Prim.Native.Nat.{ℕ, zero, suc, ◌+◌, ◌-◌, ◌*◌, ◌≤◌}
use mathlib.Core.Path.{◌≡◌, refl, ap, ◌∙◌}
use mathlib.Core.Bool.{Bool}
use mathlib.Core.List.{List}
use native.Mathlib.Omega.{arith}
use lib.Dec.{eqb}
use lib.ListN.{length, get_or}
use Rattle.grammar.specs.Limits.{limits}
use Rattle.caller_rule.specs.RuleRows.{code_before, low_before, Six, Small, member_class, target_class, ItemWritten, Ruled, RuleWritten}
use Rattle.caller_rule.proofs.WroteLaws.{next_mul, less_mul, blocks_next}

-- the code before a dot that is not the first
pub before-code : (codes : List ℕ) (d : ℕ) → (d ≡ 0 → ⊥) → get_or codes (d - 1) 0 ≡ code_before codes d
before-code codes zero n = absurd (n refl)
before-code codes (suc d) n = ap (λ (k : ℕ). get_or codes k 0) (let z : suc d - 1 ≡ d = omega arith in z)

-- the number one dot earlier
pub before-low : (l narrow d : ℕ) → (d ≡ 0 → ⊥) → l - narrow ≡ low_before l narrow d
before-low l narrow zero n = absurd (n refl)
before-low l narrow (suc d) n = refl

-- that number is no greater
low_less : (l narrow d : ℕ) → low_before l narrow d ≤ l
low_less l narrow zero = omega arith
low_less l narrow (suc d) = omega arith

module _ (i : ℕ) (codes : List ℕ) (K : ℕ) (callers ranks : List ℕ) (narrow low at : ℕ) where
  module _ (d l p : ℕ) (el : l ≡ low + d * narrow) (ep : p ≡ at + d * length callers) where
    pub rule-small : (b : ℕ) → Ruled codes callers ranks K narrow low at → d ≤ length codes → b ≡ low_before l narrow d → Small callers ranks K l b p
    rule-small b R h eb =
        let x = less_mul d (length codes + 1) (length callers) (omega (arith, h)) in
        let y = less_mul d (length codes + 1) narrow (omega (arith, h)) in
        let z = low_less l narrow d in
        record {
          kinds = R.kinds;
          many = R.many;
          from = omega (arith, x, ep, R.room);
          ranked = R.ranked;
          below = R.below;
          little = R.little;
          low-few = omega (arith, y, el, R.low-room);
          behind_few = omega (arith, y, z, eb, el, R.low-room);
        }

    pub rule-room : Ruled codes callers ranks K narrow low at → d ≤ length codes → (p + length callers ≤ limits.max_states) × (l + narrow ≤ limits.max_states)
    rule-room R h =
        let x = less_mul d (length codes + 1) (length callers) (omega (arith, h)) in
        let y = less_mul d (length codes + 1) narrow (omega (arith, h)) in
        (omega (arith, x, ep, R.room), omega (arith, y, el, R.low-room))

    pub rule-place : (w : ℕ) → w ≡ length callers → p + w ≡ at + (d + 1) * length callers
    rule-place w e = let q = next_mul d (length callers) in omega (arith, q, e, ep)

    pub rule-low : l + narrow ≡ low + (d + 1) * narrow
    rule-low = let q = next_mul d narrow in omega (arith, q, el)

    pub rule-next : (x y : ℕ) (begins ends : Bool) (b : ℕ) (old mid new : Six) → x ≡ get_or codes d 0 → y ≡ code_before codes d → begins ≡ eqb d 0
        → ends ≡ eqb d (length codes) → b ≡ low_before l narrow d → RuleWritten i codes K callers ranks narrow low at d old mid
        → ItemWritten i x y begins ends K callers ranks l b p (length callers) mid new
        → RuleWritten i codes K callers ranks narrow low at (d + 1) old new
    rule-next x y begins ends b old mid new ex ey eb ee eo X I =
        let eo' : b ≡ low_before (low + d * narrow) narrow d = eo ∙ ap (λ (l : ℕ). low_before l narrow d) el in
        record {
          ahead = blocks_next _ _ _ at p _ d _ _ X.ahead I.ahead ep (λ r. ex);
          number = blocks_next _ _ _ at p _ d _ _ X.number I.number ep (λ r. refl);
          member = blocks_next _ _ _ at p _ d _ _ X.member I.member ep
              (λ r. λ j. member_class (ee j) (ex j) K (get_or callers r 0) (el j + get_or ranks (get_or callers r 0) 0));
          target = blocks_next _ _ _ at p _ d _ _ X.target I.target ep
              (λ r. λ j. target_class (eb j) (ey j) K (get_or callers r 0) (eo' j + get_or ranks (get_or callers r 0) 0));
          after = blocks_next _ _ _ at p _ d _ _ X.after I.after ep (λ r. ap (λ (p : ℕ). p + r + length callers) ep);
          down = blocks_next _ _ _ at p _ d _ _ X.down I.down ep (λ r. ap (λ (l : ℕ). l + get_or ranks (get_or callers r 0) 0) el);
        }
