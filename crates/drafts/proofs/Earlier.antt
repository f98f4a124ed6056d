-- The rules up to an offset of a table, compared one by one with the rule there, and their states. Assumes nothing.
use Prim.Native.Nat.{ℕ, ◌+◌, ◌-◌, ◌≤◌, ◌<◌}
use mathlib.Core.Path.{◌≡◌, ap, sym, ◌∙◌}
use mathlib.Core.Bool.{Bool, true, false, ◌||◌}
use mathlib.Core.List.{List, [], ◌∷◌}
use native.Mathlib.Omega.{arith}
use lib.ListN.{length, take, drop, length-drop}
use lib.Seq.{length-take-le}
use Rattle.grammar.specs.Limits.{limits}
use Rattle.grammar.specs.Grammar.{Rule, state_count}
use Rattle.grammar.specs.Table.{encode, decode, length_at, rule_at}
use Rattle.grammar.specs.Refusal.{done}
use Rattle.grammar.specs.TableCheck.{same_rule, is_among, read_rule}
use Rattle.grammar.proofs.Rules.{decode-encode, Stands, stands, stands-rule}
use Rattle.grammar.proofs.Steps.{read_done}
use Rattle.drafts.specs.Edits.{Leading, Led}
use Rattle.drafts.proofs.Begins.{table_fits}

-- the rules from o on are still to be compared with the one at the offset
pub record Behind (xs : List ℕ) (at k o : ℕ) : Type 0 where
  pub rest : List Rule
  pub ahead : drop o (take at xs) ≡ encode rest
  pub same : is_among (rule_at xs at k) rest ≡ is_among (rule_at xs at k) (decode (take at xs))
  pub whole : at + 2 + k ≤ length xs

-- at first all of them
pub behind_start : (xs : List ℕ) (at k : ℕ) → Leading xs at k → Behind xs at k 0
behind_start xs at k f = record {
  rest = f.rules;
  ahead = f.front;
  same = ap (is_among (rule_at xs at k)) (sym (ap decode f.front ∙ decode-encode f.rules));
  whole = f.whole;
}

-- the rule at o, and those behind it
record Turn (xs : List ℕ) (at k o : ℕ) : Type 0 where
  first : Rule
  after : List Rule
  stands : Stands xs at o first after
  same : is_among (rule_at xs at k) (first ∷ after) ≡ is_among (rule_at xs at k) (decode (take at xs))

module _ (xs : List ℕ) (at k o : ℕ) (b : Behind xs at k o) where
  left_over : length (drop o (take at xs)) ≡ at - o
  left_over = let w = b.whole in let t = length-take-le at xs (omega (arith, w)) in let d = length-drop o (take at xs) in omega (arith, t, d)

  turn : o < at → Turn xs at k o
  unfolding encode
  turn h = go b.rest b.ahead b.same
    where
      go : (rest : List Rule) → drop o (take at xs) ≡ encode rest → is_among (rule_at xs at k) rest ≡ is_among (rule_at xs at k) (decode (take at xs))
          → Turn xs at k o
      go [] e s = let l = left_over in let z : length (drop o (take at xs)) ≡ 0 = ap length e in absurd (let q : ⊥ = omega (arith, l, z, h) in q)
      go (r ∷ rs) e s = let w = b.whole in record { first = r; after = rs; stands = stands xs at o r rs (omega (arith, w)) e; same = s }

  -- it is whole before the offset
  pub behind_whole : o < at → o + 2 + length_at xs o ≤ at
  behind_whole h = let s = (turn h).stands in let w = s.whole in let c = s.count in omega (arith, w, c)

  -- what comparing it says
  compared : (c : Bool) (h : o < at) → same_rule (rule_at xs o (length_at xs o)) (rule_at xs at k) ≡ c
      → (c || is_among (rule_at xs at k) (turn h).after) ≡ is_among (rule_at xs at k) (decode (take at xs))
  unfolding is_among
  compared c h e =
      let t = turn h in
      let q : same_rule t.first (rule_at xs at k) ≡ c = ap (λ (r : Rule). same_rule r (rule_at xs at k)) (sym (stands-rule t.stands)) ∙ e in
      sym (ap (λ (c : Bool). c || is_among (rule_at xs at k) t.after) q) ∙ t.same

  -- an equal one is found
  pub behind_found : o < at → same_rule (rule_at xs o (length_at xs o)) (rule_at xs at k) ≡ true → true ≡ is_among (rule_at xs at k) (decode (take at xs))
  behind_found h e = compared true h e

  -- one that differs is left behind
  pub behind_more : (m : ℕ) → m ≡ length_at xs o → o < at → same_rule (rule_at xs o m) (rule_at xs at k) ≡ false → Behind xs at k (o + 2 + m)
  behind_more m q h e =
      let t = turn h in
      let z : o + 2 + m ≡ o + 2 + length t.first.right = ap (λ (m : ℕ). o + 2 + m) (q ∙ t.stands.count) in
      record {
        rest = t.after;
        ahead = ap (λ (o : ℕ). drop o (take at xs)) z ∙ t.stands.onward;
        same = compared false h (ap (λ (m : ℕ). same_rule (rule_at xs o m) (rule_at xs at k)) (sym q) ∙ e);
        whole = b.whole;
      }

  -- none is left
  pub behind_end : at ≤ o → false ≡ is_among (rule_at xs at k) (decode (take at xs))
  unfolding encode is_among
  behind_end h = go b.rest b.ahead b.same
    where
      go : (rest : List Rule) → drop o (take at xs) ≡ encode rest → is_among (rule_at xs at k) rest ≡ is_among (rule_at xs at k) (decode (take at xs))
          → false ≡ is_among (rule_at xs at k) (decode (take at xs))
      go [] e s = s
      go (r ∷ rs) e s = let l = left_over in let z = ap length e in absurd (let q : ⊥ = omega (arith, l, z, h) in q)

-- a rule that is read stands whole
pub led_leading : (xs : List ℕ) (count at t n k : ℕ) → Led xs count at → read_rule limits t n xs at ≡ done k → Leading xs at k
led_leading xs count at t n k l e = record { rules = l.rules; front = l.front; whole = (read_done limits t n xs at k e).whole }

-- ---- their states

module _ (xs : List ℕ) (count at : ℕ) (l : Led xs count at) where
  entries-led : length (encode l.rules) ≡ at
  entries-led = sym (ap length l.front) ∙ length-take-le at xs l.within

  pub led-few : count ≤ at + 4
  led-few = let f = table_fits l.rules in let e = entries-led in let s = l.size in omega (arith, f, e, s)

  pub led-states : at + 4 - count ≡ state_count (decode (take at xs))
  led-states =
      let f = table_fits l.rules in
      let e = entries-led in
      let s = l.size in
      let z : at + 4 - count ≡ state_count l.rules = omega (arith, f, e, s) in
      z ∙ ap state_count (sym (ap decode l.front ∙ decode-encode l.rules))
