-- The module's rules put into a row behind the robot's, one after the other. Assumes nothing.
use Prim.Native.Nat.{ℕ, suc, ◌+◌, ◌-◌, ◌≤◌, ◌<◌}
use mathlib.Core.Path.{◌≡◌, refl, ap, ap₂, sym, subst, ◌∙◌}
use mathlib.Core.Bool.{Bool, true, false}
use mathlib.Core.List.{List, [], ◌∷◌, ◌++◌, map, append-nil, append_assoc, map-append}
use native.Mathlib.Omega.{arith}
use lib.ListN.{length, take, drop, get_or, length-map, length-drop}
use lib.Seq.{take-length, take_at}
use Rattle.grammar.specs.Basics.{choose, Mem, here, there}
use Rattle.grammar.specs.Limits.{limits}
use Rattle.grammar.specs.Grammar.{Rule}
use Rattle.grammar.specs.Table.{encode, decode, rule_at}
use Rattle.grammar.specs.TableCheck.{is_among}
use Rattle.grammar.proofs.Rules.{decode-encode, stands}
use Rattle.modules.specs.Joined.{added_rules}
use Rattle.joining.specs.Naming.{recoded, recoded_rule, RuleRecoding, RulesReady, RulesPut}
use Rattle.joining.specs.RuleRows.{RuleReady, RulePut, RulesBefore}
use Rattle.joining.proofs.RuleLaws.{added-rules_snoc}
use Rattle.joining.proofs.OneRule.{one-rule, Put, put_one}

-- the rules of two lists end to end
encode_append : (xs ys : List Rule) → encode (xs ++ ys) ≡ encode xs ++ encode ys
unfolding encode
encode_append [] ys = refl
encode_append (x ∷ xs) ys = rw (encode_append xs ys, append_assoc)

-- the module's first rule from a place of its table on
record Next (table : List ℕ) (at : ℕ) (rest : List Rule) : Type 0 where
  first : Rule
  after : List Rule
  rest_is : rest ≡ first ∷ after
  count : get_or table (at + 1) 0 ≡ length first.right
  whole : at + 2 + length first.right ≤ length table
  entries : take (2 + length first.right) (drop at table) ≡ encode (first ∷ [])
  onward : drop (at + 2 + length first.right) table ≡ encode after

next-of : (table : List ℕ) (at : ℕ) (rest : List Rule) → at < length table → drop at table ≡ encode rest → Next table at rest
unfolding encode
next-of table at [] h e = let z : length (drop at table) ≡ 0 = ap length e in absurd (omega (arith, length-drop at table))
next-of table at (r ∷ rs) h e =
    let g = stands table (length table) at r rs (omega arith) (ap (drop at) (take-length table) ∙ e) in
    let k = length r.right in
    record {
      first = r;
      after = rs;
      rest_is = refl;
      count = g.count;
      whole = g.whole;
      entries = ap (take (2 + k)) (e ∙ encode_append (r ∷ []) rs) ∙ take_at (encode (r ∷ [])) (encode rs) (2 + k) (one-rule (encode (r ∷ [])) r refl).size;
      onward = sym (ap (drop (at + 2 + k)) (take-length table)) ∙ g.onward;
    }

-- up to `to` the row has the robot's rules and those that are added of the module's before `at`
pub record Putting (table terminals nonterminals row₀ : List ℕ) (end : ℕ) (row : List ℕ) (to at : ℕ) : Type 0 where
  pub past : List Rule
  pub rest : List Rule
  pub robot : List Rule
  pub table_is : table ≡ encode (past ++ rest)
  pub ahead : drop at table ≡ encode rest
  pub recoding : (r : Rule) → Mem r rest → RuleRecoding terminals nonterminals r
  pub first : take end row₀ ≡ encode robot
  pub front : take end row ≡ encode robot
  pub put : take to row ≡ encode (robot ++ added_rules robot (map (recoded_rule limits terminals nonterminals) past))
  pub low : end ≤ to
  pub room : to + length table ≤ length row + at
  pub inside : to ≤ length row
  pub size : length row ≡ length row₀

-- at first none is put
pub put-start : {table terminals nonterminals row : List ℕ} {end : ℕ} → RulesReady table terminals nonterminals row end
    → Putting table terminals nonterminals row end row end 0
unfolding added_rules
put-start {table} {terminals} {nonterminals} {row} {end} g = record {
  past = [];
  rest = g.rules;
  robot = g.robot;
  table_is = g.table_is;
  ahead = g.table_is;
  recoding = g.recoding;
  first = g.front;
  front = g.front;
  put = g.front ∙ ap encode (sym (append-nil g.robot));
  low = omega arith;
  room = omega (arith, g.room);
  inside = omega (arith, g.room);
  size = refl;
}

module _ {table terminals nonterminals row₀ : List ℕ} {end : ℕ} {row : List ℕ} {to at : ℕ} (p : Putting table terminals nonterminals row₀ end row to at)
    (h : at < length table) where
  next : Next table at p.rest
  next = next-of table at p.rest h p.ahead

  -- the rule at the place is whole
  pub put_whole : at + 2 + get_or table (at + 1) 0 ≤ length table
  put_whole = omega (arith, next.whole, next.count)

  module _ (k : ℕ) (q : k ≡ get_or table (at + 1) 0) where
    -- its entries
    abbrev part : List ℕ
    part = take (at + 2 + k - at) (drop at table)

    part_is : part ≡ encode (next.first ∷ [])
    part_is =
        let z : at + 2 + k - at ≡ 2 + length next.first.right = omega (arith, q, next.count) in
        ap (λ (j : ℕ). take j (drop at table)) z ∙ next.entries

    part-size : length part ≡ 2 + k
    part-size = ap length part_is ∙ (omega (arith, (one-rule (encode (next.first ∷ [])) next.first refl).size, q, next.count))

    -- they can be put into the row
    pub put_ready : RuleReady terminals nonterminals part row to
    put_ready = record {
      rule = next.first;
      entries_are = part_is;
      recoding = p.recoding next.first (subst (Mem next.first) (sym next.rest_is) here);
      room = omega (arith, part-size, p.room, put_whole, q);
    }

    -- the rule as it is put
    abbrev now-rule : Rule
    now-rule = recoded_rule limits terminals nonterminals next.first

    now_size : length now-rule.right ≡ k
    now_size = omega (arith, length-map next.first.right (recoded limits terminals nonterminals), next.count, q)

    module _ (row' : List ℕ) (done : RulePut terminals nonterminals part row to row') where
      put_now : Put row to now-rule row'
      put_now = put_one row row' to (length part) now-rule put_ready.room (omega (arith, part-size, now_size)) (done next.first part_is)

      -- it can be looked for among the robot's
      pub put-before : RulesBefore row' end to k
      put-before = record {
        rules = p.robot;
        front = put_now.front end p.low ∙ p.front;
        inside = omega (arith, put_now.size, p.low, p.inside);
        whole = omega (arith, put_now.size, put_ready.room, part-size);
      }

      -- what is found there is what the contract asks
      among : is_among (rule_at row' to k) (decode (take end row')) ≡ is_among now-rule p.robot
      among =
          ap₂ is_among (ap (rule_at row' to) (sym now_size) ∙ put_now.rule) (ap decode (put_now.front end p.low ∙ p.front) ∙ decode-encode p.robot)

      abbrev before : List Rule
      before = added_rules p.robot (map (recoded_rule limits terminals nonterminals) p.past)

      added_now : added_rules p.robot (map (recoded_rule limits terminals nonterminals) (p.past ++ (next.first ∷ [])))
          ≡ before ++ choose (is_among now-rule p.robot) [] (now-rule ∷ [])
      added_now =
          ap (added_rules p.robot) (map-append (recoded_rule limits terminals nonterminals) p.past (next.first ∷ []))
          ∙ added-rules_snoc p.robot (map (recoded_rule limits terminals nonterminals) p.past) now-rule

      -- the row up to where the next rule goes
      taken : (c : Bool) → take (choose c to (to + 2 + k)) row' ≡ encode (p.robot ++ (before ++ choose c [] (now-rule ∷ [])))
      taken true = put_now.front to (omega arith) ∙ p.put ∙ ap (λ (rs : List Rule). encode (p.robot ++ rs)) (sym (append-nil before))
      taken false =
          ap (λ (j : ℕ). take (to + 2 + j) row') (sym now_size) ∙ put_now.whole ∙ ap (λ (l : List ℕ). l ++ encode (now-rule ∷ [])) p.put
          ∙ sym (encode_append (p.robot ++ before) (now-rule ∷ [])) ∙ ap encode (append_assoc p.robot before (now-rule ∷ []))

      place-low : (c : Bool) → (to ≤ choose c to (to + 2 + k)) × (choose c to (to + 2 + k) ≤ to + 2 + k)
      place-low true = (omega arith, omega arith)
      place-low false = (omega arith, omega arith)

      -- one rule more
      pub put-more : (to' : ℕ) → to' ≡ choose (is_among (rule_at row' to k) (decode (take end row'))) to (to + 2 + k)
          → Putting table terminals nonterminals row₀ end row' to' (at + (2 + k))
      put-more to' e =
          let c = is_among now-rule p.robot in
          let s : to' ≡ choose c to (to + 2 + k) = e ∙ ap (λ (c : Bool). choose c to (to + 2 + k)) among in
          let l = place-low c in
          let z : at + (2 + k) ≡ at + 2 + length next.first.right = omega (arith, q, next.count) in
          record {
            past = p.past ++ (next.first ∷ []);
            rest = next.after;
            robot = p.robot;
            table_is =
                p.table_is
                ∙ ap encode (ap (λ (rs : List Rule). p.past ++ rs) next.rest_is ∙ sym (append_assoc p.past (next.first ∷ []) next.after));
            ahead = ap (λ (j : ℕ). drop j table) z ∙ next.onward;
            recoding = λ r m. p.recoding r (subst (Mem r) (sym next.rest_is) (there m));
            first = p.first;
            front = put_now.front end p.low ∙ p.front;
            put = ap (λ (j : ℕ). take j row') s ∙ taken c ∙ ap (λ (rs : List Rule). encode (p.robot ++ rs)) (sym added_now);
            low = omega (arith, s, l.0, p.low);
            room = omega (arith, s, l.1, p.room, put_now.size);
            inside = omega (arith, s, l.1, put-before.whole);
            size = put_now.size ∙ p.size;
          }

-- there is no rule left
none_left : (table : List ℕ) (at : ℕ) (rest : List Rule) → length table ≤ at → drop at table ≡ encode rest → rest ≡ []
unfolding encode
none_left table at [] h e = refl
none_left table at (r ∷ rs) h e =
    let z : length (drop at table) ≡ suc (suc (length (r.right ++ encode rs))) = ap length e in
    absurd (omega (arith, z, length-drop at table))

encode_one : (xs ys : List Rule) → encode xs ≡ encode ys → xs ≡ ys
encode_one xs ys e = sym (decode-encode xs) ∙ ap decode e ∙ decode-encode ys

-- all of them are put
pub put-end : {table terminals nonterminals row₀ : List ℕ} {end : ℕ} {row : List ℕ} {to at : ℕ} → Putting table terminals nonterminals row₀ end row to at
    → length table ≤ at → RulesPut table terminals nonterminals row₀ end row to
put-end {table} {terminals} {nonterminals} {row₀} {end} {row} {to} {at} p h = record {
  put = λ rules robot e f.
      p.put ∙ ap₂ (λ (xs ys : List Rule). encode (xs ++ added_rules xs (map (recoded_rule limits terminals nonterminals) ys)))
      (encode_one p.robot robot (sym p.first ∙ f))
      (sym (append-nil p.past) ∙ ap (λ (rs : List Rule). p.past ++ rs) (sym (none_left table at p.rest h p.ahead))
      ∙ encode_one (p.past ++ p.rest) rules (sym p.table_is ∙ e));
  inside = p.inside;
}
