-- A rule looked for among those of the row's first entries. Assumes nothing.
use Prim.Native.Nat.{ℕ, suc, ◌+◌, ◌≤◌, ◌<◌}
use mathlib.Core.Path.{◌≡◌, refl, ap, sym, ◌∙◌}
use mathlib.Core.Bool.{Bool, true, false, ◌||◌}
use mathlib.Core.List.{List, [], ◌∷◌, ◌++◌}
use native.Mathlib.Omega.{arith}
use lib.ListN.{length, take, drop, get_or, length-drop}
use lib.Seq.{length-take-le}
use Rattle.grammar.specs.Grammar.{Rule}
use Rattle.grammar.specs.Table.{encode, decode, rule_at}
use Rattle.grammar.specs.TableCheck.{same_rule, is_among}
use Rattle.grammar.proofs.Rules.{decode-encode, Stands, stands, stands-rule}
use Rattle.joining.specs.RuleRows.{RulesBefore}

-- the rules from place o on are still to be compared with the one of length k
pub record Seeking (row : List ℕ) (end at k o : ℕ) : Type 0 where
  pub rest : List Rule
  pub ahead : drop o (take end row) ≡ encode rest
  pub same : is_among (rule_at row at k) rest ≡ is_among (rule_at row at k) (decode (take end row))

-- at first all of them
pub seek_start : {row : List ℕ} {end at k : ℕ} → RulesBefore row end at k → Seeking row end at k 0
seek_start {row} {end} {at} {k} b = record {
  rest = b.rules;
  ahead = b.front;
  same = ap (is_among (rule_at row at k)) (sym (ap decode b.front ∙ decode-encode b.rules));
}

-- the rule at place o, and those behind it
record Turn (row : List ℕ) (end at k o : ℕ) : Type 0 where
  first : Rule
  after : List Rule
  here : Stands row end o first after
  same : is_among (rule_at row at k) (first ∷ after) ≡ is_among (rule_at row at k) (decode (take end row))

turn-of : (row : List ℕ) (end at k o : ℕ) (rest : List Rule) → end ≤ length row → o < end → drop o (take end row) ≡ encode rest
    → is_among (rule_at row at k) rest ≡ is_among (rule_at row at k) (decode (take end row)) → Turn row end at k o
unfolding encode
turn-of row end at k o [] w h e s =
    let z : length (drop o (take end row)) ≡ 0 = ap length e in
    absurd (omega (arith, length-drop o (take end row), length-take-le end row w))
turn-of row end at k o (r ∷ rs) w h e s = record { first = r; after = rs; here = stands row end o r rs w e; same = s }

seek_turn : {row : List ℕ} {end at k o : ℕ} → RulesBefore row end at k → Seeking row end at k o → o < end → Turn row end at k o
seek_turn {row} {end} {at} {k} {o} b s h = turn-of row end at k o s.rest b.inside h s.ahead s.same

-- it stands whole before the end
pub seek_whole : {row : List ℕ} {end at k o : ℕ} → RulesBefore row end at k → Seeking row end at k o → o < end → o + 2 + get_or row (o + 1) 0 ≤ end
seek_whole b s h = let t = seek_turn b s h in omega (arith, t.here.whole, t.here.count)

-- an equal one is found
pub seek_found : {row : List ℕ} {end at k o : ℕ} (m : ℕ) → RulesBefore row end at k → Seeking row end at k o → o < end → m ≡ get_or row (o + 1) 0
    → same_rule (rule_at row o m) (rule_at row at k) ≡ true → true ≡ is_among (rule_at row at k) (decode (take end row))
unfolding is_among
seek_found {row} {end} {at} {k} {o} m b s h q e =
    let t = seek_turn b s h in
    let p : rule_at row o m ≡ t.first = ap (rule_at row o) q ∙ stands-rule t.here in
    sym (ap (λ (c : Bool). c || is_among (rule_at row at k) t.after) (ap (λ (r : Rule). same_rule r (rule_at row at k)) (sym p) ∙ e)) ∙ t.same

-- one that differs is left behind
pub seek_more : {row : List ℕ} {end at k o : ℕ} (m : ℕ) → RulesBefore row end at k → Seeking row end at k o → o < end → m ≡ get_or row (o + 1) 0
    → same_rule (rule_at row o m) (rule_at row at k) ≡ false → Seeking row end at k (o + (2 + m))
unfolding is_among
seek_more {row} {end} {at} {k} {o} m b s h q e =
    let t = seek_turn b s h in
    let p : rule_at row o m ≡ t.first = ap (rule_at row o) q ∙ stands-rule t.here in
    let n : o + (2 + m) ≡ o + 2 + length t.first.right = omega (arith, q, t.here.count) in
    record {
      rest = t.after;
      ahead = ap (λ (j : ℕ). drop j (take end row)) n ∙ t.here.onward;
      same = sym (ap (λ (c : Bool). c || is_among (rule_at row at k) t.after) (ap (λ (r : Rule). same_rule r (rule_at row at k)) (sym p) ∙ e)) ∙ t.same;
    }

end-of : (row : List ℕ) (end o : ℕ) (r : Rule) (rest : List Rule) → end ≤ length row → end ≤ o → drop o (take end row) ≡ encode rest → false ≡ is_among r rest
unfolding is_among encode
end-of row end o r [] w h e = refl
end-of row end o r (x ∷ xs) w h e =
    let z : length (drop o (take end row)) ≡ suc (suc (length (x.right ++ encode xs))) = ap length e in
    absurd (omega (arith, z, length-drop o (take end row), length-take-le end row w))

-- none is left
pub seek_end : {row : List ℕ} {end at k o : ℕ} → RulesBefore row end at k → Seeking row end at k o → end ≤ o
    → false ≡ is_among (rule_at row at k) (decode (take end row))
seek_end {row} {end} {at} {k} {o} b s h = end-of row end o (rule_at row at k) s.rest b.inside h s.ahead ∙ s.same
