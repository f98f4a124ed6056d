-- Rule lines: what each way through the code says of one line, and of all.
-- Assumes nothing.
use Prim.Native.Nat.{ℕ, zero, suc, ◌+◌, ◌-◌, ◌*◌, ◌≤◌, ◌<◌}
use mathlib.Core.Path.{◌≡◌, refl, ap, ap₂, sym, subst, ◌∙◌}
use mathlib.Core.List.{List, [], ◌∷◌, ◌++◌, append_assoc, append-nil}
use mathlib.Core.Bool.{Bool, true, false}
use mathlib.Core.Option.{none}
use native.Mathlib.Omega.{arith}
use native.Mathlib.Nat.{add-zero}
use borrow.Author.Tests.{eq-eqb, ne_eqb, le-leb, lt-leb, lt-ltb, le-ltb, ltb-true, ltb-false}
use lib.Dec.{ltb}
use lib.ListN.{length, take, drop, length-append, length-map}
use lib.Seq.{append_snoc}
use Rattle.grammar.specs.Basics.{choose}
use Rattle.grammar.specs.Limits.{limits}
use Rattle.grammar.specs.Grammar.{Rule}
use Rattle.grammar.specs.Table.{encode}
use Rattle.grammar.specs.Refusal.{Answer, done, refused, refuse_unless, and_then, rule_too_long, malformed, name_unknown}
use Rattle.grammar.proofs.Answers.{then-goes, then_stops}
use Rattle.grammar.specs.declared.Cause.{Cause}
use Rattle.text.specs.Pieces.{split_on}
use Rattle.text.specs.Names.{all, same_name, place}
use Rattle.text.specs.Keys.{key, value_of}
use Rattle.text.specs.Read.{refuse_none, Sides, sides_of, number_of, is_known, code_of, rule_of, rule_line, rule_lines}
use Rattle.names.specs.Found.{part}
use Rattle.text_read.specs.declared.Kept.{Kept}
use Rattle.text_read.specs.declared.Kept.TheVariants.{Entries, Fault}
use Rattle.text_read.specs.Values.{HasValue}
use Rattle.text_read.specs.Lines.{shaped, known_rule, rule_value, ShapeAt, codes_of, kept, LineReady, RuleKept, KeptTold, RulesKept, kept_rules}
use Rattle.text_read.proofs.Values.{tail-part}

-- ---- one rule of known shape

module _ (at t : ℕ) (names : List (List ℕ)) (v : List ℕ) (colon count : ℕ) (h : ShapeAt v colon count) where
  shape-value : rule_value at t names v ≡ known_rule at t names h.sides
  unfolding rule_value shaped refuse_none refuse_unless
  shape-value = rw (h.cut, h.named)

  pub value-left : is_known t names h.sides.head ≡ false → rule_value at t names v ≡ refused name_unknown at
  unfolding known_rule refuse_unless
  value-left k = shape-value ∙ rw k

  module _ (k : is_known t names h.sides.head ≡ true) where
    pub value-right : all (is_known 0 names) h.sides.body ≡ false → rule_value at t names v ≡ refused name_unknown at
    unfolding known_rule refuse_unless
    value-right b = shape-value ∙ rw (k, b)

    module _ (b : all (is_known 0 names) h.sides.body ≡ true) where
      pub value_many : 12 < count → rule_value at t names v ≡ refused rule_too_long at
      unfolding known_rule refuse_unless
      value_many m = let l : 12 < length h.sides.body = omega (arith, h.counts) in shape-value ∙ rw (k, b, lt-leb (length h.sides.body) 12 l)

      pub value-done : count ≤ 12 → rule_value at t names v ≡ done (rule_of limits t names h.sides)
      unfolding known_rule refuse_unless
      value-done m = let l : length h.sides.body ≤ 12 = omega (arith, h.counts) in shape-value ∙ rw (k, b, le-leb (length h.sides.body) 12 l)

  -- what follows the colon, as the part that the code takes
  pub body-part : split_on 32 (part (colon + 1) (length v) v) ≡ [] ∷ h.sides.body
  body-part = ap (split_on 32) (tail-part v (colon + 1)) ∙ h.body

  pub body_count : count ≡ length (drop 1 (split_on 32 (part (colon + 1) (length v) v)))
  body_count = h.counts ∙ ap (λ ps. length (drop 1 ps)) (sym body-part)

  pub body-all : (p : List ℕ → Bool) → all p (drop 1 (split_on 32 (part (colon + 1) (length v) v))) ≡ all p h.sides.body
  body-all p = ap (λ ps. all p (drop 1 ps)) body-part

-- the head as the part that the code takes
pub head-part : (v : List ℕ) (colon count : ℕ) (h : ShapeAt v colon count) → part 0 colon v ≡ h.sides.head
head-part v colon count h = (let q : colon - 0 ≡ colon = omega arith in ap (λ m. take m v) q) ∙ sym h.head

-- the entries of a rule from its sides
rule-entries : (t : ℕ) (names : List (List ℕ)) (s : Sides) (left count : ℕ) → left ≡ place (same_name s.head) names → count ≡ length s.body
    → encode (rule_of limits t names s ∷ []) ≡ code_of limits t left ∷ count ∷ codes_of t names s.body
unfolding encode rule_of codes_of number_of
rule-entries t names s left count e n =
    rw (← e, append-nil, n, length-map s.body (λ x. code_of limits t (place (same_name x) names)))

rule-size : (t : ℕ) (names : List (List ℕ)) (s : Sides) → length (encode (rule_of limits t names s ∷ [])) ≡ 2 + length s.body
rule-size t names s =
    let n : length (codes_of t names s.body) ≡ length s.body
    = unfold codes_of in length-map s.body (λ x. code_of limits t (number_of names x)) in
    ap length (rule-entries t names s (place (same_name s.head) names) (length s.body) refl refl) ∙ omega arith

kept-some : (k : ℕ) (r : Rule) → k < kept_rules → kept k r ≡ r ∷ []
unfolding kept
kept-some k r h = rw (lt-ltb k kept_rules h)

kept-none : (k : ℕ) (r : Rule) → kept_rules ≤ k → kept k r ≡ []
unfolding kept
kept-none k r h = rw (le-ltb k kept_rules h)

-- a rule that is not kept
pub rule-passed : (o : Answer Rule) (r : Rule) (k end : ℕ) (row row' : List ℕ) → o ≡ done r → kept_rules ≤ k → take end row' ≡ take end row → end ≤ length row'
    → (bytes : ℕ) → RuleKept o k end bytes row row' end
unfolding encode
rule-passed o r k end row row' e h f l bytes =
    let q : encode (kept k r) ≡ [] = ap encode (kept-none k r h) in
    record {
      rule = r;
      read = e;
      used = rw (q, add-zero);
      front = rw (q, append-nil) f;
      most = omega arith;
      behind = omega arith;
      inside = l;
    }

-- one that is
pub rule-kept : (o : Answer Rule) (t : ℕ) (names : List (List ℕ)) (s : Sides) (left count k end : ℕ) (body row row' : List ℕ)
    → split_on 32 body ≡ [] ∷ s.body → o ≡ done (rule_of limits t names s) → left ≡ place (same_name s.head) names → count ≡ length s.body → count ≤ 12 → k < kept_rules
    → end + 2 + count ≤ length row'
    → take (end + 2 + count) row' ≡ take end row ++ (code_of limits t left ∷ count ∷ codes_of t names (drop 1 (split_on 32 body)))
    → (bytes : ℕ) → count + 2 ≤ bytes → RuleKept o k end bytes row row' (end + 2 + count)
rule-kept o t names s left count k end body row row' b e l n m h room f bytes z =
    let r = rule_of limits t names s in
    let q : encode (kept k r) ≡ encode (r ∷ []) = ap encode (kept-some k r h) in
    record {
      rule = r;
      read = e;
      used = omega (arith, ap length q, rule-size t names s);
      front = f ∙ ap (λ ps. take end row ++ (code_of limits t left ∷ count ∷ codes_of t names (drop 1 ps))) b
          ∙ ap (λ xs. take end row ++ xs) (sym (q ∙ rule-entries t names s left count l n));
      most = omega arith;
      behind = omega arith;
      inside = room;
    }

-- ---- one line

module _ (at t : ℕ) (names : List (List ℕ)) where
  pub line-none : (line : List ℕ) → value_of (key 2) line ≡ none → rule_line limits at t names line ≡ refused malformed at
  unfolding rule_line refuse_none
  line-none line o = rw o

  pub line-value : (line : List ℕ) (start end : ℕ) → HasValue 2 line start end → rule_line limits at t names line ≡ rule_value at t names (part start end line)
  unfolding rule_line rule_value shaped known_rule refuse_none
  line-value line start end h = rw h.value

  pub value_shapeless : (v : List ℕ) → ((at : ℕ) (go : Sides → Answer Rule) → shaped at (sides_of (split_on 58 v)) go ≡ refused malformed at)
      → rule_value at t names v ≡ refused malformed at
  unfolding rule_value
  value_shapeless v h = h at (known_rule at t names)

-- what holds before a line holds before a part of it
pub line-rest : {text starts lengths links : List ℕ} {t : ℕ} {row : List ℕ} {k end bytes less : ℕ} → LineReady text starts lengths links t row k end bytes → less ≤ bytes
    → LineReady text starts lengths links t row k end less
line-rest h l = record {
  lexicon = h.lexicon;
  few = h.few;
  most = h.most;
  enough = h.enough;
  near = h.near;
  fits = omega (arith, h.fits);
  inside = h.inside;
}

-- what the answer of a rule's line tells
module _ (o : Answer Rule) (k end bytes : ℕ) (row row' : List ℕ) where
  pub told-kept : (r : Kept) (next : ℕ) → r ≡ Entries next → KeptTold o k end bytes row row' r → RuleKept o k end bytes row row' next
  told-kept r next e t = subst (λ (r : Kept). KeptTold o k end bytes row row' r) e t

  pub told_fault : (r : Kept) (c : Cause) (p : ℕ) → r ≡ Fault c p → KeptTold o k end bytes row row' r → o ≡ refused c p
  told_fault r c p e t = subst (λ (r : Kept). KeptTold o k end bytes row row' r) e t

  -- told of a part of a line, it is told of the line
  pub told_wider : (r : Kept) (more : ℕ) → bytes ≤ more → KeptTold o k end bytes row row' r → KeptTold o k end more row row' r
  told_wider (Fault c p) more l t = t
  told_wider (Entries next) more l t = record {
    rule = t.rule;
    read = t.read;
    used = t.used;
    front = t.front;
    most = t.most;
    behind = omega (arith, t.behind);
    inside = t.inside;
  }

-- ---- all lines

-- rules before those of an answer
unfoldable pub after : List Rule → Answer (List Rule) → Answer (List Rule)
after rules o = and_then o (λ rs. done (rules ++ rs))

after_none : (o : Answer (List Rule)) → after [] o ≡ o
unfolding after and_then
after_none (done rs) = refl
after_none (refused c p) = refl

after_more : (rules : List Rule) (r : Rule) (o : Answer (List Rule)) → after rules (and_then o (λ rs. done (r ∷ rs))) ≡ after (rules ++ (r ∷ [])) o
unfolding after and_then
after_more rules r (done rs) = ap done (sym (append_snoc rules r rs))
after_more rules r (refused c p) = refl

encode_append : (xs ys : List Rule) → encode (xs ++ ys) ≡ encode xs ++ encode ys
unfolding encode
encode_append [] ys = refl
encode_append (x ∷ xs) ys = rw (encode_append xs ys, append_assoc)

-- what is kept of one rule more
take-kept : (m : ℕ) (rs : List Rule) (r : Rule) → take m (rs ++ (r ∷ [])) ≡ take m rs ++ choose (ltb (length rs) m) (r ∷ []) []
take-kept zero rs r = ap (λ b. choose b (r ∷ []) []) (sym (le-ltb (length rs) 0 (omega arith)))
take-kept (suc m) [] r = rw (lt-ltb 0 (suc m) (omega arith)) (ap (λ w. r ∷ w) (none m))
  where
    none : (m : ℕ) → take {A = Rule} m [] ≡ []
    none zero = refl
    none (suc m) = refl
take-kept (suc m) (x ∷ rs) r = ap (λ w. x ∷ w) (take-kept m rs r ∙ ap (λ b. take m rs ++ choose b (r ∷ []) []) (same (ltb (length rs) m) refl))
  where
    same : (b : Bool) → ltb (length rs) m ≡ b → b ≡ ltb (suc (length rs)) (suc m)
    same true e = sym (lt-ltb (suc (length rs)) (suc m) (omega (arith, ltb-true (length rs) m e)))
    same false e = sym (le-ltb (suc (length rs)) (suc m) (omega (arith, ltb-false (length rs) m e)))

-- k rules are read before place a, and what is kept of them stands in the row
pub record Passed (o : Answer (List Rule)) (text : List ℕ) (t : ℕ) (names : List (List ℕ)) (a k end : ℕ) (row : List ℕ) : Type 0 where
  pub rules : List Rule
  pub counts : length rules ≡ k
  pub ahead : o ≡ after rules (rule_lines limits (k + 3) t names (split_on 10 (drop a text)))
  pub used : end ≡ length (encode (take kept_rules rules))
  pub front : take end row ≡ encode (take kept_rules rules)
  pub near : end ≤ 14 * k
  pub behind : end ≤ a
  pub inside : end ≤ length row

module _ (o : Answer (List Rule)) (text : List ℕ) (t : ℕ) (names : List (List ℕ)) where
  -- before the first line
  pub passed_none : (from : ℕ) (row : List ℕ) → o ≡ rule_lines limits 3 t names (split_on 10 (drop from text)) → Passed o text t names from 0 0 row
  unfolding encode
  passed_none from row e = record {
    rules = [];
    counts = refl;
    ahead = e ∙ sym (after_none (rule_lines limits 3 t names (split_on 10 (drop from text))));
    used = refl;
    front = refl;
    near = omega arith;
    behind = omega arith;
    inside = omega arith;
  }

  module _ (a k end : ℕ) (row : List ℕ) (h : Passed o text t names a k end row) (e : ℕ) where
    lines-on : (ls : List (List ℕ)) → split_on 10 (drop a text) ≡ ls → o ≡ after h.rules (rule_lines limits (k + 3) t names ls)
    lines-on ls q = h.ahead ∙ ap (λ ls. after h.rules (rule_lines limits (k + 3) t names ls)) q

    -- past the last line
    pub passed-all : (p : List ℕ) → split_on 10 (drop a text) ≡ p ∷ [] → length p ≡ 0 → RulesKept o row end
    unfolding rule_lines refuse_unless after and_then
    passed-all p q l = record {
      rules = h.rules;
      read = lines-on (p ∷ []) q ∙ rw (eq-eqb (length p) 0 l, append-nil);
      used = h.used;
      front = h.front;
      inside = h.inside;
    }

    -- a last line without its byte 10
    pub passed_open : (p : List ℕ) → split_on 10 (drop a text) ≡ p ∷ [] → (length p ≡ 0 → ⊥) → o ≡ refused malformed (k + 3)
    unfolding rule_lines refuse_unless after and_then
    passed_open p q l = lines-on (p ∷ []) q ∙ rw (ne_eqb (length p) 0 l)

    module _ (p : List ℕ) (qs : List (List ℕ)) (q : split_on 10 (drop a text) ≡ p ∷ qs) (more : 0 < length qs) where
      lines-first : rule_lines limits (k + 3) t names (p ∷ qs)
          ≡ and_then (rule_line limits (k + 3) t names p) (λ r. and_then (rule_lines limits (suc (k + 3)) t names qs) (λ rs. done (r ∷ rs)))
      unfolding rule_lines
      lines-first = go qs more
        where
          go : (qs : List (List ℕ)) → 0 < length qs → rule_lines limits (k + 3) t names (p ∷ qs)
              ≡ and_then (rule_line limits (k + 3) t names p) (λ r. and_then (rule_lines limits (suc (k + 3)) t names qs) (λ rs. done (r ∷ rs)))
          go [] l = absurd (omega arith)
          go (x ∷ qs) l = refl

      -- a line with a fault
      pub passed_fault : (c : Cause) (i : ℕ) → rule_line limits (k + 3) t names p ≡ refused c i → o ≡ refused c i
      unfolding after and_then
      passed_fault c i z =
          lines-on (p ∷ qs) q ∙ ap (after h.rules) (lines-first ∙ then_stops _ _ c i z)

      -- a line with a rule
      pub passed-more : (row' : List ℕ) (next : ℕ) → RuleKept (rule_line limits (k + 3) t names p) k end (length p) row row' next
          → split_on 10 (drop (e + 1) text) ≡ qs → a + length p ≤ e + 1 → Passed o text t names (e + 1) (k + 1) next row'
      passed-more row' next r w l =
          let rule = r.rule in
          let z : suc (k + 3) ≡ k + 1 + 3 = omega arith in
          let m : take kept_rules (h.rules ++ (rule ∷ [])) ≡ take kept_rules h.rules ++ kept k rule
          = take-kept kept_rules h.rules rule ∙ unfold kept in ap (λ n. take kept_rules h.rules ++ choose (ltb n kept_rules) (rule ∷ []) []) h.counts in
          let x : encode (take kept_rules (h.rules ++ (rule ∷ []))) ≡ encode (take kept_rules h.rules) ++ encode (kept k rule)
          = ap encode m ∙ encode_append (take kept_rules h.rules) (kept k rule) in
          record {
            rules = h.rules ++ (rule ∷ []);
            counts = length-append h.rules (rule ∷ []) ∙ ap (λ n. n + 1) h.counts;
            ahead = lines-on (p ∷ qs) q ∙ ap (after h.rules) (lines-first ∙ then-goes _ _ rule r.read)
                ∙ after_more h.rules rule (rule_lines limits (suc (k + 3)) t names qs)
                ∙ ap₂ (λ n ls. after (h.rules ++ (rule ∷ [])) (rule_lines limits n t names ls)) z (sym w);
            used = r.used ∙ ap (λ n. n + length (encode (kept k rule))) h.used
                ∙ sym (ap length x ∙ length-append (encode (take kept_rules h.rules)) (encode (kept k rule)));
            front = r.front ∙ ap (λ w. w ++ encode (kept k rule)) h.front ∙ sym x;
            near = omega (arith, r.most, h.near);
            behind = omega (arith, r.behind, h.behind);
            inside = r.inside;
          }
