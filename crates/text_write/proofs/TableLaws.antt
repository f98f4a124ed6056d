-- The walk over a whole table whose codes have names, rule by rule. The rules from offset o on are `decode (drop o table)`.
-- Assumes nothing.
use Prim.Native.Nat.{ℕ, zero, suc, ◌+◌, ◌-◌, ◌≤◌, ◌<◌}
use mathlib.Core.Path.{◌≡◌, ap, ap₂, sym, subst, ◌∙◌}
use mathlib.Core.List.{List, [], ◌∷◌}
use mathlib.Core.Logic.{◌⊎◌, inl, inr}
use native.Mathlib.Omega.{arith}
use native.Mathlib.Nat.{add-sub_cancel_left}
use lib.ListN.{length, take, drop, get_or, length-drop, drop_of_length-le}
use lib.Seq.{take-length}
use Rattle.grammar.specs.Basics.{Mem, here, there}
use Rattle.grammar.specs.Limits.{limits}
use Rattle.grammar.specs.Grammar.{Terminal, Nonterminal, Rule, Grammar}
use Rattle.grammar.specs.Table.{encode, decode}
use Rattle.grammar.specs.Refusal.{done}
use Rattle.grammar.specs.TableCheck.{check_table}
use Rattle.grammar.proofs.Rules.{rule_path, decode-encode, stands}
use Rattle.grammar.proofs.WellFormed.{Taken, room}
use Rattle.grammar.proofs.Sentence.{takes_only}
use Rattle.text.specs.Read.{symbol_of}
use Rattle.text.proofs.Names.{left_number, right_number}
use Rattle.text_write.specs.Clauses.{Known, Coded}

-- what stands at an offset before the table's end, where the code has read the length k
pub record Turn (t m : ℕ) (table : List ℕ) (o k : ℕ) : Type 0 where
  pub whole : o + 2 + k ≤ length table
  pub rules : decode (drop o table)
      ≡ record { left = get_or table o 0; right = take (o + 2 + k - (o + 2)) (drop (o + 2) table) } ∷ decode (drop (o + 2 + k) table)
  pub known : Known t m (get_or table o 0 ∷ take (o + 2 + k - (o + 2)) (drop (o + 2) table))
  pub next : Coded t m (drop (o + 2 + k) table)

turn-of : (t m : ℕ) (table : List ℕ) (o k : ℕ) (rules : List Rule) → o < length table → k ≡ get_or table (o + 1) 0
    → drop o table ≡ encode rules → ((r : Rule) → Mem r rules → Known t m (r.left ∷ r.right)) → Turn t m table o k
unfolding encode
turn-of t m table o k [] h z e known =
    let l : length (drop o table) ≡ 0 = ap length e in
    absurd (omega (arith, length-drop o table))
turn-of t m table o k (r ∷ rs) h z e known =
    let s = stands table (length table) o r rs (omega arith) (ap (drop o) (take-length table) ∙ e) in
    let c : k ≡ length r.right = z ∙ s.count in
    let x : Rule = record { left = get_or table o 0; right = take (o + 2 + k - (o + 2)) (drop (o + 2) table) } in
    let q : x ≡ r = rule_path s.head (ap (λ j. take j (drop (o + 2) table)) (add-sub_cancel_left (o + 2) k ∙ c) ∙ s.body) in
    let n : drop (o + 2 + k) table ≡ encode rs
    = ap (λ j. drop (o + 2 + j) table) c ∙ sym (ap (drop (o + 2 + length r.right)) (take-length table)) ∙ s.onward in
    let d : decode (drop (o + 2 + k) table) ≡ rs = ap decode n ∙ decode-encode rs in
    record {
      whole = omega (arith, s.whole, c);
      rules = ap decode e ∙ decode-encode (r ∷ rs) ∙ ap₂ (λ (r : Rule) (rs : List Rule). r ∷ rs) (sym q) (sym d);
      known = subst (λ (r : Rule). Known t m (r.left ∷ r.right)) (sym q) (known r here);
      next = record {
        whole = ap encode d ∙ sym n;
        known = λ r i. known r (there (subst (Mem r) d i));
      };
    }

pub turn : {t m : ℕ} {table : List ℕ} {o : ℕ} (k : ℕ) → Coded t m (drop o table) → o < length table → k ≡ get_or table (o + 1) 0
    → Turn t m table o k
turn {t} {m} {table} {o} k c h z = turn-of t m table o k (decode (drop o table)) h z (sym c.whole) c.known

-- the right side's codes have names
pub known-right : {t m x : ℕ} {xs : List ℕ} → Known t m (x ∷ xs) → Known t m xs
known-right k = record { few = k.few; each = λ i h. k.each (suc i) (omega arith) }

-- past the table's end there is no rule
pub no_rules : (table : List ℕ) (o : ℕ) → length table ≤ o → decode (drop o table) ≡ []
unfolding encode
no_rules table o h = ap decode (drop_of_length-le table h) ∙ decode-encode []

-- a code that the check takes has a name
known_of : (t n : ℕ) (r : Rule) → t ≤ limits.max_terminals → Nonterminal limits n r.left
    → ((x : ℕ) → Mem x r.right → Terminal t x ⊎ Nonterminal limits n x) → Known t (t + n) (r.left ∷ r.right)
known_of t n r h left codes = record { few = h; each = λ i k. at (r.left ∷ r.right) all i k }
  where
    all : (x : ℕ) → Mem x (r.left ∷ r.right) → (1 ≤ x) × (symbol_of limits t x < t + n)
    all x here = (omega (arith, left.0), (left_number limits t (omega arith) n x left).high)
    all x (there i) = go (codes x i)
      where
        go : Terminal t x ⊎ Nonterminal limits n x → (1 ≤ x) × (symbol_of limits t x < t + n)
        go (inl d) = (d.0, (right_number limits t (omega arith) n x (inl d)).high)
        go (inr d) = (omega (arith, d.0), (right_number limits t (omega arith) n x (inr d)).high)

    at : (xs : List ℕ) → ((x : ℕ) → Mem x xs → (1 ≤ x) × (symbol_of limits t x < t + n)) → (i : ℕ) → i < length xs
        → (1 ≤ get_or xs i 0) × (symbol_of limits t (get_or xs i 0) < t + n)
    at [] f i k = absurd (omega arith)
    at (x ∷ xs) f zero k = f x here
    at (x ∷ xs) f (suc i) k = at xs (λ y m. f y (there m)) i (omega arith)

-- a table that passes the check is whole, and its codes have names; its rules are those of the grammar
pub record Passed (t n : ℕ) (table : List ℕ) (G : Grammar) : Type 0 where
  pub coded : Coded t (t + n) table
  pub rules : decode table ≡ G.rules
  pub taken : Taken limits t n table G

pub passed : (t n : ℕ) (table : List ℕ) (G : Grammar) → check_table limits t n table ≡ done G → Passed t n table G
passed t n table G e =
    let k = takes_only limits room t n table G e in
    let w = k.well_formed in
    let d : decode table ≡ G.rules = ap decode k.table ∙ decode-encode G.rules in
    let q : G.terminals ≡ t = k.terminals in
    let j : G.nonterminals ≡ n = k.nonterminals in
    record {
      coded = record {
        whole = ap encode d ∙ sym k.table;
        known = λ r m.
            let i = subst (Mem r) d m in
            known_of t n r (omega (arith, w.terminals)) (subst (λ n. Nonterminal limits n r.left) j (w.lefts r i))
            (λ x y. subst (λ n. Terminal t x ⊎ Nonterminal limits n x) j
            (subst (λ t. Terminal t x ⊎ Nonterminal limits G.nonterminals x) q (w.codes r i x y)));
      };
      rules = d;
      taken = k;
    }

-- its symbols are within the limits
pub symbols-most : (t n : ℕ) (table : List ℕ) (G : Grammar) → check_table limits t n table ≡ done G
    → t + n ≤ limits.max_terminals + limits.max_nonterminals
symbols-most t n table G e =
    let w = (passed t n table G e).taken in
    omega (arith, w.terminals, w.nonterminals, w.well_formed.terminals, w.well_formed.nonterminals)
