-- The listed moves of a state have no doubles.
-- Assumes nothing.
use Prim.Native.Nat.{ℕ, ◌+◌, ◌≤◌}
use mathlib.Core.Path.{◌≡◌, refl, sym, ap, ◌∙◌}
use mathlib.Core.Bool.{Bool, ◌&&◌}
use mathlib.Core.List.{List, [], ◌∷◌}
use native.Mathlib.Omega.{arith}
use lib.Dec.{eqb}
use lib.ListN.{length}
use Rattle.grammar.specs.Basics.{Mem, Distinct, none, when, each}
use Rattle.grammar.specs.Limits.{Limits}
use Rattle.grammar.specs.Grammar.{Rule, Grammar, rule}
use Rattle.automaton.specs.Items.{base}
use Rattle.automaton.specs.PositionMoves.{rules_of, completed, past, ahead_row, ahead, openings, closings}
use Rattle.triple_laws.proofs.Members.{only_one, under-test, of-each, of_map}
use Rattle.triple_laws.proofs.Members.{distinct_one, distinct_append, distinct_when, distinct_each, distinct_map}
use Rattle.triple_laws.proofs.Rows.{Run, run-rules, base-next, length_as, rules-out, ends-out, past-out, pasts}

past_distinct : (b p : ℕ) (xs : List ℕ) → Distinct (past b p xs)
unfolding past
past_distinct b p [] = none
past_distinct b p (x ∷ xs) =
    distinct_append (when (eqb x b) ((p + 1) ∷ [])) (past b (p + 1) xs)
    (distinct_when (eqb x b) ((p + 1) ∷ []) (distinct_one (p + 1)))
    (past_distinct b (p + 1) xs)
    (λ q h k.
    let e = only_one ((under-test (eqb x b) ((p + 1) ∷ [])).0 h).1 in
    let o = past-out b (p + 1) xs q k in
    let z = o.2 in
    omega arith)

module _ (L : Limits) (G : Grammar) (taken : ℕ → Bool) where
  rules_distinct : (b n p : ℕ) (l : List Rule) → Run L G taken n l → p ≡ base L G n → Distinct (rules_of taken b n p l)
  unfolding rules_of
  rules_distinct b n p [] e z = none
  rules_distinct b n p (r ∷ l) e z =
      let w = length_as L G taken r n e.0 in
      let y : p + length r.right + 1 ≡ base L G (n + 1) = omega (arith, base-next L G taken n) in
      distinct_append (when (taken n && eqb r.left b) ((n, p) ∷ [])) (rules_of taken b (n + 1) (p + length r.right + 1) l)
      (distinct_when (taken n && eqb r.left b) ((n, p) ∷ []) (distinct_one (n, p)))
      (rules_distinct b (n + 1) (p + length r.right + 1) l e.1 y)
      (λ a h k.
      let c = ap (λ (c : ℕ × ℕ). c.0) (only_one ((under-test {A = ℕ × ℕ} (taken n && eqb r.left b) ((n, p) ∷ [])).0 h).1) in
      let o = rules-out L G taken b (n + 1) (p + length r.right + 1) l e.1 y a.0 a.1 k in
      omega arith)

  ends_distinct : (c n p : ℕ) (l : List Rule) → Run L G taken n l → p ≡ base L G n → Distinct (completed taken c n p l)
  unfolding completed
  ends_distinct c n p [] e z = none
  ends_distinct c n p (r ∷ l) e z =
      let w = length_as L G taken r n e.0 in
      let y : p + length r.right + 1 ≡ base L G (n + 1) = omega (arith, base-next L G taken n) in
      let t = taken n && eqb (p + length r.right) c in
      distinct_append (when t ((n, r.left) ∷ [])) (completed taken c (n + 1) (p + length r.right + 1) l)
      (distinct_when t ((n, r.left) ∷ []) (distinct_one (n, r.left)))
      (ends_distinct c (n + 1) (p + length r.right + 1) l e.1 y)
      (λ a h k.
      let d = ap (λ (c : ℕ × ℕ). c.0) (only_one ((under-test {A = ℕ × ℕ} t ((n, r.left) ∷ [])).0 h).1) in
      let o = ends-out L G taken c (n + 1) (p + length r.right + 1) l e.1 y a.0 a.1 k in
      omega arith)

  -- no opening of a state is listed twice
  pub openings_distinct : (p : ℕ) → Distinct (openings L G taken p)
  unfolding openings base rule
  openings_distinct p =
      distinct_append (when (taken 0 && eqb p 0) ((0, 2) ∷ [])) (rules_of taken (ahead L G taken p) 1 4 G.rules)
      (distinct_when (taken 0 && eqb p 0) ((0, 2) ∷ []) (distinct_one (0, 2)))
      (rules_distinct (ahead L G taken p) 1 4 G.rules (run-rules L G taken) refl)
      (λ a h k.
      let c = ap (λ (c : ℕ × ℕ). c.0) (only_one ((under-test {A = ℕ × ℕ} (taken 0 && eqb p 0) ((0, 2) ∷ [])).0 h).1) in
      let o = rules-out L G taken (ahead L G taken p) 1 4 G.rules (run-rules L G taken) refl a.0 a.1 k in
      omega arith)

  -- no closing of a state is listed twice
  pub closings_distinct : (p : ℕ) → Distinct (closings L G taken p)
  unfolding closings base rule
  closings_distinct p =
      distinct_append (when (taken 0 && eqb p 3) ((0, 1) ∷ [])) (each ends (pasts (ahead_row L G taken)))
      (distinct_when (taken 0 && eqb p 3) ((0, 1) ∷ []) (distinct_one (0, 1)))
      (distinct_each ends (pasts (ahead_row L G taken)) (ends_distinct p 1 4 G.rules (run-rules L G taken) refl)
      (λ c m. distinct_map (past c.1 0 (ahead_row L G taken)) (λ q. (c.0, q)) (past_distinct c.1 0 (ahead_row L G taken))
      (λ q r e. ap (λ (c : ℕ × ℕ). c.1) e))
      same)
      (λ a h k.
      let c = ap (λ (c : ℕ × ℕ). c.0) (only_one ((under-test {A = ℕ × ℕ} (taken 0 && eqb p 3) ((0, 1) ∷ [])).0 h).1) in
      let o = (of-each ends (pasts (ahead_row L G taken))).0 k in
      let d = ap (λ (c : ℕ × ℕ). c.0) ((of_map {B = ℕ × ℕ} (past o.0.1 0 (ahead_row L G taken)) (λ q. (o.0.0, q))).0 o.2).2 in
      let z = listed o.0 o.1 in
      omega arith)
    where
      ends : List (ℕ × ℕ)
      ends = completed taken p 1 4 G.rules

      listed : (c : ℕ × ℕ) → Mem c ends → (1 ≤ c.0) × (c.1 ≡ (rule L G c.0).left)
      listed c m = let o = ends-out L G taken p 1 4 G.rules (run-rules L G taken) refl c.0 c.1 m in (o.0, o.3)

      same : (a c b : ℕ × ℕ) → Mem a ends → Mem c ends → Mem b (pasts (ahead_row L G taken) a) → Mem b (pasts (ahead_row L G taken) c) → a ≡ c
      same a c b h k u v =
          let x = ap (λ (c : ℕ × ℕ). c.0) ((of_map {B = ℕ × ℕ} (past a.1 0 (ahead_row L G taken)) (λ q. (a.0, q))).0 u).2 in
          let y = ap (λ (c : ℕ × ℕ). c.0) ((of_map {B = ℕ × ℕ} (past c.1 0 (ahead_row L G taken)) (λ q. (c.0, q))).0 v).2 in
          let e : a.0 ≡ c.0 = sym x ∙ y in
          let f : a.1 ≡ c.1 = (listed a h).1 ∙ ap (λ i. (rule L G i).left) e ∙ sym (listed c k).1 in
          λ i. (e i, f i)
