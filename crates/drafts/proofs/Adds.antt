-- A rule added past the draft's last one. Assumes nothing.
use Prim.Native.Nat.{ℕ, suc, ◌+◌, ◌≤◌, ◌<◌}
use mathlib.Core.Path.{◌≡◌, refl, ap, ap₂, sym, ◌∙◌}
use mathlib.Core.Bool.{Bool, true, false}
use mathlib.Core.List.{List, [], ◌∷◌, ◌++◌}
use native.Mathlib.Omega.{arith}
use lib.Dec.{ltb}
use lib.ListN.{length, get_or, set, take, drop, length-drop, length-append, take-append-drop}
use lib.Seq.{paste, take-append_seam, drop-append_seam, length-take-le, take-take, take_at}
use borrow.Author.Tests.{ltb-true, le-ltb, lt-ltb}
use Rattle.grammar.specs.Limits.{limits}
use Rattle.grammar.specs.Grammar.{Rule}
use Rattle.grammar.specs.Table.{encode, decode, rule_at}
use Rattle.grammar.specs.Refusal.{done, refused, refuse_unless, and_then, too_many_rules}
use Rattle.grammar.specs.TableCheck.{next_rule}
use Rattle.grammar.proofs.Answers.{unless_done, then-goes, then_stops}
use Rattle.grammar.proofs.Rules.{decode-encode}
use Rattle.grammar.proofs.Lists.{drop-next}
use Rattle.grammar.proofs.Steps.{next-done, read_done}
use Rattle.grammar.specs.declared.Cause.{Cause}
use Rattle.table_check.proofs.RecordLaws.{encode-more}
use Rattle.table_check.specs.Clauses.{next_or_full}
use Rattle.drafts.specs.Draft.{Draft, add, with_rules, add_rule, taken}
use Rattle.drafts.specs.Row.{draft_with, draft_in, splice, stepped}
use Rattle.drafts.specs.Edits.{add_read, Appendable, appended, entries_read, longest, open_row}
use Rattle.drafts.proofs.Unread.{unread_longest}
use Rattle.drafts.proofs.Removals.{cell-counts, shape}
use Rattle.drafts.proofs.Opens.{open_done, step-done, step-refused}

pub looked_cut : (m : ℕ) → longest < m → longest ≡ entries_read m
looked_cut m h = simp (lt-ltb longest m h)

pub looked-all : (m : ℕ) → m ≤ longest → m ≡ entries_read m
looked-all m h = simp (le-ltb longest m h)

-- the rule that is read is the one that is added
table_reads : (d : Draft) (entries : List ℕ) → let table = encode d.rules ++ entries in let at = length (encode d.rules) in
    add_rule limits d entries ≡ and_then (next_or_full d.terminals d.nonterminals table (length d.rules) at) (λ k. done (with_rules d (d.rules ++ (rule_at table at k ∷ []))))
unfolding add_rule refuse_unless and_then
table_reads d entries =
    let table = encode d.rules ++ entries in
    let at = length (encode d.rules) in
    let q : decode (take at table) ≡ d.rules = ap decode (take-append_seam (encode d.rules) entries) ∙ decode-encode d.rules in
    go (ltb (length d.rules) limits.max_rules) table at (decode (take at table)) q
  where
    go : (b : Bool) (table : List ℕ) (at : ℕ) (rs : List Rule) → rs ≡ d.rules
        → refuse_unless too_many_rules at b (and_then (next_rule limits d.terminals d.nonterminals table d.rules at) (λ k. done (with_rules d (d.rules ++ (rule_at table at k ∷ [])))))
        ≡ and_then (refuse_unless too_many_rules at b (next_rule limits d.terminals d.nonterminals table rs at)) (λ k. done (with_rules d (d.rules ++ (rule_at table at k ∷ []))))
    go true table at rs q = ap (λ (l : List Rule). and_then (next_rule limits d.terminals d.nonterminals table l at) (λ k. done (with_rules d (d.rules ++ (rule_at table at k ∷ []))))) (sym q)
    go false table at rs q = refl

-- of the first entries alone
add_reads : (d : Draft) (entries : List ℕ) → let table = encode d.rules ++ take longest entries in let at = length (encode d.rules) in
    add_rule limits d entries ≡ and_then (next_or_full d.terminals d.nonterminals table (length d.rules) at) (λ k. done (with_rules d (d.rules ++ (rule_at table at k ∷ []))))
add_reads d entries = sym (unread_longest limits d entries) ∙ table_reads d (take longest entries)

-- a fault is the step's
pub add_fault : (row : List ℕ) (end : ℕ) (entries : List ℕ) (c : Cause) (p : ℕ) → open_row row ≡ done end → add_read row entries ≡ refused c p → stepped row (add entries) ≡ refused c p
unfolding add_read taken
add_fault row end entries c p e q =
    let o = open_done row end e in
    let d = draft_with row o.block.rules in
    step-refused row (add entries) d c p o.held (add_reads d entries ∙ then_stops _ _ c p (sym (then-goes (draft_in row) _ d o.held) ∙ q))

-- ---- the row with the rule

take_short : (n : ℕ) (xs : List ℕ) → length (take n xs) ≤ length xs
take_short n xs = let a = length-append (take n xs) (drop n xs) in let b : length (take n xs ++ drop n xs) ≡ length xs = ap length (take-append-drop n xs) in omega (arith, a, b)

-- lists: X written past E
put-past : (a b x y : ℕ) (E T X es : List ℕ) (m : ℕ) → take m es ≡ X → length X ≡ m
    → let row = a ∷ b ∷ x ∷ (E ++ T) in set (paste row (3 + length E) es m) 2 y ≡ splice row 2 (y ∷ (E ++ X))
put-past a b x y E T X es m e l =
    let row = a ∷ b ∷ x ∷ (E ++ T) in
    let P = a ∷ b ∷ x ∷ E in
    let n : length P ≡ 3 + length E = (let z : suc (suc (suc (length E))) ≡ 3 + length E = omega arith in z) in
    let k = length-append E X in
    let q : 3 + length E + m ≡ 2 + suc (length (E ++ X)) = omega (arith, k, l) in
    ap (λ (l : List ℕ). set (l ++ take m es ++ drop (3 + length E + m) row) 2 y) (take_at P T (3 + length E) n)
    ∙ ap (λ (l : List ℕ). set (P ++ l ++ drop (3 + length E + m) row) 2 y) e
    ∙ ap (λ (j : ℕ). (a ∷ b ∷ y ∷ (E ++ X)) ++ drop j row) q

pub record Added (row : List ℕ) (end : ℕ) (entries : List ℕ) (k : ℕ) : Type 0 where
  pub fits : Appendable row end entries k
  pub leads : stepped row (add entries) ≡ done (appended row end entries k)

pub add_done : (row : List ℕ) (end : ℕ) (entries : List ℕ) (k : ℕ) → open_row row ≡ done end → add_read row entries ≡ done k → Added row end entries k
unfolding add_read taken
add_done row end entries k e q =
    let o = open_done row end e in
    let rs = o.block.rules in
    let d = draft_with row rs in
    let t = d.terminals in
    let n = d.nonterminals in
    let E = encode rs in
    let table = E ++ take longest entries in
    let at = length E in
    let r = rule_at table at k in
    let s : next_or_full t n table (length rs) at ≡ done k = sym (then-goes (draft_in row) _ d o.held) ∙ q in
    let u = unless_done too_many_rules at (ltb (length rs) limits.max_rules) (next_rule limits t n table (decode (take at table)) at) k s in
    let x = next-done limits t n table (decode (take at table)) at k u.1 in
    let w = read_done limits t n table at k x.read in
    let w1 = w.whole in
    let w2 = w.few in
    let w3 = w.count in
    let c : length rs < limits.max_rules = ltb-true (length rs) limits.max_rules u.0 in
    let n1 = length-append E (take longest entries) in
    let n2 = take_short longest entries in
    let cell : get_or row 2 0 ≡ length rs + 1 = cell-counts row end e in
    let z = o.block.size in
    let f = o.block.few in
    let room = o.room in
    let right : length r.right ≡ k = length-take-le k (drop (at + 2) table) (omega (arith, length-drop (at + 2) table, w1)) in
    let j1 : drop at table ≡ get_or table at 0 ∷ drop (at + 1) table = drop-next table at (omega (arith, w1)) in
    let j2 : drop (at + 1) table ≡ get_or table (at + 1) 0 ∷ drop (at + 1 + 1) table = drop-next table (at + 1) (omega (arith, w1)) in
    let j3 : at + 1 + 1 ≡ at + 2 = omega arith in
    let front : take longest entries ≡ r.left ∷ k ∷ drop (at + 2) table
    = sym (drop-append_seam E (take longest entries)) ∙ j1 ∙ ap (λ (l : List ℕ). r.left ∷ l) (j2 ∙ ap₂ (λ (a b : ℕ). a ∷ drop b table) w3 j3) in
    let two : 2 + k ≡ suc (suc k) = omega arith in
    let X = r.left ∷ length r.right ∷ r.right in
    let same : take (2 + k) entries ≡ X
    = sym (take-take (2 + k) longest entries (omega (arith, w2))) ∙ ap₂ (λ (m : ℕ) (l : List ℕ). take m l) two front ∙ ap (λ (m : ℕ). r.left ∷ m ∷ r.right) (sym right) in
    let size : length X ≡ 2 + k = (let y : suc (suc (length r.right)) ≡ 2 + k = omega (arith, right) in y) in
    let m3 : length (rs ++ (r ∷ [])) ≡ length rs + 1 = length-append rs (r ∷ []) in
    let v : get_or row 2 0 + 1 ≡ length (rs ++ (r ∷ [])) + 1 = omega (arith, cell, m3) in
    let from : 2 + end ≡ 3 + length E = omega (arith, z) in
    record {
      fits = record { room = omega (arith, room, f, w2); whole = omega (arith, w1, n1, n2); past = omega (arith, z); count = omega (arith, cell, c) };
      leads = step-done row (add entries) d (with_rules d (rs ++ (r ∷ []))) o.held
          (add_reads d entries ∙ then-goes _ _ k s)
          ∙ ap done (sym (
          ap (λ (m : ℕ). set (paste row m entries (2 + k)) 2 (get_or row 2 0 + 1)) from
          ∙ ap (λ (m : ℕ). set (paste row (3 + length E) entries (2 + k)) 2 m) v
          ∙ ap (λ (l : List ℕ). set (paste l (3 + length E) entries (2 + k)) 2 (length (rs ++ (r ∷ [])) + 1)) (shape row end e)
          ∙ put-past (get_or row 0 0) (get_or row 1 0) (length rs + 1) (length (rs ++ (r ∷ [])) + 1) E (drop end (drop 2 row)) X entries (2 + k) same size
          ∙ ap (λ (l : List ℕ). splice l 2 ((length (rs ++ (r ∷ [])) + 1) ∷ (E ++ X))) (sym (shape row end e))
          ∙ ap (λ (l : List ℕ). splice row 2 ((length (rs ++ (r ∷ [])) + 1) ∷ l)) (sym (encode-more rs r))));
    }
