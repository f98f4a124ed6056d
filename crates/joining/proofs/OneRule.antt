-- One rule of the module put into a row: its entries, and the row with them. Assumes nothing.
use Prim.Native.Nat.{ℕ, suc, ◌+◌, ◌-◌, ◌≤◌}
use mathlib.Core.Path.{◌≡◌, refl, ap, ap₂, sym, ◌∙◌}
use mathlib.Core.List.{List, [], ◌∷◌, ◌++◌, map, append-nil, append_assoc}
use native.Mathlib.Omega.{arith}
use native.Mathlib.Nat.{add-zero}
use lib.ListN.{length, take, drop, get_or, set, length-map}
use lib.Seq.{paste, paste-zero, paste-suc, take-paste, drop-paste, length-paste, take-add, drop-drop, take_all}
use lib.Seq.{take-take, drop_at, take-append-le, length-take-le}
use Rattle.grammar.specs.Grammar.{Rule}
use Rattle.grammar.specs.Table.{encode, rule_at}
use Rattle.grammar.proofs.Rules.{stands, stands-rule}

-- these are a rule's entries
pub record Entries (entries : List ℕ) (r : Rule) : Type 0 where
  pub size : length entries ≡ 2 + length r.right
  pub head : get_or entries 0 0 ≡ r.left
  pub count : get_or entries 1 0 ≡ length r.right
  pub body : take (length entries - 2) (drop 2 entries) ≡ r.right

pub one-rule : (entries : List ℕ) (r : Rule) → entries ≡ encode (r ∷ []) → Entries entries r
unfolding encode
one-rule entries r e =
    let s : entries ≡ r.left ∷ length r.right ∷ r.right = e ∙ ap (λ (l : List ℕ). r.left ∷ length r.right ∷ l) (append-nil r.right) in
    let n : length entries ≡ suc (suc (length r.right)) = ap length s in
    record {
      size = omega (arith, n);
      head = ap (λ (l : List ℕ). get_or l 0 0) s;
      count = ap (λ (l : List ℕ). get_or l 1 0) s;
      body = ap (λ (l : List ℕ). take (length entries - 2) (drop 2 l)) s ∙ take_all (length entries - 2) r.right (omega arith);
    }

-- a paste goes on where another one ended
paste-on : (row : List ℕ) (at : ℕ) (s : List ℕ) (m n : ℕ) → at ≤ length row → m ≤ length s
    → paste (paste row at s m) (at + m) (drop m s) n ≡ paste row at s (m + n)
paste-on row at s m n h l =
    let w : at + m + n ≡ at + (m + n) = omega arith in
    ap (λ (x : List ℕ). x ++ take n (drop m s) ++ drop (at + m + n) (paste row at s m)) (take-paste row at s m h l)
    ∙ ap (λ (x : List ℕ). take at row ++ take m s ++ take n (drop m s) ++ x)
    (sym (drop-drop n (at + m) (paste row at s m)) ∙ ap (drop n) (drop-paste row at s m h l) ∙ drop-drop n (at + m) row ∙ ap (λ (k : ℕ). drop k row) w)
    ∙ ap (λ (x : List ℕ). x ++ drop (at + (m + n)) row)
    (append_assoc (take at row) (take m s) (take n (drop m s)) ∙ ap (λ (x : List ℕ). take at row ++ x) (sym (take-add m n s)))

-- two entries set
two_set : (row : List ℕ) (at x y : ℕ) (w : List ℕ) → at + 2 ≤ length row → set (set row at x) (at + 1) y ≡ paste row at (x ∷ y ∷ w) 2
two_set row at x y w h =
    let s : List ℕ = x ∷ y ∷ w in
    ap (λ (l : List ℕ). set l (at + 1) y)
    (ap₂ (λ (l : List ℕ) (k : ℕ). set l k x) (paste-zero row at s) (sym (add-zero at)) ∙ paste-suc row at s 0 0 (omega arith) (omega arith))
    ∙ paste-suc row at s 1 0 (omega arith) (omega arith)

-- the left code, the length, then the right side's codes
pub rule-put : (f : ℕ → ℕ) (row entries : List ℕ) (at x : ℕ) (r : Rule) → Entries entries r → at + length entries ≤ length row → x ≡ f r.left
    → (row' : List ℕ)
    → row' ≡ paste (set (set row at x) (at + 1) (get_or entries 1 0)) (at + 2)
    (map f (take (length entries - 2) (drop 2 entries))) (length (take (length entries - 2) (drop 2 entries)))
    → row' ≡ paste row at (encode (record { left = f r.left; right = map f r.right } ∷ [])) (length entries)
unfolding encode
rule-put f row entries at x r e h q row' p =
    let k = length r.right in
    let s : List ℕ = f r.left ∷ k ∷ map f r.right in
    let two : set (set row at x) (at + 1) (get_or entries 1 0) ≡ paste row at s 2
    = ap₂ (λ (a b : ℕ). set (set row at a) (at + 1) b) q e.count ∙ two_set row at (f r.left) k (map f r.right) (omega (arith, e.size)) in
    let full : s ≡ f r.left ∷ length (map f r.right) ∷ (map f r.right ++ [])
    = ap₂ (λ (n : ℕ) (l : List ℕ). f r.left ∷ n ∷ l) (sym (length-map r.right f)) (sym (append-nil (map f r.right))) in
    p ∙ ap₂ (λ (old codes : List ℕ). paste old (at + 2) (map f codes) (length codes)) two e.body
    ∙ paste-on row at s 2 k (omega (arith, e.size)) (omega arith)
    ∙ ap₂ (λ (l : List ℕ) (n : ℕ). paste row at l n) full (sym e.size)

-- a row into which a rule was put
pub record Put (row : List ℕ) (to : ℕ) (r : Rule) (row' : List ℕ) : Type 0 where
  pub size : length row' ≡ length row
  pub front : (m : ℕ) → m ≤ to → take m row' ≡ take m row
  pub whole : take (to + 2 + length r.right) row' ≡ take to row ++ encode (r ∷ [])
  pub rule : rule_at row' to (length r.right) ≡ r

pub put_one : (row row' : List ℕ) (to n : ℕ) (r : Rule) → to + n ≤ length row → n ≡ 2 + length r.right
    → row' ≡ paste row to (encode (r ∷ [])) n → Put row to r row'
put_one row row' to n r h q e =
    let s = encode (r ∷ []) in
    let k = length r.right in
    let l : length s ≡ 2 + k = (one-rule s r refl).size in
    let size : length row' ≡ length row = ap length e ∙ length-paste row to s n h (omega (arith, l, q)) in
    let whole : take (to + n) row' ≡ take to row ++ s
    = ap (take (to + n)) e
    ∙ take-paste row to s n (omega arith) (omega (arith, l, q)) ∙ ap (λ (x : List ℕ). take to row ++ x) (take_all n s (omega (arith, l, q))) in
    let f : length (take to row) ≡ to = length-take-le to row (omega arith) in
    let g = stands row' (to + n) to r [] (omega (arith, size)) (ap (drop to) whole ∙ drop_at (take to row) s to f) in
    let w : to + 2 + k ≡ to + n = omega (arith, q) in
    record {
      size = size;
      front = λ m j.
          sym (take-take m (to + n) row' (omega arith)) ∙ ap (take m) whole ∙ take-append-le m (take to row) s (omega (arith, f, j)) ∙ take-take m to row j;
      whole = ap (λ (j : ℕ). take j row') w ∙ whole;
      rule = ap (rule_at row' to) (sym g.count) ∙ stands-rule g;
    }
