-- The walk over a block's rules, forwards turn by turn, and what it says of the block. Assumes nothing.
use Prim.Native.Nat.{ℕ, zero, suc, ◌+◌, ◌-◌, ◌≤◌, ◌<◌}
use mathlib.Core.Path.{◌≡◌, refl, ap, ap₂, sym, ◌∙◌}
use mathlib.Core.Bool.{Bool, true, false, ◌&&◌}
use mathlib.Core.List.{List, [], ◌∷◌, ◌++◌, append_assoc}
use mathlib.Core.Option.{Option, none, some}
use mathlib.Core.Logic.{inl, inr}
use native.Mathlib.Omega.{arith}
use lib.Dec.{leb}
use lib.ListN.{length, get_or, take, drop, length-drop, length-append}
use lib.Seq.{length-take-le, drop-drop, take-add, drop-append_seam}
use borrow.Author.Tests.{le-leb, lt-leb, leb-true, lt-ltb, le-ltb}
use Rattle.grammar.specs.Basics.{choose}
use Rattle.grammar.specs.Grammar.{Rule}
use Rattle.grammar.specs.Table.{encode, decode, length_at, rule_at}
use Rattle.grammar.proofs.Answers.{and_both, and_false}
use Rattle.grammar.proofs.Lists.{lt_or_le, drop-next}
use Rattle.grammar.proofs.Rules.{decode-encode, reads}
use Rattle.drafts.specs.Row.{is_whole, walk, end_of, rules_to, rules_in, image}

-- ---- turn by turn

less : (m i : ℕ) → i < m → m - i ≡ suc (m - (i + 1))
less m i h = omega arith

pub walk_more : (m i at : ℕ) (block : List ℕ) → i < m → at + 2 + length_at block at ≤ length block
    → walk (m - i) block at ≡ walk (m - (i + 1)) block (at + 2 + length_at block at)
unfolding walk
walk_more m i at block h k =
    let j : at + 2 ≤ length block = omega (arith, k) in
    rw (less m i h) (simp (le-leb (at + 2) (length block) j, le-leb (at + 2 + length_at block at) (length block) k))

pub walk-short : (m i at : ℕ) (block : List ℕ) → i < m → length block - at < 2 → at ≤ length block → walk (m - i) block at ≡ none
unfolding walk
walk-short m i at block h k l =
    let j : length block < at + 2 = omega (arith, k, l) in
    rw (less m i h) (simp (lt-leb (at + 2) (length block) j))

pub walk_cut : (m i at : ℕ) (block : List ℕ) → i < m → at + 2 ≤ length block → length block - (at + 2) < length_at block at → walk (m - i) block at ≡ none
unfolding walk
walk_cut m i at block h k l =
    let j : length block < at + 2 + length_at block at = omega (arith, k, l) in
    rw (less m i h) (simp (le-leb (at + 2) (length block) k, lt-leb (at + 2 + length_at block at) (length block) j))

pub walk_end : (m i at : ℕ) (block : List ℕ) → i ≡ m → walk (m - i) block at ≡ some at
unfolding walk
walk_end m i at block e = let z : m - i ≡ 0 = omega (arith, e) in rw z refl

pub end_walks : (block : List ℕ) → 1 ≤ get_or block 0 0 → end_of block ≡ walk (get_or block 0 0 - 1) block 1
unfolding end_of
end_walks block h = simp (lt-ltb 0 (get_or block 0 0) h)

pub end_none : (block : List ℕ) → get_or block 0 0 < 1 → end_of block ≡ none
unfolding end_of
end_none block h = let z : get_or block 0 0 ≤ 0 = omega (arith, h) in simp (le-ltb 0 (get_or block 0 0) z)

pub no_entry : (block : List ℕ) → length block < 1 → get_or block 0 0 < 1
no_entry [] h = omega arith
no_entry (x ∷ xs) h = absurd (omega (arith, h))

-- ---- what the walk says

pub no_end : {A : Type 0} {e : ℕ} → none ≡ some e → A
no_end {e = e} q = let z : ◌≡◌ {A = ℕ} 0 1 = cc in absurd (let o : ⊥ = omega arith in o)

pub some_inj : {A : Type 0} {a b : A} → some a ≡ some b → a ≡ b
some_inj {a = a} {b = b} q = cc

-- m rules stand in a block from one place to another
pub record Walked (block : List ℕ) (m at end : ℕ) : Type 0 where
  pub rules : List Rule
  pub count : length rules ≡ m
  pub table : take (end - at) (drop at block) ≡ encode rules
  pub order : at ≤ end
  pub within : end ≤ length block

pub walked : (m : ℕ) (block : List ℕ) (at end : ℕ) → at ≤ length block → walk m block at ≡ some end → Walked block m at end
unfolding walk encode
walked zero block at end h e =
    let z : at ≡ end = some_inj e in
    let y : end - at ≡ 0 = omega (arith, z) in
    record { rules = []; count = refl; table = ap (λ (n : ℕ). take n (drop at block)) y; order = omega (arith, z); within = omega (arith, z, h) }
walked (suc m) block at end h e = go (is_whole block at) refl (λ l q. walked m block (at + 2 + length_at block at) end l q)
  where
    go : (b : Bool) → is_whole block at ≡ b
        → (at + 2 + length_at block at ≤ length block → walk m block (at + 2 + length_at block at) ≡ some end → Walked block m (at + 2 + length_at block at) end)
        → Walked block (suc m) at end
    go false q rest = no_end (ap (λ (b : Bool). choose b (walk m block (at + 2 + length_at block at)) none) (sym q) ∙ e)
    go true q rest =
        let k = length_at block at in
        let w = and_both (leb (at + 2) (length block)) (leb (at + 2 + k) (length block)) q in
        let l : at + 2 + k ≤ length block = leb-true (at + 2 + k) (length block) w.1 in
        let r = rest l (ap (λ (b : Bool). choose b (walk m block (at + 2 + k)) none) (sym q) ∙ e) in
        let d1 = length-drop (at + 2) block in
        let o = r.order in
        let sz : length (take k (drop (at + 2) block)) ≡ k = length-take-le k (drop (at + 2) block) (omega (arith, d1, l)) in
        let cut : end - at ≡ suc (suc (k + (end - (at + 2 + k)))) = omega (arith, o) in
        let p1 : drop at block ≡ get_or block at 0 ∷ drop (at + 1) block = drop-next block at (omega (arith, l)) in
        let p2 : drop (at + 1) block ≡ k ∷ drop (at + 1 + 1) block = drop-next block (at + 1) (omega (arith, l)) in
        let p3 : at + 1 + 1 ≡ at + 2 = omega arith in
        let p4 : drop at block ≡ get_or block at 0 ∷ k ∷ drop (at + 2) block = p1 ∙ ap (λ (l : List ℕ). get_or block at 0 ∷ l) (p2 ∙ ap (λ (j : ℕ). k ∷ drop j block) p3) in
        record {
          rules = rule_at block at k ∷ r.rules;
          count = ap suc r.count;
          table =
              ap₂ (λ (n : ℕ) (l : List ℕ). take n l) cut p4
              ∙ ap (λ (l : List ℕ). get_or block at 0 ∷ k ∷ l)
              (take-add k (end - (at + 2 + k)) (drop (at + 2) block)
              ∙ ap (λ (l : List ℕ). take k (drop (at + 2) block) ++ take (end - (at + 2 + k)) l) (drop-drop k (at + 2) block)
              ∙ ap (λ (l : List ℕ). take k (drop (at + 2) block) ++ l) r.table)
              ∙ ap (λ (n : ℕ). get_or block at 0 ∷ n ∷ (take k (drop (at + 2) block) ++ encode r.rules)) (sym sz);
          order = omega (arith, o);
          within = r.within;
        }

-- a block that holds rules: they stand in front, after their number
pub record Held (block : List ℕ) (end : ℕ) : Type 0 where
  pub rules : List Rule
  pub found : rules_in block ≡ some rules
  pub front : take end block ≡ image rules
  pub size : end ≡ 1 + length (encode rules)
  pub within : end ≤ length block

pub held-block : (block : List ℕ) (end : ℕ) → end_of block ≡ some end → Held block end
held-block block end e = elim (lt_or_le (get_or block 0 0) 1) [
  | inl b ↦ no_end (sym (end_none block b) ∙ e)
  | inr b ↦ go b
]
  where
    go : 1 ≤ get_or block 0 0 → Held block end
    go b =
        let l : 1 ≤ length block = elim (lt_or_le (length block) 1) [ inl s ↦ absurd (omega (arith, no_entry block s, b)) | inr s ↦ s ] in
        let w = walked (get_or block 0 0 - 1) block 1 end l (sym (end_walks block b) ∙ e) in
        let o = w.order in
        let n = w.count in
        let z : length (take (end - 1) (drop 1 block)) ≡ end - 1 = length-take-le (end - 1) (drop 1 block) (omega (arith, length-drop 1 block, w.within)) in
        let y : length (take (end - 1) (drop 1 block)) ≡ length (encode w.rules) = ap length w.table in
        let c : get_or block 0 0 ≡ length w.rules + 1 = omega (arith, n, b) in
        let p : drop 0 block ≡ get_or block 0 0 ∷ drop (0 + 1) block = drop-next block 0 l in
        let q : end ≡ suc (end - 1) = omega (arith, o) in
        record {
          rules = w.rules;
          found = ap (rules_to block) e ∙ ap some (ap decode w.table ∙ decode-encode w.rules);
          front = ap₂ (λ (n : ℕ) (l : List ℕ). take n l) q p ∙ ap₂ (λ (x : ℕ) (l : List ℕ). x ∷ l) c w.table;
          size = omega (arith, o, y, z);
          within = w.within;
        }

pub held_none : (block : List ℕ) → end_of block ≡ none → rules_in block ≡ none
held_none block e = ap (rules_to block) e

-- ---- the code's walk

pub walk_start : (block : List ℕ) (cell : ℕ) → cell ≡ get_or block 0 0 → 1 ≤ cell → walk (cell - 1 - 0) block 1 ≡ end_of block
walk_start block cell e h =
    let z : cell - 1 - 0 ≡ get_or block 0 0 - 1 = omega (arith, e) in
    ap (λ (m : ℕ). walk m block 1) z ∙ sym (end_walks block (omega (arith, e, h)))

pub walk-on : (m i at k : ℕ) (block : List ℕ) → i < m → k ≡ length_at block at → at + 2 + k ≤ length block → walk (m - i) block at ≡ end_of block
    → walk (m - (i + 1)) block (at + 2 + k) ≡ end_of block
walk-on m i at k block h e l q =
    ap (λ (n : ℕ). walk (m - (i + 1)) block (at + 2 + n)) e ∙ sym (walk_more m i at block h (omega (arith, e, l))) ∙ q

-- ---- so many rules are whole

-- a rule that is not whole ends the walk, wherever it is cut
cut_first : (m at : ℕ) (block : List ℕ) → length block < at + 2 + length_at block at → walk (suc m) block at ≡ none
unfolding walk
cut_first m at block h =
    ap (λ (b : Bool). choose (leb (at + 2) (length block) && b) (walk m block (at + 2 + length_at block at)) none) (lt-leb (at + 2 + length_at block at) (length block) h)
    ∙ ap (λ (b : Bool). choose b (walk m block (at + 2 + length_at block at)) none) (and_false (leb (at + 2) (length block)))

pub walk-whole : (m i at e : ℕ) (block : List ℕ) → i < m → walk (m - i) block at ≡ some e → at + 2 + length_at block at ≤ length block
walk-whole m i at e block h q = elim (lt_or_le (length block) (at + 2 + length_at block at)) [
  | inr b ↦ b
  | inl b ↦ no_end (sym (ap (λ (n : ℕ). walk n block at) (less m i h) ∙ cut_first (m - (i + 1)) at block b) ∙ q)
]

pub walk-next : (m i at k : ℕ) (block : List ℕ) (o : Option ℕ) → i < m → k ≡ length_at block at → at + 2 + k ≤ length block → walk (m - i) block at ≡ o
    → walk (m - (i + 1)) block (at + 2 + k) ≡ o
walk-next m i at k block o h e l q =
    ap (λ (n : ℕ). walk (m - (i + 1)) block (at + 2 + n)) e ∙ sym (walk_more m i at block h (omega (arith, e, l))) ∙ q

-- rules that stand in a block are walked over
pub walk-along : (m : ℕ) (block : List ℕ) (at : ℕ) (rs : List Rule) (tail : List ℕ) → m ≤ length rs → drop at block ≡ encode rs ++ tail
    → walk m block at ≡ some (at + length (encode (take m rs)))
unfolding walk encode
walk-along zero block at rs tail h e = let z : at ≡ at + 0 = omega arith in ap some z
walk-along (suc m) block at [] tail h e = absurd (omega (arith, h))
walk-along (suc m) block at (r ∷ rs) tail h e =
    let k = length r.right in
    let w = (r.right ++ encode rs) ++ tail in
    let g = reads block at r.left k w e in
    let n1 = length-append (r.right ++ encode rs) tail in
    let n2 = length-append r.right (encode rs) in
    let n3 = length-append r.right (encode (take m rs)) in
    let s = g.size in
    let c : length_at block at ≡ k = g.second in
    let j : at + 2 ≤ length block = omega (arith, s) in
    let l : at + 2 + k ≤ length block = omega (arith, s, n1, n2) in
    let d : drop (at + 2 + k) block ≡ encode rs ++ tail
    = sym (drop-drop k (at + 2) block) ∙ ap (drop k) (g.rest ∙ append_assoc r.right (encode rs) tail) ∙ drop-append_seam r.right (encode rs ++ tail) in
    let z : at + 2 + k + length (encode (take m rs)) ≡ at + suc (suc (length (r.right ++ encode (take m rs)))) = omega (arith, n3) in
    simp (c, le-leb (at + 2) (length block) j, le-leb (at + 2 + k) (length block) l) (walk-along m block (at + 2 + k) rs tail (omega (arith, h)) d ∙ ap some z)
