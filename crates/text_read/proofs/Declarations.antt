-- The two declaring lines: what each way through the code says of the whole text.
-- Assumes nothing.
use Prim.Native.Nat.{ℕ, zero, suc, ◌+◌, ◌-◌, ◌≤◌, ◌<◌}
use mathlib.Core.Path.{◌≡◌, refl, ap, sym, subst, ◌∙◌}
use mathlib.Core.List.{List, [], ◌∷◌}
use mathlib.Core.Option.{some}
use native.Mathlib.Omega.{arith}
use native.Mathlib.Nat.{zero-add}
use lib.ListN.{length, take, drop, length-drop}
use lib.Seq.{drop-drop, length-take-le, take-take}
use Rattle.grammar.specs.Limits.{limits}
use Rattle.grammar.specs.Refusal.{Answer, refused, and_then, malformed}
use Rattle.grammar.proofs.Answers.{then-goes, then_stops}
use Rattle.grammar.specs.declared.Cause.{Cause}
use Rattle.text.specs.Pieces.{split_on}
use Rattle.text.specs.Keys.{key, value_of}
use Rattle.text.specs.Read.{names_of, declaration, whole_line, read_lines}
use Rattle.text.proofs.Pieces.{split_pos}
use Rattle.text.proofs.ReadPrinted.{whole-step}
use Rattle.names.specs.Found.{index, part}
use Rattle.names.proofs.Pieces.{piece_more, piece_last}
use Rattle.text_read.specs.declared.Declared.{Declared}
use Rattle.text_read.specs.declared.Declared.TheVariants.{Names, Fault}
use Rattle.text_read.specs.Values.{HasValue, NamesHeld, NamesAt, DeclaredTold, DeclaredHeld}
use Rattle.text_read.specs.Texts.{read_second, FirstHead, HeadsAt}

-- what the answer of a declaring line tells
module _ (at k lo hi : ℕ) (earlier : List (List ℕ)) (text : List ℕ) (a e : ℕ) (r : Declared) where
  pub told_names : (b count : ℕ) → r ≡ Names b count → DeclaredTold at k lo hi earlier text a e r → NamesAt at k lo hi earlier text a e b count
  told_names b count q t = subst (λ (r : Declared). DeclaredTold at k lo hi earlier text a e r) q t

  pub told_fault : (cause : Cause) (place : ℕ) → r ≡ Fault cause place → DeclaredTold at k lo hi earlier text a e r
      → declaration at k lo hi earlier (part a e text) ≡ refused cause place
  told_fault cause place q t = subst (λ (r : Declared). DeclaredTold at k lo hi earlier text a e r) q t

pub told-held : (text : List ℕ) (e from : ℕ) (starts lengths starts' lengths' links' : List ℕ) (r : Declared) (b count : ℕ) → r ≡ Names b count
    → DeclaredHeld text e from starts lengths starts' lengths' links' r → NamesHeld text b e from starts lengths starts' lengths' links' count
told-held text e from starts lengths starts' lengths' links' r b count q t =
    subst (λ (r : Declared). DeclaredHeld text e from starts lengths starts' lengths' links' r) q t

-- one that lacks its byte 10 is refused
whole-last : {B : Type 0} (at : ℕ) (p : List ℕ) (go : List ℕ → List (List ℕ) → Answer B) → whole_line at (p ∷ []) go ≡ refused malformed at
unfolding whole_line
whole-last at p go = refl

-- the value's part of a line's part of the text
drop-take : (m s : ℕ) (l : List ℕ) → drop s (take m l) ≡ take (m - s) (drop s l)
drop-take m zero l = ap (λ m. take m l) (let q : m ≡ m - 0 = omega arith in q)
drop-take zero (suc s) l = (let q : 0 - suc s ≡ 0 = omega arith in ap (λ m. take m (drop (suc s) l)) (sym q))
drop-take (suc m) (suc s) [] = sym (nil (suc m - suc s))
  where
    nil : (n : ℕ) → take {A = ℕ} n [] ≡ []
    nil zero = refl
    nil (suc n) = refl
drop-take (suc m) (suc s) (x ∷ l) = drop-take m s l ∙ (let q : m - s ≡ suc m - suc s = omega arith in ap (λ m. take m (drop s l)) q)

pub part-part : (text : List ℕ) (a e s : ℕ) → a + s ≤ e → e ≤ length text → part s (length (part a e text)) (part a e text) ≡ part (a + s) e text
part-part text a e s h l =
    let n : length (part a e text) ≡ e - a = length-take-le (e - a) (drop a text) (omega (arith, length-drop a text)) in
    let q : e - a - s ≡ e - (a + s) = omega arith in
    ap (λ m. take (m - s) (drop s (part a e text))) n ∙ ap (take (e - a - s)) (drop-take (e - a) s (drop a text))
    ∙ take-take (e - a - s) (e - a - s) (drop s (drop a text)) (omega arith) ∙ ap (take (e - a - s)) (drop-drop s a text)
    ∙ ap (λ m. take m (drop (a + s) text)) q

-- the value of a line from a to e of the text, at its place in the text
pub line-value : (k : ℕ) (text : List ℕ) (a e start end : ℕ) → a ≤ e → e ≤ length text → HasValue k (part a e text) start end
    → (a + start ≤ e) × (value_of (key k) (part a e text) ≡ some (part (a + start) e text))
line-value k text a e start end l m h =
    let n : length (part a e text) ≡ e - a = length-take-le (e - a) (drop a text) (omega (arith, length-drop a text)) in
    let i : a + start ≤ e = omega (arith, h.inside, h.ends) in
    (i, h.value ∙ ap some (ap (λ m. part start m (part a e text)) h.ends ∙ part-part text a e start i m))

-- ---- the first line

module _ (text : List ℕ) (e : ℕ) (found : e ≡ 0 + index 10 (drop 0 text)) where
  pub first-missing : length text ≤ e → read_lines limits (split_on 10 text) ≡ refused malformed 1
  unfolding read_lines
  first-missing h = ap (read_lines limits) (piece_last 10 text 0 e (omega arith) found h) ∙ whole-last 1 (part 0 e text) _

  module _ (inside : e < length text) where
    first_on : read_lines limits (split_on 10 text)
        ≡ and_then (declaration 1 0 0 limits.max_terminals [] (part 0 e text)) (λ ts. whole_line 2 (split_on 10 (drop (e + 1) text)) (read_second ts))
    unfolding read_lines
    first_on = ap (read_lines limits) (piece_more 10 text 0 e (omega arith) found inside)
        ∙ whole-step 1 (part 0 e text) (split_on 10 (drop (e + 1) text)) _ (split_pos 10 _)

    pub first_fault : (c : Cause) (p : ℕ) → declaration 1 0 0 limits.max_terminals [] (part 0 e text) ≡ refused c p
        → read_lines limits (split_on 10 text) ≡ refused c p
    first_fault c p q = first_on ∙ then_stops _ _ c p q

    pub first-names : (b count : ℕ) → NamesAt 1 0 0 limits.max_terminals [] text 0 e b count → length text ≤ limits.max_text → FirstHead text b e count
    first-names b count n short = record {
      starts = n.starts ∙ zero-add (length (key 0) + 1);
      inside = n.inside;
      ends = inside;
      counts = n.counts;
      most = n.most;
      short = short;
      lines = first_on ∙ then-goes _ _ _ n.read;
    }

-- ---- the second line

module _ (text : List ℕ) (a e t : ℕ) (h : FirstHead text a e t) (f : ℕ) (found : f ≡ e + 1 + index 10 (drop (e + 1) text)) where
  pub second-missing : length text ≤ f → read_lines limits (split_on 10 text) ≡ refused malformed 2
  second-missing k =
      h.lines
      ∙ ap (λ ls. whole_line 2 ls (read_second (names_of (part a e text)))) (piece_last 10 text (e + 1) f (omega (arith, h.ends)) found k)
      ∙ whole-last 2 (part (e + 1) f text) (read_second (names_of (part a e text)))

  module _ (inside : f < length text) where
    second-on : read_lines limits (split_on 10 text)
        ≡ read_second (names_of (part a e text)) (part (e + 1) f text) (split_on 10 (drop (f + 1) text))
    second-on =
        h.lines
        ∙ ap (λ ls. whole_line 2 ls (read_second (names_of (part a e text)))) (piece_more 10 text (e + 1) f (omega (arith, h.ends)) found inside)
        ∙ whole-step 2 (part (e + 1) f text) (split_on 10 (drop (f + 1) text)) (read_second (names_of (part a e text))) (split_pos 10 _)

    pub second_fault : (c : Cause) (p : ℕ) → declaration 2 1 1 limits.max_nonterminals (names_of (part a e text)) (part (e + 1) f text) ≡ refused c p
        → read_lines limits (split_on 10 text) ≡ refused c p
    second_fault c p q = second-on ∙ then_stops _ _ c p q

    pub second-names : (b count : ℕ) → NamesAt 2 1 1 limits.max_nonterminals (names_of (part a e text)) text (e + 1) f b count
        → HeadsAt text a e b f t count
    second-names b count n = record {
      first = h.starts;
      first-inside = h.inside;
      second = n.starts;
      second-inside = n.inside;
      ends = inside;
      terminals = h.counts;
      nonterminals = n.counts;
      terminals-most = h.most;
      nonterminals-most = n.most;
      lines = second-on ∙ then-goes _ _ _ n.read;
    }
