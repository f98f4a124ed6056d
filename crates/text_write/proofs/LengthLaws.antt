-- The length of a printed text is `text_length`; the sums that give it, entry by entry.
-- Assumes nothing.
use Prim.Native.Nat.{ℕ, zero, suc, ◌+◌, ◌-◌, ◌≤◌, ◌<◌}
use mathlib.Core.Path.{◌≡◌, refl, ap, ap₂, ◌∙◌}
use mathlib.Core.List.{List, [], ◌∷◌, ◌++◌, map}
use native.Mathlib.Omega.{arith}
use native.Mathlib.Numerals.{add-one}
use borrow.Author.Tests.{lt-ltb, le-ltb}
use lib.ListN.{length, take, drop, get_or, length-append, length-drop, take-append-drop, drop_of_length-le}
use lib.Seq.{drop-cons, slice, slice_empty, take_all, length-take-le}
use Rattle.grammar.specs.Limits.{limits}
use Rattle.grammar.specs.Grammar.{Rule}
use Rattle.text.specs.Pieces.{led_by, join, ended_by}
use Rattle.text.specs.Read.{symbol_of}
use Rattle.text.specs.Print.{print_line, name_of, print_rule, printed}
use Rattle.text.specs.Promise.{name_lengths}
use Rattle.text.proofs.Sizes.{line-size, key_sizes}
use Rattle.text_write.specs.Length.{led_length, join_length, code_length, rule_length, rules_length, text_length}
use Rattle.text_write.specs.Clauses.{text_of}

-- ---- the symbol number of a code

pub symbol_low : (t code : ℕ) → code < limits.nonterminal_base → symbol_of limits t code ≡ code - 1
unfolding symbol_of
symbol_low t code h = rw (lt-ltb code limits.nonterminal_base h)

pub symbol_high : (t code : ℕ) → limits.nonterminal_base ≤ code → symbol_of limits t code ≡ t + (code - limits.nonterminal_base)
unfolding symbol_of
symbol_high t code h = rw (le-ltb code limits.nonterminal_base h)

-- ---- the sums

module _ (ls : List ℕ) (i : ℕ) where
  pub led-more : i < length ls → led_length (drop i ls) ≡ get_or ls i 0 + 1 + led_length (drop (i + 1) ls)
  unfolding led_length
  led-more h = ap led_length (drop-cons ls i 0 h) ∙ rw (add-one i)

  pub led-none : length ls ≤ i → led_length (drop i ls) ≡ 0
  unfolding led_length
  led-none h = ap led_length (drop_of_length-le ls h)

-- no byte stands before the first; the others are the part that the code takes
pub join_more : (ls : List ℕ) → 1 ≤ length ls → join_length ls ≡ get_or ls 0 0 + led_length (take (length ls - 1) (drop 1 ls))
unfolding join_length
join_more [] h = absurd (omega arith)
join_more (l ∷ ls) h = let q : take (length (l ∷ ls) - 1) ls ≡ ls = take_all _ ls (omega arith) in rw q

pub join-none : (ls : List ℕ) → length ls < 1 → join_length ls ≡ 0
unfolding join_length
join-none [] h = refl
join-none (l ∷ ls) h = absurd (omega arith)

-- a slice that ends where it begins is empty
pub slice-none : {A : Type 0} (xs : List A) (i to : ℕ) → i ≤ to → to ≤ i → slice i to xs ≡ []
slice-none xs i to h k = let q : to ≡ i = omega arith in ap (λ j. slice i j xs) q ∙ slice_empty i xs

module _ (t : ℕ) (lengths codes : List ℕ) (i : ℕ) where
  pub codes-more : i < length codes → led_length (map (code_length limits t lengths) (drop i codes))
      ≡ get_or lengths (symbol_of limits t (get_or codes i 0)) 0 + 1 + led_length (map (code_length limits t lengths) (drop (i + 1) codes))
  unfolding led_length code_length
  codes-more h = ap (λ xs. led_length (map (code_length limits t lengths) xs)) (drop-cons codes i 0 h) ∙ rw (add-one i)

  pub codes-none : length codes ≤ i → led_length (map (code_length limits t lengths) (drop i codes)) ≡ 0
  unfolding led_length
  codes-none h = ap (λ xs. led_length (map (code_length limits t lengths) xs)) (drop_of_length-le codes h)

module _ (t : ℕ) (lengths : List ℕ) where
  pub rules-more : (rules : List Rule) (r : Rule) (rs : List Rule) → rules ≡ r ∷ rs → rules_length limits t lengths rules
      ≡ 7 + get_or lengths (symbol_of limits t r.left) 0 + led_length (map (code_length limits t lengths) r.right) + rules_length limits t lengths rs
  unfolding rules_length rule_length code_length
  rules-more rules r rs e = ap (rules_length limits t lengths) e

  pub rules-none : (rules : List Rule) → rules ≡ [] → rules_length limits t lengths rules ≡ 0
  unfolding rules_length
  rules-none rules e = ap (rules_length limits t lengths) e

  -- with the rows that the code cuts
  pub text-sum : (rules : List Rule) → text_length limits t lengths rules
      ≡ 25 + join_length (take t lengths) + join_length (take (length lengths - t) (drop t lengths))
      + rules_length limits t lengths rules
  unfolding text_length
  text-sum rules =
      let q : take (length lengths - t) (drop t lengths) ≡ drop t lengths
      = take_all _ (drop t lengths) (omega (arith, length-drop t lengths)) in
      rw q

-- ---- the printed text

length-led : (c : ℕ) (ps : List (List ℕ)) → length (led_by c ps) ≡ led_length (name_lengths ps)
unfolding led_by led_length name_lengths
length-led c [] = refl
length-led c (p ∷ ps) = omega (arith, length-append p (led_by c ps), length-led c ps)

length-join : (c : ℕ) (ps : List (List ℕ)) → length (join c ps) ≡ join_length (name_lengths ps)
unfolding join join_length name_lengths
length-join c [] = refl
length-join c (p ∷ ps) = omega (arith, length-append p (led_by c ps), length-led c ps)

lengths-take : (ps : List (List ℕ)) (i : ℕ) → name_lengths (take i ps) ≡ take i (name_lengths ps)
unfolding name_lengths
lengths-take ps zero = refl
lengths-take [] (suc i) = refl
lengths-take (p ∷ ps) (suc i) = ap (λ xs. length p ∷ xs) (lengths-take ps i)

lengths-drop : (ps : List (List ℕ)) (i : ℕ) → name_lengths (drop i ps) ≡ drop i (name_lengths ps)
unfolding name_lengths
lengths-drop ps zero = refl
lengths-drop [] (suc i) = refl
lengths-drop (p ∷ ps) (suc i) = lengths-drop ps i

lengths-at : (ps : List (List ℕ)) (i : ℕ) → length (get_or ps i []) ≡ get_or (name_lengths ps) i 0
unfolding name_lengths
lengths-at [] i = refl
lengths-at (p ∷ ps) zero = refl
lengths-at (p ∷ ps) (suc i) = lengths-at ps i

module _ (t : ℕ) (names : List (List ℕ)) where
  code-size : (code : ℕ) → length (name_of limits t names code) ≡ code_length limits t (name_lengths names) code
  unfolding name_of code_length
  code-size code = lengths-at names (symbol_of limits t code)

  codes-size : (codes : List ℕ) → name_lengths (map (name_of limits t names) codes)
      ≡ map (code_length limits t (name_lengths names)) codes
  unfolding name_lengths
  codes-size [] = refl
  codes-size (x ∷ xs) = ap₂ (λ (y : ℕ) (ys : List ℕ). y ∷ ys) (code-size x) (codes-size xs)

  rule-size : (r : Rule) → length (print_rule limits t names r) + 1 ≡ rule_length limits t (name_lengths names) r
  unfolding print_rule rule_length
  rule-size r =
      let x = name_of limits t names r.left in
      let ps = map (name_of limits t names) r.right in
      let b : length (led_by 32 ps) ≡ led_length (map (code_length limits t (name_lengths names)) r.right)
      = length-led 32 ps ∙ ap led_length (codes-size r.right) in
      omega (arith, line-size 2 (x ++ 58 ∷ led_by 32 ps), key_sizes.2, length-append x (58 ∷ led_by 32 ps), code-size r.left, b)

  rules-size : (rules : List Rule) → length (ended_by 10 (map (print_rule limits t names) rules))
      ≡ rules_length limits t (name_lengths names) rules
  unfolding ended_by rules_length
  rules-size [] = refl
  rules-size (r ∷ rs) =
      omega (
        arith,
        length-append (print_rule limits t names r) (10 ∷ ended_by 10 (map (print_rule limits t names) rs)),
        rule-size r,
        rules-size rs,
      )

  lines-size : (u : ℕ) (xs ys : List (List ℕ)) (rules : List Rule)
      → length (ended_by 10 (print_line 0 (join 44 xs) ∷ print_line 1 (join 44 ys) ∷ map (print_rule limits u names) rules))
      ≡ 25 + length (join 44 xs) + length (join 44 ys) + length (ended_by 10 (map (print_rule limits u names) rules))
  unfolding ended_by
  lines-size u xs ys rules =
      let a = print_line 0 (join 44 xs) in
      let b = print_line 1 (join 44 ys) in
      let more = ended_by 10 (map (print_rule limits u names) rules) in
      omega (
        arith,
        length-append a (10 ∷ (b ++ 10 ∷ more)),
        length-append b (10 ∷ more),
        line-size 0 (join 44 xs),
        line-size 1 (join 44 ys),
        key_sizes.0,
        key_sizes.1,
      )

  -- the text of names, of which t are terminals, line by line
  pub text-lines : (rules : List Rule) → t ≤ length names → text_of t names rules
      ≡ ended_by 10 (print_line 0 (join 44 (take t names)) ∷ print_line 1 (join 44 (drop t names)) ∷ map (print_rule limits t names) rules)
  unfolding printed
  text-lines rules h =
      ap₂ (λ (u : ℕ) (all : List (List ℕ)).
      ended_by 10 (print_line 0 (join 44 (take t names)) ∷ print_line 1 (join 44 (drop t names)) ∷ map (print_rule limits u all) rules))
      (length-take-le t names h) (take-append-drop t names)

  -- the length of a printed text is the sum
  pub printed-length : (rules : List Rule) → t ≤ length names → length (text_of t names rules)
      ≡ text_length limits t (name_lengths names) rules
  unfolding text_length
  printed-length rules h =
      let a : length (join 44 (take t names)) ≡ join_length (take t (name_lengths names))
      = length-join 44 (take t names) ∙ ap join_length (lengths-take names t) in
      let b : length (join 44 (drop t names)) ≡ join_length (drop t (name_lengths names))
      = length-join 44 (drop t names) ∙ ap join_length (lengths-drop names t) in
      omega (arith, ap length (text-lines rules h), lines-size t (take t names) (drop t names) rules, a, b, rules-size rules)
