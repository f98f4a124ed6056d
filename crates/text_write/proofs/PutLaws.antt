-- The printed text in the pieces in which it is written.
-- Assumes nothing.
use Prim.Native.Nat.{ℕ, ◌+◌, ◌≤◌, ◌<◌}
use mathlib.Core.Path.{◌≡◌, ap, sym, ◌∙◌}
use mathlib.Core.List.{List, [], ◌∷◌, ◌++◌, map, append_assoc}
use native.Mathlib.Omega.{arith}
use native.Mathlib.Numerals.{add-one}
use lib.ListN.{length, take, drop, get_or, drop_of_length-le}
use lib.Seq.{slice, slice-cons, take_all}
use Rattle.grammar.specs.Limits.{limits}
use Rattle.grammar.specs.Grammar.{Rule}
use Rattle.grammar.proofs.Lists.{drop-next}
use Rattle.text.specs.Pieces.{led_by, join, ended_by}
use Rattle.text.specs.Keys.{key}
use Rattle.text.specs.Read.{symbol_of}
use Rattle.text.specs.Print.{print_line, name_of, print_rule}
use Rattle.text_write.specs.Clauses.{line_text, codes_text, rule_text, text_of}
use Rattle.text_write.proofs.LengthLaws.{slice-none, text-lines}

-- ---- names in a list

module _ (names : List (List ℕ)) (i to : ℕ) where
  pub led-turn : i < to → to ≤ length names
      → led_by 44 (slice i to names) ≡ (44 ∷ []) ++ (get_or names i [] ++ led_by 44 (slice (i + 1) to names))
  unfolding led_by
  led-turn h k = ap (led_by 44) (slice-cons i to names [] h k) ∙ rw (add-one i)

  pub led-end : i ≤ to → to ≤ i → led_by 44 (slice i to names) ≡ []
  unfolding led_by
  led-end h k = ap (led_by 44) (slice-none names i to h k)

  pub join-turn : i < to → to ≤ length names → join 44 (slice i to names) ≡ get_or names i [] ++ led_by 44 (slice (i + 1) to names)
  unfolding join
  join-turn h k = ap (join 44) (slice-cons i to names [] h k) ∙ rw (add-one i)

  pub join-end : i ≤ to → to ≤ i → join 44 (slice i to names) ≡ []
  unfolding join
  join-end h k = ap (join 44) (slice-none names i to h k)

-- a line
pub line-parts : (k : ℕ) (v : List ℕ) → line_text k v ≡ (key k ++ (61 ∷ [])) ++ (v ++ (10 ∷ []))
unfolding print_line
line-parts k v = append_assoc (key k) (61 ∷ v) (10 ∷ []) ∙ sym (append_assoc (key k) (61 ∷ []) (v ++ (10 ∷ [])))

-- ---- rules

module _ (t : ℕ) (names : List (List ℕ)) where
  pub codes-turn : (codes : List ℕ) (i s : ℕ) → i < length codes → s ≡ symbol_of limits t (get_or codes i 0)
      → codes_text t names (drop i codes) ≡ (32 ∷ []) ++ (get_or names s [] ++ codes_text t names (drop (i + 1) codes))
  unfolding led_by name_of
  codes-turn codes i s h e =
      ap (codes_text t names) (drop-next codes i h)
      ∙ ap (λ s. (32 ∷ []) ++ (get_or names s [] ++ codes_text t names (drop (i + 1) codes))) (sym e)

  pub codes-end : (codes : List ℕ) (i : ℕ) → length codes ≤ i → codes_text t names (drop i codes) ≡ []
  unfolding led_by
  codes-end codes i h = ap (codes_text t names) (drop_of_length-le codes h)

  pub rule-parts : (left s : ℕ) (codes : List ℕ) → s ≡ symbol_of limits t left
      → rule_text t names (record { left = left; right = codes })
      ≡ (key 2 ++ (61 ∷ [])) ++ (get_or names s [] ++ ((58 ∷ []) ++ (codes_text t names codes ++ (10 ∷ []))))
  unfolding print_rule name_of
  rule-parts left s codes e =
      let x = get_or names (symbol_of limits t left) [] in
      let w = codes_text t names codes in
      line-parts 2 (x ++ 58 ∷ w) ∙ ap (λ v. (key 2 ++ (61 ∷ [])) ++ v) (append_assoc x (58 ∷ w) (10 ∷ []))
      ∙ ap (λ s. (key 2 ++ (61 ∷ [])) ++ (get_or names s [] ++ ((58 ∷ []) ++ (w ++ (10 ∷ []))))) (sym e)

  pub rules-turn : (rules : List Rule) (r : Rule) (rs : List Rule) → rules ≡ r ∷ rs
      → ended_by 10 (map (print_rule limits t names) rules)
      ≡ rule_text t names r ++ ended_by 10 (map (print_rule limits t names) rs)
  unfolding ended_by
  rules-turn rules r rs e =
      ap (λ rules. ended_by 10 (map (print_rule limits t names) rules)) e
      ∙ sym (append_assoc (print_rule limits t names r) (10 ∷ []) (ended_by 10 (map (print_rule limits t names) rs)))

  pub rules-end : (rules : List Rule) → rules ≡ [] → ended_by 10 (map (print_rule limits t names) rules) ≡ []
  unfolding ended_by
  rules-end rules e = ap (λ rules. ended_by 10 (map (print_rule limits t names) rules)) e

  -- the whole text
  pub text-parts : (m : ℕ) (rules : List Rule) → length names ≡ m → t ≤ m → text_of t names rules
      ≡ line_text 0 (join 44 (slice 0 t names))
      ++ (line_text 1 (join 44 (slice t m names)) ++ ended_by 10 (map (print_rule limits t names) rules))
  unfolding ended_by
  text-parts m rules e h =
      let a = print_line 0 (join 44 (take t names)) in
      let b = print_line 1 (join 44 (drop t names)) in
      let more = ended_by 10 (map (print_rule limits t names) rules) in
      let q : take m names ≡ names = take_all m names (omega arith) in
      text-lines t names rules (omega arith) ∙ sym (append_assoc a (10 ∷ []) (b ++ 10 ∷ more))
      ∙ ap (λ w. line_text 0 (join 44 (take t names)) ++ w) (sym (append_assoc b (10 ∷ []) more)
      ∙ ap (λ xs. line_text 1 (join 44 (drop t xs)) ++ more) (sym q))
