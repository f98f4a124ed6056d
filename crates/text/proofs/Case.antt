-- A text in declared spelling differs from the text only in the case of letters, whatever the text; so it is as long.
-- Assumes nothing.
use Prim.Native.Nat.{ℕ}
use mathlib.Core.Path.{◌≡◌, refl, ap, ap₂, sym, ◌∙◌}
use mathlib.Core.List.{List, [], ◌∷◌, ◌++◌, append-nil, map, map-append}
use mathlib.Core.Option.{Option, none, some}
use lib.ListN.{length, length-map}
use Rattle.text.specs.Pieces.{line_end, colon, space, equals, split_on, led_by, join}
use Rattle.text.specs.Names.{folded}
use Rattle.text.specs.Keys.{key, value_of}
use Rattle.text.specs.Read.{Sides, body_of, sides_of}
use Rattle.text.specs.Spelling.{spelling, spelled_sides, or_line, value_sides, spelled_line, spelled_lines, spelled_text}
use Rattle.text.proofs.Pieces.{join-split}
use Rattle.text.proofs.Names.{no_value, some_inj, spelling_case, value-key}

-- ---- rows of bytes that differ only in the case of letters

append_case : (p p' q q' : List ℕ) → map folded p ≡ map folded p' → map folded q ≡ map folded q'
    → map folded (p ++ q) ≡ map folded (p' ++ q')
append_case p p' q q' e f = map-append folded p q ∙ ap₂ (λ (u v : List ℕ). u ++ v) e f ∙ sym (map-append folded p' q')

-- pieces with a byte before each, and between them
led_fold : (c : ℕ) (ps : List (List ℕ)) → map folded (led_by c ps) ≡ led_by (folded c) (map (map folded) ps)
unfolding led_by
led_fold c [] = refl
led_fold c (p ∷ ps) =
    ap (λ (w : List ℕ). folded c ∷ w) (map-append folded p (led_by c ps) ∙ ap (λ (w : List ℕ). map folded p ++ w) (led_fold c ps))

led_case : (c : ℕ) (ps qs : List (List ℕ)) → map (map folded) ps ≡ map (map folded) qs → map folded (led_by c ps) ≡ map folded (led_by c qs)
led_case c ps qs e = led_fold c ps ∙ ap (led_by (folded c)) e ∙ sym (led_fold c qs)

join_fold : (c : ℕ) (ps : List (List ℕ)) → map folded (join c ps) ≡ join (folded c) (map (map folded) ps)
unfolding join
join_fold c [] = refl
join_fold c (p ∷ ps) = map-append folded p (led_by c ps) ∙ ap (λ (w : List ℕ). map folded p ++ w) (led_fold c ps)

pub join_case : (c : ℕ) (ps qs : List (List ℕ)) → map (map folded) ps ≡ map (map folded) qs
    → map folded (join c ps) ≡ map folded (join c qs)
join_case c ps qs e = join_fold c ps ∙ ap (join (folded c)) e ∙ sym (join_fold c qs)

-- a key, the equals sign and a value
pub value_case : (k v w : List ℕ) → map folded v ≡ map folded w → map folded (k ++ equals ∷ v) ≡ map folded (k ++ equals ∷ w)
value_case k v w e = append_case k k (equals ∷ v) (equals ∷ w) refl (ap (λ (l : List ℕ). folded equals ∷ l) e)

-- ---- a rule's line is made of its two sides

sides-body : (l : List ℕ) (ps : List (List ℕ)) (s : Sides) → body_of l ps ≡ some s
    → (s.head ≡ l) × (led_by 32 s.body ≡ join 32 ps)
unfolding body_of join
sides-body l [] s h = no_value h
sides-body l ([] ∷ names) s h =
    let e : ◌≡◌ {A = Sides} (record { head = l; body = names }) s = some_inj h in
    (ap (λ x. x.head) (sym e), ap (λ x. led_by 32 x.body) (sym e))
sides-body l ((b ∷ p) ∷ names) s h = no_value h

sides-whole : (ps : List (List ℕ)) (s : Sides) → sides_of ps ≡ some s → join 58 ps ≡ s.head ++ 58 ∷ led_by 32 s.body
unfolding sides_of join led_by
sides-whole [] s h = no_value h
sides-whole (l ∷ []) s h = no_value h
sides-whole (l ∷ r ∷ []) s h =
    let b = sides-body l (split_on 32 r) s h in
    rw (append-nil, b.0, b.1, join-split 32 r)
sides-whole (l ∷ r ∷ q ∷ qs) s h = no_value h

-- ---- a text

module _ (names : List (List ℕ)) where
  names_case : (xs : List (List ℕ)) → map (map folded) (map (spelling names) xs) ≡ map (map folded) xs
  names_case [] = refl
  names_case (x ∷ xs) = ap₂ (λ (w : List ℕ) (ws : List (List ℕ)). w ∷ ws) (spelling_case names x) (names_case xs)

  sides_case : (s : Sides) → map folded (spelled_sides names s) ≡ map folded (key 2 ++ equals ∷ (s.head ++ colon ∷ led_by space s.body))
  sides_case s =
      let b = led_by space (map (spelling names) s.body) in
      let c = led_by space s.body in
      value_case (key 2) (spelling names s.head ++ colon ∷ b) (s.head ++ colon ∷ c)
      (append_case (spelling names s.head) s.head (colon ∷ b) (colon ∷ c) (spelling_case names s.head)
      (ap (λ (l : List ℕ). folded colon ∷ l) (led_case space (map (spelling names) s.body) s.body (names_case s.body))))

  -- a line by its value and its sides, if it has them
  rule_case : (line v : List ℕ) → value_of (key 2) line ≡ some v → (o : Option Sides) → sides_of (split_on colon v) ≡ o
      → map folded (or_line line names o) ≡ map folded line
  rule_case line v e none f = refl
  rule_case line v e (some s) f =
      sides_case s ∙ sym (ap (map folded) (value-key (key 2) line v e
      ∙ ap (λ (w : List ℕ). key 2 ++ equals ∷ w) (sym (join-split colon v) ∙ sides-whole (split_on colon v) s f)))

  line_case : (line : List ℕ) → map folded (spelled_line names line) ≡ map folded line
  unfolding spelled_line
  line_case line = go (value_of (key 2) line) refl
    where
      go : (o : Option (List ℕ)) → value_of (key 2) line ≡ o → map folded (or_line line names (value_sides o)) ≡ map folded line
      go none e = refl
      go (some v) e = rule_case line v e (sides_of (split_on colon v)) refl

  rest_case : (ps : List (List ℕ)) → map (map folded) (map (spelled_line names) ps) ≡ map (map folded) ps
  rest_case [] = refl
  rest_case (p ∷ ps) = ap₂ (λ (w : List ℕ) (ws : List (List ℕ)). w ∷ ws) (line_case p) (rest_case ps)

  lines_case : (ps : List (List ℕ)) → map (map folded) (spelled_lines names ps) ≡ map (map folded) ps
  unfolding spelled_lines
  lines_case [] = refl
  lines_case (first ∷ []) = refl
  lines_case (first ∷ second ∷ rest) = ap (λ (ws : List (List ℕ)). map folded first ∷ map folded second ∷ ws) (rest_case rest)

  pub text_case : (text : List ℕ) → map folded (spelled_text names text) ≡ map folded text
  unfolding spelled_text
  text_case text =
      join_case line_end (spelled_lines names (split_on line_end text)) (split_on line_end text) (lines_case (split_on line_end text))
      ∙ ap (map folded) (join-split line_end text)

  pub text-length : (text : List ℕ) → length (spelled_text names text) ≡ length text
  text-length text = sym (length-map (spelled_text names text) folded) ∙ ap length (text_case text) ∙ length-map text folded
