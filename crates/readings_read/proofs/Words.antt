-- Words and their forms: what each way through the code says of the definitions.
-- Assumes nothing.
use Prim.Native.Nat.{ℕ, ◌+◌, ◌*◌, ◌≤◌, ◌<◌}
use mathlib.Core.Path.{◌≡◌, refl, ap}
use mathlib.Core.Bool.{Bool, true, false, ◌&&◌}
use mathlib.Core.List.{List, [], ◌∷◌}
use mathlib.Core.Option.{Option, none, some}
use native.Mathlib.Omega.{arith}
use borrow.Author.Tests.{eq-eqb, ne_eqb}
use lib.Dec.{leb}
use lib.ListN.{length, drop, get_or}
use Rattle.grammar.specs.Basics.{choose}
use Rattle.grammar.specs.Limits.{limits}
use Rattle.automaton.specs.Strings.{Letter, opening, closing}
use Rattle.text.specs.Pieces.{split_on}
use Rattle.text.specs.Names.{all, is_name, same_name, place}
use Rattle.text.specs.Numbers.{number_from, is_decimal}
use Rattle.text.specs.Read.{number_of, code_of}
use Rattle.text_read.proofs.Lookups.{known_out, known_in}
use Rattle.readings.specs.Readings.{Word, bracket, name, rule_number, word_of, joined, words_of, pieces_of, known_word}
use Rattle.readings.specs.Letters.{kind_unit, letter_number}
use Rattle.readings_read.specs.Words.{mark_piece, name_piece, piece_fault, worse, piece_of, fault_of}
use Rattle.std.specs.Prelude.{Option as Maybe, None, Some, Ok, Err}
use Rattle.readings_read.specs.declared.WordFault.{WordFault}
use Rattle.readings_read.specs.declared.WordFault.TheVariants.{Unknown, Malformed}

-- ---- a name

module _ (t : ℕ) (names : List (List ℕ)) (x : List ℕ) where
  pub name_bad : is_name x ≡ false → name_piece t names x ≡ Err Malformed
  unfolding name_piece
  name_bad e = rw e refl

  module _ (good : is_name x ≡ true) (i : ℕ) (at : i ≡ place (same_name x) names) where
    pub name_unknown_lem : length names ≤ i → name_piece t names x ≡ Err Unknown
    unfolding name_piece
    name_unknown_lem h = rw (good, known_out 0 names x i at (omega arith) h) refl

    pub name-known : i < length names → name_piece t names x ≡ Ok (3 * kind_unit + code_of limits t i)
    unfolding name_piece number_of
    name-known h = rw (good, known_in 0 names x i at (omega arith) h, ← at) refl

-- ---- a piece

module _ (t count : ℕ) (names : List (List ℕ)) where
  piece_rule : (kind : ℕ) (make : ℕ → Letter) → ((i : ℕ) → letter_number (make i) ≡ kind * kind_unit + i) → (s : List ℕ)
      → piece_of t count names (rule_number count make s) ≡ mark_piece kind count s
  unfolding rule_number mark_piece
  piece_rule kind make e s = go (is_decimal s && leb (number_from 0 s) count)
    where
      go : (b : Bool) → piece_of t count names (choose b (some (bracket (make (number_from 0 s)))) none)
          ≡ choose b (Ok (kind * kind_unit + number_from 0 s)) (Err Malformed)
      go true = ap (λ (n : ℕ). Ok n) (e (number_from 0 s))
      go false = refl

  -- nothing
  pub piece_none : (p : List ℕ) → length p ≡ 0 → piece_of t count names (word_of count p) ≡ Err Malformed
  unfolding word_of
  piece_none [] h = refl
  piece_none (b ∷ p) h = absurd (omega arith)

  -- an opening
  pub piece_opening : (p : List ℕ) → 0 < length p → get_or p 0 0 ≡ 40 → piece_of t count names (word_of count p) ≡ mark_piece 1 count (drop 1 p)
  unfolding word_of
  piece_opening [] h e = absurd (omega arith)
  piece_opening (b ∷ p) h e = rw (eq-eqb b 40 e) (piece_rule 1 (λ i. opening i) (λ i. refl) p)

  -- a closing
  pub piece_closing : (p : List ℕ) → 0 < length p → get_or p 0 0 ≡ 41 → piece_of t count names (word_of count p) ≡ mark_piece 2 count (drop 1 p)
  unfolding word_of
  piece_closing [] h e = absurd (omega arith)
  piece_closing (b ∷ p) h e = rw (ne_eqb b 40 (λ q. omega arith), eq-eqb b 41 e) (piece_rule 2 (λ i. closing i) (λ i. refl) p)

  -- a name, or nothing of these
  pub piece_name : (p : List ℕ) → 0 < length p → (get_or p 0 0 ≡ 40 → ⊥) → (get_or p 0 0 ≡ 41 → ⊥)
      → piece_of t count names (word_of count p) ≡ name_piece t names p
  unfolding word_of name_piece
  piece_name [] h m n = absurd (omega arith)
  piece_name (b ∷ p) h m n = rw (ne_eqb b 40 m, ne_eqb b 41 n) (go (is_name (b ∷ p)))
    where
      go : (g : Bool) → piece_of t count names (choose g (some (name (b ∷ p))) none)
          ≡ choose g (piece_of t count names (some (name (b ∷ p)))) (Err Malformed)
      go true = refl
      go false = refl

-- ---- forms

pub worse-known : (f : Maybe WordFault) → worse f None ≡ f
worse-known None = refl
worse-known (Some Unknown) = refl
worse-known (Some Malformed) = refl

pub worse_assoc : (f g h : Maybe WordFault) → worse f (worse g h) ≡ worse (worse f g) h
worse_assoc None g h = refl
worse_assoc (Some Malformed) g h = refl
worse_assoc (Some Unknown) None h = refl
worse_assoc (Some Unknown) (Some Malformed) h = refl
worse_assoc (Some Unknown) (Some Unknown) None = refl
worse_assoc (Some Unknown) (Some Unknown) (Some Unknown) = refl
worse_assoc (Some Unknown) (Some Unknown) (Some Malformed) = refl

-- ---- words

module _ (t count : ℕ) (names : List (List ℕ)) where
  pub form_none : fault_of t count names (words_of count []) ≡ None
  unfolding fault_of words_of all
  form_none = refl

  -- the form of words is the worse of the first one's and the others'
  pub form_more : (p : List ℕ) (ps : List (List ℕ))
      → fault_of t count names (words_of count (p ∷ ps)) ≡ worse (piece_fault (piece_of t count names (word_of count p))) (fault_of t count names (words_of count ps))
  unfolding fault_of words_of all
  form_more p ps = go (word_of count p) (words_of count ps)
    where
      known : (a b : Bool) (n : ℕ) → choose (a && b) None (Some Unknown) ≡ worse (piece_fault (choose a (Ok n) (Err Unknown))) (choose b None (Some Unknown))
      known true b n = refl
      known false true n = refl
      known false false n = refl

      unknown : (a : Bool) (n : ℕ) → (Some Malformed) ≡ worse (piece_fault (choose a (Ok n) (Err Unknown))) (Some Malformed)
      unknown true n = refl
      unknown false n = refl

      go : (o : Option Word) (os : Option (List Word))
          → fault_of t count names (joined o os) ≡ worse (piece_fault (piece_of t count names o)) (fault_of t count names os)
      go none os = refl
      go (some w) none = unknown (known_word limits t count names w) _
      go (some w) (some ws) = known (known_word limits t count names w) (all (known_word limits t count names) ws) _

-- ---- the pieces of a value

pub pieces_none : (v : List ℕ) → length v ≡ 0 → pieces_of v ≡ []
unfolding pieces_of
pieces_none [] h = refl
pieces_none (b ∷ v) h = absurd (omega arith)

pub pieces_some : (v : List ℕ) → 0 < length v → pieces_of v ≡ split_on 32 v
unfolding pieces_of
pieces_some [] h = absurd (omega arith)
pieces_some (b ∷ v) h = refl
