-- What a line's value says, by the form of its words; and what the functions' answers tell.
-- Assumes nothing.
use Prim.Native.Nat.{ℕ}
use mathlib.Core.Path.{◌≡◌, refl, ap, ap₂, subst, ◌∙◌}
use mathlib.Core.Bool.{Bool, true, false}
use mathlib.Core.List.{List, [], ◌∷◌, map}
use mathlib.Core.Option.{Option, none, some}
use native.Mathlib.Omega.{arith}
use lib.ListN.{length, length-map}
use Rattle.grammar.specs.Basics.{choose}
use Rattle.grammar.specs.Limits.{limits}
use Rattle.grammar.specs.Refusal.{done, refused, refuse_unless, malformed, name_unknown}
use Rattle.grammar.proofs.Answers.{unless_holds, unless_fails}
use Rattle.grammar.specs.declared.Cause.{Cause}
use Rattle.automaton.specs.Strings.{Letter}
use Rattle.text.specs.Names.{all}
use Rattle.text.specs.Keys.{value_of}
use Rattle.text.specs.Read.{refuse_none}
use Rattle.text.proofs.Pieces.{all_head, all_tail}
use Rattle.text.proofs.Names.{no_value, some_inj}
use Rattle.names.specs.Found.{part}
use Rattle.readings.specs.Readings.{Word, word_of, joined, words_of, pieces_of, known_word, letter_of, read_words, read_strings}
use Rattle.readings.specs.Letters.{letter_number}
use Rattle.readings_read.specs.declared.Line.{Line}
use Rattle.readings_read.specs.declared.Line.TheVariants.{Said as LineSaid, Fault as LineFault}
use Rattle.readings_read.specs.declared.Lines.{Lines}
use Rattle.readings_read.specs.declared.Lines.TheVariants.{Said, Fault}
use Rattle.readings_read.specs.Words.{entry_of, piece_of, entry_at, fault_of}
use Rattle.readings_read.specs.Lines.{StartsAt, Says, line_of, SaysAt, LineTold, BothSaid, LinesTold}
use Rattle.std.specs.Prelude.{Option as Maybe, None, Some, Ok, Err}
use Rattle.readings_read.specs.declared.WordFault.{WordFault}
use Rattle.readings_read.specs.declared.WordFault.TheVariants.{Unknown, Malformed}

-- ---- what answers tell

module _ (t count : ℕ) (names : List (List ℕ)) where
  pub told-said : (at : ℕ) (key line : List ℕ) (r : Line) (start k : ℕ) → r ≡ LineSaid start k → LineTold t count names at key line r
      → SaysAt t count names at key line start k
  told-said at key line r start k e w = subst (λ (r : Line). LineTold t count names at key line r) e w

  pub told_fault : (at : ℕ) (key line : List ℕ) (r : Line) (cause : Cause) (place : ℕ) → r ≡ LineFault cause place → LineTold t count names at key line r
      → line_of t count names at key line ≡ refused cause place
  told_fault at key line r cause place e w = subst (λ (r : Line). LineTold t count names at key line r) e w

  pub told-both : (lines : List ℕ) (r : Lines) (a e k b f l : ℕ) → r ≡ Said a e k b f l → LinesTold t count names lines r → BothSaid t count names lines a e k b f l
  told-both lines r a e k b f l q w = subst (λ (r : Lines). LinesTold t count names lines r) q w

  pub told-refused : (lines : List ℕ) (r : Lines) (cause : Cause) (place : ℕ) → r ≡ Fault cause place → LinesTold t count names lines r
      → read_strings limits t count names lines ≡ refused cause place
  told-refused lines r cause place e w = subst (λ (r : Lines). LinesTold t count names lines r) e w

  -- ---- values

  -- the entries of known words are the numbers of their letters
  entries-said : (ps : List (List ℕ)) (ws : List Word) → words_of count ps ≡ some ws → all (known_word limits t count names) ws ≡ true
      → map (entry_at t count names) ps ≡ map letter_number (map (letter_of limits t count names) ws)
  unfolding words_of entry_at
  entries-said [] ws e h = ap (λ ws. map letter_number (map (letter_of limits t count names) ws)) (some_inj e)
  entries-said (p ∷ ps) ws e h = go (word_of count p) (words_of count ps) e (entries-said ps)
    where
      known : (w : Word) (b : Bool) → b ≡ true → entry_of (choose b (Ok (letter_number (letter_of limits t count names w))) (Err Unknown)) ≡ letter_number (letter_of limits t count names w)
      known w b e = ap (λ b. entry_of (choose b (Ok (letter_number (letter_of limits t count names w))) (Err Unknown))) e

      go : (o : Option Word) (os : Option (List Word)) → joined o os ≡ some ws
          → ((vs : List Word) → os ≡ some vs → all (known_word limits t count names) vs ≡ true
          → map (entry_at t count names) ps ≡ map letter_number (map (letter_of limits t count names) vs))
          → entry_of (piece_of t count names o) ∷ map (entry_at t count names) ps ≡ map letter_number (map (letter_of limits t count names) ws)
      go none os e again = no_value e
      go (some w) none e again = no_value e
      go (some w) (some vs) e again =
          let q : w ∷ vs ≡ ws = some_inj e in
          let k : all (known_word limits t count names) (w ∷ vs) ≡ true = ap (all (known_word limits t count names)) q ∙ h in
          ap₂ (λ (x : ℕ) (xs : List ℕ). x ∷ xs) (known w (known_word limits t count names w) (all_head (known_word limits t count names) w vs k))
          (again vs refl (all_tail (known_word limits t count names) w vs k))
          ∙ ap (λ ws. map letter_number (map (letter_of limits t count names) ws)) q

  -- forms told apart
  abbrev rank : Maybe WordFault → ℕ
  rank None = 0
  rank (Some Unknown) = 1
  rank (Some Malformed) = 2

  known-all : (b : Bool) → choose b None (Some Unknown) ≡ None → b ≡ true
  known-all true e = refl
  known-all false e = absurd (let z = ap rank e in omega arith)

  unknown_one : (b : Bool) → choose b None (Some Unknown) ≡ Some Unknown → b ≡ false
  unknown_one true e = absurd (let z = ap rank e in omega arith)
  unknown_one false e = refl

  never_malformed : (b : Bool) → choose b None (Some Unknown) ≡ Some Malformed → ⊥
  never_malformed true e = let z = ap rank e in omega arith
  never_malformed false e = let z = ap rank e in omega arith

  module _ (at : ℕ) (v : List ℕ) where
    value-malformed : fault_of t count names (words_of count (pieces_of v)) ≡ Some Malformed → read_words limits t count names at v ≡ refused malformed at
    unfolding read_words fault_of refuse_none
    value-malformed h = go (words_of count (pieces_of v)) h
      where
        go : (o : Option (List Word)) → fault_of t count names o ≡ Some Malformed
            → refuse_none malformed at o (λ ws. refuse_unless name_unknown at (all (known_word limits t count names) ws) (done (map (letter_of limits t count names) ws))) ≡ refused malformed at
        go none h = refl
        go (some ws) h = absurd (never_malformed (all (known_word limits t count names) ws) h)

    value_unknown : fault_of t count names (words_of count (pieces_of v)) ≡ Some Unknown → read_words limits t count names at v ≡ refused name_unknown at
    unfolding read_words fault_of refuse_none
    value_unknown h = go (words_of count (pieces_of v)) h
      where
        go : (o : Option (List Word)) → fault_of t count names o ≡ Some Unknown
            → refuse_none malformed at o (λ ws. refuse_unless name_unknown at (all (known_word limits t count names) ws) (done (map (letter_of limits t count names) ws))) ≡ refused name_unknown at
        go none h = absurd (let z = ap rank h in omega arith)
        go (some ws) h = unless_fails name_unknown at _ _ (unknown_one (all (known_word limits t count names) ws) h)

    value-known : (k : ℕ) → fault_of t count names (words_of count (pieces_of v)) ≡ None → k ≡ length (pieces_of v)
        → (u : List Letter) × (read_words limits t count names at v ≡ done u) × Says t count names v u k
    unfolding read_words fault_of refuse_none
    value-known k h n = go (words_of count (pieces_of v)) refl h
      where
        go : (o : Option (List Word)) → words_of count (pieces_of v) ≡ o → fault_of t count names o ≡ None
            → (u : List Letter)
            × (refuse_none malformed at o (λ ws. refuse_unless name_unknown at (all (known_word limits t count names) ws) (done (map (letter_of limits t count names) ws))) ≡ done u)
            × Says t count names v u k
        go none e h = absurd (let z = ap rank h in omega arith)
        go (some ws) e h =
            let g = known-all (all (known_word limits t count names) ws) h in
            let u = map (letter_of limits t count names) ws in
            let q = entries-said (pieces_of v) ws e g in (
              u,
              unless_holds name_unknown at _ _ g,
              record {
                entries = q;
                counts = omega (arith, n, ap length q, length-map (pieces_of v) (entry_at t count names), length-map u letter_number);
              },
            )

  -- ---- a line

  module _ (at : ℕ) (key line : List ℕ) where
    -- no such key
    pub line-none : value_of key line ≡ none → line_of t count names at key line ≡ refused malformed at
    unfolding line_of refuse_none
    line-none e = rw e refl

    module _ (start : ℕ) (s : StartsAt key line start) where
      line_on : line_of t count names at key line ≡ read_words limits t count names at (part start (length line) line)
      unfolding line_of refuse_none
      line_on = rw s.value refl

      -- the words of its value are of some form
      pub line-malformed : fault_of t count names (words_of count (pieces_of (part start (length line) line))) ≡ Some Malformed
          → line_of t count names at key line ≡ refused malformed at
      line-malformed h = line_on ∙ value-malformed at (part start (length line) line) h

      pub line_unknown : fault_of t count names (words_of count (pieces_of (part start (length line) line))) ≡ Some Unknown
          → line_of t count names at key line ≡ refused name_unknown at
      line_unknown h = line_on ∙ value_unknown at (part start (length line) line) h

      pub line_known : (k : ℕ) → fault_of t count names (words_of count (pieces_of (part start (length line) line))) ≡ None
          → k ≡ length (pieces_of (part start (length line) line)) → SaysAt t count names at key line start k
      line_known k h n =
          let w = value-known at (part start (length line) line) k h n in
          record { inside = s.inside; string = w.0; read = line_on ∙ w.1; says = w.2 }
