-- The names of both declaring lines stand in the text where their starts and lengths say.
-- Assumes nothing.
use Prim.Native.Nat.{ℕ, ◌+◌, ◌-◌}
use mathlib.Core.Path.{◌≡◌, ap, ap₂, sym, ◌∙◌}
use mathlib.Core.List.{List, ◌++◌}
use lib.ListN.{length, take, drop, take-append-drop}
use Rattle.text.specs.Pieces.{join}
use Rattle.text.specs.Read.{names_of}
use Rattle.text.specs.Promise.{starts_from, name_lengths}
use Rattle.text.proofs.PrintRead.{join_names}
use Rattle.text.specs.Spelled.{spelled}
use Rattle.text.proofs.Spans.{length-starts, length-lengths, spans_spell, spelled_append}
use Rattle.names.specs.Found.{part}
use Rattle.text_read.specs.Texts.{HeadsAt}

-- ---- a value

-- its names stand from its start on, with commas between
pub value-stands : (text : List ℕ) (a e : ℕ) → drop a text ≡ join 44 (names_of (part a e text)) ++ drop (e - a) (drop a text)
value-stands text a e =
    sym (take-append-drop (e - a) (drop a text)) ∙ ap (λ w. w ++ drop (e - a) (drop a text)) (sym (join_names (part a e text)))

-- ---- both lines

module _ (text : List ℕ) (a e b f t n : ℕ) (h : HeadsAt text a e b f t n) (starts lengths : List ℕ)
    (s : take (t + n) starts ≡ starts_from a (names_of (part a e text)) ++ starts_from b (names_of (part b f text)))
    (l : take (t + n) lengths ≡ name_lengths (names_of (part a e text)) ++ name_lengths (names_of (part b f text))) where
  even : length (starts_from a (names_of (part a e text))) ≡ length (name_lengths (names_of (part a e text)))
  even = length-starts a (names_of (part a e text)) ∙ sym (length-lengths (names_of (part a e text)))

  pub heads_spelled : spelled text (take (t + n) starts) (take (t + n) lengths) ≡ names_of (part a e text) ++ names_of (part b f text)
  heads_spelled =
      let ts = names_of (part a e text) in
      let ns = names_of (part b f text) in
      ap₂ (spelled text) s l
      ∙ spelled_append text (starts_from a ts) (starts_from b ns) (name_lengths ts) (name_lengths ns) even
      ∙ ap₂ (λ xs ys. xs ++ ys) (spans_spell text a ts _ (value-stands text a e)) (spans_spell text b ns _ (value-stands text b f))
