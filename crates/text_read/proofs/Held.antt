-- The names of a value put into the rows and the tree after those before it, and both declaring lines' names in them.
-- Assumes nothing.
use Prim.Native.Nat.{ℕ, ◌+◌, ◌≤◌, ◌<◌}
use mathlib.Core.Path.{◌≡◌, refl, ap, ap₂, sym, subst, ◌∙◌}
use mathlib.Core.List.{List, [], ◌++◌}
use mathlib.Core.Bool.{Bool, true, false, not}
use native.Mathlib.Omega.{arith}
use borrow.Author.Tests.{eqb-true, eqb-false}
use lib.Dec.{eqb}
use lib.ListN.{length, take, get_or, length-append}
use lib.Seq.{length-take-le, take-take, take-append-le}
use Rattle.grammar.specs.Limits.{limits}
use Rattle.grammar.proofs.Answers.{no_bool}
use Rattle.text.specs.Names.{has_double}
use Rattle.text.specs.Read.{names_of}
use Rattle.text.specs.Print.{first_double}
use Rattle.text.specs.Promise.{starts_from, name_lengths}
use Rattle.text.specs.Spelled.{spelled, Inside}
use Rattle.text.proofs.Gather.{first_double_lem}
use Rattle.text.proofs.Spans.{length-spelled, length-starts, length-lengths, spans_spell, spans_inside, spelled_append, inside_append}
use Rattle.names.specs.Found.{part}
use Rattle.lexicon.specs.Tree.{Spans, Lexicon, Planted}
use Rattle.lexicon.proofs.Growth.{planted-front}
use Rattle.text_read.specs.Values.{all_names, NameRows, NamesReady, NamesHeld, HeadReady}
use Rattle.text_read.specs.Texts.{FirstHead, FirstHeld, HeadsAt, HeadsRead}
use Rattle.text_read.proofs.Rooms.{smaller_in, part-names}
use Rattle.text_read.proofs.Places.{value-stands}

-- no name stands twice exactly where the first that does is past the last
new_told : (names : List (List ℕ)) (g m : ℕ) → g ≡ first_double [] names → m ≡ length names → eqb g m ≡ not (has_double names)
new_told names g m e l = go (eqb g m) refl (has_double names) refl
  where
    go : (t : Bool) → eqb g m ≡ t → (d : Bool) → has_double names ≡ d → t ≡ not d
    go true q true h = no_bool (sym h ∙ (first_double_lem names).0 (sym e ∙ eqb-true g m q ∙ l))
    go true q false h = refl
    go false q true h = refl
    go false q false h = absurd (eqb-false g m q (e ∙ (first_double_lem names).1 h ∙ sym l))

-- there is room for the names of a line's value, which starts after the line does
pub value_room : (k lo hi : ℕ) (earlier text : List ℕ) (a e from : ℕ) (starts lengths links : List ℕ) → HeadReady k lo hi earlier text a e from starts lengths links
    → (b count : ℕ) → a < b → b ≤ e → count ≡ length (names_of (part b e text)) → count ≤ hi → NamesReady text from count starts lengths links
value_room k lo hi earlier text a e from starts lengths links h b count after inside counts most =
    let x = part-names text b e inside h.high in
    let m = smaller_in (length text) all_names (from + count) (omega (arith, x, counts, h.high, h.behind)) (omega (arith, h.few)) in
    record {
      tree = h.tree;
      few = omega (arith, h.few);
      starts-room = omega (arith, m, h.rows.enough);
      lengths-room = omega (arith, m, h.rows.enough, h.rows.lent.paired);
      links-room = omega (arith, m, h.rows.enough, h.rows.lent.room);
      short = h.short;
    }

-- ---- a value, from b to f of the text

module _ (text : List ℕ) (b f count from : ℕ) (starts lengths links starts' lengths' : List ℕ) (low : b ≤ f) (high : f ≤ length text)
    (counts : count ≡ length (names_of (part b f text))) (ready : NamesReady text from count starts lengths links)
    (firsts : take (from + length (names_of (part b f text))) starts' ≡ take from starts ++ starts_from b (names_of (part b f text)))
    (sizes : take (from + length (names_of (part b f text))) lengths' ≡ take from lengths ++ name_lengths (names_of (part b f text))) where
  s : take (from + count) starts' ≡ take from starts ++ starts_from b (names_of (part b f text))
  s = ap (λ m. take (from + m) starts') counts ∙ firsts

  l : take (from + count) lengths' ≡ take from lengths ++ name_lengths (names_of (part b f text))
  l = ap (λ m. take (from + m) lengths') counts ∙ sizes

  front : length (take from starts) ≡ from
  front = length-take-le from starts (omega (arith, ready.starts-room))

  kept_count : length (take (from + count) starts') ≡ from + count
  kept_count = ap length s ∙ length-append (take from starts) (starts_from b (names_of (part b f text)))
      ∙ omega (arith, front, length-starts b (names_of (part b f text)), counts)

  kept-spelled : spelled text (take (from + count) starts') (take (from + count) lengths')
      ≡ spelled text (take from starts) (take from lengths) ++ names_of (part b f text)
  kept-spelled =
      let ns = names_of (part b f text) in
      ap₂ (spelled text) s l
      ∙ spelled_append text (take from starts) (starts_from b ns) (take from lengths) (name_lengths ns) ready.tree.spans.paired
      ∙ ap (λ ys. spelled text (take from starts) (take from lengths) ++ ys) (spans_spell text b ns _ (value-stands text b f))

  kept_spans : Spans text (take (from + count) starts') (take (from + count) lengths')
  kept_spans =
      let ns = names_of (part b f text) in
      let xs = take from starts ++ starts_from b ns in
      let ys = take from lengths ++ name_lengths ns in
      let p : length xs ≡ length ys
      = length-append (take from starts) (starts_from b ns)
      ∙ ap₂ (λ m n. m + n) ready.tree.spans.paired (length-starts b ns ∙ sym (length-lengths ns))
      ∙ sym (length-append (take from lengths) (name_lengths ns)) in
      let i : Inside text xs ys
      = inside_append text (take from starts) (starts_from b ns) (take from lengths) (name_lengths ns) ready.tree.spans.paired
      ready.tree.spans.inside (spans_inside text b ns _ (omega arith) (value-stands text b f)) in
      record {
        paired = ap length s ∙ p ∙ sym (ap length l);
        inside = subst (λ (zs : List ℕ). Inside text zs (take (from + count) lengths')) (sym s)
            (subst (λ (zs : List ℕ). Inside text xs zs) (sym l) i);
      }

  -- a front of a front
  again : (row rest : List ℕ) → from ≤ length row → take from (take from row ++ rest) ≡ take from row
  again row rest h = take-append-le from (take from row) rest (omega (arith, length-take-le from row h)) ∙ take-take from from row (omega arith)

  pub kept-planted : Planted text (take (from + count) starts') (take (from + count) lengths') links from
  kept-planted =
      let ns = names_of (part b f text) in
      let x : take from (take (from + count) starts') ≡ take from starts
      = ap (take from) s ∙ again starts (starts_from b ns) (omega (arith, ready.starts-room)) in
      let y : take from (take (from + count) lengths') ≡ take from lengths
      = ap (take from) l ∙ again lengths (name_lengths ns) (omega (arith, ready.lengths-room)) in
      planted-front text (take (from + count) starts') (take (from + count) lengths') links from kept_spans
      (omega (arith, kept_count, ready.few)) (omega (arith, kept_count, ready.links-room)) (omega (arith, kept_count))
      (subst (λ (zs : List ℕ). Lexicon text zs (take from (take (from + count) lengths')) links) (sym x)
      (subst (λ (zs : List ℕ). Lexicon text (take from starts) zs links) (sym y) ready.tree))

  pub kept-told : (g : ℕ) → g ≡ first_double [] (spelled text (take (from + count) starts') (take (from + count) lengths'))
      → eqb g (from + count) ≡ not (has_double (spelled text (take from starts) (take from lengths) ++ names_of (part b f text)))
  kept-told g e =
      new_told _ g (from + count) e (sym (length-spelled text _ _ kept_spans.paired ∙ kept_count))
      ∙ ap (λ ns. not (has_double ns)) kept-spelled

  pub kept-held : (links' : List ℕ) (g : ℕ)
      → (g ≡ length (take (from + count) starts') → Lexicon text (take (from + count) starts') (take (from + count) lengths') links')
      → eqb g (from + count) ≡ true → NamesHeld text b f from starts lengths starts' lengths' links' count
  kept-held links' g x e = record { starts-front = s; lengths-front = l; tree = x (eqb-true g (from + count) e ∙ sym kept_count) }

-- ---- both lines

-- an empty tree
lexicon_none : (text links : List ℕ) → ((i : ℕ) → get_or links i 0 ≡ 0) → Lexicon text [] [] links
lexicon_none text links none = record {
  spans = record { paired = refl; inside = λ i h. absurd (omega arith) };
  few = omega arith;
  room = omega arith;
  bare = λ e. none;
  grown = λ h. absurd (omega arith);
  apart = λ i j h l. absurd (omega arith);
}

pub ready_first : (text starts lengths links : List ℕ) (e : ℕ) → e ≤ length text → length text ≤ limits.max_text → NameRows (length text) starts lengths links
    → ((i : ℕ) → get_or links i 0 ≡ 0) → HeadReady 0 0 limits.max_terminals [] text 0 e 0 starts lengths links
unfolding spelled names_of
ready_first text starts lengths links e high short rows none = record {
  known = omega arith;
  least = omega arith;
  low = omega arith;
  high = high;
  behind = omega arith;
  few = omega arith;
  tree = lexicon_none text links none;
  spelt = refl;
  rows = rows;
  short = short;
}

pub first-held : (text : List ℕ) (a e t : ℕ) (starts lengths starts' lengths' links' : List ℕ)
    → NamesHeld text a e 0 starts lengths starts' lengths' links' t → NameRows (length text) starts' lengths' links' → FirstHeld text a e t starts' lengths' links'
first-held text a e t starts lengths starts' lengths' links' h rows =
    let k : 0 + t ≡ t = omega arith in
    record {
      starts-front = ap (λ m. take m starts') (sym k) ∙ h.starts-front;
      lengths-front = ap (λ m. take m lengths') (sym k) ∙ h.lengths-front;
      tree = subst (λ (m : ℕ). Lexicon text (take m starts') (take m lengths') links') k h.tree;
      rows = rows;
    }

module _ (text : List ℕ) (a e t : ℕ) (starts lengths links : List ℕ) (h : FirstHead text a e t) (held : FirstHeld text a e t starts lengths links) where
  pub ready_second : (f : ℕ) → e + 1 ≤ f → f ≤ length text
      → HeadReady 1 1 limits.max_nonterminals (part a e text) text (e + 1) f t starts lengths links
  ready_second f low high = record {
    known = omega arith;
    least = omega arith;
    low = low;
    high = high;
    behind = omega (arith, h.counts, h.starts, part-names text a e h.inside (omega (arith, h.ends)));
    few = omega (arith, h.most);
    tree = held.tree;
    spelt = ap₂ (spelled text) held.starts-front held.lengths-front ∙ spans_spell text a (names_of (part a e text)) _ (value-stands text a e);
    rows = held.rows;
    short = h.short;
  }

  pub heads_read : (b f n : ℕ) (starts' lengths' links' : List ℕ) → HeadsAt text a e b f t n → NamesHeld text b f t starts lengths starts' lengths' links' n
      → HeadsRead text starts' lengths' links' f t n
  heads_read b f n starts' lengths' links' heads x = record {
    a = a;
    e = e;
    b = b;
    heads = heads;
    starts-front = x.starts-front ∙ ap (λ w. w ++ starts_from b (names_of (part b f text))) held.starts-front;
    lengths-front = x.lengths-front ∙ ap (λ w. w ++ name_lengths (names_of (part b f text))) held.lengths-front;
    tree = x.tree;
  }
