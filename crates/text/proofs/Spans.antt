-- The names stand in the text where their starts and lengths say. Assumes nothing.
use Prim.Native.Nat.{ℕ, zero, suc, ◌+◌, ◌≤◌, ◌<◌}
use mathlib.Core.Path.{◌≡◌, refl, ap, ap₂, sym, subst, ◌∙◌}
use mathlib.Core.List.{List, [], ◌∷◌, ◌++◌, append_assoc, append-nil}
use native.Mathlib.Omega.{arith}
use native.Mathlib.Nat.{add_assoc}
use lib.ListN.{length, take, drop, get_or, length-append, length-drop}
use lib.Seq.{take-append_seam, drop-append-add, drop-drop}
use Rattle.grammar.specs.Limits.{Limits}
use Rattle.grammar.specs.Refusal.{done}
use Rattle.text.specs.Pieces.{led_by, join}
use Rattle.text.specs.Keys.{key}
use Rattle.text.specs.Read.{Source, symbol_names, read_text}
use Rattle.text.specs.Print.{print_line}
use Rattle.text.specs.Promise.{starts_from, name_starts, name_lengths}
use Rattle.text.specs.Spelled.{spelled, Inside}
use Rattle.text.proofs.PrintRead.{read-front}

-- there are as many as starts
pub length-spelled : (text starts lengths : List ℕ) → length starts ≡ length lengths → length (spelled text starts lengths) ≡ length starts
unfolding spelled
length-spelled text [] lengths h = refl
length-spelled text (a ∷ starts) [] h = absurd (omega arith)
length-spelled text (a ∷ starts) (l ∷ lengths) h = ap suc (length-spelled text starts lengths (omega arith))

-- what is spelled at a place
pub spelled_at : (text starts lengths : List ℕ) (i : ℕ) → length starts ≡ length lengths → i < length starts
    → get_or (spelled text starts lengths) i [] ≡ take (get_or lengths i 0) (drop (get_or starts i 0) text)
unfolding spelled
spelled_at text [] lengths i h l = absurd (omega arith)
spelled_at text (a ∷ starts) [] i h l = absurd (omega arith)
spelled_at text (a ∷ starts) (m ∷ lengths) zero h l = refl
spelled_at text (a ∷ starts) (m ∷ lengths) (suc i) h l = spelled_at text starts lengths i (omega arith) (omega arith)

-- there are as many starts as names
pub length-starts : (at : ℕ) (ps : List (List ℕ)) → length (starts_from at ps) ≡ length ps
unfolding starts_from
length-starts at [] = refl
length-starts at (p ∷ ps) = ap suc (length-starts (at + length p + 1) ps)

-- as many lengths
pub length-lengths : (ps : List (List ℕ)) → length (name_lengths ps) ≡ length ps
unfolding name_lengths
length-lengths [] = refl
length-lengths (p ∷ ps) = ap suc (length-lengths ps)

-- and as many starts in all
pub length-name-starts : (s : Source) → length (name_starts s) ≡ length (symbol_names s)
unfolding name_starts
length-name-starts s =
    let a = length (key 0) + 1 in
    let b = length (print_line 0 (join 44 s.terminals)) + 1 + (length (key 1) + 1) in
    length-append (starts_from a s.terminals) (starts_from b s.nonterminals)
    ∙ ap₂ (λ m n. m + n) (length-starts a s.terminals) (length-starts b s.nonterminals)
    ∙ sym (length-append s.terminals s.nonterminals)

-- ---- names that stand in the text from place a on, with commas between

next-name : (text : List ℕ) (a : ℕ) (p q : List ℕ) (ps : List (List ℕ)) (post : List ℕ)
    → drop a text ≡ join 44 (p ∷ q ∷ ps) ++ post
    → drop (a + length p + 1) text ≡ join 44 (q ∷ ps) ++ post
unfolding join led_by
next-name text a p q ps post h =
    rw add_assoc (sym (drop-drop (length p + 1) a text)) ∙ ap (drop (length p + 1)) (h ∙ append_assoc p (led_by 44 (q ∷ ps)) post)
    ∙ drop-append-add p (led_by 44 (q ∷ ps) ++ post) 1

pub spans_spell : (text : List ℕ) (a : ℕ) (ps : List (List ℕ)) (post : List ℕ) → drop a text ≡ join 44 ps ++ post
    → spelled text (starts_from a ps) (name_lengths ps) ≡ ps
unfolding spelled starts_from name_lengths join led_by
spans_spell text a [] post h = refl
spans_spell text a (p ∷ []) post h = ap (λ w. w ∷ []) (ap (take (length p)) h ∙ rw (append-nil, take-append_seam))
spans_spell text a (p ∷ q ∷ ps) post h =
    ap₂ (λ w ws. w ∷ ws) (ap (take (length p)) h ∙ rw (append_assoc, take-append_seam))
    (spans_spell text (a + length p + 1) (q ∷ ps) post (next-name text a p q ps post h))

pub spans_inside : (text : List ℕ) (a : ℕ) (ps : List (List ℕ)) (post : List ℕ) → a ≤ length text → drop a text ≡ join 44 ps ++ post
    → Inside text (starts_from a ps) (name_lengths ps)
unfolding starts_from name_lengths join led_by
spans_inside text a [] post l h i k = absurd (omega arith)
spans_inside text a (p ∷ ps) post l h zero k =
    omega (arith, length-drop a text, ap length h, length-append (p ++ led_by 44 ps) post, length-append p (led_by 44 ps))
spans_inside text a (p ∷ []) post l h (suc i) k = absurd (omega arith)
spans_inside text a (p ∷ q ∷ ps) post l h (suc i) k =
    spans_inside text (a + length p + 1) (q ∷ ps) post
    (omega (
      arith,
      length-drop a text,
      ap length h,
      length-append (p ++ led_by 44 (q ∷ ps)) post,
      length-append p (led_by 44 (q ∷ ps)),
    ))
    (next-name text a p q ps post h) i (omega arith)

-- ---- two rows end to end

pub spelled_append : (text xs ys cs ds : List ℕ) → length xs ≡ length cs
    → spelled text (xs ++ ys) (cs ++ ds) ≡ spelled text xs cs ++ spelled text ys ds
unfolding spelled
spelled_append text [] ys [] ds h = refl
spelled_append text [] ys (c ∷ cs) ds h = absurd (omega arith)
spelled_append text (a ∷ xs) ys [] ds h = absurd (omega arith)
spelled_append text (a ∷ xs) ys (c ∷ cs) ds h = ap (λ ws. take c (drop a text) ∷ ws)
    (spelled_append text xs ys cs ds (omega arith))

pub inside_append : (text xs ys cs ds : List ℕ) → length xs ≡ length cs → Inside text xs cs → Inside text ys ds
    → Inside text (xs ++ ys) (cs ++ ds)
inside_append text [] ys [] ds h p q i k = q i k
inside_append text [] ys (c ∷ cs) ds h p q i k = absurd (omega arith)
inside_append text (a ∷ xs) ys [] ds h p q i k = absurd (omega arith)
inside_append text (a ∷ xs) ys (c ∷ cs) ds h p q zero k = p 0 (omega arith)
inside_append text (a ∷ xs) ys (c ∷ cs) ds h p q (suc i) k =
    inside_append text xs ys cs ds (omega arith) (λ i k. p (suc i) (omega arith)) q i (omega arith)

pub lengths_append : (ps qs : List (List ℕ)) → name_lengths (ps ++ qs) ≡ name_lengths ps ++ name_lengths qs
unfolding name_lengths
lengths_append [] qs = refl
lengths_append (p ∷ ps) qs = ap (λ ws. length p ∷ ws) (lengths_append ps qs)

-- ---- the two declaring lines

line-value : (k : ℕ) (v post : List ℕ) → drop (length (key k) + 1) (print_line k v ++ post) ≡ v ++ post
unfolding print_line
line-value k v post = rw (append_assoc, drop-append-add (key k))

-- in a text that begins with the two declaring lines of a source
module _ (s : Source) (text rest : List ℕ)
    (front : text ≡ print_line 0 (join 44 s.terminals) ++ 10 ∷ (print_line 1 (join 44 s.nonterminals) ++ 10 ∷ rest)) where
  record Lines : Type 0 where
    first : List ℕ
    second : List ℕ
    at_first : drop (length (key 0) + 1) text ≡ join 44 s.terminals ++ first
    at_second : drop (length (print_line 0 (join 44 s.terminals)) + 1 + (length (key 1) + 1)) text
        ≡ join 44 s.nonterminals ++ second
    room-first : length (key 0) + 1 ≤ length text
    room-second : length (print_line 0 (join 44 s.terminals)) + 1 + (length (key 1) + 1) ≤ length text

  lines : Lines
  lines =
      let v = join 44 s.terminals in
      let w = join 44 s.nonterminals in
      let more : List ℕ = 10 ∷ rest in
      let a = print_line 0 v in
      let b = print_line 1 w in
      let k : length a ≡ length (key 0) + suc (length v) = unfold print_line in length-append (key 0) (61 ∷ v) in
      let l : length b ≡ length (key 1) + suc (length w) = unfold print_line in length-append (key 1) (61 ∷ w) in
      record {
        first = 10 ∷ (b ++ more);
        second = more;
        at_first = ap (drop (length (key 0) + 1)) front ∙ line-value 0 v (10 ∷ (b ++ more));
        at_second = ap (drop (length a + 1 + (length (key 1) + 1))) front
            ∙ sym (drop-drop (length (key 1) + 1) (length a + 1) (a ++ 10 ∷ (b ++ more)))
            ∙ ap (drop (length (key 1) + 1)) (drop-append-add a (10 ∷ (b ++ more)) 1) ∙ line-value 1 w more;
        room-first = omega (arith, ap length front, length-append a (10 ∷ (b ++ more)));
        room-second = omega (arith, ap length front, length-append a (10 ∷ (b ++ more)), length-append b more);
      }

  -- the names stand where the spans say
  front-spelled : spelled text (name_starts s) (name_lengths (symbol_names s)) ≡ symbol_names s
  unfolding name_starts
  front-spelled =
      let ts = s.terminals in
      let ns = s.nonterminals in
      let a = length (key 0) + 1 in
      let b = length (print_line 0 (join 44 ts)) + 1 + (length (key 1) + 1) in
      ap (spelled text (starts_from a ts ++ starts_from b ns)) (lengths_append ts ns)
      ∙ spelled_append text (starts_from a ts) (starts_from b ns) (name_lengths ts) (name_lengths ns)
      (length-starts a ts ∙ sym (length-lengths ts))
      ∙ ap₂ (λ xs ys. xs ++ ys) (spans_spell text a ts lines.first lines.at_first)
      (spans_spell text b ns lines.second lines.at_second)

  -- and lie in it
  front-inside : Inside text (name_starts s) (name_lengths (symbol_names s))
  unfolding name_starts
  front-inside =
      let ts = s.terminals in
      let ns = s.nonterminals in
      let a = length (key 0) + 1 in
      let b = length (print_line 0 (join 44 ts)) + 1 + (length (key 1) + 1) in
      subst (Inside text (starts_from a ts ++ starts_from b ns)) (sym (lengths_append ts ns))
      (inside_append text (starts_from a ts) (starts_from b ns) (name_lengths ts) (name_lengths ns)
      (length-starts a ts ∙ sym (length-lengths ts))
      (spans_inside text a ts lines.first lines.room-first lines.at_first)
      (spans_inside text b ns lines.second lines.room-second lines.at_second))

module _ (L : Limits) (apart : L.max_terminals < L.nonterminal_base) (text : List ℕ) (s : Source)
    (e : read_text L text ≡ done s) where
  -- in a text that was read the names stand where the spans say
  pub read-spelled : spelled text (name_starts s) (name_lengths (symbol_names s)) ≡ symbol_names s
  read-spelled = let f = read-front L apart text s e in front-spelled s text f.0 f.1

  -- and lie in it
  pub read-inside : Inside text (name_starts s) (name_lengths (symbol_names s))
  read-inside = let f = read-front L apart text s e in front-inside s text f.0 f.1
