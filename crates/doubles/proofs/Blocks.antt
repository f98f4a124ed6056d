-- Places of a line against its names from there on, rows that keep a block, and what is told of it. Assumes nothing.
use Prim.Native.Nat.{ℕ, zero, suc, ◌+◌, ◌-◌, ◌≤◌, ◌<◌}
use mathlib.Core.Path.{◌≡◌, refl, ap, sym, ◌∙◌}
use mathlib.Core.List.{List, [], ◌∷◌, ◌++◌, append_assoc, append-nil}
use mathlib.Core.Bool.{Bool, true, false, ◌||◌}
use native.Mathlib.Omega.{arith}
use native.Mathlib.Numerals.{add-one}
use borrow.Author.Tests.{ltb-true, ltb-false, le-leb, lt-leb}
use lib.Dec.{ltb}
use lib.ListN.{length, take, drop, get_or, set, length-append}
use lib.Seq.{take-suc-set}
use Rattle.text.specs.Pieces.{split_on}
use Rattle.text.specs.Names.{same_name, has_double, place}
use Rattle.text.specs.Read.{names_of}
use Rattle.text.specs.Spelled.{spelled}
use Rattle.text.proofs.Spans.{length-spelled, spelled_append, inside_append}
use Rattle.names.specs.Found.{index, part}
use Rattle.names.proofs.Pieces.{piece_more, piece_last, piece_end, names-split}
use Rattle.doubles.specs.Blocks.{meet, names_from, stand_twice, Block, BlockTold}
use Rattle.std.specs.Prelude.{Some, None}
use Rattle.doubles.proofs.Names.{meet-none, meet-hit, meet_miss, place-some, place-past, stand_append}

-- ---- names from a place on

pub names-past : (v : List ℕ) (a : ℕ) → length v < a → names_from v a ≡ []
unfolding names_from
names-past v a h = rw (lt-leb a (length v) h)

names-here : (v : List ℕ) (a : ℕ) → a ≤ length v → names_from v a ≡ split_on 44 (drop a v)
unfolding names_from
names-here v a h = rw (le-leb a (length v) h)

pub names-next : (v : List ℕ) (a e : ℕ) → a ≤ length v → e ≡ a + index 44 (drop a v) → names_from v a ≡ part a e v ∷ names_from v (e + 1)
names-next v a e h at = names-here v a h ∙ go (ltb e (length v)) refl
  where
    go : (t : Bool) → ltb e (length v) ≡ t → split_on 44 (drop a v) ≡ part a e v ∷ names_from v (e + 1)
    go true q =
        let l : e < length v = ltb-true _ _ q in
        piece_more 44 v a e h at l ∙ ap (λ (w : List (List ℕ)). part a e v ∷ w) (sym (names-here v (e + 1) (omega arith)))
    go false q =
        let l : length v ≤ e = ltb-false _ _ q in
        piece_last 44 v a e h at l ∙ ap (λ (w : List (List ℕ)). part a e v ∷ w) (sym (names-past v (e + 1) (omega arith)))

pub names-all : (v : List ℕ) → 0 < length v → names_of v ≡ names_from v 0
names-all v h = names-split v h ∙ sym (names-here v 0 (omega arith))

-- the name from a to e is looked up among the names of v, at place q of them
module _ (u v starts lengths : List ℕ) (a e q : ℕ) (h : a ≤ length u) (at : e ≡ a + index 44 (drop a u)) (paired : length starts ≡ length lengths)
    (found : q ≡ place (same_name (part a e u)) (spelled v starts lengths)) where
  first : meet (names_from u a) (spelled v starts lengths) ≡ meet (part a e u ∷ names_from u (e + 1)) (spelled v starts lengths)
  first = ap (λ (w : List (List ℕ)). meet w (spelled v starts lengths)) (names-next u a e h at)

  pub meet-found : q < length starts → meet (names_from u a) (spelled v starts lengths) ≡ true
  meet-found l = first ∙ meet-hit _ _ _ (place-some (same_name (part a e u)) (spelled v starts lengths) (omega (arith, l, found, length-spelled v starts lengths paired)))

  pub meet-on : length starts ≤ q → meet (names_from u a) (spelled v starts lengths) ≡ meet (names_from u (e + 1)) (spelled v starts lengths)
  meet-on l = first ∙ meet_miss _ _ _ (place-past (same_name (part a e u)) (spelled v starts lengths) (omega (arith, l, found, length-spelled v starts lengths paired)))

pub meet-past : (u : List ℕ) (a : ℕ) (names : List (List ℕ)) → length u < a → meet (names_from u a) names ≡ false
meet-past u a names h = ap (λ (w : List (List ℕ)). meet w names) (names-past u a h) ∙ meet-none names

-- ---- a block

pub block_none : (v : List ℕ) (a : ℕ) → Block v a [] [] a
unfolding spelled
block_none v a = record { spans = record { paired = refl; inside = λ i h. absurd (omega arith) }; names = refl }

-- one name more, from place b to e
module _ (v : List ℕ) (a b e : ℕ) (h : b ≤ length v) (at : e ≡ b + index 44 (drop b v)) where
  more : (starts lengths : List ℕ) → Block v a starts lengths b → Block v a (starts ++ (b ∷ [])) (lengths ++ ((e - b) ∷ [])) (e + 1)
  unfolding spelled
  more starts lengths k = record {
    spans = record {
      paired = omega (arith, k.spans.paired, length-append starts (b ∷ []), length-append lengths ((e - b) ∷ []));
      inside = inside_append v starts (b ∷ []) lengths ((e - b) ∷ []) k.spans.paired k.spans.inside (λ i l. last i l);
    };
    names = k.names ∙ ap (λ (w : List (List ℕ)). spelled v starts lengths ++ w) (names-next v b e h at)
        ∙ sym (append_assoc (spelled v starts lengths) (part b e v ∷ []) (names_from v (e + 1)))
        ∙ ap (λ (w : List (List ℕ)). w ++ names_from v (e + 1)) (sym (spelled_append v starts (b ∷ []) lengths ((e - b) ∷ []) k.spans.paired));
  }
    where
      last : (i : ℕ) → i < 1 → get_or (b ∷ []) i 0 + get_or ((e - b) ∷ []) i 0 ≤ length v
      last zero l = omega (arith, piece_end 44 v b e h at)
      last (suc i) l = absurd (omega arith)

  pub block_more : (starts lengths : List ℕ) (k : ℕ) → k < length starts → k < length lengths → Block v a (take k starts) (take k lengths) b
      → Block v a (take (k + 1) (set starts k b)) (take (k + 1) (set lengths k (e - b))) (e + 1)
  block_more starts lengths k l m r = rw (add-one, take-suc-set starts k b l, take-suc-set lengths k (e - b) m) (more (take k starts) (take k lengths) r)

-- ---- what is told

module _ (earlier : List (List ℕ)) (v : List ℕ) (a : ℕ) (starts lengths : List ℕ) (b : ℕ) (k : Block v a starts lengths b) where
  stand : has_double (earlier ++ names_from v a) ≡ stand_twice earlier (names_from v b) (spelled v starts lengths) || has_double (earlier ++ names_from v b)
  stand = ap (λ (w : List (List ℕ)). has_double (earlier ++ w)) k.names ∙ stand_append earlier (spelled v starts lengths) (names_from v b)

  pub told_stand : stand_twice earlier (names_from v b) (spelled v starts lengths) ≡ true → BlockTold earlier v a None
  told_stand e = stand ∙ rw e

  pub told-on : stand_twice earlier (names_from v b) (spelled v starts lengths) ≡ false → a < b → BlockTold earlier v a (Some b)
  told-on e l = (l, stand ∙ rw e)

-- where no name is left, none stands twice
pub none_left : (earlier names : List (List ℕ)) → has_double earlier ≡ false → names ≡ [] → has_double (earlier ++ names) ≡ false
none_left earlier names h e = ap (λ (w : List (List ℕ)). has_double (earlier ++ w)) e ∙ ap has_double (append-nil earlier) ∙ h
