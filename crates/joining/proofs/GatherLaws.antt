-- Names put into one row of bytes, one after the other. Assumes nothing.
use Prim.Native.Nat.{ℕ, zero, suc, ◌+◌, ◌*◌, ◌≤◌, ◌<◌}
use mathlib.Core.Path.{◌≡◌, refl, ap, ap₂, sym, subst, subst₂, ◌∙◌}
use mathlib.Core.List.{List, [], ◌∷◌, ◌++◌, append_assoc, append-nil}
use mathlib.Core.Bool.{Bool, true, false}
use mathlib.Core.Logic.{inl, inr}
use native.Mathlib.Omega.{arith}
use native.Mathlib.Nat.{add-zero}
use native.Mathlib.Numerals.{add-one}
use lib.Dec.{ltb}
use borrow.Author.Tests.{lt-ltb, le-ltb}
use lib.ListN.{length, take, drop, get_or, set, length-set, length-append, length-drop, take-append-drop}
use lib.Seq.{take-take, take-suc-set, get_or-set_same, get_or-set_other, length-take-le, take_at, drop_at, take-suc, take_all, get_or-take}
use Rattle.grammar.specs.Basics.{choose}
use Rattle.grammar.proofs.Lists.{lt_or_le}
use Rattle.text.specs.Names.{any, same_name, place}
use Rattle.text.specs.Spelled.{spelled}
use Rattle.text.proofs.Spans.{length-spelled, spelled_at, spelled_append}
use Rattle.text_write.specs.Clauses.{Wrote}
use Rattle.modules.specs.Joined.{added}
use Rattle.joining.specs.Numbers.{numbered}
use Rattle.joining.specs.Gathering.{longest, fresh, NameRoom, Gathered, Puts, Listed, OneReady}
use Rattle.modules.proofs.Named.{place-some}

-- ---- parts of a row whose front stays

part_cut : (at a l : ℕ) (xs : List ℕ) → a + l ≤ at → take l (drop a xs) ≡ take l (drop a (take at xs))
part_cut at zero l xs h = sym (take-take l at xs (omega arith))
part_cut zero (suc a) l xs h = absurd (omega arith)
part_cut (suc at) (suc a) l [] h = refl
part_cut (suc at) (suc a) l (x ∷ xs) h = part_cut at a l xs (omega arith)

spelled_kept : (xs ys : List ℕ) (at : ℕ) (starts lengths : List ℕ) → take at xs ≡ take at ys → length starts ≡ length lengths
    → ((i : ℕ) → i < length starts → get_or starts i 0 + get_or lengths i 0 ≤ at) → spelled xs starts lengths ≡ spelled ys starts lengths
unfolding spelled
spelled_kept xs ys at [] lengths e p h = refl
spelled_kept xs ys at (a ∷ starts) [] e p h = absurd (omega arith)
spelled_kept xs ys at (a ∷ starts) (l ∷ lengths) e p h =
    ap₂ (λ (w : List ℕ) (ws : List (List ℕ)). w ∷ ws)
    (part_cut at a l xs (h 0 (omega arith)) ∙ ap (λ (w : List ℕ). take l (drop a w)) e ∙ sym (part_cut at a l ys (h 0 (omega arith))))
    (spelled_kept xs ys at starts lengths e (omega arith) (λ i k. h (suc i) (omega arith)))

-- ---- one name put

-- the row of bytes after it
module _ (x : List ℕ) (at next : ℕ) (bytes bytes' : List ℕ) (room : at + length x ≤ length bytes) (w : Wrote at x bytes next bytes') where
  front-stays : take at bytes ≡ take at bytes'
  front-stays = sym (ap (take at) w.row ∙ take_at (take at bytes) (x ++ drop (at + length x) bytes) at (length-take-le at bytes (omega arith)))

  name-stands : take (length x) (drop at bytes') ≡ x
  name-stands =
      ap (λ (b : List ℕ). take (length x) (drop at b)) w.row
      ∙ ap (take (length x)) (drop_at (take at bytes) (x ++ drop (at + length x) bytes) at (length-take-le at bytes (omega arith)))
      ∙ take_at x (drop (at + length x) bytes) (length x) refl

-- a row with one entry more
snoc_row : (row : List ℕ) (k v : ℕ) → k < length row → take (k + 1) (set row k v) ≡ take k row ++ (v ∷ [])
snoc_row row k v h = rw add-one (take-suc-set row k v h)

pub puts_one : (x : List ℕ) (k next : ℕ) (bytes places spans bytes' : List ℕ) → length x ≤ longest → k < length places → k < length spans
    → k * longest + length x ≤ length bytes → Wrote (k * longest) x bytes next bytes'
    → Puts (x ∷ []) k bytes places spans bytes' (set places k (k * longest)) (set spans k (length x))
unfolding spelled
puts_one x k next bytes places spans bytes' short p q room w = record {
  after = λ names g. record {
    count = omega (arith, g.count, length-append names (x ∷ []));
    places-most = omega (arith, length-set places k (k * longest));
    spans_most = omega (arith, length-set spans k (length x));
    inside = λ i h. within g i h;
    spells = ap₂ (λ (a : List ℕ) (b : List ℕ). spelled bytes' a b) (snoc_row places k (k * longest) p) (snoc_row spans k (length x) q)
        ∙ spelled_append bytes' (take k places) (k * longest ∷ []) (take k spans) (length x ∷ []) paired
        ∙ ap₂ (λ (a : List (List ℕ)) (b : List (List ℕ)). a ++ b)
        (sym (spelled_kept bytes bytes' (k * longest) (take k places) (take k spans) (front-stays x (k * longest) next bytes bytes' room w) paired
        (λ i h. let z : i < k = omega (arith, length-take-le k places (omega arith)) in rw (get_or-take k places i 0 z, get_or-take k spans i 0 z) (g.inside i z)))
        ∙ g.spells)
        (ap (λ (w : List ℕ). w ∷ []) (name-stands x (k * longest) next bytes bytes' room w));
  };
}
  where
    paired : length (take k places) ≡ length (take k spans)
    paired = length-take-le k places (omega arith) ∙ sym (length-take-le k spans (omega arith))

    within : {names : List (List ℕ)} → Gathered names k bytes places spans → (i : ℕ) → i < k + 1
        → get_or (set places k (k * longest)) i 0 + get_or (set spans k (length x)) i 0 ≤ (k + 1) * longest
    within g i h = elim (lt_or_le i k) [
      | inl l ↦
          let other : i ≡ k → ⊥ = λ e. (let z : ⊥ = omega arith in z) in
          rw (get_or-set_other places k i (k * longest) 0 other, get_or-set_other spans k i (length x) 0 other) (omega (arith, g.inside i l))
      | inr l ↦
          let e : k ≡ i = omega arith in
          subst (λ (i : ℕ). get_or (set places k (k * longest)) i 0 + get_or (set spans k (length x)) i 0 ≤ (k + 1) * longest) e
          (rw (get_or-set_same places k (k * longest) 0 p, get_or-set_same spans k (length x) 0 q) (omega arith))
    ]

-- ---- names put one after the other

pub room-kept : {bytes places spans bytes₀ places₀ spans₀ : List ℕ} → length bytes ≡ length bytes₀ → length places ≡ length places₀
    → length spans ≡ length spans₀ → NameRoom bytes₀ places₀ spans₀ → NameRoom bytes places spans
room-kept e f g r = record {
  bytes-room = omega (arith, e, r.bytes-room);
  places-room = omega (arith, f, r.places-room);
  spans_room = omega (arith, g, r.spans_room);
}

-- none yet
pub gathered_none : (bytes places spans : List ℕ) → Gathered [] 0 bytes places spans
unfolding spelled
gathered_none bytes places spans = record {
  count = refl;
  places-most = omega arith;
  spans_most = omega arith;
  inside = λ i h. absurd (omega arith);
  spells = refl;
}

pub puts_none : (more : List (List ℕ)) (k : ℕ) (bytes places spans : List ℕ) → more ≡ [] → Puts more k bytes places spans bytes places spans
puts_none more k bytes places spans e = record {
  after = λ names g.
      subst (λ (more : List (List ℕ)). Gathered (names ++ more) (k + length more) bytes places spans) (sym e)
      (subst₂ (λ (ns : List (List ℕ)) (j : ℕ). Gathered ns j bytes places spans) (sym (append-nil names)) (sym (add-zero k)) g);
}

module _ {k : ℕ} {bytes places spans bytes₁ places₁ spans₁ bytes₂ places₂ spans₂ : List ℕ} where
  pub puts_more : (xs ys : List (List ℕ)) (j : ℕ) → j ≡ k + length xs → Puts xs k bytes places spans bytes₁ places₁ spans₁
      → Puts ys j bytes₁ places₁ spans₁ bytes₂ places₂ spans₂ → Puts (xs ++ ys) k bytes places spans bytes₂ places₂ spans₂
  puts_more xs ys j e f g = record {
    after = λ names h.
        subst₂ (λ (ns : List (List ℕ)) (i : ℕ). Gathered ns i bytes₂ places₂ spans₂) (append_assoc names xs ys)
        (let z : j + length ys ≡ k + length (xs ++ ys) = omega (arith, e, length-append xs ys) in z)
        (g.after (names ++ xs) (subst (λ (i : ℕ). Gathered (names ++ xs) i bytes₁ places₁ spans₁) (sym e) (f.after names h)));
  }

  -- the next of some names
  pub puts_next : (xs : List (List ℕ)) (i : ℕ) → i < length xs → Puts (take i xs) k bytes places spans bytes₁ places₁ spans₁
      → Puts (get_or xs i [] ∷ []) (k + i) bytes₁ places₁ spans₁ bytes₂ places₂ spans₂ → Puts (take (i + 1) xs) k bytes places spans bytes₂ places₂ spans₂
  puts_next xs i h f g =
      subst (λ (more : List (List ℕ)). Puts more k bytes places spans bytes₂ places₂ spans₂) (sym (rw add-one (take-suc xs i [] h)))
      (puts_more (take i xs) (get_or xs i [] ∷ []) (k + i) (omega (arith, length-take-le i xs (omega arith))) f g)

-- ---- the names of a text

module _ (text starts lengths : List ℕ) (l : Listed text starts lengths) where
  pub listed_count : length (spelled text starts lengths) ≡ length starts
  listed_count = length-spelled text starts lengths l.rows.paired

  -- a name is as long as its entry says
  pub listed-size : (i : ℕ) → i < length starts → length (get_or (spelled text starts lengths) i []) ≡ get_or lengths i 0
  listed-size i h =
      ap length (spelled_at text starts lengths i l.rows.paired h)
      ∙ length-take-le (get_or lengths i 0) (drop (get_or starts i 0) text) (omega (arith, l.rows.inside i h, length-drop (get_or starts i 0) text))

-- one of them has room, and is put
module _ {text starts lengths : List ℕ} {i : ℕ} {bytes places spans : List ℕ} {k : ℕ} (o : OneReady text starts lengths i bytes places spans k) where
  pub one-room : k * longest + length (get_or (spelled text starts lengths) i []) ≤ length bytes
  one-room = omega (arith, o.room.bytes-room, o.few, listed-size text starts lengths o.listed i o.inside, o.listed.short i o.inside)

  pub one-put : (next : ℕ) (bytes' : List ℕ) → Wrote (k * longest) (get_or (spelled text starts lengths) i []) bytes next bytes'
      → Puts (get_or (spelled text starts lengths) i [] ∷ []) k bytes places spans bytes' (set places k (k * longest)) (set spans k (get_or lengths i 0))
  one-put next bytes' w =
      let x = get_or (spelled text starts lengths) i [] in
      let e = listed-size text starts lengths o.listed i o.inside in
      subst (λ (size : ℕ). Puts (x ∷ []) k bytes places spans bytes' (set places k (k * longest)) (set spans k size)) e
      (puts_one x k next bytes places spans bytes' (omega (arith, e, o.listed.short i o.inside)) (omega (arith, o.room.places-room, o.few))
      (omega (arith, o.room.spans_room, o.few)) one-room w)

-- ---- fresh names

pub fresh-low : (least number : ℕ) (x : List ℕ) → number < least → fresh least (number ∷ []) (x ∷ []) ≡ []
unfolding fresh
fresh-low least number x h = rw (lt-ltb number least h)

pub fresh-high : (least number : ℕ) (x : List ℕ) → least ≤ number → fresh least (number ∷ []) (x ∷ []) ≡ x ∷ []
unfolding fresh
fresh-high least number x h = rw (le-ltb number least h)

fresh_append : (least : ℕ) (numbers more : List ℕ) (names others : List (List ℕ)) → length numbers ≡ length names
    → fresh least (numbers ++ more) (names ++ others) ≡ fresh least numbers names ++ fresh least more others
unfolding fresh
fresh_append least [] more [] others e = refl
fresh_append least [] more (x ∷ names) others e = absurd (omega arith)
fresh_append least (i ∷ numbers) more [] others e = absurd (omega arith)
fresh_append least (i ∷ numbers) more (x ∷ names) others e = go (ltb i least) (fresh_append least numbers more names others (omega arith))
  where
    go : (c : Bool) → fresh least (numbers ++ more) (names ++ others) ≡ fresh least numbers names ++ fresh least more others
        → choose c (fresh least (numbers ++ more) (names ++ others)) (x ∷ fresh least (numbers ++ more) (names ++ others))
        ≡ choose c (fresh least numbers names) (x ∷ fresh least numbers names) ++ fresh least more others
    go true h = h
    go false h = ap (λ (ns : List (List ℕ)). x ∷ ns) h

module _ (least : ℕ) (numbers : List ℕ) (names : List (List ℕ)) (paired : length names ≡ length numbers) where
  abbrev upto : ℕ → List (List ℕ)
  upto i = fresh least (take i numbers) (take i names)

  pub fresh-next : (i : ℕ) → i < length names → upto (i + 1) ≡ upto i ++ fresh least (get_or numbers i 0 ∷ []) (get_or names i [] ∷ [])
  fresh-next i h =
      ap₂ (λ (ms : List ℕ) (ns : List (List ℕ)). fresh least ms ns) (rw add-one (take-suc numbers i 0 (omega arith))) (rw add-one (take-suc names i [] h))
      ∙ fresh_append least (take i numbers) (get_or numbers i 0 ∷ []) (take i names) (get_or names i [] ∷ [])
      (length-take-le i numbers (omega arith) ∙ sym (length-take-le i names (omega arith)))

  -- one that is fresh is one more of them
  pub fresh-room : (i : ℕ) → i < length names → least ≤ get_or numbers i 0 → length (upto i) < length (fresh least numbers names)
  fresh-room i h l = omega (
    arith,
    ap length (fresh-next i h),
    length-append (upto i) (fresh least (get_or numbers i 0 ∷ []) (get_or names i [] ∷ [])),
    ap length (fresh-high least (get_or numbers i 0) (get_or names i []) l),
    ap length (ap₂ (λ (ms : List ℕ) (ns : List (List ℕ)). fresh least ms ns) (sym (take-append-drop (i + 1) numbers)) (sym (take-append-drop (i + 1) names))
        ∙ fresh_append least (take (i + 1) numbers) (drop (i + 1) numbers) (take (i + 1) names) (drop (i + 1) names)
        (length-take-le (i + 1) numbers (omega arith) ∙ sym (length-take-le (i + 1) names (omega arith)))),
    length-append (upto (i + 1)) (fresh least (drop (i + 1) numbers) (drop (i + 1) names)),
  )

  pub fresh-none : upto 0 ≡ []
  unfolding fresh
  fresh-none = refl

  pub fresh-all : (i : ℕ) → length names ≤ i → upto i ≡ fresh least numbers names
  fresh-all i h = ap₂ (λ (ms : List ℕ) (ns : List (List ℕ)). fresh least ms ns) (take_all i numbers (omega arith)) (take_all i names h)

-- the names that the module adds are those that are fresh
pub fresh_added : (names xs : List (List ℕ)) (n next : ℕ) → n ≡ length names → n ≤ next → fresh n (numbered names next xs) xs ≡ added names xs
unfolding fresh numbered added
fresh_added names [] n next e h = refl
fresh_added names (x ∷ xs) n next e h =
    go (any (same_name x) names) refl (fresh_added names xs n next e h) (fresh_added names xs n (next + 1) e (omega arith))
  where
    go : (c : Bool) → any (same_name x) names ≡ c → fresh n (numbered names next xs) xs ≡ added names xs
        → fresh n (numbered names (next + 1) xs) xs ≡ added names xs
        → fresh n (choose c (place (same_name x) names ∷ numbered names next xs) (next ∷ numbered names (next + 1) xs)) (x ∷ xs)
        ≡ choose c (added names xs) (x ∷ added names xs)
    go true q f g = rw (lt-ltb (place (same_name x) names) n (omega (arith, e, place-some (same_name x) names q))) f
    go false q f g = rw (le-ltb next n h) (ap (λ (ns : List (List ℕ)). x ∷ ns) g)
