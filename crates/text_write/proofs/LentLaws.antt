-- Names that rows lend: their lengths and bytes, and where gathering stops. Assumes nothing.
use Prim.Native.Nat.{ℕ, zero, suc, ◌+◌, ◌-◌, ◌≤◌, ◌<◌}
use mathlib.Core.Path.{◌≡◌, refl, ap, ap₂, sym, ◌∙◌}
use mathlib.Core.List.{List, [], ◌∷◌}
use mathlib.Core.Bool.{Bool, true, false, ◌&&◌}
use mathlib.Core.Option.{Option, none, some}
use native.Mathlib.Omega.{arith}
use native.Mathlib.Nat.{zero-add}
use native.Mathlib.Numerals.{add-one}
use borrow.Author.Tests.{lt-ltb, le-ltb, lt-leb, ltb-true, leb-true}
use lib.Dec.{ltb, leb}
use lib.ListN.{length, take, drop, get_or, length-drop}
use lib.Seq.{get_or-take, length-take-le, ext_get_or}
use Rattle.grammar.specs.Basics.{choose}
use Rattle.grammar.specs.Refusal.{Answer, done, refused, refuse_unless, and_then, malformed}
use Rattle.grammar.proofs.Answers.{no_answer, no_bool, and_both, refused_as}
use Rattle.text.specs.Names.{all, is_name}
use Rattle.text.specs.Read.{refuse_none}
use Rattle.text.specs.Print.{name_at, gather}
use Rattle.text.specs.Promise.{name_lengths}
use Rattle.text.proofs.Names.{no_value, some_inj}
use Rattle.text.specs.Spelled.{spelled}
use Rattle.text.proofs.Spans.{length-spelled, spelled_at}
use Rattle.text.proofs.Gather.{name-at, gathered}
use Rattle.text_write.specs.Clauses.{is_well, stops_at, Rows}
use Rattle.grammar.specs.declared.Cause.{Cause}

-- ---- the names of rows

-- a name as the part of the bytes that the code takes
name-part : {bytes starts lengths : List ℕ} (i : ℕ) → Rows bytes starts lengths → i < length starts
    → get_or (spelled bytes starts lengths) i []
    ≡ take (get_or starts i 0 + get_or lengths i 0 - get_or starts i 0) (drop (get_or starts i 0) bytes)
name-part {bytes} {starts} {lengths} i r l =
    let q : get_or lengths i 0 ≡ get_or starts i 0 + get_or lengths i 0 - get_or starts i 0 = omega arith in
    spelled_at bytes starts lengths i r.paired l ∙ ap (λ w. take w (drop (get_or starts i 0) bytes)) q

-- the same where the code has read the two entries
pub name-taken : {bytes starts lengths : List ℕ} (i a n : ℕ) → Rows bytes starts lengths → i < length starts
    → a ≡ get_or starts i 0 → n ≡ get_or lengths i 0 → take (a + n - a) (drop a bytes) ≡ get_or (spelled bytes starts lengths) i []
name-taken {bytes} i a n r l p q = ap₂ (λ a n. take (a + n - a) (drop a bytes)) p q ∙ sym (name-part i r l)

-- there are as many as the rows have entries
pub names_count : {bytes starts lengths : List ℕ} → Rows bytes starts lengths → length (spelled bytes starts lengths)
    ≡ length starts
names_count {bytes} {starts} {lengths} r = length-spelled bytes starts lengths r.paired

-- the lengths of the names are the row of lengths
pub lengths-spelled : (bytes starts lengths : List ℕ) → Rows bytes starts lengths
    → name_lengths (spelled bytes starts lengths) ≡ lengths
unfolding spelled name_lengths
lengths-spelled bytes [] [] r = refl
lengths-spelled bytes [] (l ∷ ls) r = absurd (omega (arith, r.paired))
lengths-spelled bytes (s ∷ ss) [] r = absurd (omega (arith, r.paired))
lengths-spelled bytes (s ∷ ss) (l ∷ ls) r =
    let h : s + l ≤ length bytes = r.inside 0 (omega arith) in
    ap₂ (λ (x : ℕ) (xs : List ℕ). x ∷ xs) (length-take-le l (drop s bytes) (omega (arith, length-drop s bytes)))
    (lengths-spelled bytes ss ls
    (record { paired = omega (arith, r.paired); inside = λ i h. r.inside (suc i) (omega arith) }))

-- ---- one name

module _ (bytes starts lengths : List ℕ) (i : ℕ) where
  pub no_start : length starts ≤ i → is_well (name_at bytes starts lengths i) ≡ false
  unfolding name_at
  no_start h = rw (le-ltb i (length starts) h)

  pub no_length : i < length starts → length lengths ≤ i → is_well (name_at bytes starts lengths i) ≡ false
  unfolding name_at
  no_length g h = rw (lt-ltb i (length starts) g, le-ltb i (length lengths) h)

  pub not-inside : i < length starts → i < length lengths → length bytes < get_or starts i 0 + get_or lengths i 0
      → is_well (name_at bytes starts lengths i) ≡ false
  unfolding name_at
  not-inside g h k =
      rw (
        lt-ltb i (length starts) g,
        lt-ltb i (length lengths) h,
        lt-leb (get_or starts i 0 + get_or lengths i 0) (length bytes) k,
      )

  pub whole-name : i < length starts → i < length lengths → get_or starts i 0 + get_or lengths i 0 ≤ length bytes
      → is_well (name_at bytes starts lengths i)
      ≡ is_name (take (get_or starts i 0 + get_or lengths i 0 - get_or starts i 0) (drop (get_or starts i 0) bytes))
  whole-name g h k =
      let q : get_or lengths i 0 ≡ get_or starts i 0 + get_or lengths i 0 - get_or starts i 0 = omega arith in
      ap is_well (name-at bytes starts lengths i g h k) ∙ ap (λ w. is_name (take w (drop (get_or starts i 0) bytes))) q

-- ---- gathering

-- what one name decides
gather-by : (m i : ℕ) (name : Option (List ℕ)) (b : Bool) (o : Answer (List (List ℕ))) → is_well name ≡ b
    → stops_at m (refuse_none malformed i name (λ x. refuse_unless malformed i (is_name x) (and_then o (λ xs. done (x ∷ xs)))))
    ≡ choose b (stops_at m o) i
unfolding refuse_none refuse_unless and_then
gather-by m i none true o e = no_bool (sym e)
gather-by m i none false o e = refl
gather-by m i (some x) b o e = go (is_name x) b e o
  where
    go : (c b : Bool) → c ≡ b → (o : Answer (List (List ℕ)))
        → stops_at m (refuse_unless malformed i c (and_then o (λ xs. done (x ∷ xs)))) ≡ choose b (stops_at m o) i
    go true true e (done xs) = refl
    go true true e (refused c p) = refl
    go true false e o = no_bool e
    go false true e o = no_bool (sym e)
    go false false e o = refl

module _ (bytes starts lengths : List ℕ) (m i : ℕ) where
  gather-turn : (b : Bool) → i < m → is_well (name_at bytes starts lengths i) ≡ b
      → stops_at m (gather bytes starts lengths i (m - i))
      ≡ choose b (stops_at m (gather bytes starts lengths (i + 1) (m - (i + 1)))) i
  unfolding gather
  gather-turn b h e =
      let q : m - i ≡ suc (m - (i + 1)) = omega arith in
      rw (q, add-one) (gather-by m i (name_at bytes starts lengths i) b (gather bytes starts lengths (suc i) (m - suc i)) e)

  -- a name is taken
  pub gather-more : i < m → is_well (name_at bytes starts lengths i) ≡ true
      → stops_at m (gather bytes starts lengths i (m - i)) ≡ stops_at m (gather bytes starts lengths (i + 1) (m - (i + 1)))
  gather-more h e = gather-turn true h e

  -- or stops the gathering
  pub gather_stops : i < m → is_well (name_at bytes starts lengths i) ≡ false
      → stops_at m (gather bytes starts lengths i (m - i)) ≡ i
  gather_stops h e = gather-turn false h e

  -- all are taken
  pub gather-ends : m ≤ i → stops_at m (gather bytes starts lengths i (m - i)) ≡ m
  unfolding gather
  gather-ends h = let q : m - i ≡ 0 = omega arith in rw q

-- a refusal is 16 at one of the names
pub gather-refused : (bytes starts lengths : List ℕ) (i m : ℕ) (c : Cause) (p : ℕ) → gather bytes starts lengths i m ≡ refused c p
    → (c ≡ malformed) × (p < i + m)
unfolding gather refuse_none refuse_unless and_then
gather-refused bytes starts lengths i zero c p e = no_answer (sym e)
gather-refused bytes starts lengths i (suc m) c p e =
    go (name_at bytes starts lengths i) (gather bytes starts lengths (suc i) m) e (λ h. gather-refused bytes starts lengths (suc i) m c p h)
  where
    first : ◌≡◌ {A = Answer (List (List ℕ))} (refused malformed i) (refused c p) → (c ≡ malformed) × (p < i + suc m)
    first e = let x : malformed ≡ c = cc in let y : i ≡ p = cc in (sym x, omega arith)

    further : (x : List ℕ) (o : Answer (List (List ℕ))) → and_then o (λ xs. done (x ∷ xs)) ≡ refused c p
        → (o ≡ refused c p → (c ≡ malformed) × (p < suc i + m)) → (c ≡ malformed) × (p < i + suc m)
    further x (done xs) e again = no_answer (sym e)
    further x (refused d q) e again = let r = again (refused_as e) in (r.0, omega (arith, r.1))

    tested : (b : Bool) (x : List ℕ) (o : Answer (List (List ℕ))) → refuse_unless malformed i b (and_then o (λ xs. done (x ∷ xs)))
        ≡ refused c p
        → (o ≡ refused c p → (c ≡ malformed) × (p < suc i + m)) → (c ≡ malformed) × (p < i + suc m)
    tested true x o e again = further x o e again
    tested false x o e again = first e

    go : (name : Option (List ℕ)) (o : Answer (List (List ℕ)))
        → refuse_none malformed i name (λ x. refuse_unless malformed i (is_name x) (and_then o (λ xs. done (x ∷ xs)))) ≡ refused c p
        → (o ≡ refused c p → (c ≡ malformed) × (p < suc i + m)) → (c ≡ malformed) × (p < i + suc m)
    go none o e again = first e
    go (some x) o e again = tested (is_name x) x o e again

-- an entry that gives a name
record Entry (bytes starts lengths : List ℕ) (i : ℕ) (x : List ℕ) : Type 0 where
  start : i < length starts
  size : i < length lengths
  inside : get_or starts i 0 + get_or lengths i 0 ≤ length bytes
  name : x ≡ take (get_or lengths i 0) (drop (get_or starts i 0) bytes)

entry : (bytes starts lengths : List ℕ) (i : ℕ) (x : List ℕ) → name_at bytes starts lengths i ≡ some x
    → Entry bytes starts lengths i x
unfolding name_at
entry bytes starts lengths i x h = go _ refl h
  where
    a : Bool
    a = ltb i (length starts)

    b : Bool
    b = ltb i (length lengths)

    d : Bool
    d = leb (get_or starts i 0 + get_or lengths i 0) (length bytes)

    y : List ℕ
    y = take (get_or lengths i 0) (drop (get_or starts i 0) bytes)

    go : (c : Bool) → a && (b && d) ≡ c → choose c (some y) none ≡ some x → Entry bytes starts lengths i x
    go true e q =
        let u = and_both a (b && d) e in
        let v = and_both b d u.1 in
        record {
          start = ltb-true i (length starts) u.0;
          size = ltb-true i (length lengths) v.0;
          inside = leb-true (get_or starts i 0 + get_or lengths i 0) (length bytes) v.1;
          name = sym (some_inj q);
        }
    go false e q = no_value q

-- gathered names are those of the rows, cut after them
pub record Cut (bytes starts lengths : List ℕ) (m : ℕ) (names : List (List ℕ)) : Type 0 where
  pub starts-most : m ≤ length starts
  pub lengths-most : m ≤ length lengths
  pub rows : Rows bytes (take m starts) (take m lengths)
  pub spells : names ≡ spelled bytes (take m starts) (take m lengths)
  pub named : all is_name names ≡ true
  pub count : length names ≡ m

module _ (bytes starts lengths : List ℕ) (m : ℕ) (names : List (List ℕ)) (e : gather bytes starts lengths 0 m ≡ done names) where
  each : (j : ℕ) → j < m → Entry bytes starts lengths j (get_or names j [])
  each j h =
      entry bytes starts lengths j (get_or names j [])
      (ap (name_at bytes starts lengths) (sym (zero-add j)) ∙ (gathered bytes starts lengths 0 m names e).each j h)

  most : (n : ℕ) → m ≡ n → (m ≤ length starts) × (m ≤ length lengths)
  most zero q = (omega arith, omega arith)
  most (suc n) q = let x = each n (omega arith) in (omega (arith, x.start), omega (arith, x.size))

  pub cut : Cut bytes starts lengths m names
  cut =
      let g = gathered bytes starts lengths 0 m names e in
      let h = most m refl in
      let s : length (take m starts) ≡ m = length-take-le m starts h.0 in
      let l : length (take m lengths) ≡ m = length-take-le m lengths h.1 in
      let r : Rows bytes (take m starts) (take m lengths)
      = record {
        paired = s ∙ sym l;
        inside = λ i k.
            let z : i < m = omega arith in
            rw (get_or-take m starts i 0 z, get_or-take m lengths i 0 z) (each i z).inside;
      } in
      record {
        starts-most = h.0;
        lengths-most = h.1;
        rows = r;
        spells = ext_get_or [] names (spelled bytes (take m starts) (take m lengths))
            (g.count ∙ sym (length-spelled bytes (take m starts) (take m lengths) r.paired ∙ s))
            (λ i k.
            let z : i < m = omega (arith, g.count) in
            (each i z).name ∙ sym (spelled_at bytes (take m starts) (take m lengths) i r.paired (omega arith)
            ∙ ap₂ (λ a b. take a (drop b bytes)) (get_or-take m lengths i 0 z) (get_or-take m starts i 0 z)));
        named = g.named;
        count = g.count;
      }
