-- Names: what no name has in it, names compared and looked up, codes and symbol numbers, and the value of a line.
-- Lookup uses only that `same_name` is reflexive and symmetric; `same_case` alone uses which bytes count as the same.
-- Assumes nothing.
use Prim.Native.Nat.{ℕ, zero, suc, ◌+◌, ◌-◌, ◌≤◌, ◌<◌}
use mathlib.Core.Path.{◌≡◌, refl, ap, ap₂, sym, ◌∙◌}
use mathlib.Core.List.{List, [], ◌∷◌, ◌++◌, map}
use mathlib.Core.Bool.{Bool, true, false, not, ◌||◌}
use mathlib.Core.Logic.{◌⊎◌, inl, inr}
use mathlib.Core.Option.{none, some}
use native.Mathlib.Omega.{arith}
use borrow.Author.Tests.{eqb-true, eqb-false, eq-eqb, ne_eqb, ltb-true, ltb-false, leb-true, lt-ltb, le-ltb, le-leb}
use lib.Dec.{eqb, ltb, leb}
use lib.ListN.{length, get_or}
use Rattle.grammar.specs.Basics.{choose}
use Rattle.grammar.specs.Limits.{Limits}
use Rattle.grammar.specs.Grammar.{Terminal, Nonterminal, start}
use Rattle.grammar.proofs.Answers.{no_bool, and_both, both_and}
use Rattle.text.specs.Names.{within, is_name_byte, all, any, is_name, folded, same_name, has_double, place}
use Rattle.text.specs.Keys.{value_of}
use Rattle.text.specs.Read.{number_of, is_known, code_of, symbol_of}
use Rattle.text.specs.Spelling.{spelling}
use Rattle.text.specs.Print.{name_of}
use Rattle.text.proofs.Pieces.{all_weaker, other}

-- ---- tests

-- no value is none
pub no_value : {A X : Type 0} {x : A} → none ≡ some x → X
no_value {x = x} h = let z : ◌≡◌ {A = ℕ} 0 1 = cc in absurd (let o : ⊥ = omega arith in o)

-- some value is that value
pub some_inj : {A : Type 0} {x y : A} → some x ≡ some y → x ≡ y
some_inj {x = x} {y = y} h = cc

-- neither holds
pub or_neither : (a b : Bool) → a || b ≡ false → (a ≡ false) × (b ≡ false)
or_neither true b h = no_bool h
or_neither false b h = (refl, h)

-- and the other way round
pub neither_or : (a b : Bool) → a ≡ false → b ≡ false → a || b ≡ false
neither_or true b h k = no_bool h
neither_or false b h k = k

-- a number between two is at least one and at most the other
pub within_both : (lo hi n : ℕ) → within lo hi n ≡ true → (lo ≤ n) × (n ≤ hi)
within_both lo hi n h = let a = and_both (leb lo n) (leb n hi) h in (leb-true lo n a.0, leb-true n hi a.1)

-- and the other way round
pub both-within : (lo hi n : ℕ) → lo ≤ n → n ≤ hi → within lo hi n ≡ true
both-within lo hi n h k = both_and (leb lo n) (leb n hi) (le-leb lo n h) (le-leb n hi k)

-- ---- the bytes of a name

-- a name has 1 to 15 bytes
pub name-size : (p : List ℕ) → is_name p ≡ true → (1 ≤ length p) × (length p ≤ 15)
unfolding is_name
name-size p h = within_both 1 15 (length p) (and_both (within 1 15 (length p)) (all is_name_byte p) h).0

name-other : (c b : ℕ) → is_name_byte c ≡ false → is_name_byte b ≡ true → other c b ≡ true
name-other c b n h = go (eqb b c) refl
  where
    go : (t : Bool) → eqb b c ≡ t → not t ≡ true
    go false e = refl
    go true e = no_bool (sym h ∙ ap is_name_byte (eqb-true b c e) ∙ n)

-- a name is free of a byte that no name has
pub name_free : (c : ℕ) (p : List ℕ) → is_name_byte c ≡ false → is_name p ≡ true → all (other c) p ≡ true
unfolding is_name
name_free c p n h =
    all_weaker is_name_byte (other c) p (λ b e. name-other c b n e) (and_both (within 1 15 (length p)) (all is_name_byte p) h).1

-- so are names
pub names_free : (c : ℕ) (ps : List (List ℕ)) → is_name_byte c ≡ false → all is_name ps ≡ true → all (all (other c)) ps ≡ true
names_free c ps n h = all_weaker is_name (all (other c)) ps (λ p e. name_free c p n e) h

-- the line end is no byte of names
pub no_line-end : is_name_byte 10 ≡ false
unfolding is_name_byte
no_line-end = refl

-- nor is the space
pub no_space : is_name_byte 32 ≡ false
unfolding is_name_byte
no_space = refl

-- nor is the comma
pub no_comma : is_name_byte 44 ≡ false
unfolding is_name_byte
no_comma = refl

-- nor is the colon
pub no_colon : is_name_byte 58 ≡ false
unfolding is_name_byte
no_colon = refl

-- ---- names compared

-- a name is the same as itself
pub same_refl : (a : List ℕ) → same_name a a ≡ true
unfolding same_name
same_refl [] = refl
same_refl (x ∷ a) = rw (eq-eqb (folded x) (folded x) refl) (same_refl a)

eqb-sym : (a b : ℕ) → eqb a b ≡ eqb b a
eqb-sym a b = go (eqb b a) refl
  where
    go : (t : Bool) → eqb b a ≡ t → eqb a b ≡ t
    go true e = eq-eqb a b (sym (eqb-true b a e))
    go false e = ne_eqb a b (λ q. eqb-false b a e (sym q))

-- the order does not count
pub same-sym : (a b : List ℕ) → same_name a b ≡ same_name b a
unfolding same_name
same-sym [] [] = refl
same-sym [] (y ∷ b) = refl
same-sym (x ∷ a) [] = refl
same-sym (x ∷ a) (y ∷ b) = rw (same-sym a b, eqb-sym (folded x) (folded y))

-- the same names differ only in the case of letters
same_case : (a b : List ℕ) → same_name a b ≡ true → map folded a ≡ map folded b
unfolding same_name
same_case [] [] h = refl
same_case [] (y ∷ b) h = no_bool (sym h)
same_case (x ∷ a) [] h = no_bool (sym h)
same_case (x ∷ a) (y ∷ b) h =
    let c = and_both (eqb (folded x) (folded y)) (same_name a b) h in
    ap₂ (λ (z : ℕ) (l : List ℕ). z ∷ l) (eqb-true (folded x) (folded y) c.0) (same_case a b c.1)

-- an element of a list in which none passes does not pass
any_at : {A : Type 0} (p : A → Bool) (xs : List A) (i : ℕ) (d : A) → any p xs ≡ false → i < length xs → p (get_or xs i d) ≡ false
unfolding any
any_at p [] i d h l = absurd (omega arith)
any_at p (x ∷ xs) zero d h l = (or_neither (p x) (any p xs) h).0
any_at p (x ∷ xs) (suc i) d h l = any_at p xs i d (or_neither (p x) (any p xs) h).1 (omega arith)

any-front : {A : Type 0} (p : A → Bool) (xs ys : List A) → any p (xs ++ ys) ≡ false → any p xs ≡ false
unfolding any
any-front p [] ys h = refl
any-front p (x ∷ xs) ys h =
    let c = or_neither (p x) (any p (xs ++ ys)) h in
    neither_or (p x) (any p xs) c.0 (any-front p xs ys c.1)

-- no name twice among all: none twice among the first ones
pub double_front : (xs ys : List (List ℕ)) → has_double (xs ++ ys) ≡ false → has_double xs ≡ false
unfolding has_double
double_front [] ys h = refl
double_front (x ∷ xs) ys h =
    let c = or_neither (any (same_name x) (xs ++ ys)) (has_double (xs ++ ys)) h in
    neither_or (any (same_name x) xs) (has_double xs) (any-front (same_name x) xs ys c.0) (double_front xs ys c.1)

-- ---- names looked up

-- a declared name is found at its own number
pub place-again : (names : List (List ℕ)) (i : ℕ) → has_double names ≡ false → i < length names
    → place (same_name (get_or names i [])) names ≡ i
unfolding place has_double
place-again [] i o l = absurd (omega arith)
place-again (x ∷ xs) zero o l = rw (same_refl x)
place-again (x ∷ xs) (suc i) o l =
    let c = or_neither (any (same_name x) xs) (has_double xs) o in
    rw (same-sym (get_or xs i []) x, any_at (same_name x) xs i [] c.0 (omega arith))
    (ap suc (place-again xs i c.1 (omega arith)))

-- a known name's number is in the range that was asked for
pub known_number : (from : ℕ) (names : List (List ℕ)) (x : List ℕ) → is_known from names x ≡ true
    → (from ≤ number_of names x) × (number_of names x < length names)
unfolding is_known
known_number from names x h =
    let i = number_of names x in
    let c = and_both (leb from i) (ltb i (length names)) h in
    (leb-true from i c.0, ltb-true i (length names) c.1)

-- and the other way round
pub number_known : (from : ℕ) (names : List (List ℕ)) (x : List ℕ) → from ≤ number_of names x → number_of names x < length names
    → is_known from names x ≡ true
unfolding is_known
number_known from names x h k =
    let i = number_of names x in
    both_and (leb from i) (ltb i (length names)) (le-leb from i h) (lt-ltb i (length names) k)

-- ---- codes

-- a code's number, from `from` on and below t + n, and its code again
pub record Numbered (L : Limits) (t n from code : ℕ) : Type 0 where
  pub low : from ≤ symbol_of L t code
  pub high : symbol_of L t code < t + n
  pub again : code_of L t (symbol_of L t code) ≡ code

module _ (L : Limits) (t : ℕ) (apart : t < start L) where
  -- the code of a number, and its number again
  pub symbol-code : (i : ℕ) → symbol_of L t (code_of L t i) ≡ i
  unfolding symbol_of code_of
  symbol-code i = go (ltb i t) refl
    where
      b : ℕ
      b = start L

      go : (u : Bool) → ltb i t ≡ u
          → choose (ltb (choose u (i + 1) (b + (i - t))) b) (choose u (i + 1) (b + (i - t)) - 1)
          (t + (choose u (i + 1) (b + (i - t)) - b)) ≡ i
      go true e = let l : i + 1 < b = omega (arith, ltb-true i t e) in rw (lt-ltb (i + 1) b l) (omega arith)
      go false e = let l : b ≤ b + (i - t) = omega arith in rw (le-ltb (b + (i - t)) b l) (omega (arith, ltb-false i t e))

  -- the code of a number from t on is a nonterminal
  pub code-left : (n i : ℕ) → t ≤ i → i < t + n → Nonterminal L n (code_of L t i)
  unfolding code_of
  code-left n i h k = rw (le-ltb i t h) (omega arith, omega arith)

  -- the code of a number is declared
  pub code-right : (n i : ℕ) → i < t + n → Terminal t (code_of L t i) ⊎ Nonterminal L n (code_of L t i)
  unfolding code_of
  code-right n i h = go (ltb i t) refl
    where
      b : ℕ
      b = start L

      go : (u : Bool) → ltb i t ≡ u
          → Terminal t (choose u (i + 1) (b + (i - t))) ⊎ Nonterminal L n (choose u (i + 1) (b + (i - t)))
      go true e = inl (omega arith, omega (arith, ltb-true i t e))
      go false e = inr (omega arith, omega (arith, ltb-false i t e))

  -- a nonterminal's number is from t on
  pub left_number : (n c : ℕ) → Nonterminal L n c → Numbered L t n t c
  unfolding symbol_of code_of
  left_number n c h =
      let b = start L in
      let l : b ≤ c = h.0 in
      let m : c < b + n = h.1 in
      let e : ltb c b ≡ false = le-ltb c b l in
      let f : ltb (t + (c - b)) t ≡ false = le-ltb (t + (c - b)) t (omega arith) in
      record { low = rw e (omega arith); high = rw e (omega arith); again = rw (e, f) (omega arith) }

  -- a declared code has a number
  pub right_number : (n c : ℕ) → Terminal t c ⊎ Nonterminal L n c → Numbered L t n 0 c
  unfolding symbol_of code_of
  right_number n c (inl h) =
      let b = start L in
      let l : 1 ≤ c = h.0 in
      let m : c ≤ t = h.1 in
      let p : ltb c b ≡ true = lt-ltb c b (omega arith) in
      let q : ltb (c - 1) t ≡ true = lt-ltb (c - 1) t (omega arith) in
      record { low = omega arith; high = rw p (omega arith); again = rw (p, q) (omega arith) }
  right_number n c (inr h) = let a = left_number n c h in record { low = omega arith; high = a.high; again = a.again }

get_d_any : {A : Type 0} (l : List A) (i : ℕ) (d e : A) → i < length l → get_or l i d ≡ get_or l i e
get_d_any [] i d e h = absurd (omega arith)
get_d_any (x ∷ l) zero d e h = refl
get_d_any (x ∷ l) (suc i) d e h = get_d_any l i d e (omega arith)

-- a known name's code has that name, as it is declared
pub known-name : (L : Limits) (t from : ℕ) (names : List (List ℕ)) (x : List ℕ) → t < start L → is_known from names x ≡ true
    → name_of L t names (code_of L t (number_of names x)) ≡ spelling names x
unfolding name_of number_of spelling
known-name L t from names x h e =
    let i = place (same_name x) names in
    ap (λ j. get_or names j []) (symbol-code L t h i) ∙ get_d_any names i [] x (known_number from names x e).1

-- which differs from a name, declared or not, only in the case of letters
place_case : (x : List ℕ) (names : List (List ℕ)) → map folded (get_or names (place (same_name x) names) x) ≡ map folded x
unfolding place
place_case x [] = refl
place_case x (y ∷ ys) = go (same_name x y) refl (place_case x ys)
  where
    go : (b : Bool) → same_name x y ≡ b → map folded (get_or ys (place (same_name x) ys) x) ≡ map folded x
        → map folded (get_or (y ∷ ys) (choose b 0 (suc (place (same_name x) ys))) x) ≡ map folded x
    go true e again = sym (same_case x y e)
    go false e again = again

pub spelling_case : (names : List (List ℕ)) (x : List ℕ) → map folded (spelling names x) ≡ map folded x
unfolding number_of spelling
spelling_case names x = place_case x names

-- ---- the value of a line

-- a key, the equals sign and a value
pub key-value : (k v : List ℕ) → value_of k (k ++ 61 ∷ v) ≡ some v
unfolding value_of
key-value [] v = refl
key-value (x ∷ k) v = rw (eq-eqb x x refl) (key-value k v)

-- a line that has a value is made of them
pub value-key : (k line v : List ℕ) → value_of k line ≡ some v → line ≡ k ++ 61 ∷ v
unfolding value_of
value-key [] [] v h = no_value h
value-key [] (b ∷ s) v h = go (eqb b 61) refl h
  where
    go : (t : Bool) → eqb b 61 ≡ t → choose t (some s) none ≡ some v → b ∷ s ≡ 61 ∷ v
    go true e h = cc (eqb-true b 61 e)
    go false e h = no_value h
value-key (x ∷ k) [] v h = no_value h
value-key (x ∷ k) (b ∷ s) v h = go (eqb b x) refl (value-key k s v) h
  where
    go : (t : Bool) → eqb b x ≡ t → (value_of k s ≡ some v → s ≡ k ++ 61 ∷ v) → choose t (value_of k s) none ≡ some v
        → b ∷ s ≡ x ∷ (k ++ 61 ∷ v)
    go true e again h = cc (eqb-true b x e, again h)
    go false e again h = no_value h
