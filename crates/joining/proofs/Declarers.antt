-- Which text declares a joined symbol's name: the robot's if it has it, else the module's, whose number the symbol is. Assumes nothing.
use Prim.Native.Nat.{ℕ, zero, suc, ◌+◌, ◌-◌, ◌≤◌, ◌<◌}
use mathlib.Core.Path.{◌≡◌, refl, ap, sym, ◌∙◌}
use mathlib.Core.Bool.{Bool, true, false, ◌||◌}
use mathlib.Core.List.{List, [], ◌∷◌, ◌++◌}
use mathlib.Core.Logic.{◌⊎◌, inl, inr}
use native.Mathlib.Omega.{arith}
use borrow.Author.Tests.{lt-ltb, le-ltb}
use lib.ListN.{length, get_or, length-append}
use Rattle.grammar.proofs.Lists.{lt_or_le}
use Rattle.text.specs.Names.{any, same_name, has_double}
use Rattle.text.specs.Read.{Source, symbol_names, number_of}
use Rattle.text.specs.Promise.{name_starts, name_lengths}
use Rattle.text.proofs.Names.{same_refl, place-again}
use Rattle.modules.specs.Joined.{meet, added, joined_terminals, joined_nonterminals}
use Rattle.joining.specs.Numbers.{numbered}
use Rattle.modules.specs.Shown.{declared_in, place_of_name, place_among}
use Rattle.modules.specs.declared.Place.{Place}
use Rattle.modules.specs.declared.Place.TheVariants.{Robot, Module, Neither}
use Rattle.modules.proofs.Meets.{any_append}
use Rattle.modules.proofs.Named.{meet-at, get_d_front, get_d_past}
use Rattle.joining.proofs.ShownLaws.{number_low, number_shown, added-counted}

-- ---- a name at its number

any_self : (names : List (List ℕ)) (j : ℕ) → j < length names → any (same_name (get_or names j [])) names ≡ true
unfolding any
any_self [] j h = absurd (omega arith)
any_self (x ∷ names) zero h = rw (same_refl x)
any_self (x ∷ names) (suc j) h = rw (any_self names j (omega arith)) (go (same_name (get_or names j []) x))
  where
    go : (c : Bool) → c || true ≡ true
    go true = refl
    go false = refl

-- name i of these is the robot's name j
pub record OfRobot (r : Source) (names : List (List ℕ)) (i j : ℕ) : Type 0 where
  pub declared : j < length (symbol_names r)
  pub is : get_or names i [] ≡ get_or (symbol_names r) j []

-- or the module's name j, which the robot lacks
pub record OfModule (r m : Source) (names : List (List ℕ)) (i j : ℕ) : Type 0 where
  pub declared : j < length (symbol_names m)
  pub is : get_or names i [] ≡ get_or (symbol_names m) j []
  pub other : any (same_name (get_or (symbol_names m) j [])) (symbol_names r) ≡ false

-- the place that is told of it
abbrev pub place_at : (ℕ → ℕ → Place) → Source → ℕ → Place
place_at text s j = text (get_or (name_starts s) j 0) (get_or (name_lengths (symbol_names s)) j 0)

declared-at : (text : ℕ → ℕ → Place) (s : Source) (j : ℕ) (elsewhere : Place)
    → has_double (symbol_names s) ≡ false → j < length (symbol_names s)
    → declared_in text s (get_or (symbol_names s) j []) elsewhere ≡ place_at text s j
unfolding declared_in number_of
declared-at text s j elsewhere once h = rw (any_self (symbol_names s) j h, place-again (symbol_names s) j once h)

declared-not : (text : ℕ → ℕ → Place) (s : Source) (x : List ℕ) (elsewhere : Place) → any (same_name x) (symbol_names s) ≡ false
    → declared_in text s x elsewhere ≡ elsewhere
unfolding declared_in
declared-not text s x elsewhere h = rw h

module _ (r m : Source) (names : List (List ℕ)) (i : ℕ) where
  pub among_in : i < length names → place_among r m names i ≡ place_of_name r m (get_or names i [])
  unfolding place_among
  among_in h = rw (lt-ltb i (length names) h)

  pub among-past : length names ≤ i → place_among r m names i ≡ Neither
  unfolding place_among
  among-past h = rw (le-ltb i (length names) h)

  pub among-robot : (j : ℕ) → has_double (symbol_names r) ≡ false → i < length names → OfRobot r names i j
      → place_among r m names i ≡ place_at Robot r j
  unfolding place_of_name
  among-robot j once h o = among_in h ∙ ap (place_of_name r m) o.is ∙ declared-at Robot r j _ once o.declared

  pub among_module : (j : ℕ) → has_double (symbol_names m) ≡ false → i < length names → OfModule r m names i j
      → place_among r m names i ≡ place_at Module m j
  unfolding place_of_name
  among_module j once h o =
      among_in h ∙ ap (place_of_name r m) o.is ∙ declared-not Robot r (get_or (symbol_names m) j []) _ o.other
      ∙ declared-at Module m j Neither once o.declared

-- ---- joined names

-- the names of one kind that the robot lacks
number_other : (names xs : List (List ℕ)) (i j : ℕ) → length names ≤ i → j < length xs → get_or (numbered names (length names) xs) j 0 ≡ i
    → any (same_name (get_or xs j [])) names ≡ false
number_other names xs i j h l e = go (any (same_name (get_or xs j [])) names) refl
  where
    go : (c : Bool) → any (same_name (get_or xs j [])) names ≡ c → any (same_name (get_or xs j [])) names ≡ false
    go true k = absurd (omega (arith, e, number_low names xs (length names) j l k))
    go false k = k

module _ (r m : Source) (first : meet m.terminals r.nonterminals ≡ false) (second : meet m.nonterminals r.terminals ≡ false) where
  abbrev rt : List (List ℕ)
  rt = r.terminals

  abbrev rn : List (List ℕ)
  rn = r.nonterminals

  abbrev mt : List (List ℕ)
  mt = m.terminals

  abbrev mn : List (List ℕ)
  mn = m.nonterminals

  abbrev tj : ℕ
  tj = length (joined_terminals r m)

  abbrev names : List (List ℕ)
  names = joined_terminals r m ++ joined_nonterminals r m

  pub own_terminal : (i : ℕ) → i < length rt → OfRobot r names i i
  own_terminal i h = record {
    declared = omega (arith, length-append rt rn);
    is = get_d_front (joined_terminals r m) (joined_nonterminals r m) i (omega (arith, length-append rt (added rt mt)))
        ∙ get_d_front rt (added rt mt) i h ∙ sym (get_d_front rt rn i h);
  }

  -- symbol i of the joined nonterminals is past the joined terminals
  past : (i : ℕ) → tj ≤ i → get_or names i [] ≡ get_or (joined_nonterminals r m) (i - tj) []
  past i h = get_d_past (joined_terminals r m) (joined_nonterminals r m) i h

  pub own_nonterminal : (i : ℕ) → tj ≤ i → i - tj < length rn → OfRobot r names i (length rt + (i - tj))
  own_nonterminal i h l =
      let k = i - tj in
      let z : k ≡ length rt + k - length rt = omega arith in
      record {
        declared = omega (arith, length-append rt rn);
        is = past i h ∙ get_d_front rn (added rn mn) k l ∙ ap (λ (k : ℕ). get_or rn k []) z ∙ sym (get_d_past rt rn (length rt + k) (omega arith));
      }

  pub added-terminal : (i j : ℕ) → length rt ≤ i → i < tj → j < length mt → get_or (numbered rt (length rt) mt) j 0 ≡ i → OfModule r m names i j
  added-terminal i j h l k e =
      let x : get_or (symbol_names m) j [] ≡ get_or mt j [] = get_d_front mt mn j k in
      record {
        declared = omega (arith, length-append mt mn);
        is = get_d_front (joined_terminals r m) (joined_nonterminals r m) i l ∙ number_shown rt mt i j h k e ∙ sym x;
        other = ap (λ (x : List ℕ). any (same_name x) (symbol_names r)) x
            ∙ any_append (same_name (get_or mt j [])) rt rn (number_other rt mt i j h k e) (meet-at mt rn j first k);
      }

  pub added-nonterminal : (i j : ℕ) → tj ≤ i → length rn ≤ i - tj → j < length mn → get_or (numbered rn (length rn) mn) j 0 ≡ i - tj
      → OfModule r m names i (length mt + j)
  added-nonterminal i j h l k e =
      let z : length mt + j - length mt ≡ j = omega arith in
      let x : get_or (symbol_names m) (length mt + j) [] ≡ get_or mn j [] = get_d_past mt mn (length mt + j) (omega arith) ∙ ap (λ (j : ℕ). get_or mn j []) z in
      record {
        declared = omega (arith, length-append mt mn);
        is = past i h ∙ number_shown rn mn (i - tj) j l k e ∙ sym x;
        other = ap (λ (x : List ℕ). any (same_name x) (symbol_names r)) x
            ∙ any_append (same_name (get_or mn j [])) rt rn (meet-at mn rt j second k) (number_other rn mn (i - tj) j l k e);
      }

  -- each joined symbol is of one of them
  pub declared-by : (i : ℕ) → i < length names → ((j : ℕ) × OfRobot r names i j) ⊎ ((j : ℕ) × OfModule r m names i j)
  declared-by i h = elim (lt_or_le i tj) [
    | inl l ↦ elim (lt_or_le i (length rt)) [
      | inl k ↦ inl (i, own_terminal i k)
      | inr k ↦
          let c = added-counted rt mt (length rt) i k (omega (arith, l, length-append rt (added rt mt))) in
          inr (c.number, added-terminal i c.number k l c.inside c.is)
    ]
    | inr l ↦ elim (lt_or_le (i - tj) (length rn)) [
      | inl k ↦ inl (length rt + (i - tj), own_nonterminal i l k)
      | inr k ↦
          let c = added-counted rn mn (length rn) (i - tj) k
          (omega (arith, h, l, length-append (joined_terminals r m) (joined_nonterminals r m), length-append rn (added rn mn))) in
          inr (length mt + c.number, added-nonterminal i c.number l k c.inside c.is)
    ]
  ]
