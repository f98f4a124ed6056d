-- The joined source is well named, whatever the limits say of its size; its codes fit. Assumes nothing.
use Prim.Native.Nat.{ℕ, zero, suc, ◌+◌, ◌-◌, ◌≤◌, ◌<◌}
use mathlib.Core.Path.{◌≡◌, refl, ap, sym, subst, ◌∙◌}
use mathlib.Core.Bool.{Bool, true, false, ◌||◌}
use mathlib.Core.List.{List, [], ◌∷◌, ◌++◌, map}
use mathlib.Core.Logic.{◌⊎◌, inl, inr}
use native.Mathlib.Omega.{arith}
use lib.ListN.{length, get_or, length-append, length-map}
use Rattle.grammar.specs.Basics.{choose, Mem, here, there}
use Rattle.grammar.specs.Limits.{Limits}
use Rattle.grammar.specs.Grammar.{Terminal, Nonterminal, Rule, start}
use Rattle.grammar.specs.TableCheck.{is_among}
use Rattle.grammar.proofs.Answers.{no_bool}
use Rattle.grammar.proofs.Plain.{mem_cases}
use Rattle.grammar.proofs.Lists.{lt_or_le}
use Rattle.text.specs.Names.{all, any, is_name, same_name, has_double, place}
use Rattle.text.specs.Read.{Source, symbol_names, number_of, symbol_of}
use Rattle.text.specs.Print.{name_of}
use Rattle.text.proofs.Names.{same_refl, code-left, code-right, left_number, right_number, double_front}
use Rattle.text.proofs.Pieces.{all_append, all-front, all_back}
use Rattle.text.proofs.WellNamed.{RuleFits, WellNamedSource}
use Rattle.modules.specs.Joined.{meet, added, added_rules, joined_terminals, joined_nonterminals, joined_code, joined_rule, joined}
use Rattle.modules.proofs.Meets.{all-added, any_append, any-added, meet-head, meet_left, meet_less, meet_right, meet-fewer, meet-sym, meet-added, double_append, double_back, double_meet, double_added}

-- ---- names

module _ (L : Limits) (robot addon : Source) (wr : WellNamedSource L robot) (wm : WellNamedSource L addon)
    (first : meet addon.terminals robot.nonterminals ≡ false) (second : meet addon.nonterminals robot.terminals ≡ false) where
  abbrev rt : List (List ℕ)
  rt = robot.terminals

  abbrev rn : List (List ℕ)
  rn = robot.nonterminals

  abbrev mt : List (List ℕ)
  mt = addon.terminals

  abbrev mn : List (List ℕ)
  mn = addon.nonterminals

  pub terminals-named : all is_name (joined_terminals robot addon) ≡ true
  terminals-named = all_append is_name rt (added rt mt) (all-front is_name rt rn wr.named) (all-added is_name rt mt (all-front is_name mt mn wm.named))

  pub nonterminals-named : all is_name (joined_nonterminals robot addon) ≡ true
  nonterminals-named = all_append is_name rn (added rn mn) (all_back is_name rt rn wr.named) (all-added is_name rn mn (all_back is_name mt mn wm.named))

  pub joined_once : has_double (joined_terminals robot addon ++ joined_nonterminals robot addon) ≡ false
  joined_once =
      double_append (joined_terminals robot addon) (joined_nonterminals robot addon)
      (double_append rt (added rt mt) (double_front rt rn wr.once) (double_added rt mt (double_front mt mn wm.once)) (meet-added rt mt))
      (double_append rn (added rn mn) (double_back rt rn wr.once) (double_added rn mn (double_back mt mn wm.once)) (meet-added rn mn))
      (meet_left rt (added rt mt) (joined_nonterminals robot addon)
      (meet_right rt rn (added rn mn) (double_meet rt rn wr.once) (meet-fewer rn rt mn (meet-sym mn rt second)))
      (meet_right (added rt mt) rn (added rn mn) (meet_less rt mt rn first) (meet_less rt mt (added rn mn) (meet-fewer rn mt mn (double_meet mt mn wm.once)))))

-- ---- places of names

true-front : (p : List ℕ → Bool) (xs ys : List (List ℕ)) → any p xs ≡ true → any p (xs ++ ys) ≡ true
unfolding any
true-front p [] ys h = no_bool (sym h)
true-front p (x ∷ xs) ys h = go (p x) h (true-front p xs ys)
  where
    go : (c : Bool) → c || any p xs ≡ true → (any p xs ≡ true → any p (xs ++ ys) ≡ true) → c || any p (xs ++ ys) ≡ true
    go true e k = refl
    go false e k = k e

true-back : (p : List ℕ → Bool) (xs ys : List (List ℕ)) → any p ys ≡ true → any p (xs ++ ys) ≡ true
unfolding any
true-back p [] ys h = h
true-back p (x ∷ xs) ys h = go (p x) (true-back p xs ys h)
  where
    go : (c : Bool) → any p (xs ++ ys) ≡ true → c || any p (xs ++ ys) ≡ true
    go true k = refl
    go false k = k

true_cons : (p : List ℕ → Bool) (x : List ℕ) (xs : List (List ℕ)) → any p xs ≡ true → any p (x ∷ xs) ≡ true
true_cons p x xs h = true-back p (x ∷ []) xs h

true-first : (x : List ℕ) (xs : List (List ℕ)) → any (same_name x) (x ∷ xs) ≡ true
unfolding any
true-first x xs = ap (λ (c : Bool). c || any (same_name x) xs) (same_refl x)

true-more : (p : List ℕ → Bool) (names : List (List ℕ)) (x : List ℕ) (xs : List (List ℕ)) → any p (names ++ xs) ≡ true → any p (names ++ (x ∷ xs)) ≡ true
unfolding any
true-more p [] x xs h = true_cons p x xs h
true-more p (y ∷ names) x xs h = go (p y) h (true-more p names x xs)
  where
    go : (c : Bool) → c || any p (names ++ xs) ≡ true → (any p (names ++ xs) ≡ true → any p (names ++ (x ∷ xs)) ≡ true) → c || any p (names ++ (x ∷ xs)) ≡ true
    go true e k = refl
    go false e k = k e

-- each name is there or is added
pub covered : (names xs : List (List ℕ)) (i : ℕ) → i < length xs → any (same_name (get_or xs i [])) (names ++ added names xs) ≡ true
unfolding added
covered names [] i h = absurd (omega arith)
covered names (x ∷ xs) zero h = go (any (same_name x) names) refl
  where
    go : (c : Bool) → any (same_name x) names ≡ c → any (same_name x) (names ++ choose c (added names xs) (x ∷ added names xs)) ≡ true
    go true e = true-front (same_name x) names (added names xs) e
    go false e = true-back (same_name x) names (x ∷ added names xs) (true-first x (added names xs))
covered names (x ∷ xs) (suc i) h = go (any (same_name x) names) (covered names xs i (omega arith))
  where
    go : (c : Bool) → any (same_name (get_or xs i [])) (names ++ added names xs) ≡ true
        → any (same_name (get_or xs i [])) (names ++ choose c (added names xs) (x ∷ added names xs)) ≡ true
    go true k = k
    go false k = true-more (same_name (get_or xs i [])) names x (added names xs) k

pub place-some : (p : List ℕ → Bool) (xs : List (List ℕ)) → any p xs ≡ true → place p xs < length xs
unfolding any place
place-some p [] h = no_bool (sym h)
place-some p (x ∷ xs) h = go (p x) h (place-some p xs)
  where
    go : (c : Bool) → c || any p xs ≡ true → (any p xs ≡ true → place p xs < length xs) → choose c 0 (suc (place p xs)) < suc (length xs)
    go true e k = omega arith
    go false e k = let z = k e in omega arith

pub place-past : (p : List ℕ → Bool) (xs ys : List (List ℕ)) → any p xs ≡ false → length xs ≤ place p (xs ++ ys)
unfolding any place
place-past p [] ys h = omega arith
place-past p (x ∷ xs) ys h = go (p x) h (place-past p xs ys)
  where
    go : (c : Bool) → c || any p xs ≡ false → (any p xs ≡ false → length xs ≤ place p (xs ++ ys)) → suc (length xs) ≤ choose c 0 (suc (place p (xs ++ ys)))
    go true e k = no_bool e
    go false e k = let z = k e in omega arith

-- a name of a list that does not meet another is not in it
pub meet-at : (xs ys : List (List ℕ)) (i : ℕ) → meet xs ys ≡ false → i < length xs → any (same_name (get_or xs i [])) ys ≡ false
meet-at [] ys i h k = absurd (omega arith)
meet-at (x ∷ xs) ys zero h k = (meet-head x xs ys h).0
meet-at (x ∷ xs) ys (suc i) h k = meet-at xs ys i (meet-head x xs ys h).1 (omega arith)

pub get_d_front : (xs ys : List (List ℕ)) (i : ℕ) → i < length xs → get_or (xs ++ ys) i [] ≡ get_or xs i []
get_d_front [] ys i h = absurd (omega arith)
get_d_front (x ∷ xs) ys zero h = refl
get_d_front (x ∷ xs) ys (suc i) h = get_d_front xs ys i (omega arith)

pub get_d_past : (xs ys : List (List ℕ)) (i : ℕ) → length xs ≤ i → get_or (xs ++ ys) i [] ≡ get_or ys (i - length xs) []
get_d_past [] ys i h = ap (λ (j : ℕ). get_or ys j []) (let z : i ≡ i - 0 = omega arith in z)
get_d_past (x ∷ xs) ys zero h = absurd (omega arith)
get_d_past (x ∷ xs) ys (suc i) h =
    get_d_past xs ys i (omega arith) ∙ ap (λ (j : ℕ). get_or ys j []) (let z : i - length xs ≡ suc i - suc (length xs) = omega arith in z)

-- ---- codes and rules

-- elements of a mapped list, of two lists, and of what is added
mem_map : {A B : Type 0} (f : A → B) (b : B) (l : List A) → Mem b (map f l) → (a : A) × Mem a l × (f a ≡ b)
mem_map f b [] m = elim m [ ]
mem_map f b (a ∷ l) m =
    elim (mem_cases m) [
      | inl e ↦ (a, here, e)
      | inr k ↦ let r = mem_map f b l k in (r.0, there r.1, r.2)
    ]

mem_append : {A : Type 0} (a : A) (xs ys : List A) → Mem a (xs ++ ys) → Mem a xs ⊎ Mem a ys
mem_append a [] ys m = inr m
mem_append a (x ∷ xs) ys m =
    elim (mem_cases m) [
      | inl e ↦ inl (subst (λ b. Mem b (x ∷ xs)) e here)
      | inr k ↦ elim (mem_append a xs ys k) [
        | inl i ↦ inl (there i)
        | inr i ↦ inr i
      ]
    ]

mem_added : (r : Rule) (rules xs : List Rule) → Mem r (added_rules rules xs) → Mem r xs
unfolding added_rules
mem_added r rules [] m = m
mem_added r rules (x ∷ xs) m = go (is_among x rules) m (mem_added r rules xs)
  where
    go : (c : Bool) → Mem r (choose c (added_rules rules xs) (x ∷ added_rules rules xs)) → (Mem r (added_rules rules xs) → Mem r xs) → Mem r (x ∷ xs)
    go true m k = there (k m)
    go false m k = elim (mem_cases m) [
      | inl e ↦ subst (λ b. Mem b (x ∷ xs)) e here
      | inr i ↦ there (k i)
    ]

module _ (L : Limits) (robot addon : Source) (wr : WellNamedSource L robot) (wm : WellNamedSource L addon)
    (first : meet addon.terminals robot.nonterminals ≡ false) (second : meet addon.nonterminals robot.terminals ≡ false)
    (apart : L.max_terminals < L.nonterminal_base) (few : length (joined_terminals robot addon) ≤ L.max_terminals) where
  abbrev t : ℕ
  t = length addon.terminals

  abbrev n : ℕ
  n = length addon.nonterminals

  abbrev tj : ℕ
  tj = length (joined_terminals robot addon)

  abbrev nj : ℕ
  nj = length (joined_nonterminals robot addon)

  low : t < start L
  low = omega (arith, wm.terminals-most)

  low-joined : tj < start L
  low-joined = omega (arith, few)

  abbrev x : ℕ → List ℕ
  x code = name_of L t (symbol_names addon) code

  -- the number of a module's symbol among the joined ones
  number : (i : ℕ) → i < t + n → place (same_name (get_or (symbol_names addon) i [])) (joined_terminals robot addon ++ joined_nonterminals robot addon) < tj + nj
  number i h = elim (lt_or_le i t) [
    | inl l ↦
        let y = get_or addon.terminals i [] in
        let e : get_or (symbol_names addon) i [] ≡ y = get_d_front addon.terminals addon.nonterminals i l in
        let c = place-some (same_name y) (joined_terminals robot addon ++ joined_nonterminals robot addon)
        (true-front (same_name y) (joined_terminals robot addon) (joined_nonterminals robot addon) (covered robot.terminals addon.terminals i l)) in
        subst (λ z. place (same_name z) (joined_terminals robot addon ++ joined_nonterminals robot addon) < tj + nj) (sym e)
        (subst (λ m. place (same_name y) (joined_terminals robot addon ++ joined_nonterminals robot addon) < m) (length-append (joined_terminals robot addon) (joined_nonterminals robot addon)) c)
    | inr l ↦
        let j = i - t in
        let y = get_or addon.nonterminals j [] in
        let e : get_or (symbol_names addon) i [] ≡ y = get_d_past addon.terminals addon.nonterminals i l in
        let c = place-some (same_name y) (joined_terminals robot addon ++ joined_nonterminals robot addon)
        (true-back (same_name y) (joined_terminals robot addon) (joined_nonterminals robot addon) (covered robot.nonterminals addon.nonterminals j (omega arith))) in
        subst (λ z. place (same_name z) (joined_terminals robot addon ++ joined_nonterminals robot addon) < tj + nj) (sym e)
        (subst (λ m. place (same_name y) (joined_terminals robot addon ++ joined_nonterminals robot addon) < m) (length-append (joined_terminals robot addon) (joined_nonterminals robot addon)) c)
  ]

  -- and of a nonterminal of it
  number_past : (i : ℕ) → t ≤ i → i < t + n → tj ≤ place (same_name (get_or (symbol_names addon) i [])) (joined_terminals robot addon ++ joined_nonterminals robot addon)
  number_past i l h =
      let j = i - t in
      let y = get_or addon.nonterminals j [] in
      let k : j < n = omega arith in
      let e : get_or (symbol_names addon) i [] ≡ y = get_d_past addon.terminals addon.nonterminals i l in
      let a = meet-at addon.nonterminals robot.terminals j second k in
      let b = any-added (same_name y) robot.terminals addon.terminals (meet-at addon.nonterminals addon.terminals j (meet-sym addon.terminals addon.nonterminals (double_meet addon.terminals addon.nonterminals wm.once)) k) in
      subst (λ z. tj ≤ place (same_name z) (joined_terminals robot addon ++ joined_nonterminals robot addon)) (sym e)
      (place-past (same_name y) (joined_terminals robot addon) (joined_nonterminals robot addon) (any_append (same_name y) robot.terminals (added robot.terminals addon.terminals) a b))

  left_fits : (c : ℕ) → Nonterminal L n c → Nonterminal L nj (joined_code L robot addon c)
  unfolding name_of number_of
  left_fits c h = let a = left_number L t low n c h in code-left L tj low-joined nj _ (number_past (symbol_of L t c) a.low a.high) (number (symbol_of L t c) a.high)

  code_fits : (c : ℕ) → Terminal t c ⊎ Nonterminal L n c → Terminal tj (joined_code L robot addon c) ⊎ Nonterminal L nj (joined_code L robot addon c)
  unfolding name_of number_of
  code_fits c h = let a = right_number L t low n c h in code-right L tj low-joined nj _ (number (symbol_of L t c) a.high)

  pub rules_fit : (r : Rule) → Mem r (joined L robot addon).rules → RuleFits L tj nj r
  unfolding joined
  rules_fit r m = elim (mem_append r robot.rules (added_rules robot.rules (map (joined_rule L robot addon) addon.rules)) m) [
    | inl i ↦
        let w = wr.fit r i in
        let p = length-append robot.terminals (added robot.terminals addon.terminals) in
        let q = length-append robot.nonterminals (added robot.nonterminals addon.nonterminals) in
        record {
          left = (w.left.0, omega (arith, w.left.1, q));
          codes = λ c k. elim (w.codes c k) [
            | inl y ↦ inl (y.0, omega (arith, y.1, p))
            | inr y ↦ inr (y.0, omega (arith, y.1, q))
          ];
          few = w.few;
        }
    | inr i ↦
        let s = mem_map (joined_rule L robot addon) r addon.rules (mem_added r robot.rules (map (joined_rule L robot addon) addon.rules) i) in
        let w = wm.fit s.0 s.1 in
        subst (RuleFits L tj nj) s.2
        (record {
          left = left_fits s.0.left w.left;
          codes = λ c k. let z = mem_map (joined_code L robot addon) c s.0.right k in
              subst (λ d. Terminal tj d ⊎ Nonterminal L nj d) z.2 (code_fits z.0 (w.codes z.0 z.1));
          few = omega (arith, w.few, length-map s.0.right (joined_code L robot addon));
        })
  ]
