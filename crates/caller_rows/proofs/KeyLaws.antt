-- The states of a level, sorted by what stands ahead of them: the keys, and the two rows that their sort gives. State 0 stands
-- before S', which has the key n past those of the nonterminals, and n + 1 is the key of the others. So the segment of a
-- nonterminal lists its callers (`callers-placed` of crate caller_laws), and that of n state 0 alone. Assumes nothing.
use Prim.Native.Nat.{ℕ, zero, suc, ◌+◌, ◌-◌, ◌≤◌, ◌<◌}
use mathlib.Core.Path.{◌≡◌, refl, sym, ap, subst, ◌∙◌}
use mathlib.Core.Bool.{Bool, true, false}
use mathlib.Core.List.{List, [], ◌∷◌, map}
use mathlib.Core.Logic.{◌↔◌, ⊎_elim}
use native.Mathlib.Omega.{arith}
use native.Mathlib.Decide.{dec_lt}
use lib.Dec.{eqb, leb}
use lib.ListN.{length, get_or, take, length-map, get_or-map, get_or-eq_default}
use lib.Seq.{length-take-le, get_or-take}
use borrow.Author.Tests.{ne_eqb, leb-true, leb-false}
use Rattle.grammar.specs.Basics.{choose, over}
use Rattle.grammar.specs.Limits.{limits}
use Rattle.grammar.specs.Grammar.{Grammar, WellFormed, rule}
use Rattle.grammar.specs.Live.{is_live}
use Rattle.grammar.proofs.Derives.{rule-listed}
use Rattle.automaton.specs.PositionMoves.{ahead_row}
use Rattle.automaton.specs.Callers.{Spot, first, last, spot, code_at, spots, number_of}
use Rattle.automaton.specs.CallerMoves.{spot_ahead, spot_after}
use Rattle.triple_laws.proofs.Members.{place_mem}
use Rattle.triple_laws.proofs.Position.{position-regular}
use Rattle.triple_laws.proofs.Spots.{place-of-at, spots_distinct}
use Rattle.triple_laws.proofs.CallerZero.{zero-states}
use Rattle.triple_laws.proofs.CallerMoves.{callers-listed}
use Rattle.triple_laws.proofs.CallerPosition.{zero-listed}
use Rattle.moves.specs.Tables.{places, joined, Sorted}
use Rattle.moves.proofs.Segments.{places-room, segment_is, segments_follow}
use Rattle.moves.proofs.Moves.{ahead-length}
use Rattle.moves.proofs.Built.{over-at}
use Rattle.caller_rows.specs.Clauses.{Filled, key_of, key_at}
use Rattle.caller_rows.specs.Levels.{AheadOf, Cut}
use Rattle.caller_rows.proofs.PlaceLaws.{places_alike, places-first, Placed, joined-placed, distinct_places, over-past, over-size, climbs}

-- the first q entries of a row are the keys of the states with m callers
pub record Keyed (G : Grammar) (m n q : ℕ) (keys : List ℕ) : Type 0 where
  pub nonterminals : n ≡ G.nonterminals
  pub states : q ≡ length (spots limits G m)
  pub few : q ≤ limits.max_states
  pub size : length (take q keys) ≡ q
  pub most : (t : ℕ) → t < length (take q keys) → get_or (take q keys) t 0 ≤ n + 2
  pub before : (b : ℕ) → b < n → places (take q keys) b ≡ places (map (spot_ahead limits G) (spots limits G m)) (limits.nonterminal_base + b)
  pub start : places (take q keys) n ≡ 0 ∷ []

-- the key of a code that is below base + n
key-most : (s t : Bool) (n x : ℕ) → x < limits.nonterminal_base + n → choose s n (choose t (x - limits.nonterminal_base) (n + 1)) ≤ n + 2
key-most true t n x h = omega arith
key-most false true n x h = omega (arith, h)
key-most false false n x h = omega arith

-- is that of a nonterminal exactly when it is its code
key_is : (n x b : ℕ) → b < n → (key_of n x ≡ b) ↔ (x ≡ limits.nonterminal_base + b)
key_is n x b h = go (leb limits.nonterminal_base x) refl
  where
    go : (t : Bool) → leb limits.nonterminal_base x ≡ t → (choose t (x - limits.nonterminal_base) (n + 1) ≡ b) ↔ (x ≡ limits.nonterminal_base + b)
    go true q = let l = leb-true limits.nonterminal_base x q in (λ e. omega (arith, e, l), λ e. omega (arith, e))
    go false q = let l = leb-false limits.nonterminal_base x q in (λ e. absurd (omega (arith, e, h)), λ e. absurd (omega (arith, e, l)))

-- and not that of S'
key-not : (n x : ℕ) → x < limits.nonterminal_base + n → key_of n x ≡ n → ⊥
key-not n x h = go (leb limits.nonterminal_base x) refl
  where
    go : (t : Bool) → leb limits.nonterminal_base x ≡ t → choose t (x - limits.nonterminal_base) (n + 1) ≡ n → ⊥
    go true q e = let l = leb-true limits.nonterminal_base x q in omega (arith, e, l, h)
    go false q e = omega (arith, e)

-- state 0 is the start
pub spots-first : (G : Grammar) (m : ℕ) → get_or (spots limits G m) 0 last ≡ first
unfolding spots
spots-first G m = refl

-- so there are states
pub some-spots : (G : Grammar) (m : ℕ) → 0 < length (spots limits G m)
unfolding spots
some-spots G m = omega arith

module _ (G : Grammar) (W : WellFormed limits G) where
  apart : limits.max_terminals < limits.nonterminal_base
  apart = omega arith

  -- a code of the grammar, or 0
  code_below : (i d : ℕ) → get_or (rule limits G i).right d 0 < limits.nonterminal_base + G.nonterminals
  unfolding rule
  code_below zero zero = omega (arith, W.nonterminals.0)
  code_below zero (suc d) = omega arith
  code_below (suc i) d = elim (dec_lt i (length G.rules)) [
    | yes h ↦ elim (dec_lt d (length (rule limits G (suc i)).right)) [
      | yes k ↦
          let r = rule limits G (suc i) in
          ⊎_elim (λ t. omega (arith, t.1, W.terminals)) (λ t. t.1)
          (W.codes r (rule-listed limits G (suc i) (omega arith, omega (arith, h))) (get_or r.right d 0) (place_mem r.right d 0 k))
      | no k ↦ omega (arith, get_or-eq_default (rule limits G (suc i)).right 0 {n = d} (omega (arith, k)))
    ]
    | no h ↦
        let e = get_or-eq_default G.rules (record { left = 0; right = [] }) {n = i} (omega (arith, h)) in
        let q = ap (λ r. get_or r.right d 0) e in omega (arith, q)
  ]

  -- and so is what stands ahead of a state
  spot-below : (s : Spot) → spot_ahead limits G s < limits.nonterminal_base + G.nonterminals
  unfolding spot_ahead code_at
  spot-below first = omega arith
  spot-below last = omega arith
  spot-below (spot i d cs) = go (is_live limits G i)
    where
      go : (b : Bool) → choose b (get_or (rule limits G i).right d 0) 0 < limits.nonterminal_base + G.nonterminals
      go true = code_below i d
      go false = omega arith

module _ (G : Grammar) (W : WellFormed limits G) where
  abbrev Z : List Spot
  Z = spots limits G 0

  abbrev aheads : List ℕ
  aheads = ahead_row limits G (is_live limits G)

  -- a state's place is its number
  number : (p : ℕ) → p < length Z → number_of limits G 0 (get_or Z p last) ≡ p
  number p h = place-of-at Z (spots_distinct limits G W (apart G W) 0) p h

  -- a shift is listed in both ways, so the codes ahead are the same
  same_ahead : (p : ℕ) → p < length Z → get_or aheads p 0 ≡ spot_ahead limits G (get_or Z p last)
  same_ahead p h = go (get_or aheads p 0) (spot_ahead limits G (get_or Z p last)) refl refl
    where
      go : (x y : ℕ) → get_or aheads p 0 ≡ x → spot_ahead limits G (get_or Z p last) ≡ y → x ≡ y
      go zero zero q r = refl
      go zero (suc y) q r =
          let s = get_or Z p last in
          let e = number p h in
          let k = ((callers-listed limits G W (apart G W) 0).shifts (suc y) s (spot_after limits G s)).1
          (ap (λ p. spot_ahead limits G (get_or Z p last)) e ∙ r, omega arith, ap (λ p. number_of limits G 0 (spot_after limits G (get_or Z p last))) (sym e)) in
          sym q ∙ ap (λ p. get_or aheads p 0) (sym e) ∙ (((zero-listed limits G W (apart G W)).shifts (suc y) s (spot_after limits G s)).0 k).0
      go (suc x) y q r =
          let s = get_or Z p last in
          let e = number p h in
          let l = (position-regular limits G W (apart G W)).shifts-below p (omega (arith, q)) in
          let z = zero-states limits G in
          let f = number (suc p) (omega (arith, l, z)) in
          let k = ((zero-listed limits G W (apart G W)).shifts (suc x) s (get_or Z (suc p) last)).1
          (ap (λ p. get_or aheads p 0) e ∙ q, omega arith, f ∙ ap suc (sym e)) in
          sym (((callers-listed limits G W (apart G W) 0).shifts (suc x) s (get_or Z (suc p) last)).0 k).0
          ∙ ap (λ p. spot_ahead limits G (get_or Z p last)) e ∙ r

  -- the row that crate moves builds
  pub ahead-zero : (old new : List ℕ) → new ≡ over (ahead_row limits G (is_live limits G)) old → AheadOf G 0 new
  ahead-zero old new e p h =
      let z = zero-states limits G in
      ap (λ l. get_or l p 0) e ∙ over-at aheads old p (omega (arith, h, z, ahead-length limits G (is_live limits G))) ∙ same_ahead p h

module _ (G : Grammar) (W : WellFormed limits G) (m n q : ℕ) (ahead old keys : List ℕ) (e : n ≡ G.nonterminals) (s : q ≡ length (spots limits G m))
    (few : q ≤ limits.max_states) (long : q ≤ length old) (A : AheadOf G m ahead) (F : Filled old keys q (key_at ahead n)) where
  abbrev S : List Spot
  S = spots limits G m

  abbrev row : List ℕ
  row = take q keys

  abbrev codes : List ℕ
  codes = map (spot_ahead limits G) S

  -- the code ahead of a state
  abbrev x : ℕ → ℕ
  x p = spot_ahead limits G (get_or S p last)

  -- it is a code of the grammar, or 0
  code : (p : ℕ) → x p < limits.nonterminal_base + n
  code p = let z = spot-below G W (get_or S p last) in omega (arith, z, e)

  some : 0 < q
  some = omega (arith, s, some-spots G m)

  size : length row ≡ q
  size = length-take-le q keys (omega (arith, long, F.size))

  -- the row says the keys of the states; the first is S'
  key : (p : ℕ) → p < q → get_or row p 0 ≡ choose (eqb p 0) n (key_of n (x p))
  key p h = get_or-take q keys p 0 h ∙ F.inside p h ∙ ap (λ z. choose (eqb p 0) n (key_of n z)) (A p (omega (arith, h, s)))

  key-later : (p : ℕ) → suc p < q → get_or row (suc p) 0 ≡ key_of n (x (suc p))
  key-later p h = key (suc p) h ∙ ap (λ b. choose b n (key_of n (x (suc p)))) (ne_eqb (suc p) 0 (λ z. omega (arith, z)))

  shown : (p : ℕ) → get_or codes p 0 ≡ x p
  unfolding spot_ahead
  shown p = get_or-map (spot_ahead limits G) S p last

  -- a key is a nonterminal's where its code is ahead
  alike : (b : ℕ) → b < n → (p : ℕ) → p < q → (get_or row p 0 ≡ b) ↔ (get_or codes p 0 ≡ limits.nonterminal_base + b)
  unfolding spot_ahead
  alike b h zero l =
      let none = shown 0 ∙ ap (spot_ahead limits G) (spots-first G m) in
      (λ z. absurd (let y = key 0 l in omega (arith, y, z, h)), λ z. absurd (omega (arith, none, z)))
  alike b h (suc p) l =
      let o = key_is n (x (suc p)) b h in
      (λ z. shown (suc p) ∙ o.0 (sym (key-later p l) ∙ z), λ z. key-later p l ∙ o.1 (sym (shown (suc p)) ∙ z))

  -- write_keys gives the keys: what sort asks of its row are `few`, `size` and `most`
  pub keyed : Keyed G m n q keys
  keyed = record {
    nonterminals = e;
    states = s;
    few = few;
    size = size;
    most = λ t h. subst (λ k. k ≤ n + 2) (sym (key t (omega (arith, h, size)))) (key-most (eqb t 0) (leb limits.nonterminal_base (x t)) n (x t) (code t));
    before = λ b h. places_alike 0 b (limits.nonterminal_base + b) row codes (size ∙ s ∙ sym (length-map S (spot_ahead limits G)))
        (λ p l. alike b h p (omega (arith, l, size)));
    start = places-first n row (omega (arith, size, some)) (key 0 some)
        (λ p l z. key-not n (x (suc p)) (code (suc p)) (sym (key-later p (omega (arith, l, size))) ∙ z));
  }

module _ (G : Grammar) (W : WellFormed limits G) (m n q : ℕ) (keys old begins callers : List ℕ) (K : Keyed G m n q keys) (S : Sorted (take q keys) (n + 2) old begins callers)
    (long : n + 2 < length begins) (size : length old ≡ limits.max_states) (small : (k : ℕ) → get_or old k 0 < limits.max_states) where
  abbrev sorted : List ℕ
  sorted = take q keys

  abbrev front : List ℕ
  front = joined (places sorted) (n + 2)

  P : Placed sorted (n + 2) front
  P = joined-placed sorted (n + 2)

  many : length front ≤ length sorted
  many = places-room sorted (n + 2)

  total : get_or begins (n + 2) 0 ≡ length front
  total = S.starts (n + 2) (omega arith)

  in-front : (k : ℕ) → k < length front → get_or callers k 0 ≡ get_or front k 0
  in-front k h = ap (λ l. get_or l k 0) S.ends ∙ over-at front old k h

  -- and sort sorts by them; the row of callers again has the length and the small entries that it was to have
  pub cut : Cut G m n q begins callers
  cut = record {
    nonterminals = K.nonterminals;
    states = K.states;
    few = K.few;
    long = long;
    order = λ a b h l. climbs (λ c. get_or begins c 0) (n + 2) (segments_follow sorted (n + 2) old begins callers S) a b h l;
    inside = λ b h. let z = S.starts b (omega (arith, h)) in let y = places-room sorted b in omega (arith, z, y, K.size);
    before = λ b h. segment_is sorted (n + 2) old begins callers S b (omega (arith, h)) ∙ K.before b h;
    start = segment_is sorted (n + 2) old begins callers S n (omega arith) ∙ K.start;
    apart = λ j k h l e. distinct_places front P.once j k (omega (arith, h, total)) (omega (arith, l, total))
        (sym (in-front j (omega (arith, h, total))) ∙ e ∙ in-front k (omega (arith, l, total)));
    size = ap length S.ends ∙ over-size front old (omega (arith, many, size, K.few, K.size)) ∙ size;
    small = λ k. elim (dec_lt k (length front)) [
      | yes h ↦ let z = in-front k h in let y = P.within (get_or front k 0) (place_mem front k 0 h) in omega (arith, z, y, K.size, K.few)
      | no h ↦ subst (λ c. c < limits.max_states) (sym (ap (λ l. get_or l k 0) S.ends ∙ over-past front old k (omega (arith, h)))) (small k)
    ];
  }
