-- Rows that say of each state what it is, and sort the states by class, show the automaton with m + 1 callers. Assumes nothing.
use Prim.Native.Nat.{ℕ, suc, ◌+◌, ◌*◌, ◌≤◌, ◌<◌}
use mathlib.Core.Path.{◌≡◌, refl, sym, ap, subst, subst₂, ◌∙◌}
use mathlib.Core.Bool.{true}
use mathlib.Core.List.{List, []}
use mathlib.Core.Logic.{inl, inr, ◌↔◌}
use native.Mathlib.Omega.{arith}
use lib.ListN.{length, get_or, take}
use lib.Seq.{length-take-le, get_or-take}
use Rattle.grammar.specs.Basics.{Mem}
use Rattle.grammar.specs.Limits.{limits}
use Rattle.grammar.specs.Grammar.{Grammar, rule, WellFormed}
use Rattle.grammar.specs.Live.{is_live}
use Rattle.automaton.specs.Items.{length_of}
use Rattle.automaton.specs.Moves.{Moves}
use Rattle.automaton.specs.Callers.{Spot, first, last, spot, Calls, SpotOpens, spot-start, spot-opens, SpotCloses, spot-ends, spot-closes}
use Rattle.automaton.specs.Callers.{code_at, spots, number_of}
use Rattle.automaton.specs.CallerMoves.{spot_ahead, moves_at}
use Rattle.automaton.proofs.Callers.{calls}
use Rattle.triple_laws.proofs.Members.{place_mem}
use Rattle.triple_laws.proofs.Callers.{place_out}
use Rattle.triple_laws.proofs.Spots.{place-of-at, spots_distinct}
use Rattle.triple_laws.proofs.CallerMoves.{first-state, seen_state, callers-listed}
use Rattle.triple_laws.proofs.CallerRegular.{callers-regular}
use Rattle.triple_laws.proofs.CallerRegular as regular
use Rattle.moves.specs.Tables.{Ascends, places, segment, Tables}
use Rattle.moves.specs.Shows.{Opened, Closed, Alone, Shows}
use Rattle.moves.proofs.Places.{places_exactly, places_ascend, ascends_wide}
use Rattle.moves.proofs.Segments.{segment_is, segments_follow, segments_inside}
use Rattle.caller_laws.specs.Classes.{kinds, member_of, rule_at, RowsAre}
use Rattle.caller_laws.proofs.Classes as classes

module _ (G : Grammar) (W : WellFormed limits G) (sentence : is_live limits G 0 ≡ true) (m : ℕ) (T : Tables) (X : RowsAre G m T) where
  apart : limits.max_terminals < limits.nonterminal_base
  apart = omega arith

  abbrev M : Moves
  M = moves_at limits G (suc m)

  abbrev S : List Spot
  S = spots limits G (suc m)

  abbrev K : ℕ
  K = kinds limits G m

  abbrev at : ℕ → Spot
  at p = get_or S p last

  abbrev n : Spot → ℕ
  n = number_of limits G (suc m)

  stands : (p : ℕ) → p < length S → Mem (at p) S
  stands p h = place_mem S p last h

  number_of_lem : (p : ℕ) → p < length S → n (at p) ≡ p
  number_of_lem p h = place-of-at S (spots_distinct limits G W apart (suc m)) p h

  -- moves by numbers are moves of the states
  opened : (i p q : ℕ) → p < length S → q < length S → Opened M i p q ↔ SpotOpens limits G (suc m) i (at p) (at q)
  opened i p q hp hq =
      let o = (callers-listed limits G W apart (suc m)).opens i (at p) (at q) in
      let e = number_of_lem p hp in
      let f = number_of_lem q hq in (
        λ k. o.1 (subst₂ (λ a b. Mem {A = ℕ × ℕ} (i, b) (M.openings a)) (sym e) (sym f) k),
        λ k. subst₂ (λ a b. Mem {A = ℕ × ℕ} (i, b) (M.openings a)) e f (o.0 k),
      )

  closed : (i p q : ℕ) → p < length S → q < length S → Closed M i p q ↔ SpotCloses limits G (suc m) i (at p) (at q)
  closed i p q hp hq =
      let o = (callers-listed limits G W apart (suc m)).closes i (at p) (at q) in
      let e = number_of_lem p hp in
      let f = number_of_lem q hq in (
        λ k. o.1 (subst₂ (λ a b. Mem {A = ℕ × ℕ} (i, b) (M.closings a)) (sym e) (sym f) k),
        λ k. subst₂ (λ a b. Mem {A = ℕ × ℕ} (i, b) (M.closings a)) e f (o.0 k),
      )

  leads : (p q : ℕ) → p < length S → q < length S → (get_or T.member p 0 ≡ get_or T.target q 0) ↔ Alone M p q
  leads p q hp hq =
      let l = classes.leads limits G W apart m (at p) (at q) (stands p hp) (stands q hq) in
      let a = X.member p hp in
      let b = X.target q hq in (
        λ e. elim (l.0 (sym a ∙ e ∙ b)) [
          | inl o ↦ inl (o.0, (opened o.0 p q hp hq).1 o.1)
          | inr o ↦ inr (o.0, (closed o.0 p q hp hq).1 o.1)
        ],
        λ o. a ∙ l.1 (elim o [
          | inl o ↦ inl (o.0, (opened o.0 p q hp hq).0 o.1)
          | inr o ↦ inr (o.0, (closed o.0 p q hp hq).0 o.1)
        ]) ∙ sym b,
      )

  opens_in : (i p q : ℕ) → Opened M i p q → q < length S
  opens_in i p q k = (callers-regular limits G W apart (suc m) sentence).opens-below i p q k

  closes_in : (i p q : ℕ) → Closed M i p q → q < length S
  closes_in i p q k = (callers-regular limits G W apart (suc m) sentence).closes-below i p q k

  alone_in : (p q : ℕ) → Alone M p q → q < length S
  alone_in p q (inl o) = opens_in o.0 p q o.1
  alone_in p q (inr o) = closes_in o.0 p q o.1

  -- how large a class is
  most : {s : Spot} {c : ℕ} → classes.Member limits G W apart m s c → c ≤ 2 * K
  most (classes.starting e) = let z = classes.below limits G W apart m (first-state limits G W apart m) in omega (arith, z)
  most (classes.ending i d cs e l st) = let z = classes.below limits G W apart m (classes.caller_state limits G W apart m st.chain) in omega (arith, z)
  most (classes.before j d cs e l st) = let z = classes.below limits G W apart m (classes.shorter_state limits G W apart m st) in omega (arith, z)
  most classes.staying = omega arith

  class_most : (p : ℕ) → p < length S → get_or T.member p 0 ≤ 2 * K
  class_most p h = subst (λ c. c ≤ 2 * K) (sym (X.member p h)) (most (classes.member_is limits G W apart m (at p) (stands p h)))

  -- a state that does not stand at its end has no closing class
  high : {s : Spot} {c : ℕ} → classes.Member limits G W apart m s c → ((i d : ℕ) (cs : List (ℕ × ℕ)) → s ≡ spot i d cs → d ≡ length_of limits G i → ⊥) → K ≤ c
  high (classes.starting e) never = omega arith
  high (classes.ending i d cs e l st) never = absurd (never i d cs e l)
  high (classes.before j d cs e l st) never = omega arith
  high classes.staying never = omega arith

  before-end : (s : Spot) → Mem s S → 1 ≤ spot_ahead limits G s → (i d : ℕ) (cs : List (ℕ × ℕ)) → s ≡ spot i d cs → d ≡ length_of limits G i → ⊥
  unfolding spot_ahead
  before-end s k h i d cs e l =
      let st = classes.stands limits G W apart m i d cs (subst (λ s. Mem s S) e k) in
      let z : 1 ≤ code_at limits G (i, d) = subst (λ s. 1 ≤ spot_ahead limits G s) e h in
      let p = place_out limits G W apart (code_at limits G (i, d)) i d z st.rule-of refl in
      omega (arith, l, p.inside)

  opens_before : {i : ℕ} {s t : Spot} → SpotOpens limits G (suc m) i s t → K ≤ member_of limits G m s
  opens_before (spot-start l) = let z = classes.at_first limits G W apart m in omega (arith, z)
  opens_before (spot-opens {cs = cs} r l p c) = let z = classes.at_before limits G W apart m cs r p in omega (arith, z)

  closes-below : {i : ℕ} {s t : Spot} → SpotCloses limits G (suc m) i s t → member_of limits G m s < K
  unfolding rule
  closes-below (spot-ends {e = e} l q) =
      let z = classes.at-end limits G W apart m 0 e [] q in
      let w = classes.below limits G W apart m (first-state limits G W apart m) in omega (arith, z, w)
  closes-below (spot-closes {i = i} {e = e} {ds = ds} r l p c q z) =
      let y = classes.at-end limits G W apart m i e ds q in
      let k = subst (Calls limits G (suc m) i) (sym z) (calls limits G (suc m) r p c) in
      let w = classes.below limits G W apart m (classes.caller_state limits G W apart m k) in omega (arith, y, w)

  opens-rule : {i : ℕ} {s t : Spot} → SpotOpens limits G (suc m) i s t → rule_at t ≡ i
  opens-rule (spot-start l) = refl
  opens-rule (spot-opens r l p c) = refl

  closes-rule : {i : ℕ} {s t : Spot} → SpotCloses limits G (suc m) i s t → rule_at s ≡ i
  closes-rule (spot-ends l q) = refl
  closes-rule (spot-closes r l p c q z) = refl

  -- the row that is sorted
  abbrev row : List ℕ
  row = take (length S) T.target

  row-length : length row ≡ length S
  row-length = length-take-le (length S) T.target X.long

  row_at : (q : ℕ) → q < length S → get_or row q 0 ≡ get_or T.target q 0
  row_at q h = get_or-take (length S) T.target q 0 h

  part : (p : ℕ) → p < length S → segment T.first T.targets (get_or T.member p 0) ≡ places row (get_or T.member p 0)
  part p h = segment_is row (2 * K + 1) X.old T.first T.targets X.sorted (get_or T.member p 0) (let z = class_most p h in omega (arith, z))

  starts_in : (i p q : ℕ) → Opened M i p q → p < length S → SpotOpens limits G (suc m) i (at p) (at q)
  starts_in i p q k h = (opened i p q h (opens_in i p q k)).0 k

  pub caller_shows : Shows (moves_at limits G (suc m)) G.terminals (kinds limits G m) T
  caller_shows = record {
    terminals = refl;
    few = X.few;
    kinds = X.kinds-few;
    ahead = X.ahead;
    after = X.after;
    leads = leads;
    class = class_most;
    ahead_class = λ p h k.
        subst (λ c. K ≤ c) (sym (X.member p h)) (high (classes.member_is limits G W apart m (at p) (stands p h)) (before-end (at p) (stands p h) k));
    opens_class = λ i p q h k. subst (λ c. K ≤ c) (sym (X.member p h)) (opens_before (starts_in i p q k h));
    closes_class = λ i p q h k. subst (λ c. c < K) (sym (X.member p h)) (closes-below ((closed i p q h (closes_in i p q k)).0 k));
    opens_number = λ i p q h k.
        let o = regular.opened limits G W apart (suc m) sentence i p q k in
        X.number q h ∙ ap rule_at (ap at o.is ∙ seen_state limits G W apart (suc m) o.state) ∙ opens-rule o.opens;
    closes_number = λ i p q h k. X.number p h ∙ closes-rule ((closed i p q h (closes_in i p q k)).0 k);
    targets = λ p q h. (
      λ k.
          let z = (places_exactly row (get_or T.member p 0) q).0 (subst (Mem q) (part p h) k) in
          let hq : q < length S = omega (arith, z.0, row-length) in
          (leads p q h hq).0 (sym z.1 ∙ row_at q hq),
      λ o.
          let hq = alone_in p q o in
          subst (Mem q) (sym (part p h)) ((places_exactly row (get_or T.member p 0) q).1 (omega (arith, row-length, hq), row_at q hq ∙ sym ((leads p q h hq).1 o))),
    );
    ascends = λ p h.
        subst (Ascends 0 (length S)) (sym (part p h))
        (ascends_wide 0 (0 + length row) 0 (length S) (places row (get_or T.member p 0)) (omega arith) (omega (arith, row-length)) (places_ascend (get_or T.member p 0) row 0));
    order = λ p h. segments_follow row (2 * K + 1) X.old T.first T.targets X.sorted (get_or T.member p 0) (let z = class_most p h in omega (arith, z));
    inside = λ p h.
        let i = segments_inside row (2 * K + 1) X.old T.first T.targets X.sorted (get_or T.member p 0) (let z = class_most p h in omega (arith, z)) in
        omega (arith, i, row-length);
  }
