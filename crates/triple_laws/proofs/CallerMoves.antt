-- The lists of the automaton with m callers are its moves, for each m. Assumes nothing.
use Prim.Native.Nat.{ℕ, zero, suc, ◌+◌, ◌≤◌, ◌<◌}
use mathlib.Core.Path.{◌≡◌, refl, sym, ap, subst, ◌∙◌}
use mathlib.Core.Bool.{Bool, true, ◌&&◌}
use mathlib.Core.List.{List, [], ◌∷◌, map}
use mathlib.Core.Logic.{inl, inr, ◌↔◌}
use native.Mathlib.Omega.{arith}
use native.Mathlib.Decide.{ℕ_discrete, dec_lt}
use lib.Dec.{eqb}
use lib.ListN.{length, get_or, take}
use borrow.Author.Tests.{eqb-true, eq-eqb}
use Rattle.grammar.specs.Basics.{when, Mem, here, there}
use Rattle.grammar.specs.Limits.{Limits}
use Rattle.grammar.specs.Grammar.{Rule, Grammar, IsRule, rule, WellFormed}
use Rattle.grammar.specs.Live.{is_live}
use Rattle.grammar.proofs.Live.{is_live_lem}
use Rattle.grammar.proofs.Answers.{and_both, both_and}
use Rattle.grammar.proofs.Derives.{rule-listed}
use Rattle.automaton.specs.Items.{length_of}
use Rattle.automaton.specs.Moves.{Lists}
use Rattle.automaton.specs.Callers.{Spot, first, last, spot, Place, Calls, enough, from_start, called, SpotOpens, spot-start, spot-opens, SpotCloses, spot-ends, spot-closes, SpotShifts, spot-shifts}
use Rattle.automaton.specs.Callers.{same_items, place_of, items, code_at, chains, chains_of, spots, number_of, callers}
use Rattle.automaton.specs.CallerMoves.{spot_ahead, spot_after, live_rules, spot_openings, returns, spot_closings, moves_at}
use Rattle.automaton.proofs.Callers.{calls, none_above}
use Rattle.triple_laws.proofs.Members.{no_element, only_one, one_only, place_mem, mem_left, mem_right, mem_either, under-test, of-each, of_map}
use Rattle.triple_laws.proofs.Rows.{Run, run-rules}
use Rattle.triple_laws.proofs.Callers.{items_exact, place_out, place_in, left-code, chains_exact}
use Rattle.triple_laws.proofs.Spots.{same-items, place-below, place_mem_below, in_rest, one_number, every_number, at}

pub past_end : (l : List Spot) (k : ℕ) → length l ≤ k → get_or l k last ≡ last
past_end [] k h = refl
past_end (s ∷ l) zero h = absurd (omega arith)
past_end (s ∷ l) (suc k) h = past_end l k (omega arith)

module _ (L : Limits) (G : Grammar) (W : WellFormed L G) (apart : L.max_terminals < L.nonterminal_base) where
  pub any : ℕ → Bool
  any i = true

  -- the live rules of x
  rules_in_lem : (x n : ℕ) (l : List Rule) → Run L G any n l → (i : ℕ) → n ≤ i → i < n + length l → is_live L G i ≡ true → (rule L G i).left ≡ x
      → Mem i (live_rules L G x n l)
  unfolding live_rules
  rules_in_lem x n [] e i h u v w = absurd (omega arith)
  rules_in_lem x n (r ∷ l) e i h u v w = elim (ℕ_discrete i n) [
    | yes s ↦
        let t : r.left ≡ x = ap (λ (r : Rule). r.left) (e.0 ∙ ap (rule L G) (sym s)) ∙ w in
        mem_left (live_rules L G x (suc n) l) ((under-test (is_live L G n && eqb r.left x) (n ∷ [])).1
        (both_and (is_live L G n) (eqb r.left x) (subst (λ i. is_live L G i ≡ true) s v) (eq-eqb r.left x t), one_only s))
    | no s ↦
        mem_right (when (is_live L G n && eqb r.left x) (n ∷ []))
        (rules_in_lem x (suc n) l (subst (λ k. Run L G any k l) (let q : n + 1 ≡ suc n = omega arith in q) e.1) i (omega arith) (omega arith) v w)
  ]

  pub rules-out : (x n : ℕ) (l : List Rule) → Run L G any n l → (i : ℕ) → Mem i (live_rules L G x n l)
      → (n ≤ i) × (i < n + length l) × (is_live L G i ≡ true) × ((rule L G i).left ≡ x)
  unfolding live_rules
  rules-out x n [] e i m = absurd (no_element m)
  rules-out x n (r ∷ l) e i m = elim (mem_either (when (is_live L G n && eqb r.left x) (n ∷ [])) (live_rules L G x (suc n) l) m) [
    | inl k ↦
        let u = (under-test (is_live L G n && eqb r.left x) (n ∷ [])).0 k in
        let s : i ≡ n = only_one u.1 in
        let a = and_both (is_live L G n) (eqb r.left x) u.0 in (
          omega arith,
          omega arith,
          subst (λ i. is_live L G i ≡ true) (sym s) a.0,
          ap (λ (r : Rule). r.left) (ap (rule L G) s ∙ sym e.0) ∙ eqb-true r.left x a.1,
        )
    | inr k ↦
        let o = rules-out x (suc n) l (subst (λ k. Run L G any k l) (let q : n + 1 ≡ suc n = omega arith in q) e.1) i k in
        (omega (arith, o.0), omega (arith, o.1), o.2, o.3)
  ]

  -- the chains of a live rule
  pub live-chains : (m i : ℕ) → is_live L G i ≡ true → chains_of L G m i ≡ chains L G m i
  unfolding chains
  live-chains zero i e = refl
  live-chains (suc m) i e = ap (λ b. when b (chains L G (suc m) i)) e

  pub code-low : (x i d : ℕ) → Place L G x i d → 1 ≤ x
  unfolding rule
  code-low x i d p = go i d p.rule-of p.inside p.symbol
    where
      go : (i d : ℕ) → i ≤ length G.rules → d < length_of L G i → get_or (rule L G i).right d 0 ≡ x → 1 ≤ x
      go zero zero h u e = omega arith
      go zero (suc d) h u e = absurd (omega arith)
      go (suc i) d h u e =
          let r = rule L G (suc i) in
          let m = subst (λ x. Mem x r.right) e (place_mem r.right d 0 u) in
          elim (W.codes r (rule-listed L G (suc i) (omega arith, h)) x m) [ inl t ↦ t.0 | inr n ↦ omega (arith, n.0) ]

  module _ (m : ℕ) where
    abbrev S : List Spot
    S = spots L G m

    abbrev n : Spot → ℕ
    n = number_of L G m

    -- an item of a live rule with its callers is a state
    pub state : (i d : ℕ) (cs : List (ℕ × ℕ)) → is_live L G i ≡ true → i ≤ length G.rules → d ≤ length_of L G i → Calls L G m i cs → Mem (spot i d cs) S
    unfolding spots
    state i d cs l h k c =
        there (there ((of-each (items L G) (at L G W apart m)).1 (
          (i, d),
          (items_exact L G W apart i d).1 (h, k),
          (of_map (chains_of L G m i) (spot i d)).1 (cs, subst (Mem cs) (sym (live-chains m i l)) ((chains_exact L G W apart m i cs h).1 c), refl),
        )))

    -- and of a state the item is one, and its callers, if its rule is live, are such
    pub from-state : (i d : ℕ) (cs : List (ℕ × ℕ)) → Mem (spot i d cs) S → (i ≤ length G.rules) × (d ≤ length_of L G i) × (is_live L G i ≡ true → Calls L G m i cs)
    unfolding spots
    from-state i d cs (there (there h)) =
        let o = in_rest L G W apart m (spot i d cs) h in
        let a : i ≡ o.0 = cc o.5 in
        let b : d ≡ o.1 = cc o.5 in
        let c : cs ≡ o.2 = cc o.5 in
        let t = (items_exact L G W apart o.0 o.1).0 o.3 in (
          subst (λ i. i ≤ length G.rules) (sym a) t.0,
          same i d a b t.1,
          λ l.
              (chains_exact L G W apart m i cs (subst (λ i. i ≤ length G.rules) (sym a) t.0)).0
              (subst (Mem cs) (live-chains m i l) (chained i cs a c o.4)),
        )
      where
        same : (i d : ℕ) {j e : ℕ} → i ≡ j → d ≡ e → e ≤ length_of L G j → d ≤ length_of L G i
        same i d a b h = omega (arith, ap (length_of L G) a, b, h)

        chained : (i : ℕ) (cs : List (ℕ × ℕ)) {j : ℕ} {ds : List (ℕ × ℕ)} → i ≡ j → cs ≡ ds → Mem ds (chains_of L G m j) → Mem cs (chains_of L G m i)
        chained i cs {j} {ds} a c h = subst (λ i. Mem cs (chains_of L G m i)) (sym a) (subst (λ cs. Mem cs (chains_of L G m j)) (sym c) h)

    -- the state that a state's number stands for is itself; any other number stands for the end, which has no moves
    data Seen (s : Spot) : Type 0 where
      itself : Mem s S → get_or S (n s) last ≡ s → Seen s
      nothing : get_or S (n s) last ≡ last → Seen s

    pub seen_state : {s : Spot} → Mem s S → get_or S (n s) last ≡ s
    seen_state {s} h = place-below s S (place_mem_below h)

    seen : (s : Spot) → Seen s
    seen s = elim (dec_lt (n s) (length S)) [
      | yes h ↦ let e = place-below s S h in itself (subst (λ t. Mem t S) e (place_mem S (n s) last h)) e
      | no h ↦ nothing (past_end S (n s) (omega arith))
    ]

    pub same-state : {s t : Spot} → Mem s S → n t ≡ n s → t ≡ s
    same-state {s} {t} h e = sym (one_number L G W apart m s t (place_mem_below h) (sym e))

    rules-run : Run L G any 1 G.rules
    rules-run = run-rules L G any

    opens-to : {i : ℕ} {s t : Spot} → SpotOpens L G m i s t → Mem {A = ℕ × ℕ} (i, n t) (spot_openings L G m (get_or S (n s) last))
    unfolding spot_openings spots place_of
    opens-to (spot-start l) = (under-test {A = ℕ × ℕ} (is_live L G 0) ((0, n (spot 0 0 [])) ∷ [])).1 ((is_live_lem L G W apart 0 (omega arith)).1 l, here)
    opens-to {i} (spot-opens {j = j} {d = d} {cs = cs} r l p c) =
        let v = (is_live_lem L G W apart j p.rule-of).1 p.live in
        subst (λ s. Mem {A = ℕ × ℕ} (i, n (spot i 0 (take m ((j, d) ∷ cs)))) (spot_openings L G m s))
        (sym (seen_state (state j d cs v p.rule-of (omega (arith, p.inside)) c)))
        ((of_map (live_rules L G (code_at L G (j, d)) 1 G.rules) (λ i. (i, n (spot i 0 (take m ((j, d) ∷ cs)))))).1 (
          i,
          rules_in_lem (code_at L G (j, d)) 1 G.rules rules-run i r.0 (omega (arith, r.1)) ((is_live_lem L G W apart i r.1).1 l)
              (sym (place_in L G W apart (rule L G i).left j d p)),
          refl,
        ))

    pub opens-from : (i : ℕ) (s t : Spot) → Mem s S → Mem {A = ℕ × ℕ} (i, n t) (spot_openings L G m s) → SpotOpens L G m i s t
    unfolding spot_openings
    opens-from i first t h k =
        let u = (under-test {A = ℕ × ℕ} (is_live L G 0) ((0, n (spot 0 0 [])) ∷ [])).0 k in
        let v = only_one u.1 in
        let a : i ≡ 0 = ap (λ (c : ℕ × ℕ). c.0) v in
        let b : n t ≡ n (spot 0 0 []) = ap (λ (c : ℕ × ℕ). c.1) v in
        let z = same-state (state 0 0 [] u.0 (omega arith) (omega arith) (none_above L G m)) b in
        subst (λ i. SpotOpens L G m i first t) (sym a) (subst (SpotOpens L G m 0 first) (sym z) (spot-start ((is_live_lem L G W apart 0 (omega arith)).0 u.0)))
    opens-from i last t h k = absurd (no_element k)
    opens-from i (spot j d cs) t h k =
        let o = (of_map {B = ℕ × ℕ} (live_rules L G (code_at L G (j, d)) 1 G.rules) (λ i. (i, n (spot i 0 (take m ((j, d) ∷ cs)))))).0 k in
        let q = rules-out (code_at L G (j, d)) 1 G.rules rules-run o.0 o.1 in
        let a : i ≡ o.0 = ap (λ (c : ℕ × ℕ). c.0) o.2 in
        let b : n t ≡ n (spot o.0 0 (take m ((j, d) ∷ cs))) = ap (λ (c : ℕ × ℕ). c.1) o.2 in
        let r : IsRule G o.0 = (q.0, omega (arith, q.1)) in
        let f = from-state j d cs h in
        let p = place_out L G W apart (rule L G o.0).left j d (left-code L G W apart o.0 r) f.0 (sym q.3) in
        let c = f.2 ((is_live_lem L G W apart j f.0).1 p.live) in
        let z = same-state (state o.0 0 (take m ((j, d) ∷ cs)) q.2 r.1 (omega arith) (calls L G m r p c)) b in
        subst (λ i. SpotOpens L G m i (spot j d cs) t) (sym a)
        (subst (SpotOpens L G m o.0 (spot j d cs)) (sym z) (spot-opens r ((is_live_lem L G W apart o.0 r.1).0 q.2) p c))

    no_openings : {i q : ℕ} → Mem {A = ℕ × ℕ} (i, q) (spot_openings L G m last) → ⊥
    unfolding spot_openings
    no_openings h = no_element h

    no_ahead : {x : ℕ} → spot_ahead L G last ≡ x → 1 ≤ x → ⊥
    unfolding spot_ahead
    no_ahead e h = omega arith

    shifts-to : {x : ℕ} {s t : Spot} → SpotShifts L G m x s t
        → (spot_ahead L G (get_or S (n s) last) ≡ x) × (1 ≤ x) × (n t ≡ n (spot_after L G (get_or S (n s) last)))
    unfolding spot_ahead spot_after
    shifts-to {x} (spot-shifts {i = i} {d = d} {cs = cs} p c) =
        let v = (is_live_lem L G W apart i p.rule-of).1 p.live in
        let e = seen_state (state i d cs v p.rule-of (omega (arith, p.inside)) c) in
        (ap (spot_ahead L G) e ∙ place_in L G W apart x i d p, code-low x i d p, ap (λ u. n (spot_after L G u)) (sym e))

    pub shifts-from : (x : ℕ) (s t : Spot) → Mem s S → spot_ahead L G s ≡ x → 1 ≤ x → n t ≡ n (spot_after L G s) → SpotShifts L G m x s t
    unfolding spot_ahead spot_after
    shifts-from x first t h e k w = absurd (omega arith)
    shifts-from x last t h e k w = absurd (omega arith)
    shifts-from x (spot i d cs) t h e k w =
        let f = from-state i d cs h in
        let p = place_out L G W apart x i d k f.0 e in
        let l = (is_live_lem L G W apart i f.0).1 p.live in
        let c = f.2 l in
        let z = same-state (state i (suc d) cs l f.0 p.inside c) w in
        subst (SpotShifts L G m x (spot i d cs)) (sym z) (spot-shifts p c)

    pub opens_exact : (i : ℕ) (s t : Spot) → SpotOpens L G m i s t ↔ Mem {A = ℕ × ℕ} (i, n t) (spot_openings L G m (get_or S (n s) last))
    opens_exact i s t = (opens-to, from (seen s))
      where
        none_open : {A : Type 0} → Mem {A = ℕ × ℕ} (i, n t) (spot_openings L G m last) → A
        none_open h = absurd (no_openings h)

        from : Seen s → Mem {A = ℕ × ℕ} (i, n t) (spot_openings L G m (get_or S (n s) last)) → SpotOpens L G m i s t
        from (itself h e) k = opens-from i s t h (subst (λ u. Mem {A = ℕ × ℕ} (i, n t) (spot_openings L G m u)) e k)
        from (nothing e) k = none_open (subst (λ u. Mem {A = ℕ × ℕ} (i, n t) (spot_openings L G m u)) e k)

    pub shifts_exact : (x : ℕ) (s t : Spot) → SpotShifts L G m x s t
        ↔ ((spot_ahead L G (get_or S (n s) last) ≡ x) × (1 ≤ x) × (n t ≡ n (spot_after L G (get_or S (n s) last))))
    shifts_exact x s t = (shifts-to, from (seen s))
      where
        from : Seen s → (spot_ahead L G (get_or S (n s) last) ≡ x) × (1 ≤ x) × (n t ≡ n (spot_after L G (get_or S (n s) last))) → SpotShifts L G m x s t
        from (itself h e) k =
            shifts-from x s t h (ap (spot_ahead L G) (sym e) ∙ k.0) k.1 (k.2 ∙ ap (λ u. n (spot_after L G u)) e)
        from (nothing e) k = absurd (no_ahead (ap (spot_ahead L G) (sym e) ∙ k.0) k.1)

    pub number_first : n first ≡ 0
    unfolding spots place_of
    number_first = refl

    pub number_last : n last ≡ 1
    unfolding spots place_of
    number_last = refl

    last_one : ◌≡◌ {A = ℕ × ℕ} (0, n last) (0, 1)
    last_one = cc number_last

    pub first-state : Mem first S
    unfolding spots
    first-state = here

    pub last-state : Mem last S
    unfolding spots
    last-state = there here

    pub after_is : (j d : ℕ) (cs : List (ℕ × ℕ)) → n (spot_after L G (spot j d cs)) ≡ n (spot j (suc d) cs)
    unfolding spot_after
    after_is j d cs = refl

    no_callers : {m i : ℕ} {cs : List (ℕ × ℕ)} → Calls L G m i cs → i ≡ 0 → cs ≡ []
    no_callers enough e = refl
    no_callers from_start e = refl
    no_callers (called r p c) e = absurd (omega (arith, r.0))

    no_closings : {i q : ℕ} → Mem {A = ℕ × ℕ} (i, q) (spot_closings L G m last) → ⊥
    unfolding spot_closings
    no_closings h = no_element h

    -- the states to which a rule of x with the callers ds returns
    returns_in : (x : ℕ) (ds : List (ℕ × ℕ)) (j d : ℕ) (cs : List (ℕ × ℕ)) {l : List Spot} → Mem (spot j d cs) l → code_at L G (j, d) ≡ x
        → take m ((j, d) ∷ cs) ≡ ds → Mem (spot j d cs) (returns L G m x ds l)
    unfolding returns
    returns_in x ds j d cs (here {l = l}) e q =
        mem_left (returns L G m x ds l) ((under-test (eqb (code_at L G (j, d)) x && same_items (take m ((j, d) ∷ cs)) ds) (spot j d cs ∷ [])).1
        (both_and (eqb (code_at L G (j, d)) x) (same_items (take m ((j, d) ∷ cs)) ds) (eq-eqb (code_at L G (j, d)) x e) ((same-items (take m ((j, d) ∷ cs)) ds).1 q), here))
    returns_in x ds j d cs (there {b = first} h) e q = returns_in x ds j d cs h e q
    returns_in x ds j d cs (there {b = last} h) e q = returns_in x ds j d cs h e q
    returns_in x ds j d cs (there {b = spot k b bs} h) e q =
        mem_right (when (eqb (code_at L G (k, b)) x && same_items (take m ((k, b) ∷ bs)) ds) (spot k b bs ∷ [])) (returns_in x ds j d cs h e q)

    pub record Returns (x : ℕ) (ds : List (ℕ × ℕ)) (u : Spot) (l : List Spot) : Type 0 where
      pub j : ℕ
      pub d : ℕ
      pub cs : List (ℕ × ℕ)
      pub is : u ≡ spot j d cs
      pub listed : Mem (spot j d cs) l
      pub code : code_at L G (j, d) ≡ x
      pub chain : take m ((j, d) ∷ cs) ≡ ds

    further : {x : ℕ} {ds : List (ℕ × ℕ)} {u t : Spot} {l : List Spot} → Returns x ds u l → Returns x ds u (t ∷ l)
    further o = record { j = o.j; d = o.d; cs = o.cs; is = o.is; listed = there o.listed; code = o.code; chain = o.chain }

    pub returns-out : (x : ℕ) (ds : List (ℕ × ℕ)) (u : Spot) (l : List Spot) → Mem u (returns L G m x ds l) → Returns x ds u l
    unfolding returns
    returns-out x ds u [] h = absurd (no_element h)
    returns-out x ds u (first ∷ l) h = further (returns-out x ds u l h)
    returns-out x ds u (last ∷ l) h = further (returns-out x ds u l h)
    returns-out x ds u (spot j d cs ∷ l) h =
        elim (mem_either (when (eqb (code_at L G (j, d)) x && same_items (take m ((j, d) ∷ cs)) ds) (spot j d cs ∷ [])) (returns L G m x ds l) h) [
          | inl k ↦
              let v = (under-test (eqb (code_at L G (j, d)) x && same_items (take m ((j, d) ∷ cs)) ds) (spot j d cs ∷ [])).0 k in
              let a = and_both (eqb (code_at L G (j, d)) x) (same_items (take m ((j, d) ∷ cs)) ds) v.0 in
              record {
                j = j;
                d = d;
                cs = cs;
                is = only_one v.1;
                listed = here;
                code = eqb-true (code_at L G (j, d)) x a.0;
                chain = (same-items (take m ((j, d) ∷ cs)) ds).0 a.1;
              }
          | inr k ↦ further (returns-out x ds u l k)
        ]

    closes-to : {i : ℕ} {s t : Spot} → SpotCloses L G m i s t → Mem {A = ℕ × ℕ} (i, n t) (spot_closings L G m (get_or S (n s) last))
    unfolding spot_closings spot_after rule
    closes-to (spot-ends {e = e} l q) =
        let v = (is_live_lem L G W apart 0 (omega arith)).1 l in
        subst (λ s. Mem {A = ℕ × ℕ} (0, n last) (spot_closings L G m s)) (sym (seen_state (state 0 e [] v (omega arith) (omega arith) (none_above L G m))))
        ((under-test {A = ℕ × ℕ} (is_live L G 0 && eqb e 1) ((0, 1) ∷ [])).1 (both_and (is_live L G 0) (eqb e 1) v (eq-eqb e 1 q), one_only last_one))
    closes-to {i = zero} (spot-closes r l p c e q) = absurd (omega (arith, r.0))
    closes-to {i = suc i} (spot-closes {j = j} {d = d} {e = e} {cs = cs} {ds = ds} r l p c h q) =
        let v = (is_live_lem L G W apart (suc i) r.1).1 l in
        let w = (is_live_lem L G W apart j p.rule-of).1 p.live in
        let k = subst (Calls L G m (suc i)) (sym q) (calls L G m r p c) in
        subst (λ s. Mem {A = ℕ × ℕ} (suc i, n (spot j (suc d) cs)) (spot_closings L G m s))
        (sym (seen_state (state (suc i) e ds v r.1 (omega (arith, h)) k)))
        ((under-test (is_live L G (suc i) && eqb e (length_of L G (suc i))) (map (λ t. (suc i, n (spot_after L G t))) (returns L G m (rule L G (suc i)).left ds S))).1 (
          both_and (is_live L G (suc i)) (eqb e (length_of L G (suc i))) v (eq-eqb e (length_of L G (suc i)) h),
          (of_map (returns L G m (rule L G (suc i)).left ds S) (λ t. (suc i, n (spot_after L G t)))).1 (
            spot j d cs,
            returns_in (rule L G (suc i)).left ds j d cs (state j d cs w p.rule-of (omega (arith, p.inside)) c)
                (place_in L G W apart (rule L G (suc i)).left j d p) (sym q),
            refl,
          ),
        ))

    pub closes-from : (i : ℕ) (s t : Spot) → Mem s S → Mem {A = ℕ × ℕ} (i, n t) (spot_closings L G m s) → SpotCloses L G m i s t
    unfolding spot_closings
    closes-from i first t h k = absurd (no_element k)
    closes-from i last t h k = absurd (no_element k)
    closes-from i (spot zero e ds) t h k =
        let u = (under-test {A = ℕ × ℕ} (is_live L G 0 && eqb e 1) ((0, 1) ∷ [])).0 k in
        let a = and_both (is_live L G 0) (eqb e 1) u.0 in
        let v = only_one u.1 in
        let x : i ≡ 0 = ap (λ (c : ℕ × ℕ). c.0) v in
        let y : n t ≡ n last = ap (λ (c : ℕ × ℕ). c.1) v ∙ sym number_last in
        let z = same-state last-state y in
        let f = (from-state 0 e ds h).2 a.0 in
        subst (λ i. SpotCloses L G m i (spot 0 e ds) t) (sym x) (subst (SpotCloses L G m 0 (spot 0 e ds)) (sym z)
        (subst (λ ds. SpotCloses L G m 0 (spot 0 e ds) last) (sym (no_callers f refl)) (spot-ends ((is_live_lem L G W apart 0 (omega arith)).0 a.0) (eqb-true e 1 a.1))))
    closes-from i (spot (suc j) e ds) t h k =
        let F = returns L G m (rule L G (suc j)).left ds S in
        let u = (under-test {A = ℕ × ℕ} (is_live L G (suc j) && eqb e (length_of L G (suc j))) (map (λ t. (suc j, n (spot_after L G t))) F)).0 k in
        let a = and_both (is_live L G (suc j)) (eqb e (length_of L G (suc j))) u.0 in
        let o = (of_map {B = ℕ × ℕ} F (λ t. (suc j, n (spot_after L G t)))).0 u.1 in
        let x : i ≡ suc j = ap (λ (c : ℕ × ℕ). c.0) o.2 in
        let y : n t ≡ n (spot_after L G o.0) = ap (λ (c : ℕ × ℕ). c.1) o.2 in
        let R = returns-out (rule L G (suc j)).left ds o.0 S o.1 in
        let f = from-state R.j R.d R.cs R.listed in
        let g = from-state (suc j) e ds h in
        let r : IsRule G (suc j) = (omega arith, g.0) in
        let p = place_out L G W apart (rule L G (suc j)).left R.j R.d (left-code L G W apart (suc j) r) f.0 R.code in
        let l = (is_live_lem L G W apart R.j f.0).1 p.live in
        let c = f.2 l in
        let w : n t ≡ n (spot R.j (suc R.d) R.cs) = y ∙ ap (λ u. n (spot_after L G u)) R.is ∙ after_is R.j R.d R.cs in
        let z = same-state (state R.j (suc R.d) R.cs l f.0 p.inside c) w in
        subst (λ i. SpotCloses L G m i (spot (suc j) e ds) t) (sym x) (subst (SpotCloses L G m (suc j) (spot (suc j) e ds)) (sym z)
        (spot-closes r ((is_live_lem L G W apart (suc j) r.1).0 a.0) p c (eqb-true e (length_of L G (suc j)) a.1) (sym R.chain)))

    pub closes_exact : (i : ℕ) (s t : Spot) → SpotCloses L G m i s t ↔ Mem {A = ℕ × ℕ} (i, n t) (spot_closings L G m (get_or S (n s) last))
    closes_exact i s t = (closes-to, from (seen s))
      where
        from : Seen s → Mem {A = ℕ × ℕ} (i, n t) (spot_closings L G m (get_or S (n s) last)) → SpotCloses L G m i s t
        from (itself h e) k = closes-from i s t h (subst (λ u. Mem {A = ℕ × ℕ} (i, n t) (spot_closings L G m u)) e k)
        from (nothing e) k = absurd (no_closings (subst (λ u. Mem {A = ℕ × ℕ} (i, n t) (spot_closings L G m u)) e k))

    -- the lists are the moves, at each m
    pub callers-listed : Lists (callers L G m) (moves_at L G m)
    callers-listed = record {
      states = refl;
      terminal = λ x. (λ t. t, λ t. t);
      first = number_first;
      last = number_last;
      every = every_number L G W apart m;
      one = one_number L G W apart m;
      opens = opens_exact;
      closes = closes_exact;
      shifts = shifts_exact;
    }
