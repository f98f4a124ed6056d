-- The lists of the automaton with m callers are regular, if there is a sentence. Assumes nothing.
use Prim.Native.Nat.{ℕ, zero, suc, ◌+◌, ◌≤◌, ◌<◌}
use mathlib.Core.Path.{◌≡◌, refl, sym, ap, subst, ◌∙◌}
use mathlib.Core.Bool.{Bool, true, false, ◌&&◌}
use mathlib.Core.List.{List, [], ◌∷◌, map}
use native.Mathlib.Omega.{arith}
use native.Mathlib.Decide.{dec_lt}
use lib.Dec.{eqb}
use lib.ListN.{length, get_or, take}
use Rattle.grammar.specs.Basics.{when, Mem, Distinct, none, more}
use Rattle.grammar.specs.Limits.{Limits}
use Rattle.grammar.specs.Grammar.{Terminal, Rule, Grammar, IsRule, rule, WellFormed}
use Rattle.grammar.specs.Live.{is_live}
use Rattle.grammar.proofs.Live.{is_live_lem}
use Rattle.grammar.proofs.Derives.{rule-listed}
use Rattle.automaton.specs.Items.{length_of}
use Rattle.automaton.specs.Moves.{Regular}
use Rattle.automaton.specs.Callers.{Spot, first, last, spot, SpotOpens, spot-start, spot-opens, SpotCloses, spot-ends, spot-closes}
use Rattle.automaton.specs.Callers.{same_items, place_of, code_at, spots, number_of}
use Rattle.automaton.specs.CallerMoves.{spot_ahead, spot_after, live_rules, spot_openings, returns, spot_closings, moves_at}
use Rattle.automaton.proofs.Callers.{calls, none_above}
use Rattle.triple_laws.proofs.Members.{no_element, only_one, place_mem, under-test, of_map}
use Rattle.triple_laws.proofs.Members.{distinct_one, distinct_append, distinct_when, distinct_image, distinct_map}
use Rattle.triple_laws.proofs.Rows.{Run, run-rules}
use Rattle.triple_laws.proofs.Callers.{place_out, place_in, left-code, chains_exact}
use Rattle.triple_laws.proofs.Spots.{place_mem_below, place-of-at, spots_distinct, same-rule, same-dot, same_chain}
use Rattle.triple_laws.proofs.CallerMoves.{past_end, any, rules-out, live-chains, state, from-state, same-state, opens-from, closes-from, Returns, returns-out, after_is, number_last, last-state}
use Rattle.triple_laws.proofs.CallerOrder.{later_number}

-- the rule of a state
rule_of : Spot → ℕ
rule_of first = 0
rule_of last = 0
rule_of (spot i d cs) = i

module _ (L : Limits) (G : Grammar) (W : WellFormed L G) (apart : L.max_terminals < L.nonterminal_base) where
  opened-rule : {m i : ℕ} {s t : Spot} → SpotOpens L G m i s t → rule_of t ≡ i
  unfolding rule_of
  opened-rule (spot-start l) = refl
  opened-rule (spot-opens r l p c) = refl

  closed-rule : {m i : ℕ} {s t : Spot} → SpotCloses L G m i s t → rule_of s ≡ i
  unfolding rule_of
  closed-rule (spot-ends l e) = refl
  closed-rule (spot-closes r l p c e q) = refl

  no_both : {m i j : ℕ} {s t u : Spot} → SpotOpens L G m i s t → SpotCloses L G m j s u → ⊥
  unfolding rule
  no_both (spot-opens r l p c) (spot-ends l' e) = omega (arith, p.inside)
  no_both (spot-opens r l p c) (spot-closes r' l' p' c' e q) = omega (arith, p.inside)
  no_both {m = m} {j = j} {u = u} (spot-start _) x9 = elim x9 [ ]

  rules-low : (x n : ℕ) (l : List Rule) → Run L G (any L G W apart) n l → Distinct (live_rules L G x n l)
  unfolding live_rules
  rules-low x n [] e = none
  rules-low x n (r ∷ l) e =
      let e' = subst (λ k. Run L G (any L G W apart) k l) (let q : n + 1 ≡ suc n = omega arith in q) e.1 in
      distinct_append (when (is_live L G n && eqb r.left x) (n ∷ [])) (live_rules L G x (suc n) l)
      (distinct_when (is_live L G n && eqb r.left x) (n ∷ []) (distinct_one n)) (rules-low x (suc n) l e')
      (λ a h k.
      let z = only_one ((under-test (is_live L G n && eqb r.left x) (n ∷ [])).0 h).1 in
      let o = rules-out L G W apart x (suc n) l e' a k in
      omega (arith, z, o.0))

  module _ (m : ℕ) (sentence : is_live L G 0 ≡ true) where
    abbrev S : List Spot
    S = spots L G m

    abbrev n : Spot → ℕ
    n = number_of L G m

    -- what a number stands for: a state, or the end
    data Stood (p : ℕ) : Type 0 where
      stands : (s : Spot) → Mem s S → n s ≡ p → get_or S p last ≡ s → Stood p
      beyond : get_or S p last ≡ last → Stood p

    stood : (p : ℕ) → Stood p
    stood p = elim (dec_lt p (length S)) [
      | yes h ↦ stands (get_or S p last) (place_mem S p last h) (place-of-at S (spots_distinct L G W apart m) p h) refl
      | no h ↦ beyond (past_end S p (omega arith))
    ]

    pub record Opened (i q : ℕ) (s : Spot) : Type 0 where
      pub t : Spot
      pub is : q ≡ n t
      pub state : Mem t S
      pub opens : SpotOpens L G m i s t

    opens-some : (i q : ℕ) (s : Spot) → Mem s S → Mem {A = ℕ × ℕ} (i, q) (spot_openings L G m s) → Opened i q s
    unfolding spot_openings
    opens-some i q first h k =
        let u = (under-test {A = ℕ × ℕ} (is_live L G 0) ((0, n (spot 0 0 [])) ∷ [])).0 k in
        let b : q ≡ n (spot 0 0 []) = ap (λ (c : ℕ × ℕ). c.1) (only_one u.1) in
        record {
          t = spot 0 0 [];
          is = b;
          state = state L G W apart m 0 0 [] u.0 (omega arith) (omega arith) (none_above L G m);
          opens = opens-from L G W apart m i first (spot 0 0 []) h (subst (λ q. Mem {A = ℕ × ℕ} (i, q) (spot_openings L G m first)) b k);
        }
    opens-some i q last h k = absurd (no_element k)
    opens-some i q (spot j d cs) h k =
        let o = (of_map {B = ℕ × ℕ} (live_rules L G (code_at L G (j, d)) 1 G.rules) (λ i. (i, n (spot i 0 (take m ((j, d) ∷ cs)))))).0 k in
        let g = rules-out L G W apart (code_at L G (j, d)) 1 G.rules (run-rules L G (any L G W apart)) o.0 o.1 in
        let b : q ≡ n (spot o.0 0 (take m ((j, d) ∷ cs))) = ap (λ (c : ℕ × ℕ). c.1) o.2 in
        let r : IsRule G o.0 = (g.0, omega (arith, g.1)) in
        let f = from-state L G W apart m j d cs h in
        let p = place_out L G W apart (rule L G o.0).left j d (left-code L G W apart o.0 r) f.0 (sym g.3) in
        let c = f.2 ((is_live_lem L G W apart j f.0).1 p.live) in
        record {
          t = spot o.0 0 (take m ((j, d) ∷ cs));
          is = b;
          state = state L G W apart m o.0 0 (take m ((j, d) ∷ cs)) g.2 r.1 (omega arith) (calls L G m r p c);
          opens = opens-from L G W apart m i (spot j d cs) (spot o.0 0 (take m ((j, d) ∷ cs))) h
              (subst (λ q. Mem {A = ℕ × ℕ} (i, q) (spot_openings L G m (spot j d cs))) b k);
        }

    -- what an opening that is listed, or a closing, leads to
    pub opened : (i p q : ℕ) → Mem {A = ℕ × ℕ} (i, q) (spot_openings L G m (get_or S p last)) → Opened i q (get_or S p last)
    opened i p q k = go (stood p)
      where
        go : Stood p → Opened i q (get_or S p last)
        go (stands s h e z) = opens-some i q (get_or S p last) (subst (λ s. Mem s S) (sym z) h) k
        go (beyond z) = opens-some i q (get_or S p last) (subst (λ s. Mem s S) (sym z) (last-state L G W apart m)) k

    pub record Closed (i q : ℕ) (s : Spot) : Type 0 where
      pub t : Spot
      pub is : q ≡ n t
      pub state : Mem t S
      pub closes : SpotCloses L G m i s t

    -- a state that a rule of x with these callers returns to, and the one past it
    past-state : (x : ℕ) (ds : List (ℕ × ℕ)) (u : Spot) → 1 ≤ x → (o : Returns L G W apart m x ds u S) → Mem (spot o.j (suc o.d) o.cs) S
    past-state x ds u h o =
        let f = from-state L G W apart m o.j o.d o.cs o.listed in
        let p = place_out L G W apart x o.j o.d h f.0 o.code in
        let l = (is_live_lem L G W apart o.j f.0).1 p.live in
        state L G W apart m o.j (suc o.d) o.cs l f.0 p.inside (f.2 l)

    closes-some : (i q : ℕ) (s : Spot) → Mem s S → Mem {A = ℕ × ℕ} (i, q) (spot_closings L G m s) → Closed i q s
    unfolding spot_closings
    closes-some i q first h k = absurd (no_element k)
    closes-some i q last h k = absurd (no_element k)
    closes-some i q (spot zero e ds) h k =
        let u = (under-test {A = ℕ × ℕ} (is_live L G 0 && eqb e 1) ((0, 1) ∷ [])).0 k in
        let b : q ≡ n last = ap (λ (c : ℕ × ℕ). c.1) (only_one u.1) ∙ sym (number_last L G W apart m) in
        record {
          t = last;
          is = b;
          state = last-state L G W apart m;
          closes = closes-from L G W apart m i (spot zero e ds) last h (subst (λ q. Mem {A = ℕ × ℕ} (i, q) (spot_closings L G m (spot zero e ds))) b k);
        }
    closes-some i q (spot (suc j) e ds) h k =
        let F = returns L G m (rule L G (suc j)).left ds S in
        let u = (under-test {A = ℕ × ℕ} (is_live L G (suc j) && eqb e (length_of L G (suc j))) (map (λ t. (suc j, n (spot_after L G t))) F)).0 k in
        let o = (of_map {B = ℕ × ℕ} F (λ t. (suc j, n (spot_after L G t)))).0 u.1 in
        let R = returns-out L G W apart m (rule L G (suc j)).left ds o.0 S o.1 in
        let r : IsRule G (suc j) = (omega arith, (from-state L G W apart m (suc j) e ds h).0) in
        let b : q ≡ n (spot R.j (suc R.d) R.cs) =
        ap (λ (c : ℕ × ℕ). c.1) o.2 ∙ ap (λ u. n (spot_after L G u)) R.is ∙ after_is L G W apart m R.j R.d R.cs in
        record {
          t = spot R.j (suc R.d) R.cs;
          is = b;
          state = past-state (rule L G (suc j)).left ds o.0 (left-code L G W apart (suc j) r) R;
          closes = closes-from L G W apart m i (spot (suc j) e ds) (spot R.j (suc R.d) R.cs) h
              (subst (λ q. Mem {A = ℕ × ℕ} (i, q) (spot_closings L G m (spot (suc j) e ds))) b k);
        }

    pub closed : (i p q : ℕ) → Mem {A = ℕ × ℕ} (i, q) (spot_closings L G m (get_or S p last)) → Closed i q (get_or S p last)
    closed i p q k = go (stood p)
      where
        go : Stood p → Closed i q (get_or S p last)
        go (stands s h e z) = closes-some i q (get_or S p last) (subst (λ s. Mem s S) (sym z) h) k
        go (beyond z) = closes-some i q (get_or S p last) (subst (λ s. Mem s S) (sym z) (last-state L G W apart m)) k

    same-opened : (i j p q : ℕ) → Opened i q (get_or S p last) → Opened j q (get_or S p last) → i ≡ j
    same-opened i j p q a b =
        let e = same-state L G W apart m b.state (sym a.is ∙ b.is) in
        sym (opened-rule a.opens) ∙ ap rule_of e ∙ opened-rule b.opens

    -- the shift of a state before a symbol
    shifted : (p : ℕ) → 1 ≤ spot_ahead L G (get_or S p last) → (p < n (spot_after L G (get_or S p last))) × (n (spot_after L G (get_or S p last)) < length S)
    unfolding spot_ahead spot_after
    shifted p h = go (stood p)
      where
        step : (s : Spot) → Mem s S → n s ≡ p → 1 ≤ spot_ahead L G s → (p < n (spot_after L G s)) × (n (spot_after L G s) < length S)
        step first k e h = absurd (omega arith)
        step last k e h = absurd (omega arith)
        step (spot i d cs) k e h =
            let f = from-state L G W apart m i d cs k in
            let p = place_out L G W apart (code_at L G (i, d)) i d h f.0 refl in
            let l = (is_live_lem L G W apart i f.0).1 p.live in
            let c = f.2 l in
            let z = later_number L G W apart m i d cs f.0 f.1 (subst (Mem cs) (sym (live-chains L G W apart m i l)) ((chains_exact L G W apart m i cs f.0).1 c)) in
            (omega (arith, z, e), place_mem_below (state L G W apart m i (suc d) cs l f.0 p.inside c))

        go : Stood p → (p < n (spot_after L G (get_or S p last))) × (n (spot_after L G (get_or S p last)) < length S)
        go (stands s k e z) =
            let o = step s k e (subst (λ s. 1 ≤ spot_ahead L G s) z h) in
            (subst (λ s. p < n (spot_after L G s)) (sym z) o.0, subst (λ s. n (spot_after L G s) < length S) (sym z) o.1)
        go (beyond z) = absurd (let y : 1 ≤ spot_ahead L G last = subst (λ s. 1 ≤ spot_ahead L G s) z h in let o : ⊥ = omega arith in o)

    -- a state before a symbol does not close
    no_close : {i : ℕ} {s t : Spot} → Mem s S → 1 ≤ spot_ahead L G s → SpotCloses L G m i s t → ⊥
    unfolding spot_ahead rule
    no_close k h (spot-ends {e = e} l q) =
        let f = from-state L G W apart m 0 e [] k in
        let p = place_out L G W apart (code_at L G (0, e)) 0 e h f.0 refl in
        omega (arith, p.inside)
    no_close k h (spot-closes {i = i} {e = e} {ds = ds} r l p c q z) =
        let f = from-state L G W apart m i e ds k in
        let v = place_out L G W apart (code_at L G (i, e)) i e h f.0 refl in
        omega (arith, v.inside)

    ahead_none : (i p q : ℕ) → 1 ≤ spot_ahead L G (get_or S p last) → Mem {A = ℕ × ℕ} (i, q) (spot_closings L G m (get_or S p last)) → ⊥
    ahead_none i p q h k = go (stood p)
      where
        go : Stood p → ⊥
        go (stands s v e z) = no_close (subst (λ s. Mem s S) (sym z) v) h (closed i p q k).closes
        go (beyond z) = no_close (subst (λ s. Mem s S) (sym z) (last-state L G W apart m)) h (closed i p q k).closes

    -- no move is listed twice
    opens_once : (s : Spot) → Distinct (spot_openings L G m s)
    unfolding spot_openings
    opens_once first = distinct_when (is_live L G 0) ((0, n (spot 0 0 [])) ∷ []) (distinct_one (0, n (spot 0 0 [])))
    opens_once last = none
    opens_once (spot j d cs) =
        distinct_map (live_rules L G (code_at L G (j, d)) 1 G.rules) (λ i. (i, n (spot i 0 (take m ((j, d) ∷ cs)))))
        (rules-low (code_at L G (j, d)) 1 G.rules (run-rules L G (any L G W apart))) (λ a c e. ap (λ (c : ℕ × ℕ). c.0) e)

    returns-low : (x : ℕ) (ds : List (ℕ × ℕ)) (l : List Spot) → Distinct l → Distinct (returns L G m x ds l)
    unfolding returns
    returns-low x ds [] none = none
    returns-low x ds (first ∷ l) (more new d) = returns-low x ds l d
    returns-low x ds (last ∷ l) (more new d) = returns-low x ds l d
    returns-low x ds (spot j d cs ∷ l) (more new dis) =
        let b = eqb (code_at L G (j, d)) x && same_items (take m ((j, d) ∷ cs)) ds in
        distinct_append (when b (spot j d cs ∷ [])) (returns L G m x ds l) (distinct_when b (spot j d cs ∷ []) (distinct_one (spot j d cs))) (returns-low x ds l dis)
        (λ a h k.
        let e = only_one ((under-test b (spot j d cs ∷ [])).0 h).1 in
        let o = returns-out L G W apart m x ds a l k in
        new (subst (λ s. Mem s l) (sym o.is ∙ e) o.listed))

    closes_once : (s : Spot) → Mem s S → Distinct (spot_closings L G m s)
    unfolding spot_closings
    closes_once first k = none
    closes_once last k = none
    closes_once (spot zero e ds) k = distinct_when (is_live L G 0 && eqb e 1) ((0, 1) ∷ []) (distinct_one (0, 1))
    closes_once (spot (suc i) e ds) k = go (is_live L G (suc i) && eqb e (length_of L G (suc i))) (from-state L G W apart m (suc i) e ds k).0
      where
        apartness : 1 ≤ (rule L G (suc i)).left → (a c : Spot) → Mem a (returns L G m (rule L G (suc i)).left ds S) → Mem c (returns L G m (rule L G (suc i)).left ds S)
            → n (spot_after L G a) ≡ n (spot_after L G c) → a ≡ c
        apartness h a c u v e =
            let o = returns-out L G W apart m (rule L G (suc i)).left ds a S u in
            let w = returns-out L G W apart m (rule L G (suc i)).left ds c S v in
            let ea = ap (λ s. n (spot_after L G s)) o.is ∙ after_is L G W apart m o.j o.d o.cs in
            let ec = ap (λ s. n (spot_after L G s)) w.is ∙ after_is L G W apart m w.j w.d w.cs in
            let z = same-state L G W apart m (past-state (rule L G (suc i)).left ds c h w) (sym ea ∙ e ∙ ec) in
            let p = same-rule L G W apart o.j w.j (suc o.d) (suc w.d) o.cs w.cs z in
            let q = same-dot L G W apart o.j w.j (suc o.d) (suc w.d) o.cs w.cs z in
            let r = same_chain L G W apart o.j w.j (suc o.d) (suc w.d) o.cs w.cs z in
            let y : o.d ≡ w.d = omega (arith, q) in
            o.is ∙ (λ k. spot (p k) (y k) (r k)) ∙ sym w.is

        go : (b : Bool) → suc i ≤ length G.rules
            → Distinct {A = ℕ × ℕ} (when b (map (λ t. (suc i, n (spot_after L G t))) (returns L G m (rule L G (suc i)).left ds S)))
        go false h = none
        go true h =
            distinct_image (returns L G m (rule L G (suc i)).left ds S) (λ t. (suc i, n (spot_after L G t)))
            (returns-low (rule L G (suc i)).left ds S (spots_distinct L G W apart m))
            (λ a c u v z. apartness (left-code L G W apart (suc i) (omega arith, h)) a c u v (ap (λ (c : ℕ × ℕ). c.1) z))

    in-states : (p : ℕ) → Mem (get_or S p last) S
    in-states p = go (stood p)
      where
        go : Stood p → Mem (get_or S p last) S
        go (stands s h e z) = subst (λ s. Mem s S) (sym z) h
        go (beyond z) = subst (λ s. Mem s S) (sym z) (last-state L G W apart m)

    -- there are 0, 1 and the two items of rule 0
    two_low : 2 ≤ n (spot 0 0 [])
    unfolding spots place_of
    two_low = omega arith

    four : 4 ≤ length S
    unfolding rule
    four =
        let c = none_above L G m in
        let a = place_mem_below (state L G W apart m 0 1 [] sentence (omega arith) (omega arith) c) in
        let z = later_number L G W apart m 0 0 [] (omega arith) (omega arith)
        (subst (Mem []) (sym (live-chains L G W apart m 0 sentence)) ((chains_exact L G W apart m 0 [] (omega arith)).1 c)) in
        omega (arith, a, z, two_low)

    -- a state before a terminal does not open
    no_open : {i : ℕ} {s t : Spot} → Terminal G.terminals (spot_ahead L G s) → SpotOpens L G m i s t → ⊥
    unfolding spot_ahead
    no_open t (spot-start l) = omega (arith, t.0)
    no_open {i} t (spot-opens {j = j} {d = d} r l p c) =
        omega (arith, t.1, apart, W.terminals, place_in L G W apart (rule L G i).left j d p, (W.lefts (rule L G i) (rule-listed L G i r)).0)

    -- an opening leads to a rule's beginning, a shift past one
    opens_elsewhere : {i : ℕ} {s t : Spot} → 1 ≤ spot_ahead L G s → Mem t S → SpotOpens L G m i s t → ¬ (n t ≡ n (spot_after L G s))
    unfolding spot_ahead
    opens_elsewhere h k (spot-start l) e = absurd (omega (arith, h))
    opens_elsewhere {i} h k (spot-opens {j = j} {d = d} {cs = cs} r l p c) e =
        let z = same-state L G W apart m k (sym (after_is L G W apart m j d cs) ∙ sym e) in
        let q = same-dot L G W apart j i (suc d) 0 cs (take m ((j, d) ∷ cs)) z in
        omega (arith, q)

    -- the lists are regular, at each m
    pub callers-regular : Regular (moves_at L G m)
    callers-regular = record {
      four = four;
      opens-below = λ i p q k. let o = opened i p q k in subst (λ q. q < length S) (sym o.is) (place_mem_below o.state);
      closes-below = λ i p q k. let o = closed i p q k in subst (λ q. q < length S) (sym o.is) (place_mem_below o.state);
      shifts-below = λ p h. (shifted p h).1;
      later = λ p h. (shifted p h).0;
      opens_once = λ p. opens_once (get_or S p last);
      closes_once = λ p. closes_once (get_or S p last) (in-states p);
      one-opening = λ i j p q a b. same-opened i j p q (opened i p q a) (opened j p q b);
      one-closing = λ i j p q r a b. sym (closed-rule (closed i p q a).closes) ∙ closed-rule (closed j p r b).closes;
      opens_apart = λ i p q h k e. let o = opened i p q k in opens_elsewhere h o.state o.opens (sym o.is ∙ e);
      terminal_no_open = λ i p q t k. no_open t (opened i p q k).opens;
      ahead_no_close = ahead_none;
      opens_no_close = λ i j p q r a b. no_both (opened i p q a).opens (closed j p r b).closes;
    }
