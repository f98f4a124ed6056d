-- The automata with callers, for each m: what they enter can be left, so the search looks at no more than M² + 2×Q×M successors, and M
-- is the number of their moves. Assumes nothing.
use Prim.Native.Nat.{ℕ, zero, suc, ◌≤◌, ◌<◌}
use mathlib.Core.Path.{◌≡◌, refl, sym, ap, subst, ◌∙◌}
use mathlib.Core.Bool.{true}
use mathlib.Core.Logic.{◌⊎◌, inl, inr}
use mathlib.Core.List.{List, [], ◌∷◌}
use native.Mathlib.Omega.{arith}
use native.Mathlib.Decide.{ℕ_discrete}
use lib.ListN.{length, get_or, take}
use Rattle.grammar.specs.Basics.{Mem}
use Rattle.grammar.specs.Limits.{Limits}
use Rattle.grammar.specs.Grammar.{Grammar, WellFormed, IsRule, rule}
use Rattle.grammar.specs.Live.{Live, is_live}
use Rattle.grammar.proofs.Live.{is_live_lem}
use Rattle.automaton.specs.Items.{length_of}
use Rattle.automaton.specs.Callers.{Spot, last, spot, Place, Calls, SpotOpens, spot-start, spot-opens, SpotCloses, spot-ends, spot-closes, SpotShifts, spot-shifts}
use Rattle.automaton.specs.Callers.{place_of, code_at, spots, number_of, callers}
use Rattle.automaton.specs.CallerMoves.{spot_ahead, spot_after, moves_at, moves_with}
use Rattle.automaton.specs.Strings.{Letter, opening, closing, symbol, MovesBy}
use Rattle.automaton.specs.AllMoves.{move_count, MoveOf, ListsMoves}
use Rattle.automaton.proofs.Callers.{calls, none_above}
use Rattle.triples.specs.Looked.{looked_at, looked_limit}
use Rattle.triple_laws.proofs.Callers.{place_in, place_out}
use Rattle.triple_laws.proofs.Spots.{place_mem_below}
use Rattle.triple_laws.proofs.CallerMoves.{code-low, state, seen_state, number_last, first-state, after_is, callers-listed}
use Rattle.triple_laws.proofs.CallerRegular.{opened, closed}
use Rattle.triple_laws.proofs.CallerPosition.{with_listed, with_regular}
use Rattle.figures.proofs.Opened.{Entered, by-opening, by_shift, Leavable}
use Rattle.figures.proofs.Bound.{looked_limit_lem}
use Rattle.figures.proofs.OfAutomaton.{cardinal_of, some_list}
use Rattle.figures.proofs.Position.{position_leavable}

module _ (L : Limits) (G : Grammar) (W : WellFormed L G) (apart : L.max_terminals < L.nonterminal_base) (m : ℕ) where
  abbrev S : List Spot
  S = spots L G m

  abbrev n : Spot → ℕ
  n = number_of L G m

  -- a rule that is called: rule 0, or one with the callers that an opening gave it
  data By : ℕ → List (ℕ × ℕ) → Type 0 where
    by-start : By 0 []
    by_caller : {i j d : ℕ} {cs : List (ℕ × ℕ)} → IsRule G i → Place L G (rule L G i).left j d → Calls L G m j cs → By i (take m ((j, d) ∷ cs))

  -- p is a state of such a rule
  record Called (p : ℕ) : Type 0 where
    i : ℕ
    d : ℕ
    cs : List (ℕ × ℕ)
    is : p ≡ n (spot i d cs)
    live : Live L G i
    rule-of : i ≤ length G.rules
    dot : d ≤ length_of L G i
    chain : Calls L G m i cs
    by : By i cs

  called-state : {p : ℕ} (c : Called p) → Mem (spot c.i c.d c.cs) S
  called-state c = state L G W apart m c.i c.d c.cs ((is_live_lem L G W apart c.i c.rule-of).1 c.live) c.rule-of c.dot c.chain

  -- what the number of a called state stands for
  called_seen : {p : ℕ} (c : Called p) → get_or S p last ≡ spot c.i c.d c.cs
  called_seen c = ap (λ p. get_or S p last) c.is ∙ seen_state L G W apart m (called-state c)

  opens-called : {i q : ℕ} {s t : Spot} → q ≡ n t → SpotOpens L G m i s t → Called q
  opens-called e (spot-start l) = record {
    i = 0;
    d = 0;
    cs = [];
    is = e;
    live = l;
    rule-of = omega arith;
    dot = omega arith;
    chain = none_above L G m;
    by = by-start;
  }
  opens-called {i} e (spot-opens {j = j} {d = d} {cs = cs} r l p c) = record {
    i = i;
    d = 0;
    cs = take m ((j, d) ∷ cs);
    is = e;
    live = l;
    rule-of = r.1;
    dot = omega arith;
    chain = calls L G m r p c;
    by = by_caller r p c;
  }

  spot-low : (i d : ℕ) (cs : List (ℕ × ℕ)) → 2 ≤ n (spot i d cs)
  unfolding spots place_of
  spot-low i d cs = omega arith

  opens_up : {i : ℕ} {s t : Spot} → SpotOpens L G m i s t → 0 < n t
  opens_up (spot-start l) = omega (arith, spot-low 0 0 [])
  opens_up {i} (spot-opens {j = j} {d = d} {cs = cs} r l p c) = omega (arith, spot-low i 0 (take m ((j, d) ∷ cs)))

  closes_up : {i : ℕ} {s t : Spot} → SpotCloses L G m i s t → 0 < n t
  closes_up (spot-ends l e) = omega (arith, number_last L G W apart m)
  closes_up (spot-closes {j = j} {d = d} {cs = cs} r l p c e q) = omega (arith, spot-low j (suc d) cs)

  start-ahead : spot_ahead L G (get_or S 0 last) ≡ 0
  unfolding spots spot_ahead
  start-ahead = refl

  -- a called rule at its end closes
  closes-called : {p : ℕ} (c : Called p) → c.d ≡ length_of L G c.i → (i : ℕ) × (t : Spot) × SpotCloses L G m i (spot c.i c.d c.cs) t
  unfolding rule
  closes-called c e = go c.i c.d c.cs c.live e c.by
    where
      go : (i d : ℕ) (cs : List (ℕ × ℕ)) → Live L G i → d ≡ length_of L G i → By i cs → (j : ℕ) × (t : Spot) × SpotCloses L G m j (spot i d cs) t
      go i d cs l e by-start = (0, last, spot-ends {e = d} l e)
      go i d cs l e (by_caller {j = j} {d = d'} {cs = ds} r p k) = (i, spot j (suc d') ds, spot-closes {e = d} r l p k e refl)

  module _ (sentence : is_live L G 0 ≡ true) where
    called : {p : ℕ} → Entered (moves_at L G m) p → Called p
    unfolding spot_ahead
    called (by-opening {i} {p} {q} k) = let o = opened L G W apart m sentence i p q k in opens-called o.is o.opens
    called (by_shift {p} e h) = past (called e) h
      where
        past : Called p → 1 ≤ spot_ahead L G (get_or S p last) → Called (n (spot_after L G (get_or S p last)))
        past c h =
            let z = called_seen c in
            let h' : 1 ≤ code_at L G (c.i, c.d) = subst (λ s. 1 ≤ spot_ahead L G s) z h in
            let p = place_out L G W apart (code_at L G (c.i, c.d)) c.i c.d h' c.rule-of refl in
            record {
              i = c.i;
              d = suc c.d;
              cs = c.cs;
              is = ap (λ s. n (spot_after L G s)) z ∙ after_is L G W apart m c.i c.d c.cs;
              live = c.live;
              rule-of = c.rule-of;
              dot = p.inside;
              chain = c.chain;
              by = c.by;
            }

    goes_on : (p : ℕ) → Called p → (1 ≤ (moves_at L G m).ahead p) ⊎ ((i q : ℕ) × Mem {A = ℕ × ℕ} (i, q) ((moves_at L G m).closings p))
    unfolding spot_ahead
    goes_on p c = elim (ℕ_discrete c.d (length_of L G c.i)) [
      | no u ↦
          let pl : Place L G (get_or (rule L G c.i).right c.d 0) c.i c.d = record {
            live = c.live;
            rule-of = c.rule-of;
            inside = omega (arith, c.dot, u);
            symbol = refl;
          } in
          let x = get_or (rule L G c.i).right c.d 0 in
          let low = code-low L G W apart x c.i c.d pl in
          let e = place_in L G W apart x c.i c.d pl in
          inl (subst (λ s. 1 ≤ spot_ahead L G s) (sym (called_seen c)) (let z : 1 ≤ code_at L G (c.i, c.d) = omega (arith, low, e) in z))
      | yes e ↦
          let k = closes-called c e in
          let N = callers-listed L G W apart m in
          inr (k.0, n k.1, subst (λ p. Mem {A = ℕ × ℕ} (k.0, n k.1) ((moves_at L G m).closings p)) (sym c.is) ((N.closes k.0 (spot c.i c.d c.cs) k.1).0 k.2))
    ]

    pub callers_leavable : Leavable (moves_at L G m)
    callers_leavable = record {
      nothing-ahead = start-ahead;
      opens-past = λ i p q k. let o = opened L G W apart m sentence i p q k in subst (λ q. 0 < q) (sym o.is) (opens_up o.opens);
      closes-past = λ i p q k. let o = closed L G W apart m sentence i p q k in subst (λ q. 0 < q) (sym o.is) (closes_up o.closes);
      goes_on = λ p e. goes_on p (called e);
    }

  -- a move starts in a state
  opens-start : {i : ℕ} {s t : Spot} → SpotOpens L G m i s t → Mem s S
  opens-start (spot-start l) = first-state L G W apart m
  opens-start (spot-opens {j = j} {d = d} {cs = cs} r l p c) =
      state L G W apart m j d cs ((is_live_lem L G W apart j p.rule-of).1 p.live) p.rule-of (omega (arith, p.inside)) c

  closes-start : {i : ℕ} {s t : Spot} → SpotCloses L G m i s t → Mem s S
  unfolding rule
  closes-start (spot-ends {e = e} l q) =
      state L G W apart m 0 e [] ((is_live_lem L G W apart 0 (omega arith)).1 l) (omega arith) (omega arith) (none_above L G m)
  closes-start {i} (spot-closes {e = e} {ds = ds} r l p c q z) =
      state L G W apart m i e ds ((is_live_lem L G W apart i r.1).1 l) r.1 (omega (arith, q)) (subst (Calls L G m i) (sym z) (calls L G m r p c))

  shifts-start : {x : ℕ} {s t : Spot} → SpotShifts L G m x s t → Mem s S
  shifts-start (spot-shifts {i = i} {d = d} {cs = cs} p c) =
      state L G W apart m i d cs ((is_live_lem L G W apart i p.rule-of).1 p.live) p.rule-of (omega (arith, p.inside)) c

  starts : (l : Letter) (s t : Spot) → MovesBy (callers L G m) l s t → number_of L G m s < (callers L G m).states
  unfolding MovesBy
  starts (opening i) s t h = place_mem_below (opens-start h)
  starts (closing i) s t h = place_mem_below (closes-start h)
  starts (symbol x) s t h = place_mem_below (shifts-start h)

module _ (L : Limits) (G : Grammar) (W : WellFormed L G) (apart : L.max_terminals < L.nonterminal_base) (sentence : is_live L G 0 ≡ true) where
  -- what is entered can be left, for each m
  pub with_leavable : (m : ℕ) → Leavable (moves_with L G m)
  with_leavable zero = position_leavable L G W apart
  with_leavable (suc m) = callers_leavable L G W apart (suc m) sentence

  -- so the search looks at no more than M² + 2×Q×M successors, with the M and Q of that m
  pub with_limit : (m : ℕ) → looked_at (moves_with L G m) ≤ looked_limit (moves_with L G m)
  with_limit m = looked_limit_lem (moves_with L G m) (with_regular L G W apart sentence m) (with_leavable m)

  -- M is the number of the moves: the length of every list that has each of them once, and there is one
  pub with_cardinal : (m : ℕ) (l : List (MoveOf (callers L G m))) → ListsMoves (callers L G m) l → length l ≡ move_count (moves_with L G m)
  with_cardinal m = cardinal_of (callers L G m) (moves_with L G m) (with_regular L G W apart sentence m) (with_listed L G W apart m) (starts L G W apart m)

  pub with_list : (m : ℕ) → (l : List (MoveOf (callers L G m))) × ListsMoves (callers L G m) l
  with_list m = some_list (callers L G m) (moves_with L G m) (with_regular L G W apart sentence m) (with_listed L G W apart m) (starts L G W apart m)
