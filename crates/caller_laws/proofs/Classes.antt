-- A state moves alone to another exactly when its class leads there, with m + 1 callers. Assumes nothing.
use Prim.Native.Nat.{ℕ, zero, suc, ◌+◌, ◌*◌, ◌≤◌, ◌<◌}
use mathlib.Core.Path.{◌≡◌, refl, sym, ap, subst, ◌∙◌}
use mathlib.Core.Bool.{Bool, true, false}
use mathlib.Core.List.{List, [], ◌∷◌}
use mathlib.Core.Logic.{◌⊎◌, inl, inr, ◌↔◌}
use native.Mathlib.Omega.{arith}
use lib.Dec.{eqb, leb}
use lib.ListN.{length, take}
use borrow.Author.Tests.{eqb-true, eq-eqb, ne_eqb, leb-true, le-leb}
use Rattle.grammar.specs.Basics.{choose, Mem, there}
use Rattle.grammar.specs.Limits.{Limits}
use Rattle.grammar.specs.Grammar.{Grammar, IsRule, rule, WellFormed}
use Rattle.grammar.specs.Live.{Live, is_live}
use Rattle.grammar.proofs.Live.{is_live_lem}
use Rattle.grammar.proofs.Derives.{rule-listed}
use Rattle.automaton.specs.Items.{length_of}
use Rattle.automaton.specs.Callers.{Spot, first, last, spot, Place, Calls, from_start, called, SpotOpens, spot-start, spot-opens, SpotCloses, spot-ends, spot-closes}
use Rattle.automaton.specs.Callers.{code_at, chains, spots, number_of}
use Rattle.automaton.proofs.Callers.{shorten}
use Rattle.triple_laws.proofs.Members.{under-test}
use Rattle.triple_laws.proofs.Callers.{place_in}
use Rattle.triple_laws.proofs.Spots.{place_mem_below, in_rest, one_number, same-rule, same-dot, same_chain, no_first}
use Rattle.triple_laws.proofs.CallerMoves.{state, from-state, first-state}
use Rattle.caller_laws.specs.Classes.{caller_of, kinds, member_of, target_of}

module _ (L : Limits) (G : Grammar) (W : WellFormed L G) (apart : L.max_terminals < L.nonterminal_base) (m : ℕ) where
  abbrev n : Spot → ℕ
  n = number_of L G m

  abbrev K : ℕ
  K = kinds L G m

  -- what is known of a state with m + 1 callers
  pub record Stands (i d : ℕ) (cs : List (ℕ × ℕ)) : Type 0 where
    pub live : Live L G i
    pub rule-of : i ≤ length G.rules
    pub dot : d ≤ length_of L G i
    pub chain : Calls L G (suc m) i cs

  pub stands : (i d : ℕ) (cs : List (ℕ × ℕ)) → Mem (spot i d cs) (spots L G (suc m)) → Stands i d cs
  unfolding spots
  stands i d cs (there (there h)) =
      let f = from-state L G W apart (suc m) i d cs (there (there h)) in
      let o = in_rest L G W apart (suc m) (spot i d cs) h in
      let a : i ≡ o.0 = same-rule L G W apart i o.0 d o.1 cs o.2 o.5 in
      let u = (under-test (is_live L G o.0) (chains L G (suc m) o.0)).0 o.4 in
      let l = subst (λ i. is_live L G i ≡ true) (sym a) u.0 in
      record { live = (is_live_lem L G W apart i f.0).0 l; rule-of = f.0; dot = f.1; chain = f.2 l }

  -- its caller is a state with m callers, and so is it itself with its farthest caller dropped
  pub caller_state : {i : ℕ} {cs : List (ℕ × ℕ)} → Calls L G (suc m) i cs → Mem (caller_of cs) (spots L G m)
  caller_state from_start = first-state L G W apart m
  caller_state (called {j = j} {d = d} {cs = cs} r p c) =
      state L G W apart m j d cs ((is_live_lem L G W apart j p.rule-of).1 p.live) p.rule-of (omega (arith, p.inside)) c

  pub shorter_state : {i d : ℕ} {cs : List (ℕ × ℕ)} → Stands i d cs → Mem (spot i d (take m cs)) (spots L G m)
  shorter_state {i} {d} {cs} s = state L G W apart m i d (take m cs) ((is_live_lem L G W apart i s.rule-of).1 s.live) s.rule-of s.dot (shorten L G s.chain)

  pub below : {s : Spot} → Mem s (spots L G m) → n s < K
  below h = place_mem_below h

  one : {s t : Spot} → Mem s (spots L G m) → n s ≡ n t → s ≡ t
  one {s} {t} h e = one_number L G W apart m s t (below h) e

  pub some : 0 < K
  some = omega (arith, below (first-state L G W apart m))

  -- the chain whose caller is known
  starts : (cs : List (ℕ × ℕ)) → first ≡ caller_of cs → cs ≡ []
  starts [] e = refl
  starts (c ∷ cs) e = no_first L G W apart c.0 c.1 cs e

  calls : (cs : List (ℕ × ℕ)) (j d : ℕ) (ds : List (ℕ × ℕ)) → caller_of cs ≡ spot j d ds → cs ≡ (j, d) ∷ ds
  calls [] j d ds e = no_first L G W apart j d ds e
  calls (c ∷ cs) j d ds e =
      let x = same-rule L G W apart c.0 j c.1 d cs ds e in
      let y = same-dot L G W apart c.0 j c.1 d cs ds e in
      let z = same_chain L G W apart c.0 j c.1 d cs ds e in
      λ k. (x k, y k) ∷ z k

  -- a rule without callers is rule 0
  zeroth : {i : ℕ} {cs : List (ℕ × ℕ)} → Calls L G (suc m) i cs → cs ≡ [] → i ≡ 0
  zeroth from_start e = refl
  zeroth (called {j = j} {d = d} {cs = cs} r p c) e = let z : ◌≡◌ {A = ℕ} 0 1 = cc in absurd (omega arith)

  head-same : (b c : ℕ × ℕ) (bs cs : List (ℕ × ℕ)) → b ∷ bs ≡ c ∷ cs → b ≡ c
  head-same b c bs cs e = cc

  record Nearest (i j d : ℕ) (cs : List (ℕ × ℕ)) : Type 0 where
    is_rule : IsRule G i
    place : Place L G (rule L G i).left j d

  nearest : {i : ℕ} {cs : List (ℕ × ℕ)} → Calls L G (suc m) i cs → (j d : ℕ) (ds : List (ℕ × ℕ)) → cs ≡ (j, d) ∷ ds → Nearest i j d ds
  nearest from_start j d ds e = let z : ◌≡◌ {A = ℕ} 0 1 = cc in absurd (omega arith)
  nearest {i} (called {j = k} {d = b} {cs = cs} r p c) j d ds e =
      let h = head-same (k, b) (j, d) cs ds e in
      let x : k ≡ j = ap (λ (c : ℕ × ℕ). c.0) h in
      let y : b ≡ d = ap (λ (c : ℕ × ℕ). c.1) h in
      record { is_rule = r; place = subst (λ k. Place L G (rule L G i).left k d) x (subst (Place L G (rule L G i).left k) y p) }

  -- a move alone
  abbrev pub Alone : Spot → Spot → Type 0
  Alone s t = ((i : ℕ) × SpotOpens L G (suc m) i s t) ⊎ ((i : ℕ) × SpotCloses L G (suc m) i s t)

  -- a class that leads to a state
  pub data Target (t : Spot) : ℕ → Type 0 where
    by-opening : (i : ℕ) (cs : List (ℕ × ℕ)) → t ≡ spot i 0 cs → Stands i 0 cs → Target t (K + n (caller_of cs))
    by_end : t ≡ last → Target t (n first)
    by-closing : (j d : ℕ) (cs : List (ℕ × ℕ)) → t ≡ spot j (suc d) cs → Stands j d cs → Target t (n (spot j d (take m cs)))
    by-none : Target t (2 * K + 1)

  -- a class that a state moves by
  pub data Member (s : Spot) : ℕ → Type 0 where
    starting : s ≡ first → Member s (K + n first)
    ending : (i d : ℕ) (cs : List (ℕ × ℕ)) → s ≡ spot i d cs → d ≡ length_of L G i → Stands i d cs → Member s (n (caller_of cs))
    before : (j d : ℕ) (cs : List (ℕ × ℕ)) → s ≡ spot j d cs → 1 ≤ code_at L G (j, d) → Stands j d cs → Member s (K + n (spot j d (take m cs)))
    staying : Member s (2 * K)

  back_one : {i d : ℕ} {cs : List (ℕ × ℕ)} → Stands i (suc d) cs → Stands i d cs
  back_one s = record { live = s.live; rule-of = s.rule-of; dot = omega (arith, s.dot); chain = s.chain }

  pub target_is : (t : Spot) → Mem t (spots L G (suc m)) → Target t (target_of L G m t)
  unfolding target_of
  target_is first h = by-none
  target_is last h = by_end refl
  target_is (spot i zero cs) h = by-opening i cs refl (stands i 0 cs h)
  target_is (spot i (suc d) cs) h = go (leb L.nonterminal_base (code_at L G (i, d)))
    where
      go : (b : Bool) → Target (spot i (suc d) cs) (choose b (n (spot i d (take m cs))) (2 * K + 1))
      go true = by-closing i d cs refl (back_one (stands i (suc d) cs h))
      go false = by-none

  pub member_is : (s : Spot) → Mem s (spots L G (suc m)) → Member s (member_of L G m s)
  unfolding member_of
  member_is first h = starting refl
  member_is last h = staying
  member_is (spot i d cs) h = go (eqb d (length_of L G i)) refl (leb L.nonterminal_base (code_at L G (i, d))) refl
    where
      go : (a : Bool) → eqb d (length_of L G i) ≡ a → (b : Bool) → leb L.nonterminal_base (code_at L G (i, d)) ≡ b
          → Member (spot i d cs) (choose a (n (caller_of cs)) (choose b (K + n (spot i d (take m cs))) (2 * K)))
      go true e b q = ending i d cs refl (eqb-true d (length_of L G i) e) (stands i d cs h)
      go false e true q = before i d cs refl (omega (arith, leb-true L.nonterminal_base (code_at L G (i, d)) q, apart)) (stands i d cs h)
      go false e false q = staying

  -- the state past an end: rule 0 has one symbol
  one_symbol : (d : ℕ) → d ≡ length_of L G 0 → d ≡ 1
  unfolding rule
  one_symbol d e = e

  ends-first : {i d : ℕ} {cs : List (ℕ × ℕ)} → Stands i d cs → d ≡ length_of L G i → first ≡ caller_of cs → SpotCloses L G (suc m) 0 (spot i d cs) last
  ends-first {i} {d} {cs} s e q =
      let c = starts cs q in
      let z = zeroth s.chain c in
      subst (λ cs. SpotCloses L G (suc m) 0 (spot i d cs) last) (sym c)
      (subst (λ i. SpotCloses L G (suc m) 0 (spot i d []) last) (sym z)
      (spot-ends (subst (Live L G) z s.live) (one_symbol d (e ∙ ap (length_of L G) z))))

  ends-past : {i e j d : ℕ} {ds cs : List (ℕ × ℕ)} → Stands i e ds → e ≡ length_of L G i → Stands j d cs → caller_of ds ≡ spot j d (take m cs)
      → SpotCloses L G (suc m) i (spot i e ds) (spot j (suc d) cs)
  ends-past {i} {e} {j} {d} {ds} {cs} s q t z =
      let c = calls ds j d (take m cs) z in
      let k = nearest s.chain j d (take m cs) c in
      spot-closes k.is_rule s.live k.place t.chain q c

  opens_at : {i j d : ℕ} {ds cs : List (ℕ × ℕ)} → Stands i 0 ds → Stands j d cs → caller_of ds ≡ spot j d (take m cs) → SpotOpens L G (suc m) i (spot j d cs) (spot i 0 ds)
  opens_at {i} {j} {d} {ds} {cs} s t z =
      let c = calls ds j d (take m cs) z in
      let k = nearest s.chain j d (take m cs) c in
      subst (λ ds. SpotOpens L G (suc m) i (spot j d cs) (spot i 0 ds)) (sym c) (spot-opens k.is_rule s.live k.place t.chain)

  opens-start : {i : ℕ} {cs : List (ℕ × ℕ)} → Stands i 0 cs → first ≡ caller_of cs → SpotOpens L G (suc m) 0 first (spot i 0 cs)
  opens-start {i} {cs} s q =
      let c = starts cs q in
      let z = zeroth s.chain c in
      subst (λ cs. SpotOpens L G (suc m) 0 first (spot i 0 cs)) (sym c)
      (subst (λ i. SpotOpens L G (suc m) 0 first (spot i 0 [])) (sym z) (spot-start (subst (Live L G) z s.live)))

  both : {s t s' t' : Spot} → s ≡ s' → t ≡ t' → Alone s' t' → Alone s t
  both {s} {t} {s'} {t'} e f a = subst (λ s. Alone s t) (sym e) (subst (Alone s') (sym f) a)

  from-classes : {s t : Spot} {c d : ℕ} → Member s c → Target t d → c ≡ d → Alone s t
  from-classes (starting e) (by-opening i cs f st) q =
      both e f (inl (0, opens-start st (one (first-state L G W apart m) (let z : n first ≡ n (caller_of cs) = omega (arith, q) in z))))
  from-classes (starting e) (by_end f) q = absurd (omega (arith, q, some))
  from-classes (starting e) (by-closing j d cs f st) q = absurd (omega (arith, q, below (shorter_state st)))
  from-classes (starting e) by-none q = absurd (omega (arith, q, below (first-state L G W apart m)))
  from-classes (ending i d cs e l st) (by-opening i' cs' f st') q = absurd (omega (arith, q, below (caller_state st.chain)))
  from-classes (ending i d cs e l st) (by_end f) q = both e f (inr (0, ends-first st l (sym (one (caller_state st.chain) q))))
  from-classes (ending i d cs e l st) (by-closing j d' cs' f st') q = both e f (inr (i, ends-past st l st' (one (caller_state st.chain) q)))
  from-classes (ending i d cs e l st) by-none q = absurd (omega (arith, q, below (caller_state st.chain)))
  from-classes (before j d cs e l st) (by-opening i cs' f st') q =
      both e f (inl (i, opens_at st' st (sym (one (shorter_state st) (let z : n (spot j d (take m cs)) ≡ n (caller_of cs') = omega (arith, q) in z)))))
  from-classes (before j d cs e l st) (by_end f) q = absurd (omega (arith, q, below (first-state L G W apart m)))
  from-classes (before j d cs e l st) (by-closing j' d' cs' f st') q = absurd (omega (arith, q, below (shorter_state st')))
  from-classes (before j d cs e l st) by-none q = absurd (omega (arith, q, below (shorter_state st)))
  from-classes staying (by-opening i cs f st) q = absurd (omega (arith, q, below (caller_state st.chain)))
  from-classes staying (by_end f) q = absurd (omega (arith, q, below (first-state L G W apart m)))
  from-classes staying (by-closing j d cs f st) q = absurd (omega (arith, q, below (shorter_state st)))
  from-classes staying by-none q = absurd (omega (arith, q))

  -- the class of a state that moves, and that of where it leads
  pub at-end : (i d : ℕ) (cs : List (ℕ × ℕ)) → d ≡ length_of L G i → member_of L G m (spot i d cs) ≡ n (caller_of cs)
  unfolding member_of
  at-end i d cs e =
      ap (λ b. choose b (n (caller_of cs)) (choose (leb L.nonterminal_base (code_at L G (i, d))) (K + n (spot i d (take m cs))) (2 * K))) (eq-eqb d (length_of L G i) e)

  high : {i j d : ℕ} → IsRule G i → Place L G (rule L G i).left j d → leb L.nonterminal_base (code_at L G (j, d)) ≡ true
  high {i} {j} {d} r p =
      le-leb L.nonterminal_base (code_at L G (j, d))
      (omega (arith, place_in L G W apart (rule L G i).left j d p, (W.lefts (rule L G i) (rule-listed L G i r)).0))

  pub at_before : {i j d : ℕ} (cs : List (ℕ × ℕ)) → IsRule G i → Place L G (rule L G i).left j d → member_of L G m (spot j d cs) ≡ K + n (spot j d (take m cs))
  unfolding member_of
  at_before {i} {j} {d} cs r p =
      ap (λ b. choose b (n (caller_of cs)) (choose (leb L.nonterminal_base (code_at L G (j, d))) (K + n (spot j d (take m cs))) (2 * K)))
      (ne_eqb d (length_of L G j) (λ e. omega (arith, e, p.inside)))
      ∙ ap (λ b. choose b (K + n (spot j d (take m cs))) (2 * K)) (high r p)

  to-past : {i j d : ℕ} (cs : List (ℕ × ℕ)) → IsRule G i → Place L G (rule L G i).left j d → target_of L G m (spot j (suc d) cs) ≡ n (spot j d (take m cs))
  unfolding target_of
  to-past {i} {j} {d} cs r p = ap (λ b. choose b (n (spot j d (take m cs))) (2 * K + 1)) (high r p)

  pub at_first : member_of L G m first ≡ K + n first
  unfolding member_of
  at_first = refl

  opens-classes : {i : ℕ} {s t : Spot} → SpotOpens L G (suc m) i s t → member_of L G m s ≡ target_of L G m t
  unfolding target_of
  opens-classes (spot-start l) = at_first
  opens-classes (spot-opens {cs = cs} r l p c) = at_before cs r p

  closes-classes : {i : ℕ} {s t : Spot} → SpotCloses L G (suc m) i s t → member_of L G m s ≡ target_of L G m t
  unfolding target_of rule
  closes-classes (spot-ends {e = e} l q) = at-end 0 e [] q
  closes-classes (spot-closes {i = i} {j = j} {d = d} {e = e} {cs = cs} {ds = ds} r l p c q z) =
      at-end i e ds q ∙ ap (λ ds. n (caller_of ds)) z ∙ sym (to-past cs r p)

  -- a state moves alone to another exactly when its class leads there
  pub leads : (s t : Spot) → Mem s (spots L G (suc m)) → Mem t (spots L G (suc m)) → (member_of L G m s ≡ target_of L G m t) ↔ Alone s t
  leads s t hs ht = (
    from-classes (member_is s hs) (target_is t ht),
    λ a. elim a [
      | inl o ↦ opens-classes o.1
      | inr o ↦ closes-classes o.1
    ],
  )
