-- In a queue in order the way back from a place, turned round, comes before every other row to the same index.
-- Assumes nothing.
use mathlib.Core.Path.{◌≡◌, refl, sym, ap, ◌∙◌, subst}
use mathlib.Core.Logic.{◌⊎◌, inl, inr, ⊎_elim}
use mathlib.Core.List.{List, [], ◌∷◌, ◌++◌}
use Prim.Native.Nat.{ℕ, zero, suc, ◌≤◌, ◌<◌}
use native.Mathlib.Nat.{eq-or-lt_of_le}
use native.Mathlib.Omega.{arith}
use lib.ListN.{length, get_or, length-append}
use Rattle.triples.specs.Shortest.{Lower, ComesBefore}
use Rattle.figures.specs.Queue.{Stands, InOrder}

-- rows with the last index first: the shorter is less, and of two as long the one whose index is less where they first differ,
-- counted from the list's end
abbrev pub Less : List ℕ → List ℕ → Type 0
Less u [] = ⊥
Less [] (y ∷ v) = Unit {0}
Less (x ∷ u) (y ∷ v) = Less u v ⊎ ((u ≡ v) × (x < y))

less_trans : (u v w : List ℕ) → Less u v → Less v w → Less u w
less_trans u v [] a b = b
less_trans u [] (z ∷ w) a b = absurd a
less_trans [] (y ∷ v) (z ∷ w) a b = tt
less_trans (x ∷ u) (y ∷ v) (z ∷ w) (inl a) (inl b) = inl (less_trans u v w a b)
less_trans (x ∷ u) (y ∷ v) (z ∷ w) (inl a) (inr b) = inl (subst (Less u) b.0 a)
less_trans (x ∷ u) (y ∷ v) (z ∷ w) (inr a) (inl b) = inl (subst (λ (l : List ℕ). Less l w) (sym a.0) b)
less_trans (x ∷ u) (y ∷ v) (z ∷ w) (inr a) (inr b) = inr (a.0 ∙ b.0, omega (arith, a.1, b.1))

-- any row of moves from 0, the last index first
pub data Walk (Next : ℕ → ℕ → Type 0) : ℕ → List ℕ → Type 0 where
  here : Walk Next 0 (0 ∷ [])
  next : {x y : ℕ} {w : List ℕ} → Walk Next x w → Next x y → Walk Next y (y ∷ w)

walk-some : {Next : ℕ → ℕ → Type 0} {x : ℕ} {w : List ℕ} → Walk Next x w → Less [] w
walk-some here = tt
walk-some (next a b) = tt

module _ (queue parents : List ℕ) where
  -- the indices from place k back to place 0
  pub data Way : ℕ → List ℕ → Type 0 where
    start : Way 0 (get_or queue 0 0 ∷ [])
    more : {k : ℕ} {w : List ℕ} → 0 < k → Way (get_or parents k 0) w → Way k (get_or queue k 0 ∷ w)

  way_some : {k : ℕ} {u : List ℕ} → Way k u → Less [] u
  way_some start = tt
  way_some (more a b) = tt

  pub way_unique : {k : ℕ} {u v : List ℕ} → Way k u → Way k v → u ≡ v
  way_unique start start = refl
  way_unique start (more b c) = absurd (omega arith)
  way_unique (more a b) start = absurd (omega arith)
  way_unique (more {k = k} a b) (more a' b') = ap (λ (l : List ℕ). get_or queue k 0 ∷ l) (way_unique b b')

  module _ (Next : ℕ → ℕ → Type 0) (count : ℕ) (o : InOrder Next queue parents count) where
    -- a later place has a greater way
    way_less : {l : ℕ} {v : List ℕ} → Way l v → l < count → {k : ℕ} {u : List ℕ} → Way k u → k < l → Less u v
    way_less start ll wk kl = absurd (omega arith)
    way_less (more l0 w') ll start kl = inl (way_some w')
    way_less (more {k = l} {w = v} l0 w') ll (more {k = k} {w = u} k0 w) kl =
        let m = o.mono k l k0 kl ll in
        ⊎_elim
        (λ i. inr (way_unique w (subst (λ (j : ℕ). Way j v) (sym i) w'), o.rising k l k0 kl ll i))
        (λ lt. inl (way_less w' (omega (arith, o.earlier l l0 ll)) w lt))
        (eq-or-lt_of_le m)

    way_exists : (f k : ℕ) → k ≤ f → k < count → (u : List ℕ) × Way k u
    way_exists zero k l lk = (get_or queue 0 0 ∷ [], subst (λ (i : ℕ). Way i (get_or queue 0 0 ∷ [])) (let i : 0 ≡ k = omega arith in i) start)
    way_exists (suc f) k l lk = go k l lk (λ j lj lj'. way_exists f j lj lj')
      where
        go : (k : ℕ) → k ≤ suc f → k < count → ((j : ℕ) → j ≤ f → j < count → (u : List ℕ) × Way j u) → (u : List ℕ) × Way k u
        go zero l lk before = (get_or queue 0 0 ∷ [], start)
        go (suc k) l lk before =
            let e = o.earlier (suc k) (omega arith) lk in
            let r = before (get_or parents (suc k) 0) (omega arith) (omega arith) in
            (get_or queue (suc k) 0 ∷ r.0, more {k = suc k} (omega arith) r.1)

    -- some place of x has a way that is no greater than w
    pub record Best (x : ℕ) (w : List ℕ) : Type 0 where
      pub place : ℕ
      pub inside : place < count
      pub entry : get_or queue place 0 ≡ x
      pub way : List ℕ
      pub is_way : Way place way
      pub least : Less way w ⊎ (way ≡ w)

    pub walk_least : {x : ℕ} {w : List ℕ} → Walk Next x w → Best x w
    walk_least here = record {
      place = 0;
      inside = o.some;
      entry = o.zeroth;
      way = get_or queue 0 0 ∷ [];
      is_way = start;
      least = inr (ap (λ (i : ℕ). i ∷ []) o.zeroth);
    }
    walk_least (next {x = x} {y = y} {w = w} walk m) = go (walk_least walk)
      where
        go : Best x w → Best y (y ∷ w)
        go b = at (o.first b.place y b.inside (subst (λ (i : ℕ). Next i y) (sym b.entry) m))
          where
            by_place : (k : ℕ) → k < count → get_or queue k 0 ≡ y → (0 < k → get_or parents k 0 ≤ b.place) → Best y (y ∷ w)
            by_place zero lk e low = record {
              place = 0;
              inside = lk;
              entry = e;
              way = get_or queue 0 0 ∷ [];
              is_way = start;
              least = inl (inl (walk-some walk));
            }
            by_place (suc k) lk e low =
                let from = get_or parents (suc k) 0 in
                let c = o.earlier (suc k) (omega arith) lk in
                let (u, wu) = way_exists from from (omega arith) (omega arith) in
                record {
                  place = suc k;
                  inside = lk;
                  entry = e;
                  way = get_or queue (suc k) 0 ∷ u;
                  is_way = more {k = suc k} (omega arith) wu;
                  least = ⊎_elim
                      (λ i. let same : u ≡ b.way = way_unique wu (subst (λ (j : ℕ). Way j b.way) (sym i) b.is_way) in
                      ⊎_elim (λ l. inl (inl (subst (λ (v : List ℕ). Less v w) (sym same) l)))
                      (λ e'. inr (ap (λ (v : List ℕ). get_or queue (suc k) 0 ∷ v) (same ∙ e') ∙ ap (λ (i : ℕ). i ∷ w) e)) b.least)
                      (λ lt. let l : Less u b.way = way_less b.is_way b.inside wu lt in
                      ⊎_elim (λ l'. inl (inl (less_trans u b.way w l l'))) (λ e'. inl (inl (subst (Less u) e' l))) b.least)
                      (eq-or-lt_of_le (low (omega arith)));
                }

            at : Stands queue parents count b.place y → Best y (y ∷ w)
            at t = by_place t.place t.inside t.entry t.early

-- ---- rows with the first index first

abbrev pub turned : List ℕ → List ℕ
turned [] = []
turned (x ∷ u) = turned u ++ (x ∷ [])

lower_left : (a b : List ℕ) (x y : ℕ) → Lower a b → Lower (a ++ (x ∷ [])) (b ++ (y ∷ []))
lower_left [] b x y l = absurd l
lower_left (p ∷ a) [] x y l = absurd l
lower_left (p ∷ a) (q ∷ b) x y (inl l) = inl l
lower_left (p ∷ a) (q ∷ b) x y (inr l) = inr (l.0, lower_left a b x y l.1)

lower_last : (a : List ℕ) (x y : ℕ) → x < y → Lower (a ++ (x ∷ [])) (a ++ (y ∷ []))
lower_last [] x y l = inl l
lower_last (p ∷ a) x y l = inr (refl, lower_last a x y l)

-- what is less comes before, turned round
pub less_before : (u v : List ℕ) → Less u v → ComesBefore (turned u) (turned v)
less_before u [] l = absurd l
less_before [] (y ∷ v) l = inl (omega (arith, length-append (turned v) (y ∷ [])))
less_before (x ∷ u) (y ∷ v) (inl l) =
    ⊎_elim (λ s. inl (omega (arith, length-append (turned u) (x ∷ []), length-append (turned v) (y ∷ []))))
    (λ s. inr (omega (arith, s.0, length-append (turned u) (x ∷ []), length-append (turned v) (y ∷ [])), lower_left (turned u) (turned v) x y s.1)) (less_before u v l)
less_before (x ∷ u) (y ∷ v) (inr l) =
    inr (
      omega (arith, ap (λ (w : List ℕ). length (turned w)) l.0, length-append (turned u) (x ∷ []), length-append (turned v) (y ∷ [])),
      subst (λ (w : List ℕ). Lower (turned u ++ (x ∷ [])) (turned w ++ (y ∷ []))) l.0 (lower_last (turned u) x y l.1),
    )
