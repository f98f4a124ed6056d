-- The one tree read off a chart, from the root, children left to right, with the places that wait in a stack: whatever split and rule
-- the chart counts are those of the tree, the rules come in the tree's order, and the stack stays within the tree's depth. Assumes nothing.
use Prim.Native.Nat.{ℕ, suc, ◌+◌, ◌-◌, ◌≤◌, ◌<◌}
use mathlib.Core.Path.{◌≡◌, refl, sym, ap, subst, ◌∙◌}
use mathlib.Core.List.{List, [], ◌∷◌, ◌++◌, append_assoc, append-nil}
use native.Mathlib.Omega.{arith}
use native.Mathlib.Nat.{mul-le-mul, le_refl}
use lib.ListN.{length, get_or}
use Rattle.grammar.specs.Limits.{Limits}
use Rattle.grammar.specs.Grammar.{Terminal, Grammar}
use Rattle.grammar.specs.Tree.{Trees, AppliesRuleOf}
use Rattle.trees.specs.Trees.{rules_of, rules_below}
use Rattle.tree_laws.specs.Spans.{tree, AtLeast, depth, Spans, end, leaf, node}
use Rattle.tree_laws.specs.Chart.{Places, Chart, splits, kin, Stable}
use Rattle.tree_laws.specs.Walk.{Frame, Pending, Waiting, none-waits, waits, Walk}
use Rattle.tree_laws.proofs.AtLeast.{max_left, max_right}
use Rattle.tree_laws.proofs.Spans.{spans_rise, spans_within}
use Rattle.tree_laws.proofs.Cap.{cap-small}
use Rattle.tree_laws.proofs.Chart.{some, some-whole, unique, split_at_lem, one-kin}

module _ (L : Limits) (G : Grammar) (w : List ℕ) (P : Places L G) (C : Chart) where
  module _ (S : Stable L G w P C) (apart : (b r : ℕ) → AppliesRuleOf L G b r → Terminal G.terminals b → ⊥) where
    -- what the chart counts in a split of the only forest is that forest's split
    pub record Opened (x : Frame) (f : Trees) (r k : ℕ) : Type 0 where
      pub below : Trees
      pub after : Trees
      pub shape : f ≡ tree r below after
      pub inside : Pending L G w P C (record { place = P.first r; from = x.from; to = k }) below
      pub onward : Pending L G w P C (record { place = suc x.place; from = k; to = x.to }) after

    module _ (d : ℕ) (sound : (p i j : ℕ) → i ≤ j → j ≤ length w → AtLeast d (C.item p i j) (λ f. Spans L G w (P.rest p) f i j)) where
      pub opened : (x : Frame) (f : Trees) (b : ℕ) (α : List ℕ) (r k : ℕ) → Pending L G w P C x f → P.rest x.place ≡ b ∷ α → AppliesRuleOf L G b r
          → x.from ≤ k → k ≤ x.to → x.to ≤ length w → 1 ≤ C.item (P.first r) x.from k → 1 ≤ C.item (suc x.place) k x.to → Opened x f r k
      opened x f b α r k p e a h g l u v =
          let f₁ = (sound (P.first r) x.from k h (omega arith)).first u in
          let g₁ = (sound (suc x.place) k x.to g l).first v in
          let s = subst (λ z. Spans L G w z f₁.0 x.from k) (P.begins r a.0) f₁.1.0 in
          let t = subst (λ z. Spans L G w z g₁.0 k x.to) (P.on x.place b α e) g₁.1.0 in
          let q : f ≡ tree r f₁.0 g₁.0 = unique L G w P C S apart (subst (λ z. Spans L G w z f x.from x.to) e p.spans) (node a s t) x.place e p.few in
          let y = some-whole L G w P C S apart b r x.from k a h (omega arith) u in
          let z : splits C b (suc x.place) x.from x.to (suc (x.to - x.from)) ≤ 1 =
          cap-small _ (omega (arith, S.at-node x.place b r x.from x.to α e a (omega arith) l, p.few)) in
          let m = split_at_lem C b (suc x.place) x.from x.to k h g in
          let c : C.whole b x.from k ≤ 1 = omega (arith, z, m, mul-le-mul (le_refl (C.whole b x.from k)) v) in
          let n : kin L G P C b x.from k (length G.rules) ≤ 1 = cap-small _ (omega (arith, S.at-whole b r x.from k a h (omega arith), c)) in
          record {
            below = f₁.0;
            after = g₁.0;
            shape = q;
            inside = record { spans = f₁.1.0; few = omega (arith, n, one-kin L G w P C b x.from k (length G.rules) r a.0.0 a.0.1 a.1) };
            onward = record { spans = g₁.1.0; few = omega (arith, z, m, mul-le-mul y (le_refl (C.item (suc x.place) k x.to))) };
          }

      -- at a nonterminal: the rule is written, what comes after waits, and there is room for it
      pub walk-node : (room : ℕ) (all out : List ℕ) (x : Frame) (stack : List Frame) (b : ℕ) (α : List ℕ) (r k : ℕ) → Walk L G w P C room all out x stack
          → P.rest x.place ≡ b ∷ α → AppliesRuleOf L G b r → x.from ≤ k → k ≤ x.to → x.to ≤ length w
          → 1 ≤ C.item (P.first r) x.from k → 1 ≤ C.item (suc x.place) k x.to
          → (length stack < room) × Walk L G w P C room all (out ++ (r ∷ [])) (record { place = P.first r; from = x.from; to = k }) (record { place = suc x.place; from = k; to = x.to } ∷ stack)
      unfolding depth rules_of
      walk-node room all out x stack b α r k W e a h g l u v =
          let o = opened x W.now b α r k W.pending e a h g l u v in
          let d : length stack + depth (tree r o.below o.after) ≤ room = subst (λ z. length stack + depth z ≤ room) o.shape W.fits in
          let m = max_left (suc (depth o.below)) (depth o.after) in
          let n = max_right (suc (depth o.below)) (depth o.after) in
          let q : out ++ ((r ∷ (rules_below o.below ++ rules_below o.after)) ++ W.rest) ≡ all = subst (λ z. out ++ (rules_below z ++ W.rest) ≡ all) o.shape W.written in (
            omega arith,
            record {
              now = o.below;
              rest = rules_below o.after ++ W.rest;
              pending = o.inside;
              fits = omega arith;
              waiting = waits {stack = stack} o.onward (omega arith) W.waiting;
              written = append_assoc out (r ∷ []) (rules_below o.below ++ (rules_below o.after ++ W.rest))
                  ∙ ap (λ z. out ++ (r ∷ z)) (sym (append_assoc (rules_below o.below) (rules_below o.after) W.rest)) ∙ q;
            },
          )

      -- at a terminal: on
      pub walk-leaf : (room : ℕ) (all out : List ℕ) (x : Frame) (stack : List Frame) (a : ℕ) (α : List ℕ) → Walk L G w P C room all out x stack
          → P.rest x.place ≡ a ∷ α → Terminal G.terminals a → Walk L G w P C room all out (record { place = suc x.place; from = suc x.from; to = x.to }) stack
      walk-leaf room all out x stack a α W e t =
          let s = W.pending.spans in
          let y = read-leaf x.from x.to W.now (subst (λ z. Spans L G w z W.now x.from x.to) e s) t in
          record {
            now = W.now;
            rest = W.rest;
            pending = record {
              spans = subst (λ z. Spans L G w z W.now (suc x.from) x.to) (sym (P.on x.place a α e)) y.1;
              few = cap-small _ (omega (arith, W.pending.few, S.at_leaf x.place a x.from x.to α e t (spans_rise L G w y.1) (spans_within L G w s) y.0));
            };
            fits = W.fits;
            waiting = W.waiting;
            written = W.written;
          }
        where
          read-leaf : {a : ℕ} {α : List ℕ} (i j : ℕ) (f : Trees) → Spans L G w (a ∷ α) f i j → Terminal G.terminals a → (get_or w i 0 ≡ a) × Spans L G w α f (suc i) j
          read-leaf i j f (leaf t' h q s) t = (q, s)
          read-leaf i j f (node b s u) t = absurd (apart _ _ b t)

      -- at an end: back to what waits last, or all is written
      pub walk-back : (room : ℕ) (all out : List ℕ) (x y : Frame) (stack : List Frame) → Walk L G w P C room all out x (y ∷ stack) → P.rest x.place ≡ [] → Walk L G w P C room all out y stack
      unfolding rules_of
      walk-back room all out x y stack W e = pop W.waiting (at_none W.now (subst (λ z. Spans L G w z W.now x.from x.to) e W.pending.spans)) W.written
        where
          at_none : {i j : ℕ} (f : Trees) → Spans L G w [] f i j → f ≡ Trees.none
          at_none f (end h) = refl

          pop : {f : Trees} {rest : List ℕ} → Waiting L G w P C room (y ∷ stack) rest → f ≡ Trees.none → out ++ (rules_below f ++ rest) ≡ all → Walk L G w P C room all out y stack
          pop (waits {f = g} {rest = rest} p h ws) q o = record {
            now = g;
            rest = rest;
            pending = p;
            fits = h;
            waiting = ws;
            written = subst (λ z. out ++ (rules_below z ++ (rules_below g ++ rest)) ≡ all) q o;
          }

      pub walk-done : (room : ℕ) (all out : List ℕ) (x : Frame) → Walk L G w P C room all out x [] → P.rest x.place ≡ [] → out ≡ all
      unfolding rules_of
      walk-done room all out x W e = fin W.waiting (at_none W.now (subst (λ z. Spans L G w z W.now x.from x.to) e W.pending.spans)) W.written
        where
          at_none : {i j : ℕ} (f : Trees) → Spans L G w [] f i j → f ≡ Trees.none
          at_none f (end h) = refl

          fin : {f : Trees} {rest : List ℕ} → Waiting L G w P C room [] rest → f ≡ Trees.none → out ++ (rules_below f ++ rest) ≡ all → out ≡ all
          fin none-waits q o = sym (append-nil out) ∙ subst (λ z. out ++ (rules_below z ++ []) ≡ all) q o

      -- the chart shows a split and a rule wherever the walk is at a nonterminal
      pub walk_finds : (x : Frame) (f : Trees) (b : ℕ) (α : List ℕ) → Pending L G w P C x f → P.rest x.place ≡ b ∷ α → (Terminal G.terminals b → ⊥)
          → (r : ℕ) × ((k : ℕ) × (AppliesRuleOf L G b r × (x.from ≤ k) × (k ≤ x.to) × (1 ≤ C.item (P.first r) x.from k) × (1 ≤ C.item (suc x.place) k x.to)))
      walk_finds x f b α p e n = look (subst (λ z. Spans L G w z f x.from x.to) e p.spans)
        where
          look : {g : Trees} → Spans L G w (b ∷ α) g x.from x.to
              → (r : ℕ) × ((k : ℕ) × (AppliesRuleOf L G b r × (x.from ≤ k) × (k ≤ x.to) × (1 ≤ C.item (P.first r) x.from k) × (1 ≤ C.item (suc x.place) k x.to)))
          look (leaf t h q s) = absurd (n t)
          look (node {r} {k = k} a s u) =
              (r, (k, (a, spans_rise L G w s, spans_rise L G w u, some L G w P C S apart s (P.first r) (P.begins r a.0), some L G w P C S apart u (suc x.place) (P.on x.place b α e))))
