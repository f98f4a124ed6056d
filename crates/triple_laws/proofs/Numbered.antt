-- Lists that are an automaton's moves have its triples: steps, what is reached, acceptable certificates and witnesses are the same
-- for the automaton and, by the numbers of its states, for the lists.
-- Assumes nothing.
use Prim.Native.Nat.{ℕ, ◌<◌}
use mathlib.Core.Path.{◌≡◌, refl, sym, ap, subst, subst₂, ◌∙◌}
use mathlib.Core.List.{List, []}
use mathlib.Core.Logic.{◌↔◌}
use native.Mathlib.Omega.{arith}
use Rattle.grammar.specs.Basics.{Mem}
use Rattle.automaton.specs.Automaton.{Automaton}
use Rattle.automaton.specs.Moves.{Moves, listed, Regular, Lists}
use Rattle.triples.specs.Index.{index}
use Rattle.triples.specs.Successor.{BeforeTerminal, StepTo, Successor, open_left, open_right, shift_both, part-both, part_left, part_right, close-left, close-right, read-both}
use Rattle.triples.specs.Successor.{Reached, origin, next}
use Rattle.triples.specs.Certificate.{Holds, Certificate, AcceptableCertificate, SmallestCertificate}
use Rattle.triples.specs.Witness.{LeadsOn, ends, goes, Witness, begins}
use Rattle.triples.specs.declared.Move.{Move}
use Rattle.triples.specs.declared.Move.TheVariants.{Opening, Closing, Still}
use Rattle.triple_laws.proofs.Records.{steps_in_range}

module _ (A : Automaton) (M : Moves) (R : Regular M) (N : Lists A M) where
  -- the number of a state
  abbrev n : A.State → ℕ
  n = A.number

  -- a state of the automaton before a terminal is one of the lists, and back
  before-to : {p : A.State} → BeforeTerminal A p → BeforeTerminal (listed M) (n p)
  before-to {p} (a, t, (q, s)) = (a, (N.terminal a).0 t, (n q, (N.shifts a p q).0 s))

  -- a step of the automaton is one of the lists
  pub step-to : {f g : ℕ} {p q p' q' : A.State} {l r : Move} → StepTo A f p q g p' q' l r → StepTo (listed M) f (n p) (n q) g (n p') (n q') l r
  step-to (open_left {i = i} {p = p} {p' = p'} o) = open_left ((N.opens i p p').0 o)
  step-to (open_right {i = i} {q = q} {q' = q'} o) = open_right ((N.opens i q q').0 o)
  step-to (shift_both {x = x} {p} {q} {p'} {q'} u v) = shift_both ((N.shifts x p p').0 u) ((N.shifts x q q').0 v)
  step-to (part-both {i = i} {j} {p} {q} {p'} {q'} d c e) = part-both d ((N.closes i p p').0 c) ((N.closes j q q').0 e)
  step-to (part_left {i = i} {p = p} {p' = p'} c b) = part_left ((N.closes i p p').0 c) (before-to b)
  step-to (part_right {i = i} {q = q} {q' = q'} c b) = part_right ((N.closes i q q').0 c) (before-to b)
  step-to (close-left {i = i} {p = p} {p' = p'} c) = close-left ((N.closes i p p').0 c)
  step-to (close-right {i = i} {q = q} {q' = q'} c) = close-right ((N.closes i q q').0 c)
  step-to (read-both {a = a} {p} {q} {p'} {q'} t u v) = read-both ((N.terminal a).0 t) ((N.shifts a p p').0 u) ((N.shifts a q q').0 v)

  -- the state with a number below Q
  pub state : (p : ℕ) → p < M.states → (s : A.State) × (n s ≡ p)
  state p h = N.every p (omega (arith, N.states))

  before-from : {s : A.State} {p : ℕ} → n s ≡ p → BeforeTerminal (listed M) p → BeforeTerminal A s
  before-from {s} {p} e (a, t, (q, u)) =
      let w : M.after p < M.states = R.shifts-below p (omega (arith, u.0, u.1)) in
      let z = state q (omega (arith, w, u.2)) in
      (a, (N.terminal a).1 t, (z.0, (N.shifts a s z.0).1 (ap M.ahead e ∙ u.0, u.1, z.1 ∙ u.2 ∙ ap M.after (sym e))))

  -- a step of the lists between numbers of states is one of the automaton
  pub step_from : {f g a b a' b' : ℕ} {l r : Move} → StepTo (listed M) f a b g a' b' l r
      → (p q p' q' : A.State) → n p ≡ a → n q ≡ b → n p' ≡ a' → n q' ≡ b' → n p < A.states → n q < A.states → StepTo A f p q g p' q' l r
  step_from {f} (open_left {i = i} o) p q p' q' e u e' u' h k =
      subst (λ z. StepTo A f p q f p' z (Opening i) Still) (N.one q q' k (u ∙ sym u'))
      (open_left ((N.opens i p p').1 (subst₂ (λ a b. Mem {A = ℕ × ℕ} (i, b) (M.openings a)) (sym e) (sym e') o)))
  step_from {f} (open_right {i = i} o) p q p' q' e u e' u' h k =
      subst (λ z. StepTo A f p q f z q' Still (Opening i)) (N.one p p' h (e ∙ sym e'))
      (open_right ((N.opens i q q').1 (subst₂ (λ a b. Mem {A = ℕ × ℕ} (i, b) (M.openings a)) (sym u) (sym u') o)))
  step_from (shift_both {x = x} s t) p q p' q' e u e' u' h k =
      shift_both ((N.shifts x p p').1 (ap M.ahead e ∙ s.0, s.1, e' ∙ s.2 ∙ ap M.after (sym e)))
      ((N.shifts x q q').1 (ap M.ahead u ∙ t.0, t.1, u' ∙ t.2 ∙ ap M.after (sym u)))
  step_from (part-both {i = i} {j = j} d c c') p q p' q' e u e' u' h k =
      part-both d ((N.closes i p p').1 (subst₂ (λ a b. Mem {A = ℕ × ℕ} (i, b) (M.closings a)) (sym e) (sym e') c))
      ((N.closes j q q').1 (subst₂ (λ a b. Mem {A = ℕ × ℕ} (j, b) (M.closings a)) (sym u) (sym u') c'))
  step_from (part_left {i = i} c b) p q p' q' e u e' u' h k =
      subst (λ z. StepTo A 0 p q 1 p' z (Closing i) Still) (N.one q q' k (u ∙ sym u'))
      (part_left ((N.closes i p p').1 (subst₂ (λ a b. Mem {A = ℕ × ℕ} (i, b) (M.closings a)) (sym e) (sym e') c)) (before-from u b))
  step_from (part_right {i = i} c b) p q p' q' e u e' u' h k =
      subst (λ z. StepTo A 0 p q 1 z q' Still (Closing i)) (N.one p p' h (e ∙ sym e'))
      (part_right ((N.closes i q q').1 (subst₂ (λ a b. Mem {A = ℕ × ℕ} (i, b) (M.closings a)) (sym u) (sym u') c)) (before-from e b))
  step_from (close-left {i = i} c) p q p' q' e u e' u' h k =
      subst (λ z. StepTo A 1 p q 1 p' z (Closing i) Still) (N.one q q' k (u ∙ sym u'))
      (close-left ((N.closes i p p').1 (subst₂ (λ a b. Mem {A = ℕ × ℕ} (i, b) (M.closings a)) (sym e) (sym e') c)))
  step_from (close-right {i = i} c) p q p' q' e u e' u' h k =
      subst (λ z. StepTo A 1 p q 1 z q' Still (Closing i)) (N.one p p' h (e ∙ sym e'))
      (close-right ((N.closes i q q').1 (subst₂ (λ a b. Mem {A = ℕ × ℕ} (i, b) (M.closings a)) (sym u) (sym u') c)))
  step_from (read-both {a = x} t s s') p q p' q' e u e' u' h k =
      read-both ((N.terminal x).1 t) ((N.shifts x p p').1 (ap M.ahead e ∙ s.0, s.1, e' ∙ s.2 ∙ ap M.after (sym e)))
      ((N.shifts x q q').1 (ap M.ahead u ∙ s'.0, s'.1, u' ∙ s'.2 ∙ ap M.after (sym u)))

  -- the steps of the automaton are those of the lists
  pub step_same : {f g : ℕ} {p q p' q' : A.State} {l r : Move} → n p < A.states → n q < A.states
      → StepTo A f p q g p' q' l r ↔ StepTo (listed M) f (n p) (n q) g (n p') (n q') l r
  step_same {p = p} {q} {p'} {q'} h k = (step-to, λ s. step_from s p q p' q' refl refl refl refl h k)

  -- a successor in the lists of two states is that of two states
  record Onward (f g a b : ℕ) (p q : A.State) : Type 0 where
    p' : A.State
    q' : A.State
    left : n p' ≡ a
    right : n q' ≡ b
    successor : Successor A f p q g p' q'

  onward : {f g a b : ℕ} (p q : A.State) → f < 2 → n p < A.states → n q < A.states → Successor (listed M) f (n p) (n q) g a b → Onward f g a b p q
  onward p q hf h k (l, r, s) =
      let i = steps_in_range M R hf (omega (arith, N.states)) (omega (arith, N.states)) (l, r, s) in
      let u = state _ i.1 in
      let v = state _ i.2 in
      record { p' = u.0; q' = v.0; left = u.1; right = v.1; successor = (l, r, step_from s p q u.0 v.0 refl refl u.1 v.1 h k) }

  pub successor_to : {f g : ℕ} {p q p' q' : A.State} → Successor A f p q g p' q' → Successor (listed M) f (n p) (n q) g (n p') (n q')
  successor_to (l, r, s) = (l, r, step-to s)

  -- what is reached
  pub reached-to : {f : ℕ} {p q : A.State} → Reached A f p q → Reached (listed M) f (n p) (n q)
  reached-to origin = subst₂ (Reached (listed M) 0) (sym N.first) (sym N.first) origin
  reached-to (next r s) = next (reached-to r) (successor_to s)

  -- reached states with these numbers
  pub record Found (f a b : ℕ) : Type 0 where
    pub p : A.State
    pub q : A.State
    pub left : n p ≡ a
    pub right : n q ≡ b
    pub layer : f < 2
    pub left_below : n p < A.states
    pub right-below : n q < A.states
    pub reached : Reached A f p q

  pub found : {f a b : ℕ} → Reached (listed M) f a b → Found f a b
  found origin = record {
    p = A.first;
    q = A.first;
    left = N.first;
    right = N.first;
    layer = omega arith;
    left_below = omega (arith, N.first, N.states, R.four);
    right-below = omega (arith, N.first, N.states, R.four);
    reached = origin;
  }
  found (next {f = f} {g = g} {p = a} {q = b} {p' = a'} {q' = b'} r s) =
      let o = found r in
      let z = subst₂ (λ x y. Successor (listed M) f x y g a' b') (sym o.left) (sym o.right) s in
      let w = onward o.p o.q o.layer o.left_below o.right-below z in
      let i = steps_in_range M R o.layer (omega (arith, N.states, o.left_below)) (omega (arith, N.states, o.right-below)) z in
      record {
        p = w.p';
        q = w.q';
        left = w.left;
        right = w.right;
        layer = i.0;
        left_below = omega (arith, w.left, i.1, N.states);
        right-below = omega (arith, w.right, i.2, N.states);
        reached = next o.reached w.successor;
      }

  -- states are reached in the automaton exactly if their numbers are in the lists
  pub reached-same : {f : ℕ} {p q : A.State} → n p < A.states → n q < A.states → Reached A f p q ↔ Reached (listed M) f (n p) (n q)
  reached-same {f} {p} {q} h k = (reached-to, from)
    where
      from : Reached (listed M) f (n p) (n q) → Reached A f p q
      from r =
          let o = found r in
          subst₂ (Reached A f) (N.one o.p p o.left_below o.left) (N.one o.q q o.right-below o.right) o.reached

  -- acceptable certificates
  pub acceptable_same : (bytes : List ℕ) → AcceptableCertificate A bytes ↔ AcceptableCertificate (listed M) bytes
  acceptable_same bytes = (to, from)
    where
      Q : A.states ≡ M.states
      Q = N.states

      to : AcceptableCertificate A bytes → AcceptableCertificate (listed M) bytes
      to c = record {
        certificate = subst (λ Q. Certificate Q bytes) Q c.certificate;
        acceptable = record {
          closed = record {
            holds = subst (λ Q. Holds Q bytes 0 0 0) Q (subst₂ (Holds A.states bytes 0) N.first N.first c.acceptable.closed.holds);
            step = λ {f} {g} {p = a} {q = b} {p' = a'} {q' = b'} h s.
                let u = state a h.left in
                let v = state b h.right in
                let z = subst₂ (λ x y. Successor (listed M) f x y g a' b') (sym u.1) (sym v.1) s in
                let i = h.left in
                let j = h.right in
                let w = onward u.0 v.0 h.layer (omega (arith, u.1, i, N.states)) (omega (arith, v.1, j, N.states)) z in
                let y = subst (λ Q. Holds Q bytes f a b) (sym Q) h in
                subst (λ Q. Holds Q bytes g a' b') Q (subst₂ (Holds A.states bytes g) w.left w.right
                (c.acceptable.closed.step (subst₂ (Holds A.states bytes f) (sym u.1) (sym v.1) y) w.successor));
          };
          lacks = λ h. c.acceptable.lacks (subst₂ (Holds A.states bytes 1) (sym N.last) (sym N.last) (subst (λ Q. Holds Q bytes 1 1 1) (sym Q) h));
        };
      }

      from : AcceptableCertificate (listed M) bytes → AcceptableCertificate A bytes
      from c = record {
        certificate = subst (λ Q. Certificate Q bytes) (sym Q) c.certificate;
        acceptable = record {
          closed = record {
            holds = subst₂ (Holds A.states bytes 0) (sym N.first) (sym N.first) (subst (λ Q. Holds Q bytes 0 0 0) (sym Q) c.acceptable.closed.holds);
            step = λ {f} {g} {p} {q} {p'} {q'} h s.
                subst (λ Q. Holds Q bytes g (n p') (n q')) (sym Q)
                (c.acceptable.closed.step (subst (λ Q. Holds Q bytes f (n p) (n q)) Q h) (successor_to s));
          };
          lacks = λ h. c.acceptable.lacks (subst₂ (Holds M.states bytes 1) N.last N.last (subst (λ Q. Holds Q bytes 1 (n A.last) (n A.last)) Q h));
        };
      }

  -- and the smallest
  pub smallest-same : (bytes : List ℕ) → SmallestCertificate (listed M) bytes → SmallestCertificate A bytes
  smallest-same bytes c = record {
    acceptable = (acceptable_same bytes).1 c.acceptable;
    least = λ other k f p q h. subst (λ Q. Holds Q other f p q) (sym N.states)
        (c.least other ((acceptable_same other).0 k) f p q (subst (λ Q. Holds Q bytes f p q) N.states h));
  }

  -- witnesses
  leads_to_lem : {f : ℕ} {p q : A.State} {is : List ℕ} → LeadsOn A f p q is → LeadsOn (listed M) f (n p) (n q) is
  leads_to_lem ends = subst₂ (λ x y. LeadsOn (listed M) 1 x y []) (sym N.last) (sym N.last) ends
  leads_to_lem (goes {g = g} {p' = p'} {q' = q'} s e l) = goes (successor_to s) (e ∙ ap (λ Q. index Q g (n p') (n q')) N.states) (leads_to_lem l)

  leads_from : {f a b : ℕ} {is : List ℕ} → LeadsOn (listed M) f a b is → (p q : A.State) → n p ≡ a → n q ≡ b → f < 2 → n p < A.states → n q < A.states
      → LeadsOn A f p q is
  leads_from ends p q e u hf h k =
      subst₂ (λ x y. LeadsOn A 1 x y []) (sym (N.one p A.last h (e ∙ sym N.last))) (sym (N.one q A.last k (u ∙ sym N.last))) ends
  leads_from (goes {f = f} {g = g} {p' = a'} {q' = b'} s w l) p q e u hf h k =
      let z = subst₂ (λ x y. Successor (listed M) f x y g a' b') (sym e) (sym u) s in
      let o = onward p q hf h k z in
      let i = steps_in_range M R hf (omega (arith, N.states)) (omega (arith, N.states)) z in
      goes o.successor (w ∙ ap (λ Q. index Q g a' b') (sym N.states) ∙ cc (sym o.left, sym o.right))
      (leads_from l o.p' o.q' o.left o.right i.0 (omega (arith, o.left, i.1, N.states)) (omega (arith, o.right, i.2, N.states)))

  pub witness_same : (row : List ℕ) → Witness A row ↔ Witness (listed M) row
  witness_same row = (to, from)
    where
      to : {row : List ℕ} → Witness A row → Witness (listed M) row
      to (begins {is = is} e l) =
          begins (e ∙ ap (λ Q. index Q 0 (n A.first) (n A.first)) N.states ∙ cc N.first)
          (subst₂ (λ x y. LeadsOn (listed M) 0 x y is) N.first N.first (leads_to_lem l))

      from : {row : List ℕ} → Witness (listed M) row → Witness A row
      from (begins e l) =
          begins (e ∙ ap (λ Q. index Q 0 0 0) (sym N.states) ∙ cc (sym N.first))
          (leads_from l A.first A.first N.first N.first (omega arith) (omega (arith, N.first, N.states, R.four)) (omega (arith, N.first, N.states, R.four)))
