-- What the passes leave marked is what grammar's Live.antt finds by rounds. Assumes nothing.
use Prim.Native.Nat.{ℕ, zero, suc, ◌-◌, ◌≤◌, ◌<◌}
use mathlib.Core.Path.{◌≡◌, refl, ap, ap₂, sym, subst, ◌∙◌}
use mathlib.Core.Bool.{Bool, true, false, ◌&&◌}
use mathlib.Core.List.{List, [], ◌∷◌, ◌++◌, map}
use mathlib.Core.Logic.{◌⊎◌, inl, inr}
use native.Mathlib.Omega.{arith}
use lib.Dec.{ltb, leb, eqb}
use lib.ListN.{length, get_or, set, replicate, length-replicate}
use lib.Seq.{get_or-set_same, get_or-set_other}
use borrow.Author.Tests.{leb-true, leb-false, eqb-true, eqb-false}
use Rattle.grammar.specs.Basics.{when, each, Mem, here, there}
use Rattle.grammar.specs.Limits.{limits}
use Rattle.grammar.specs.Grammar.{Rule, Grammar, IsRule, WellFormed, start, rule}
use Rattle.grammar.specs.Live.{Clause, has, has_all, nonterminals_of, derives_if, productive, is_productive, reaches_from, usable, reachable, has_sentence, is_live}
use Rattle.grammar.proofs.Answers.{no_bool, and_both, both_and, same_test}
use Rattle.grammar.proofs.Lists.{no_element, mem_place, map_in, each_in}
use Rattle.grammar.proofs.Plain.{mem_cases}
use Rattle.grammar.proofs.Derives.{rule-listed}
use Rattle.grammar.proofs.Closure.{All, all_is, has_is, closure_least}
use Rattle.grammar.proofs.Live.{usable-out, clause-of, start-reached, next-reached}
use Rattle.live.specs.Marks.{marked, all_marked, Sound, left_at, right_at, AllDerived, AllDerivedMarks, AllLed, AllLedMarks, Finished, bit, Answers}
use Rattle.live.proofs.MarkLaws.{marked-low, marked-high}

-- ---- marks and right sides

all-marked_in : (marks α : List ℕ) → All (λ x. marked marks x ≡ true) (nonterminals_of limits α) → all_marked marks α ≡ true
unfolding all_marked nonterminals_of
all-marked_in marks [] a = refl
all-marked_in marks (x ∷ α) a = go (leb limits.nonterminal_base x) refl a (all-marked_in marks α)
  where
    go : (b : Bool) → leb limits.nonterminal_base x ≡ b → All (λ x. marked marks x ≡ true) (when b (x ∷ []) ++ nonterminals_of limits α)
        → (All (λ x. marked marks x ≡ true) (nonterminals_of limits α) → all_marked marks α ≡ true) → marked marks x && all_marked marks α ≡ true
    go true e a again = both_and (marked marks x) (all_marked marks α) a.0 (again a.1)
    go false e a again = both_and (marked marks x) (all_marked marks α) (marked-low marks x (leb-false limits.nonterminal_base x e)) (again a)

all-marked-out : (marks α : List ℕ) (x : ℕ) → all_marked marks α ≡ true → Mem x (nonterminals_of limits α) → marked marks x ≡ true
unfolding all_marked nonterminals_of
all-marked-out marks [] x e m = absurd (no_element m)
all-marked-out marks (y ∷ α) x e m =
    let a = and_both (marked marks y) (all_marked marks α) e in
    go (leb limits.nonterminal_base y) a.0 m (all-marked-out marks α x a.1)
  where
    go : (b : Bool) → marked marks y ≡ true → Mem x (when b (y ∷ []) ++ nonterminals_of limits α)
        → (Mem x (nonterminals_of limits α) → marked marks x ≡ true) → marked marks x ≡ true
    go true k m again = elim (mem_cases m) [ inl q ↦ subst (λ y. marked marks y ≡ true) q k | inr n ↦ again n ]
    go false k m again = again m

-- the marks are those of a list
abbrev pub Exact : List ℕ → List ℕ → Type 0
Exact found marks = (x : ℕ) → limits.nonterminal_base ≤ x → marked marks x ≡ has found x

all_exact : (found marks α : List ℕ) → Exact found marks → all_marked marks α ≡ has_all found (nonterminals_of limits α)
unfolding all_marked nonterminals_of has_all
all_exact found marks [] h = refl
all_exact found marks (x ∷ α) h = go (leb limits.nonterminal_base x) refl (all_exact found marks α h)
  where
    go : (b : Bool) → leb limits.nonterminal_base x ≡ b → all_marked marks α ≡ has_all found (nonterminals_of limits α)
        → marked marks x && all_marked marks α ≡ has_all found (when b (x ∷ []) ++ nonterminals_of limits α)
    go true e k = ap₂ (λ a b. a && b) (h x (leb-true limits.nonterminal_base x e)) k
    go false e k = ap (λ a. a && all_marked marks α) (marked-low marks x (leb-false limits.nonterminal_base x e)) ∙ k

-- ---- the rows at the start

zeros : (m i : ℕ) → get_or (replicate {A = ℕ} m 0) i 0 ≡ 0
zeros zero i = refl
zeros (suc m) zero = refl
zeros (suc m) (suc i) = zeros m i

pub none-marked : (m : ℕ) (found : List ℕ) → Sound found (replicate m 0)
none-marked m found x h e = no_bool (sym e ∙ marked-high (replicate m 0) x h ∙ ap (ltb 0) (zeros m (x - limits.nonterminal_base)))

-- the start alone
pub start-marked : (m : ℕ) (found : List ℕ) → has found (start limits) ≡ true → Sound found (set (replicate m 0) 0 1)
start-marked m found s x h e = go (eqb x limits.nonterminal_base) refl
  where
    go : (b : Bool) → eqb x limits.nonterminal_base ≡ b → has found x ≡ true
    go true q = subst (λ x. has found x ≡ true) (sym (eqb-true x limits.nonterminal_base q)) s
    go false q =
        no_bool (sym e ∙ marked-high (set (replicate m 0) 0 1) x h
        ∙ ap (ltb 0) (get_or-set_other (replicate m 0) 0 (x - limits.nonterminal_base) 1 0 (λ z. eqb-false x limits.nonterminal_base q (omega arith)) ∙ zeros m (x - limits.nonterminal_base)))

pub start_has : (m : ℕ) → 0 < m → marked (set (replicate m 0) 0 1) (start limits) ≡ true
start_has m h =
    let e : limits.nonterminal_base - limits.nonterminal_base ≡ 0 = omega arith in
    marked-high (set (replicate m 0) 0 1) (start limits) (omega arith) ∙ ap (λ i. ltb 0 (get_or (set (replicate m 0) 0 1) i 0)) e
    ∙ ap (ltb 0) (get_or-set_same (replicate m 0) 0 1 0 (let n : length (replicate {A = ℕ} m 0) ≡ m = length-replicate m 0 in omega arith))

module _ (G : Grammar) (W : WellFormed limits G) (lefts lengths codes : List ℕ) (count : ℕ) (many : count ≡ length G.rules)
    (left : (i : ℕ) → i < count → left_at lefts i ≡ (rule limits G (suc i)).left)
    (right : (i : ℕ) → i < count → right_at lengths codes i ≡ (rule limits G (suc i)).right) where
  apart : limits.max_terminals < limits.nonterminal_base
  apart = omega arith

  abbrev P : List ℕ
  P = productive limits G.rules

  abbrev R : List ℕ
  R = reachable limits G.rules

  -- a rule of the list is one of the columns
  at-rule : (r : Rule) → Mem r G.rules → (i : ℕ) × (i < count) × (left_at lefts i ≡ r.left) × (right_at lengths codes i ≡ r.right)
  unfolding rule
  at-rule r m =
      let a = mem_place (record { left = 0; right = [] }) m in
      let h : a.0 < count = omega (arith, a.1, many) in
      (a.0, h, left a.0 h ∙ ap (λ (r : Rule). r.left) a.2, right a.0 h ∙ ap (λ (r : Rule). r.right) a.2)

  is_rule : (i : ℕ) → i < count → IsRule G (suc i)
  is_rule i h = (omega arith, omega (arith, many))

  -- the nonterminals that have a tree
  productive-closed : AllDerived lefts lengths codes 0 count P
  productive-closed i a h e =
      let α = (rule limits G (suc i)).right in
      let f = subst (λ α. has_all P (nonterminals_of limits α) ≡ true) (right i h) e in
      let m = clause-of limits G W apart (suc i) (is_rule i h) ((all_is P (nonterminals_of limits α)).0 f) in
      subst (λ x. has P x ≡ true) (sym (left i h)) ((has_is P (rule limits G (suc i)).left).1 m)

  module _ (marks : List ℕ) (F : Finished (AllDerived lefts lengths codes 0 count) (AllDerivedMarks lefts lengths codes 0 count) (replicate limits.max_nonterminals 0) marks) where
    productive-marked : (x : ℕ) → Mem x P → marked marks x ≡ true
    unfolding productive
    productive-marked = closure_least (λ x. marked marks x ≡ true) (map (derives_if limits) G.rules) (λ c m a.
        let r = map_in (derives_if limits) G.rules m in
        subst (λ (c : Clause). marked marks c.conclusion ≡ true) (sym r.2)
        (one r.0 r.1 (subst (λ (c : Clause). All (λ x. marked marks x ≡ true) c.premises) r.2 a)))
      where
        one : (r : Rule) → Mem r G.rules → All (λ x. marked marks x ≡ true) (nonterminals_of limits r.right) → marked marks r.left ≡ true
        one r m a =
            let i = at-rule r m in
            subst (λ x. marked marks x ≡ true) i.2
            (F.settled i.0 (omega arith) i.1 (subst (λ α. all_marked marks α ≡ true) (sym i.3) (all-marked_in marks r.right a)))

    pub productive_exact : Exact P marks
    productive_exact x h =
        same_test (marked marks x) (has P x) (F.sound P productive-closed (none-marked limits.max_nonterminals P) x h)
        (λ e. productive-marked x ((has_is P x).0 e))

    -- there is a sentence if the first nonterminal is marked
    pub sentence_is : (some : Bool) → some ≡ ltb 0 (get_or marks 0 0) → some ≡ has_sentence limits G
    unfolding has_sentence
    sentence_is some e =
        let z : limits.nonterminal_base - limits.nonterminal_base ≡ 0 = omega arith in
        e ∙ ap (λ i. ltb 0 (get_or marks i 0)) (sym z) ∙ sym (marked-high marks (start limits) (omega arith)) ∙ productive_exact (start limits) (omega arith)

    -- what S reaches
    reachable-closed : AllLed lefts lengths codes marks 0 count R
    reachable-closed i a h m e =
        let r = rule limits G (suc i) in
        let f : is_productive limits P r ≡ true = sym (all_exact P marks r.right productive_exact) ∙ subst (λ α. all_marked marks α ≡ true) (right i h) e in
        let n = (has_is R r.left).0 (subst (λ x. has R x ≡ true) (left i h) m) in
        subst (λ α. has_all R (nonterminals_of limits α) ≡ true) (sym (right i h))
        ((all_is R (nonterminals_of limits r.right)).1
        (every (nonterminals_of limits r.right) (next-reached limits G W apart (suc i) (is_rule i h) f n)))
      where
        every : (l : List ℕ) → ((x : ℕ) → Mem x l → Mem x R) → All (λ x. Mem x R) l
        every [] f = tt
        every (x ∷ l) f = (f x here, every l (λ y m. f y (there m)))

    module _ (reached : List ℕ) (T : Finished (AllLed lefts lengths codes marks 0 count) (AllLedMarks lefts lengths codes marks 0 count) (set (replicate limits.max_nonterminals 0) 0 1) reached) where
      reachable-marked : (x : ℕ) → Mem x R → marked reached x ≡ true
      unfolding reachable
      reachable-marked = closure_least (λ x. marked reached x ≡ true)
          (record { premises = []; conclusion = start limits } ∷ each (usable limits (productive limits G.rules) G.rules) (reaches_from limits))
          (λ c m a. kept c (mem_cases m) a)
        where
          onward : (r : Rule) → Mem r G.rules → is_productive limits P r ≡ true → (x : ℕ) → Mem x (nonterminals_of limits r.right)
              → marked reached r.left ≡ true → marked reached x ≡ true
          onward r m e x n k =
              let i = at-rule r m in
              let s = T.settled i.0 (omega arith) i.1 (subst (λ x. marked reached x ≡ true) (sym i.2) k)
              (subst (λ α. all_marked marks α ≡ true) (sym i.3) (all_exact P marks r.right productive_exact ∙ e)) in
              all-marked-out reached r.right x (subst (λ α. all_marked reached α ≡ true) i.3 s) n

          kept : (c : Clause) → (record { premises = []; conclusion = start limits } ≡ c)
              ⊎ Mem c (each (usable limits (productive limits G.rules) G.rules) (reaches_from limits))
              → All (λ x. marked reached x ≡ true) c.premises → marked reached c.conclusion ≡ true
          kept c (inl q) a = subst (λ (c : Clause). marked reached c.conclusion ≡ true) q (T.kept (start limits) (start_has limits.max_nonterminals (omega arith)))
          kept c (inr n) a =
              let r = each_in (usable limits (productive limits G.rules) G.rules) (reaches_from limits) n in
              let u = usable-out limits G W apart r.0 G.rules r.1 in
              let x = map_in (λ (x : ℕ). record { premises = r.0.left ∷ []; conclusion = x }) (nonterminals_of limits r.0.right) r.2 in
              let b = subst (λ (c : Clause). All (λ x. marked reached x ≡ true) c.premises) x.2 a in
              subst (λ (c : Clause). marked reached c.conclusion ≡ true) (sym x.2) (onward r.0 u.0 u.1 x.0 x.1 b.0)

      reachable_exact : Exact R reached
      reachable_exact x h =
          same_test (marked reached x) (has R x)
          (T.sound R reachable-closed (start-marked limits.max_nonterminals R ((has_is R (start limits)).1 (start-reached limits G W apart))) x h)
          (λ e. reachable-marked x ((has_is R x).0 e))

      -- the answers of the code are the definition's
      pub answers_of : (some : Bool) (live : List ℕ) → some ≡ ltb 0 (get_or marks 0 0)
          → ((i : ℕ) → i < count → get_or live i 0 ≡ bit (marked reached (left_at lefts i) && all_marked marks (right_at lengths codes i)))
          → Answers some live G
      unfolding is_live
      answers_of some live e f = record {
        sentence = sentence_is some e;
        rules = λ i h.
            let k : i < count = omega (arith, many) in
            let r = rule limits G (suc i) in
            let b = W.lefts r (rule-listed limits G (suc i) (is_rule i k)) in
            f i k ∙ ap (λ x. bit (marked reached x && all_marked marks (right_at lengths codes i))) (left i k)
            ∙ ap (λ α. bit (marked reached r.left && all_marked marks α)) (right i k)
            ∙ ap₂ (λ a b. bit (a && b)) (reachable_exact r.left b.0) (all_exact P marks r.right productive_exact);
      }
