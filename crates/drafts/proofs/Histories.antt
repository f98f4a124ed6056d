-- Histories: t and n stay, what a mark keeps until it is set again, and what a return brings back. Assumes nothing.
use Prim.Native.Nat.{ℕ, ◌-◌, ◌≤◌}
use mathlib.Core.Path.{◌≡◌, refl, ap, sym, subst, ◌∙◌}
use mathlib.Core.Bool.{Bool, true, false}
use mathlib.Core.List.{List, [], ◌∷◌, ◌++◌}
use mathlib.Core.Option.{Option, none, some}
use native.Mathlib.Omega.{arith}
use lib.Dec.{leb}
use lib.ListN.{length, get_or}
use lib.Seq.{get_or-set_same, get_or-set_other}
use borrow.Author.Tests.{le-leb, leb-true}
use Rattle.grammar.specs.Basics.{Mem, here, there}
use Rattle.grammar.specs.Limits.{Limits}
use Rattle.grammar.specs.Grammar.{Rule}
use Rattle.grammar.specs.Refusal.{Answer, done, refused, refuse_unless, not_present}
use Rattle.grammar.proofs.Answers.{and_both, both_and, no_answer, done_inj, unless_holds, unless_fails, unless_done, then-done}
use Rattle.drafts.specs.Draft.{Draft, Edit, add, withdraw, mark, return, with_mark, kept, restored, taken, or_same, after, add_rule, marks_count, is_mark}

-- histories one after the other
pub after_both : (L : Limits) (d : Draft) (h k : List Edit) → after L d (h ++ k) ≡ after L (after L d h) k
unfolding after
after_both L d [] k = refl
after_both L d (s ∷ h) k = after_both L (or_same L d (taken L d s)) h k

-- ---- t and n

module _ (L : Limits) where
  symbols : (d e : Draft) (s : Edit) → taken L d s ≡ done e → (e.terminals ≡ d.terminals) × (e.nonterminals ≡ d.nonterminals)
  unfolding taken add_rule
  symbols d e (add es) q =
      let v = then-done _ _ _ (unless_done _ _ _ _ _ q).1 in
      let g = sym (done_inj v.2) in
      (ap (λ (x : Draft). x.terminals) g, ap (λ (x : Draft). x.nonterminals) g)
  symbols d e (withdraw i) q = let g = sym (done_inj (unless_done _ _ _ _ _ q).1) in (ap (λ (x : Draft). x.terminals) g, ap (λ (x : Draft). x.nonterminals) g)
  symbols d e (mark k) q = let g = sym (done_inj (unless_done _ _ _ _ _ q).1) in (ap (λ (x : Draft). x.terminals) g, ap (λ (x : Draft). x.nonterminals) g)
  symbols d e (return k) q = back (kept d k) (unless_done _ _ _ _ _ q).1
    where
      back : (o : Option (List Rule)) → restored d k o ≡ done e → (e.terminals ≡ d.terminals) × (e.nonterminals ≡ d.nonterminals)
      back none z = no_answer z
      back (some rs) z = let g = sym (done_inj z) in (ap (λ (x : Draft). x.terminals) g, ap (λ (x : Draft). x.nonterminals) g)

  -- no history changes t or n
  pub symbols-stay : (d : Draft) (h : List Edit) → ((after L d h).terminals ≡ d.terminals) × ((after L d h).nonterminals ≡ d.nonterminals)
  unfolding after
  symbols-stay d [] = (refl, refl)
  symbols-stay d (s ∷ h) = go (taken L d s) refl (symbols-stay (or_same L d (taken L d s)) h)
    where
      go : (a : Answer Draft) → taken L d s ≡ a
          → ((after L (or_same L d (taken L d s)) h).terminals ≡ (or_same L d (taken L d s)).terminals) × ((after L (or_same L d (taken L d s)) h).nonterminals ≡ (or_same L d (taken L d s)).nonterminals)
          → ((after L (or_same L d (taken L d s)) h).terminals ≡ d.terminals) × ((after L (or_same L d (taken L d s)) h).nonterminals ≡ d.nonterminals)
      go (done e) q w = let z = symbols d e s q in (w.0 ∙ ap (λ (a : Answer Draft). (or_same L d a).terminals) q ∙ z.0, w.1 ∙ ap (λ (a : Answer Draft). (or_same L d a).nonterminals) q ∙ z.1)
      go (refused c p) q w = (w.0 ∙ ap (λ (a : Answer Draft). (or_same L d a).terminals) q, w.1 ∙ ap (λ (a : Answer Draft). (or_same L d a).nonterminals) q)

-- ---- marks

-- what marking k leaves: the mark keeps the rules, every other mark what it kept
pub record Marked (k : ℕ) (d e : Draft) : Type 0 where
  pub rules : e.rules ≡ d.rules
  pub own : length d.marks ≡ marks_count → kept e k ≡ some d.rules
  pub others : (j : ℕ) → 1 ≤ j → ¬ (j ≡ k) → kept e j ≡ kept d j

module _ (L : Limits) where
  -- the next draft has these marks, or the step is refused and the draft has them
  same_marks : (d : Draft) (a : Answer Draft) → ((e : Draft) → a ≡ done e → e.marks ≡ d.marks) → (or_same L d a).marks ≡ d.marks
  same_marks d (done e) h = h e refl
  same_marks d (refused c p) h = refl

  restored_marks : (d e : Draft) (k : ℕ) (o : Option (List Rule)) → restored d k o ≡ done e → e.marks ≡ d.marks
  restored_marks d e k none q = no_answer q
  restored_marks d e k (some rs) q = ap (λ (x : Draft). x.marks) (sym (done_inj q))

  -- a step that does not set a mark leaves what it keeps
  stays : (d : Draft) (s : Edit) (k : ℕ) → 1 ≤ k → ¬ (mark k ≡ s) → kept (or_same L d (taken L d s)) k ≡ kept d k
  unfolding taken add_rule
  stays d (add es) k l n = ap (λ ms. get_or ms (k - 1) none) (same_marks d (add_rule L d es) (λ e q.
      let u = unless_done _ _ _ _ _ q in
      let v = then-done _ _ _ u.1 in
      ap (λ (x : Draft). x.marks) (sym (done_inj v.2))))
  stays d (withdraw i) k l n = ap (λ ms. get_or ms (k - 1) none) (same_marks d (taken L d (withdraw i)) (λ e q.
      ap (λ (x : Draft). x.marks) (sym (done_inj (unless_done _ _ _ _ _ q).1))))
  stays d (return j) k l n = ap (λ ms. get_or ms (k - 1) none) (same_marks d (taken L d (return j)) (λ e q.
      restored_marks d e j (kept d j) (unless_done _ _ _ _ _ q).1))
  stays d (mark j) k l n = go (is_mark j) refl
    where
      go : (c : Bool) → is_mark j ≡ c
          → get_or (or_same L d (refuse_unless not_present j (is_mark j) (done (with_mark d j)))).marks (k - 1) none ≡ get_or d.marks (k - 1) none
      go true e =
          let w = and_both (leb 1 j) (leb j marks_count) e in
          let f : 1 ≤ j = leb-true 1 j w.0 in
          ap (λ (a : Answer Draft). get_or (or_same L d a).marks (k - 1) none) (unless_holds not_present j (is_mark j) (done (with_mark d j)) e)
          ∙ get_or-set_other d.marks (j - 1) (k - 1) (some d.rules) none (λ q. n (let z : k ≡ j = omega (arith, q, f, l) in ap mark z))
      go false e = ap (λ (a : Answer Draft). get_or (or_same L d a).marks (k - 1) none) (unless_fails not_present j (is_mark j) (done (with_mark d j)) e)

  -- a draft marked: its rules, what the mark keeps, and what the others keep
  pub marked : (d e : Draft) (k : ℕ) → taken L d (mark k) ≡ done e → Marked k d e
  unfolding taken
  marked d e k q =
      let u = unless_done not_present k (is_mark k) (done (with_mark d k)) e q in
      let b = and_both (leb 1 k) (leb k marks_count) u.0 in
      let l : 1 ≤ k = leb-true 1 k b.0 in
      let h : k ≤ marks_count = leb-true k marks_count b.1 in
      let g : e ≡ with_mark d k = sym (done_inj u.1) in
      record {
        rules = ap (λ (d : Draft). d.rules) g;
        own = λ size. ap (λ (d : Draft). kept d k) g ∙ get_or-set_same d.marks (k - 1) (some d.rules) none (omega (arith, size, l, h));
        others = λ j f ne. ap (λ (d : Draft). kept d j) g
            ∙ get_or-set_other d.marks (k - 1) (j - 1) (some d.rules) none (λ z. ne (omega (arith, z, l, f)));
      }

  -- what a mark keeps stays until it is set again
  pub mark-stays : (d : Draft) (h : List Edit) (k : ℕ) → 1 ≤ k → ¬ Mem (mark k) h → kept (after L d h) k ≡ kept d k
  unfolding after
  mark-stays d [] k l n = refl
  mark-stays d (s ∷ h) k l n =
      mark-stays (or_same L d (taken L d s)) h k l (λ m. n (there m)) ∙ stays d s k l (λ e. n (subst (λ (s : Edit). Mem (mark k) (s ∷ h)) e here))

  -- marked, then anything that does not set the mark again, then returned: the rules are those that were marked
  pub returned : (d : Draft) (h : List Edit) (k : ℕ) → 1 ≤ k → k ≤ marks_count → length d.marks ≡ marks_count → ¬ Mem (mark k) h
      → (after L d (mark k ∷ (h ++ (return k ∷ [])))).rules ≡ d.rules
  unfolding after taken
  returned d h k l m size os =
      ap (λ (e : Draft). (after L e (h ++ (return k ∷ []))).rules) marked
      ∙ ap (λ (e : Draft). e.rules) (after_both L (with_mark d k) h (return k ∷ []))
      ∙ back (after L (with_mark d k) h) (mark-stays (with_mark d k) h k l os ∙ get_or-set_same d.marks (k - 1) (some d.rules) none (omega (arith, size, l, m)))
    where
      known : is_mark k ≡ true
      known = both_and (leb 1 k) (leb k marks_count) (le-leb 1 k l) (le-leb k marks_count m)

      marked : or_same L d (refuse_unless not_present k (is_mark k) (done (with_mark d k))) ≡ with_mark d k
      marked = ap (or_same L d) (unless_holds not_present k (is_mark k) (done (with_mark d k)) known)

      back : (e : Draft) → kept e k ≡ some d.rules → (or_same L e (refuse_unless not_present k (is_mark k) (restored e k (kept e k)))).rules ≡ d.rules
      back e q =
          ap (λ (a : Answer Draft). (or_same L e a).rules) (unless_holds not_present k (is_mark k) (restored e k (kept e k)) known)
          ∙ ap (λ (o : Option (List Rule)). (or_same L e (restored e k o)).rules) q
