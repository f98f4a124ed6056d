-- Drafts that a history makes of a new one are well-formed, their marks too. Assumes nothing.
use Prim.Native.Nat.{ℕ, zero, suc, ◌+◌, ◌-◌, ◌≤◌, ◌<◌}
use mathlib.Core.Path.{◌≡◌, refl, ap, sym, subst, ◌∙◌}
use mathlib.Core.List.{List, [], ◌∷◌, ◌++◌}
use mathlib.Core.Option.{Option, none, some}
use mathlib.Core.Logic.{◌⊎◌, inl, inr}
use native.Mathlib.Omega.{arith}
use native.Mathlib.Decide.{ℕ_discrete}
use lib.Dec.{leb, ltb}
use lib.ListN.{length, get_or, set, drop, replicate, length-drop, length-append, length-set, length-replicate}
use lib.Seq.{length-take-le, get_or-set_same, get_or-set_other}
use borrow.Author.Tests.{leb-true, ltb-true}
use Rattle.grammar.specs.Basics.{Mem}
use Rattle.grammar.specs.Limits.{Limits, limits}
use Rattle.grammar.specs.Grammar.{Terminal, Nonterminal, Rule, Grammar, WellFormed}
use Rattle.grammar.specs.Table.{encode, rule_at}
use Rattle.grammar.specs.Refusal.{Answer, done, refused, too_many_rules, not_present}
use Rattle.grammar.specs.TableCheck.{declared_front, next_rule, stored_table}
use Rattle.grammar.proofs.Answers.{and_both, unless_done, then-done, done_inj, no_answer}
use Rattle.grammar.proofs.Lists.{mem_either, no_element}
use Rattle.grammar.proofs.Plain.{mem_cases, not-among, is_nonterminal_lem, all-declared}
use Rattle.grammar.proofs.Steps.{grammar_of, next-done, read_done}
use Rattle.grammar.proofs.WellFormed.{room, stored-only, distinct_snoc, states_snoc}
use Rattle.drafts.specs.Draft.{Draft, Edit, add, withdraw, mark, return, marks_count, with_rules, with_mark, kept, restored, without, is_mark, is_present, new_draft, add_rule, taken, or_same, after}
use Rattle.drafts.proofs.Walks.{some_inj}
use Rattle.drafts.proofs.Withdrawals.{without-few, without-states, without_in, without_distinct}

-- the grammar of some rules of a draft
abbrev pub grammar_with : Draft → List Rule → Grammar
grammar_with d rules = grammar_of d.terminals d.nonterminals rules

-- a draft with well-formed rules, now and under every mark
pub record Sound (L : Limits) (d : Draft) : Type 0 where
  pub own : WellFormed L (grammar_with d d.rules)
  pub size : length d.marks ≡ marks_count
  pub marked : (i : ℕ) (rules : List Rule) → get_or d.marks i none ≡ some rules → WellFormed L (grammar_with d rules)

nothing-kept : {A : Type 0} {rules : List Rule} → none ≡ some rules → A
nothing-kept {rules = rules} e = let z : ◌≡◌ {A = ℕ} 0 1 = cc in absurd (let o : ⊥ = omega arith in o)

-- ---- a rule more, a rule less

module _ (L : Limits) (t n : ℕ) where
  fewer : (rules : List Rule) (i : ℕ) → WellFormed L (grammar_of t n rules) → WellFormed L (grammar_of t n (without i rules))
  fewer rules i w =
      let c = w.count in
      let s = w.size in
      let f = without-few i rules in
      let q = without-states i rules in
      record {
        terminals = w.terminals;
        nonterminals = w.nonterminals;
        lefts = λ r m. w.lefts r (without_in i rules r m);
        lengths = λ r m. w.lengths r (without_in i rules r m);
        codes = λ r m. w.codes r (without_in i rules r m);
        count = omega (arith, c, f);
        distinct = without_distinct i rules w.distinct;
        size = omega (arith, s, q);
      }

  -- the rule that the table check reads next
  further : (rules : List Rule) (table : List ℕ) (at k : ℕ) → WellFormed L (grammar_of t n rules) → length rules < L.max_rules
      → next_rule L t n table rules at ≡ done k → WellFormed L (grammar_of t n (rules ++ (rule_at table at k ∷ [])))
  further rules table at k w c e =
      let r = rule_at table at k in
      let x = next-done L t n table rules at k e in
      let s = read_done L t n table at k x.read in
      let o = s.whole in
      let z = x.size in
      let j : length r.right ≡ k = length-take-le k (drop (at + 2) table) (omega (arith, o, length-drop (at + 2) table)) in
      let row_after : Nonterminal L n r.left = (is_nonterminal_lem L n r.left).0 s.left in
      let few : length r.right ≤ L.max_length = subst (λ (z : ℕ). z ≤ L.max_length) (sym j) s.few in
      let codes : (y : ℕ) → Mem y r.right → Terminal t y ⊎ Nonterminal L n y
      = (all-declared L t n r.right).0 (subst (λ (z : ℕ). z ≤ declared_front L t n r.right) (sym j) s.codes) in
      let m = states_snoc rules r in
      record {
        terminals = w.terminals;
        nonterminals = w.nonterminals;
        lefts = λ y i. either (λ (r : Rule). Nonterminal L n r.left) r y w.lefts row_after (mem_either rules (r ∷ []) i);
        lengths = λ y i. either (λ (r : Rule). length r.right ≤ L.max_length) r y w.lengths few (mem_either rules (r ∷ []) i);
        codes = λ y i. either (λ (r : Rule). (x : ℕ) → Mem x r.right → Terminal t x ⊎ Nonterminal L n x) r y w.codes codes (mem_either rules (r ∷ []) i);
        count = (let b = length-append rules (r ∷ []) in omega (arith, b, c));
        distinct = distinct_snoc rules r w.distinct ((not-among r rules).0 x.fresh);
        size = omega (arith, m, j, z);
      }
    where
      alone : (P : Rule → Type 0) (r y : Rule) → P r → (r ≡ y) ⊎ Mem y [] → P y
      alone P r y p (inl e) = subst P e p
      alone P r y p (inr m) = absurd (no_element m)

      either : (P : Rule → Type 0) (r y : Rule) → ((y : Rule) → Mem y rules → P y) → P r → Mem y rules ⊎ Mem y (r ∷ []) → P y
      either P r y f p (inl m) = f y m
      either P r y f p (inr m) = alone P r y p (mem_cases m)

-- ---- one step

module _ (L : Limits) where
  -- other rules that are well-formed
  sound_rules : (d e : Draft) (rules : List Rule) → Sound L d → WellFormed L (grammar_with d rules) → with_rules d rules ≡ e → Sound L e
  sound_rules d e rules s w q = subst (Sound L) q (record { own = w; size = s.size; marked = s.marked })

  sound_mark : (d : Draft) (k : ℕ) → Sound L d → 1 ≤ k → k ≤ marks_count → Sound L (with_mark d k)
  sound_mark d k s l h = record { own = s.own; size = length-set d.marks (k - 1) (some d.rules) ∙ s.size; marked = λ i rules e. elim (ℕ_discrete i (k - 1)) [ yes q ↦ same i rules e q | no ne ↦ other i rules e ne ] }
    where
      same : (i : ℕ) (rules : List Rule) → get_or (set d.marks (k - 1) (some d.rules)) i none ≡ some rules → i ≡ k - 1 → WellFormed L (grammar_with d rules)
      same i rules e q =
          let z = s.size in
          let r : d.rules ≡ rules = some_inj (sym (ap (λ (j : ℕ). get_or (set d.marks (k - 1) (some d.rules)) j none) q ∙ get_or-set_same d.marks (k - 1) (some d.rules) none (omega (arith, z, l, h))) ∙ e) in
          subst (λ (l : List Rule). WellFormed L (grammar_with d l)) r s.own

      other : (i : ℕ) (rules : List Rule) → get_or (set d.marks (k - 1) (some d.rules)) i none ≡ some rules → (i ≡ k - 1 → ⊥) → WellFormed L (grammar_with d rules)
      other i rules e ne = s.marked i rules (sym (get_or-set_other d.marks (k - 1) i (some d.rules) none ne) ∙ e)

  step_sound : (d e : Draft) (s : Edit) → Sound L d → taken L d s ≡ done e → Sound L e
  unfolding taken add_rule
  step_sound d e (add entries) s q =
      let table = encode d.rules ++ entries in
      let at = length (encode d.rules) in
      let u = unless_done too_many_rules at (ltb (length d.rules) L.max_rules) _ e q in
      let v = then-done (next_rule L d.terminals d.nonterminals table d.rules at) _ e u.1 in
      sound_rules d e _ s (further L d.terminals d.nonterminals d.rules table at v.0 s.own (ltb-true (length d.rules) L.max_rules u.0) v.1) (done_inj v.2)
  step_sound d e (withdraw i) s q =
      let u = unless_done not_present i (is_present d i) (done (with_rules d (without (i - 1) d.rules))) e q in
      sound_rules d e _ s (fewer L d.terminals d.nonterminals d.rules (i - 1) s.own) (done_inj u.1)
  step_sound d e (mark k) s q =
      let u = unless_done not_present k (is_mark k) (done (with_mark d k)) e q in
      let b = and_both (leb 1 k) (leb k marks_count) u.0 in
      subst (Sound L) (done_inj u.1) (sound_mark d k s (leb-true 1 k b.0) (leb-true k marks_count b.1))
  step_sound d e (return k) s q = back (kept d k) refl (unless_done not_present k (is_mark k) (restored d k (kept d k)) e q).1
    where
      back : (o : Option (List Rule)) → kept d k ≡ o → restored d k o ≡ done e → Sound L e
      back none w z = no_answer z
      back (some rules) w z = sound_rules d e rules s (s.marked (k - 1) rules w) (done_inj z)

  sound_next : (d : Draft) (s : Edit) → Sound L d → Sound L (or_same L d (taken L d s))
  sound_next d s w = go (taken L d s) refl
    where
      go : (a : Answer Draft) → taken L d s ≡ a → Sound L (or_same L d a)
      go (done e) q = step_sound d e s w q
      go (refused c p) q = w

  pub sound_after : (d : Draft) (h : List Edit) → Sound L d → Sound L (after L d h)
  unfolding after
  sound_after d [] s = s
  sound_after d (x ∷ h) s = sound_after (or_same L d (taken L d x)) h (sound_next d x s)

-- a new draft is sound
pub new_sound : (t n : ℕ) (table : List ℕ) (d : Draft) → new_draft limits t n table ≡ done d → Sound limits d
unfolding new_draft
new_sound t n table d e =
    let v = then-done (stored_table limits t n table) _ d e in
    let w = stored-only limits room t n table v.0 v.1 in
    subst (Sound limits) (done_inj v.2) (record {
      own = subst (WellFormed limits) (grammar_path w.terminals w.nonterminals refl) w.well_formed;
      size = length-replicate {A = Option (List Rule)} marks_count none;
      marked = λ i rules q. empty i rules q;
    })
  where
    grammar_path : {G H : Grammar} → G.terminals ≡ H.terminals → G.nonterminals ≡ H.nonterminals → G.rules ≡ H.rules → G ≡ H
    grammar_path p q r = λ i. record { terminals = p i; nonterminals = q i; rules = r i }

    empty : {A : Type 0} (i : ℕ) (rules : List Rule) → get_or (replicate marks_count none) i none ≡ some rules → A
    empty i rules q = nothing-kept (sym (all_none marks_count i) ∙ q)
      where
        all_none : (m i : ℕ) → get_or {A = Option (List Rule)} (replicate m none) i none ≡ none
        all_none zero i = refl
        all_none (suc m) zero = refl
        all_none (suc m) (suc i) = all_none m i
