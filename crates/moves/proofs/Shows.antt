-- The rows of a grammar show the moves of its position automaton. Assumes nothing.
use Prim.Native.Nat.{ℕ, ◌*◌, ◌≤◌, ◌<◌}
use mathlib.Core.Path.{refl, sym, subst, ◌∙◌}
use mathlib.Core.Logic.{◌⊎◌, inl, inr}
use native.Mathlib.Omega.{arith}
use native.Mathlib.Numerals.{add-one}
use Rattle.grammar.specs.Basics.{Mem}
use Rattle.grammar.specs.Limits.{limits}
use Rattle.grammar.specs.Grammar.{Grammar, WellFormed}
use Rattle.grammar.specs.Live.{Live, is_live}
use Rattle.automaton.specs.Items.{states}
use Rattle.automaton.specs.Position.{Opens, Closes}
use Rattle.automaton.specs.PositionMoves.{ahead, moves_of}
use Rattle.triple_laws.proofs.Moves.{ahead_before, opening-listed, closing-listed}
use Rattle.moves.specs.Tables.{Ascends, kinds, Tables, Built}
use Rattle.moves.specs.Shows.{Alone, Shows}
use Rattle.moves.proofs.Moves.{before_class, opens_class, closes_class, opens_number, closes_number, member_target, targets_exactly, targets_ascend, member_most}
use Rattle.moves.proofs.Built.{says, ahead-at, number_at, member_at, target_at, segment-of, segment_order, segment-inside}

module _ (G : Grammar) (W : WellFormed limits G) (old new : Tables) (X : Built G old new) where
  apart : limits.max_terminals < limits.nonterminal_base
  apart = omega arith

  abbrev Moved : ℕ → ℕ → Type 0
  Moved p q = ((i : ℕ) × Opens limits G (Live limits G) i p q) ⊎ ((i : ℕ) × Closes limits G (Live limits G) i p q)

  to_lists : {p q : ℕ} → Moved p q → Alone (moves_of limits G) p q
  to_lists {p} {q} (inl o) = inl (o.0, (opening-listed limits G (Live limits G) (is_live limits G) (says G W) W apart o.0 p q).1 o.1)
  to_lists {p} {q} (inr o) = inr (o.0, (closing-listed limits G (Live limits G) (is_live limits G) (says G W) W apart o.0 p q).1 o.1)

  from_lists : {p q : ℕ} → Alone (moves_of limits G) p q → Moved p q
  from_lists {p} {q} (inl o) = inl (o.0, (opening-listed limits G (Live limits G) (is_live limits G) (says G W) W apart o.0 p q).0 o.1)
  from_lists {p} {q} (inr o) = inr (o.0, (closing-listed limits G (Live limits G) (is_live limits G) (says G W) W apart o.0 p q).0 o.1)

  pub built_shows : Shows (moves_of limits G) G.terminals (kinds G) new
  built_shows = record {
    terminals = refl;
    few = W.size;
    kinds = omega (arith, W.nonterminals.1);
    ahead = ahead-at G old new X;
    after = λ p h k. X.after p h ∙ add-one p;
    leads = λ p q hp hq.
        let l = member_target limits G (Live limits G) (is_live limits G) (says G W) W apart p q hp hq in
        let a = member_at G old new X p hp in
        let b = target_at G old new X q hq in
        (λ e. to_lists (l.0 (sym a ∙ e ∙ b)), λ o. a ∙ l.1 (from_lists o) ∙ sym b);
    class = λ p h. subst (λ c. c ≤ 2 * kinds G) (sym (member_at G old new X p h)) (member_most limits G (Live limits G) (is_live limits G) (says G W) W apart p h);
    ahead_class = λ p h k.
        subst (λ c. kinds G ≤ c) (sym (member_at G old new X p h))
        (before_class limits G (Live limits G) (is_live limits G) (says G W) W apart
        ((ahead_before limits G (Live limits G) (is_live limits G) (says G W) (ahead limits G (is_live limits G) p) p k).0 refl));
    opens_class = λ i p q h o.
        subst (λ c. kinds G ≤ c) (sym (member_at G old new X p h)) (opens_class limits G (Live limits G) (is_live limits G) (says G W) W apart ((opening-listed limits G (Live limits G) (is_live limits G) (says G W) W apart i p q).0 o)).0;
    closes_class = λ i p q h o.
        subst (λ c. c < kinds G) (sym (member_at G old new X p h)) (closes_class limits G (Live limits G) (is_live limits G) (says G W) W apart ((closing-listed limits G (Live limits G) (is_live limits G) (says G W) W apart i p q).0 o));
    opens_number = λ i p q h o. number_at G old new X q h ∙ opens_number limits G (Live limits G) (is_live limits G) (says G W) W apart ((opening-listed limits G (Live limits G) (is_live limits G) (says G W) W apart i p q).0 o);
    closes_number = λ i p q h o. number_at G old new X p h ∙ closes_number limits G (Live limits G) (is_live limits G) (says G W) W apart ((closing-listed limits G (Live limits G) (is_live limits G) (says G W) W apart i p q).0 o);
    targets = λ p q h.
        let s = segment-of G old new X p h W in
        let e = targets_exactly limits G (Live limits G) (is_live limits G) (says G W) W apart p q h in
        (λ m. to_lists (e.0 (subst (Mem q) s m)), λ o. subst (Mem q) (sym s) (e.1 (from_lists o)));
    ascends = λ p h. subst (Ascends 0 (states G)) (sym (segment-of G old new X p h W)) (targets_ascend limits G (is_live limits G) p);
    order = λ p h. segment_order G old new X p h W;
    inside = λ p h. segment-inside G old new X p h W;
  }
