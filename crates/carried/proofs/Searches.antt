-- The search of a table and that of the carried one are promised the same: verdict, certificate, witness, figure and every lent row.
-- Assumes nothing.
use Prim.Native.Nat.{ℕ}
use mathlib.Core.Path.{◌≡◌, refl, ap, ap₂, sym, subst, ◌∙◌}
use mathlib.Core.Bool.{Bool, true, false}
use mathlib.Core.List.{List}
use mathlib.Core.Logic.{◌↔◌}
use native.Mathlib.Omega.{arith}
use lib.ListN.{length}
use Rattle.grammar.specs.Basics.{over}
use Rattle.grammar.specs.Limits.{Limits}
use Rattle.grammar.specs.Grammar.{Grammar}
use Rattle.grammar.specs.Refusal.{Answer, done, refused, refuse_unless, buffer_too_short}
use Rattle.grammar.specs.TableCheck.{check_table}
use Rattle.grammar.proofs.Answers.{then-goes, unless_holds, unless_fails}
use Rattle.automaton.specs.Items.{states}
use Rattle.automaton.specs.Moves.{Moves}
use Rattle.automaton.specs.PositionMoves.{moves_of}
use Rattle.triples.specs.Smallest.{smallest}
use Rattle.triples.specs.Certificate.{certificate_of}
use Rattle.automaton.specs.Callers.{check_with}
use Rattle.triples.specs.Shortest.{shortest}
use Rattle.triples.specs.Looked.{looked_at}
use Rattle.triple_laws.proofs.CallerChecks.{zero-check}
use Rattle.search.specs.Promise.{is_potential, unambiguous, potential, search_verdict, Lent, is_enough, searchable, cleared, Told, Answers, SearchesAt}
use Rattle.search.specs.declared.SearchVerdict.{SearchVerdict}
use Rattle.carried.specs.Carried.{carried_table, carried_grammar, Wider}
use Rattle.carried.proofs.Theorem.{carried}

-- by as many states, the same smallest set, witness and figure
module _ (M N : Moves) (q : N.states ≡ M.states) (set : smallest N ≡ smallest M) (way : shortest N ≡ shortest M)
    (looked : looked_at N ≡ looked_at M) (before : Lent) (r : SearchVerdict) (after : Lent) where
  told : (c : Bool) → Told c M before r after → Told c N before r after
  told true w = record {
    verdict = w.verdict ∙ ap₂ (λ (l : List ℕ) (k : ℕ). search_verdict (done (potential (length l) k))) (sym way) (sym looked);
    certificate = w.certificate;
    queue = w.queue ∙ ap (λ (n : ℕ). cleared n before.queue) (sym q);
    parents = w.parents ∙ ap (λ (n : ℕ). cleared n before.parents) (sym q);
    witness = w.witness ∙ ap (λ (l : List ℕ). over l before.witness) (sym way);
  }
  told false w = record {
    verdict = w.verdict ∙ ap₂ (λ (l : List ℕ) (k : ℕ). search_verdict (done (unambiguous (length l) k))) (sym set) (sym looked);
    certificate = w.certificate ∙ ap₂ (λ (n : ℕ) (l : List ℕ). over (certificate_of n l) before.certificate) (sym q) (sym set);
    queue = w.queue ∙ ap (λ (n : ℕ). cleared n before.queue) (sym q);
    parents = w.parents ∙ ap (λ (n : ℕ). cleared n before.parents) (sym q);
    witness = w.witness;
  }

-- what is searched, by a grammar that passes
searched : (L : Limits) (t n : ℕ) (table : List ℕ) (l : Lent) (G : Grammar) → check_with L t n table 0 ≡ done G
    → searchable L t n table 0 l ≡ refuse_unless buffer_too_short 0 (is_enough (states G) l) (done G)
unfolding searchable
searched L t n table l G e = then-goes (check_with L t n table 0) (λ G. refuse_unless buffer_too_short 0 (is_enough (states G) l) (done G)) G e

-- one way: a promise at L for G gives one at M for H
module _ (L M : Limits) (t n : ℕ) (table other : List ℕ) (G H : Grammar) (e : check_with L t n table 0 ≡ done G) (f : check_with M t n other 0 ≡ done H)
    (q : states H ≡ states G) (verdict : is_potential (moves_of M H) ≡ is_potential (moves_of L G)) (set : smallest (moves_of M H) ≡ smallest (moves_of L G))
    (way : shortest (moves_of M H) ≡ shortest (moves_of L G)) (looked : looked_at (moves_of M H) ≡ looked_at (moves_of L G))
    (before : Lent) (r : SearchVerdict) (after : Lent) where
  one_way : SearchesAt L t n table 0 before r after → SearchesAt M t n other 0 before r after
  one_way p = go (is_enough (states G) before) refl
    where
      go : (c : Bool) → is_enough (states G) before ≡ c → SearchesAt M t n other 0 before r after
      go true h =
          let x : searchable L t n table 0 before ≡ done G
          = searched L t n table before G e ∙ unless_holds buffer_too_short 0 (is_enough (states G) before) (done G) h in
          let y : searchable M t n other 0 before ≡ done H
          = searched M t n other before H f
          ∙ unless_holds buffer_too_short 0 (is_enough (states H) before) (done H) (ap (λ (k : ℕ). is_enough k before) q ∙ h) in
          subst (λ (a : Answer Grammar). Answers M 0 a before r after) (sym y)
          (subst (λ (c : Bool). Told c (moves_of M H) before r after) (sym verdict)
          (told (moves_of L G) (moves_of M H) q set way looked before r after (is_potential (moves_of L G))
          (subst (λ (a : Answer Grammar). Answers L 0 a before r after) x p)))
      go false h =
          let x : searchable L t n table 0 before ≡ refused buffer_too_short 0
          = searched L t n table before G e ∙ unless_fails buffer_too_short 0 (is_enough (states G) before) (done G) h in
          let y : searchable M t n other 0 before ≡ refused buffer_too_short 0
          = searched M t n other before H f
          ∙ unless_fails buffer_too_short 0 (is_enough (states H) before) (done H) (ap (λ (k : ℕ). is_enough k before) q ∙ h) in
          subst (λ (a : Answer Grammar). Answers M 0 a before r after) (sym y) (subst (λ (a : Answer Grammar). Answers L 0 a before r after) x p)

-- the search of a table that passed under L, and of the carried table under M
pub searches_carried : (L M : Limits) → Wider L M → (t n : ℕ) (table : List ℕ) (G : Grammar) → check_table L t n table ≡ done G
    → (before : Lent) (r : SearchVerdict) (after : Lent)
    → SearchesAt L t n table 0 before r after ↔ SearchesAt M t n (carried_table L M table) 0 before r after
searches_carried L M W t n table G e before r after =
    let s = carried L M W t n table G e in
    let x = zero-check L W.four t n table ∙ e in
    let y = zero-check M (omega (arith, W.four, W.states)) t n (carried_table L M table) ∙ s.passes in (
      one_way L M t n table (carried_table L M table) G (carried_grammar L M G) x y s.states s.verdict s.smallest
          s.witness s.looked before r after,
      one_way M L t n (carried_table L M table) table (carried_grammar L M G) G y x (sym s.states) (sym s.verdict) (sym s.smallest)
          (sym s.witness) (sym s.looked) before r after,
    )
