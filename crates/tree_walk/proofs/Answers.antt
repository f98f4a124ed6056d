-- Before the walk: the root's count tells none, one or several; a count of 1 is one tree, whose walk begins. Assumes nothing.
use Prim.Native.Nat.{ℕ, ◌+◌, ◌≤◌, ◌<◌}
use mathlib.Core.Path.{◌≡◌, sym, subst, ◌∙◌}
use mathlib.Core.List.{List, [], ◌∷◌, append-nil}
use native.Mathlib.Omega.{arith}
use lib.Dec.{eqb}
use lib.ListN.{length, get_or}
use Rattle.grammar.specs.Limits.{limits}
use Rattle.grammar.specs.Grammar.{Grammar, start}
use Rattle.grammar.specs.Tree.{Trees}
use Rattle.trees.specs.Trees.{rules_of, rules_below, nothing, one, several, Agrees}
use Rattle.tree_laws.specs.Spans.{AtLeast, depth, Spans}
use Rattle.tree_laws.specs.Chart.{Places, Chart}
use Rattle.tree_laws.specs.Walk.{Waiting, none-waits}
use Rattle.tree_laws.proofs.Verdict.{tree_spans, none_found, one_found, several-found}
use Rattle.counts.specs.Counts.{item_cell}
use Rattle.counts.proofs.Cells.{nonzeros-most}
use Rattle.counts.proofs.View.{read_item}
use Rattle.chart.specs.Rows.{home_of}
use Rattle.chart.specs.Filling.{code_of, chart_of}
use Rattle.chart.proofs.Reading.{inner}
use Rattle.tree_walk.specs.Charted.{Rows, width, Charted}
use Rattle.tree_walk.specs.Walking.{Course, Low, Begun}
use Rattle.tree_walk.proofs.Stack.{stack_none}
use Rattle.tree_walk.proofs.Stable.{stable}

-- the grammar has one tree of the row, and the walk begins at its root on any row with the counts in its lower bits
pub record OneTree (G : Grammar) (R : Rows) (counts : List ℕ) : Type 0 where
  pub course : Course
  pub agrees : Agrees limits G R.sentence (one course.all)
  pub begins : (row : List ℕ) → length row ≡ length counts → Low course.counts row → Begun R course row
  pub low : Low course.counts counts

module _ (G : Grammar) (P : Places limits G) (R : Rows) (counts : List ℕ) (X : Charted G P R counts) where
  abbrev w : List ℕ
  w = R.sentence

  abbrev C : Chart
  C = chart_of G P R.states R.home w counts

  -- the count of the root
  abbrev root_count : ℕ
  root_count = get_or counts (item_cell (width R) 2 0 (length w)) 0

  root_is : C.item 2 0 (length w) ≡ root_count
  root_is =
      read_item R.states (width R) (λ p. eqb (code_of (P.rest p)) 0) (home_of R.home) counts 2 0 (length w)
      (inner G P R.states R.ahead R.lead R.home w X.sheet 2 (start limits) [] X.sheet.root) (omega (arith, X.ready.four)) (omega arith) (omega arith)

  A : AtLeast X.complete.counted.depth (C.item 2 0 (length w)) (λ f. Spans limits G w (start limits ∷ []) f 0 (length w))
  A = subst (λ α. AtLeast X.complete.counted.depth (C.item 2 0 (length w)) (λ f. Spans limits G w α f 0 (length w))) X.sheet.root
      (X.complete.counted.sound 2 0 (length w) (omega arith) (omega arith))

  pub answer-none : root_count < 1 → Agrees limits G w nothing
  answer-none h =
      none_found limits G X.sheet.well_formed (omega arith) w P C (stable G P R counts X) 2 X.sheet.root X.complete.counted.depth A (omega (arith, root_is))

  pub answer-several : 2 ≤ root_count → Agrees limits G w several
  answer-several h =
      several-found limits G X.sheet.well_formed (omega arith) w P C (stable G P R counts X) 2 X.sheet.root X.complete.counted.depth A (omega (arith, root_is))

  pub answer-one : root_count ≡ 1 → OneTree G R counts
  unfolding rules_of
  answer-one h =
      let o = one_found limits G X.sheet.well_formed (omega arith) w P C (stable G P R counts X) 2 X.sheet.root X.complete.counted.depth A (root_is ∙ h) in
      let f = Trees.child o.0 Trees.none in
      let s = tree_spans limits G X.sheet.well_formed (omega arith) w o.1 in
      record {
        course = record { grammar = G; places = P; counts = counts; room = X.complete.counted.depth; all = rules_of o.0 };
        agrees = o.2;
        begins = λ row l low. record {
          charted = X;
          low = low;
          rooms = omega (arith, X.complete.counted.deep, nonzeros-most counts, l);
          here = omega (arith, X.ready.four);
          waiting = λ s h. absurd (omega arith);
          walk = record {
            now = f;
            rest = [];
            pending = record { spans = subst (λ α. Spans limits G w α f 0 (length w)) (sym X.sheet.root) s; few = omega (arith, root_is, h) };
            fits = subst (λ z. length z + depth f ≤ X.complete.counted.depth) (sym (stack_none (width R) row)) (omega (arith, o.3));
            waiting = subst (λ z. Waiting limits G w P C X.complete.counted.depth z []) (sym (stack_none (width R) row)) none-waits;
            written = append-nil (rules_below f) ∙ append-nil (rules_of o.0);
          };
        };
        -- the counts are at most 2, so they are their own lower bits
        low = λ k. omega (arith, X.complete.counted.small k);
      }
