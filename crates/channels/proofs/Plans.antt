-- What follows from the entry's promise, and from the answer of find_trees to the promise. Assumes nothing.
use Prim.Native.Nat.{ℕ, ◌≤◌}
use mathlib.Core.Path.{◌≡◌, refl, sym, ap, ◌∙◌}
use mathlib.Core.List.{List}
use mathlib.Core.Logic.{◌⊎◌, inl, inr}
use native.Mathlib.Omega.{arith}
use lib.ListN.{length}
use Rattle.grammar.specs.Limits.{limits}
use Rattle.grammar.specs.Refusal.{buffer_too_short, row_wrong}
use Rattle.grammar.specs.Tree.{Tree, HasTree}
use Rattle.grammar.proofs.Lists.{lt_or_le}
use Rattle.grammar.specs.declared.Cause.{Cause}
use Rattle.trees.specs.Promise.{FindsTrees}
use Rattle.trees.specs.declared.TreesFound.{TreesFound}
use Rattle.trees.specs.declared.TreesFound.TheVariants as found
use Rattle.ambiguity.specs.Trees.{IsRow, OneTree, AnswerTheorems, RefusedFor, by-table, by_row, by_work, by_list, TreesTheorems}
use Rattle.ambiguity.proofs.FrontPage.{front_page}
use Rattle.channels.specs.Commands.{commands, table}
use Rattle.channels.specs.Promise.{as_trees, ReadsPlan, plan_room}
use Rattle.channels.specs.Theorems.{PlanTheorems}
use Rattle.channels.specs.declared.PlanRead.{PlanRead}
use Rattle.channels.specs.declared.PlanRead.TheVariants.{Nothing, Plan, Refused}
use Rattle.channels.proofs.Closed.{stored, accepted, one-tree}

-- what is told of an answer of find_trees; of several, which is none, anything
abbrev pub plan_of : TreesFound → PlanRead
plan_of found.Nothing = Nothing
plan_of (found.One k) = Plan k
plan_of found.Several = Nothing
plan_of (found.Refused cause at) = Refused cause at

plan-of : (r : PlanRead) → plan_of (as_trees r) ≡ r
plan-of Nothing = refl
plan-of (Plan k) = refl
plan-of (Refused cause at) = refl

-- so answers told alike are alike
same : (r s : PlanRead) → as_trees r ≡ as_trees s → r ≡ s
same r s e = sym (plan-of r) ∙ ap plan_of e ∙ plan-of s

module _ (w work list : List ℕ) where
  trees : (v : TreesFound) (work' list' : List ℕ) → FindsTrees commands.terminals commands.nonterminals table w work list v work' list'
      → TreesTheorems commands.terminals commands.nonterminals table w work list v work' list'
  trees v work' list' f = front_page.trees commands.terminals commands.nonterminals table w work list v work' list' f

  -- several is never the answer
  pub plan-read : (v : TreesFound) (work' list' : List ℕ) → FindsTrees commands.terminals commands.nonterminals table w work list v work' list'
      → ReadsPlan w work list (plan_of v) work' list'
  plan-read found.Nothing work' list' f = f
  plan-read (found.One k) work' list' f = f
  plan-read found.Several work' list' f = absurd ((trees found.Several work' list' f).never_several 0 _ accepted refl)
  plan-read (found.Refused cause at) work' list' f = f

  module _ (r : PlanRead) (work' list' : List ℕ) (h : ReadsPlan w work list r work' list') where
    T : TreesTheorems commands.terminals commands.nonterminals table w work list (as_trees r) work' list'
    T = trees (as_trees r) work' list' h

    -- what holds of an answer that is no refusal beforehand
    abbrev Answered : Type 0
    Answered = AnswerTheorems commands.terminals commands.nonterminals table w work list commands (as_trees r) work' list'

    answered : IsRow commands.terminals w → plan_room ≤ length work → Answered
    answered x l = T.answers commands stored x l

    -- the one tree of a sentence
    one_of : (tree : Tree) → HasTree limits commands w tree → OneTree commands w tree
    one_of tree t = record { has = t; only = λ u s. one-tree w tree u t s }

    -- an answer is given for a row of terminals, and with a work row that is long enough
    not-refused : ((cause : Cause) (at : ℕ) → ¬ (r ≡ Refused cause at)) → Answered
    not-refused n = elim T.rows [
      | inl (at, x) ↦ absurd (n row_wrong at (same r (Refused row_wrong at) (T.row-refused commands stored at x).0))
      | inr x ↦ elim (lt_or_le (length work) plan_room) [
        | inl l ↦ absurd (n buffer_too_short 0 (same r (Refused buffer_too_short 0) (T.work_short commands stored x l).0))
        | inr l ↦ answered x l
      ]
    ]

    no_cause : (cause : Cause) (at : ℕ) → RefusedFor commands.terminals commands.nonterminals table w work list work' list' cause at
        → (cause ≡ row_wrong) ⊎ (cause ≡ buffer_too_short)
    no_cause cause at (by-table c a d x y) =
        let p = ((front_page.tables commands.terminals commands.nonterminals table c a).passes commands stored).0 in
        absurd (let z : ◌≡◌ {A = ℕ} 0 1 = cc in omega arith)
    no_cause cause at (by_row G s x y z) = inl refl
    no_cause cause at (by_work G s x l y z) = inr refl
    no_cause cause at (by_list G s x tree o l y z) = inr refl

    pub plan_theorems : PlanTheorems w work list r work' list'
    plan_theorems = record {
      row-refused = λ at x. let y = T.row-refused commands stored at x in (same r (Refused row_wrong at) y.0, y.1, y.2);
      work_short = λ x l. let y = T.work_short commands stored x l in (same r (Refused buffer_too_short 0) y.0, y.1, y.2);
      none = λ x l. let y = (answered x l).none in (λ e. y.0 (ap as_trees e), λ n. same r Nothing (y.1 n));
      untouched = λ e. (not-refused (apart_none e)).untouched (inl (ap as_trees e));
      plan = λ x l tree t k. let y = (answered x l).one tree (one_of tree t) k in (same r (Plan _) y.0, y.1);
      plan-only = λ k e. let y = (not-refused (apart_plan k e)).one_only k (ap as_trees e) in (y.0, y.1.has, y.2, y.4);
      list_short = λ x l tree t k. let y = (answered x l).short tree (one_of tree t) k in (same r (Refused buffer_too_short 0) y.0, y.1);
      causes = λ cause at e. no_cause cause at (T.refused-only cause at (ap as_trees e));
      zeros = λ e. elim e [
        | inl e ↦ (not-refused (apart_none e)).zeros
        | inr (k, e) ↦ (not-refused (apart_plan k e)).zeros
      ];
      determined = λ r₂ work₂ list₂ g. let y = T.determined (as_trees r₂) work₂ list₂ g in (same r r₂ y.0, y.1, y.2);
    }
      where
        apart_none : r ≡ Nothing → (cause : Cause) (at : ℕ) → ¬ (r ≡ Refused cause at)
        apart_none e cause at d = absurd (let z : ◌≡◌ {A = ℕ} 0 1 = cc in omega arith)

        apart_plan : (k : ℕ) → r ≡ Plan k → (cause : Cause) (at : ℕ) → ¬ (r ≡ Refused cause at)
        apart_plan k e cause at d = absurd (let z : ◌≡◌ {A = ℕ} 0 1 = cc in omega arith)
