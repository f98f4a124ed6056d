-- What the answers over names tell, and which refusal follows. Assumes nothing.
use Prim.Native.Nat.{ℕ, ◌<◌, ◌≤◌}
use mathlib.Core.Path.{◌≡◌, ap, subst, ◌∙◌}
use mathlib.Core.Bool.{true, false, not}
use mathlib.Core.List.{List, ◌++◌}
use borrow.Author.Tests.{lt-leb, le-leb}
use lib.Dec.{leb}
use lib.ListN.{length}
use Rattle.grammar.specs.Limits.{limits}
use Rattle.grammar.specs.Refusal.{Answer, refused, refuse_unless, out_of_range, kinds_clash}
use Rattle.grammar.proofs.Answers.{unless_holds, unless_fails}
use Rattle.modules.specs.Joined.{meet, added}
use Rattle.joining.specs.Naming.{CountsTold, refuse_names}
use Rattle.joining.specs.declared.Counts.{Counts}

module _ (rt rn mt mn : List (List ℕ)) where
  -- ---- the refusals, one by one

  module _ {A : Type 0} (a : Answer A) where
    pub first_clash : meet mt rn ≡ true → refuse_names rt rn mt mn a ≡ refused kinds_clash 1
    unfolding refuse_names
    first_clash h = unless_fails kinds_clash 1 (not (meet mt rn)) _ (ap not h)

    module _ (first : meet mt rn ≡ false) where
      pub second_clash : meet mn rt ≡ true → refuse_names rt rn mt mn a ≡ refused kinds_clash 2
      unfolding refuse_names
      second_clash h =
          unless_holds kinds_clash 1 (not (meet mt rn)) _ (ap not first)
          ∙ unless_fails kinds_clash 2 (not (meet mn rt)) _ (ap not h)

      module _ (second : meet mn rt ≡ false) where
        pub clear : refuse_names rt rn mt mn a
            ≡ refuse_unless out_of_range 1 (leb (length (rt ++ added rt mt)) limits.max_terminals)
            (refuse_unless out_of_range 2 (leb (length (rn ++ added rn mn)) limits.max_nonterminals) a)
        unfolding refuse_names
        clear =
            unless_holds kinds_clash 1 (not (meet mt rn)) _ (ap not first)
            ∙ unless_holds kinds_clash 2 (not (meet mn rt)) _ (ap not second)

        pub many_terminals : limits.max_terminals < length (rt ++ added rt mt) → refuse_names rt rn mt mn a ≡ refused out_of_range 1
        many_terminals h = clear ∙ unless_fails out_of_range 1 _ _ (lt-leb (length (rt ++ added rt mt)) limits.max_terminals h)

        pub many_nonterminals : length (rt ++ added rt mt) ≤ limits.max_terminals → limits.max_nonterminals < length (rn ++ added rn mn)
            → refuse_names rt rn mt mn a ≡ refused out_of_range 2
        many_nonterminals h k =
            clear ∙ unless_holds out_of_range 1 _ _ (le-leb (length (rt ++ added rt mt)) limits.max_terminals h)
            ∙ unless_fails out_of_range 2 _ _ (lt-leb (length (rn ++ added rn mn)) limits.max_nonterminals k)

        pub names_pass : length (rt ++ added rt mt) ≤ limits.max_terminals → length (rn ++ added rn mn) ≤ limits.max_nonterminals
            → refuse_names rt rn mt mn a ≡ a
        names_pass h k =
            clear ∙ unless_holds out_of_range 1 _ _ (le-leb (length (rt ++ added rt mt)) limits.max_terminals h)
            ∙ unless_holds out_of_range 2 _ _ (le-leb (length (rn ++ added rn mn)) limits.max_nonterminals k)

-- ---- parts of the rows

pub counts_are : (rt rn mt mn rt' rn' mt' mn' : List (List ℕ)) (terminals nonterminals terminals' nonterminals' : List ℕ) (r : Counts)
    → rt ≡ rt' → rn ≡ rn' → mt ≡ mt' → mn ≡ mn' → CountsTold rt rn mt mn terminals nonterminals terminals' nonterminals' r
    → CountsTold rt' rn' mt' mn' terminals nonterminals terminals' nonterminals' r
counts_are rt rn mt mn rt' rn' mt' mn' terminals nonterminals terminals' nonterminals' r a b c d h =
    subst (λ (rt : List (List ℕ)). CountsTold rt rn' mt' mn' terminals nonterminals terminals' nonterminals' r) a
    (subst (λ (rn : List (List ℕ)). CountsTold rt rn mt' mn' terminals nonterminals terminals' nonterminals' r) b
    (subst (λ (mt : List (List ℕ)). CountsTold rt rn mt mn' terminals nonterminals terminals' nonterminals' r) c
    (subst (λ (mn : List (List ℕ)). CountsTold rt rn mt mn terminals nonterminals terminals' nonterminals' r) d h)))
