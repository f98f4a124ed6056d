-- The lent table: a refusal changes nothing, a join that passes is written if there is room. Assumes nothing.
use Prim.Native.Nat.{ℕ, ◌≤◌, ◌<◌}
use mathlib.Core.Path.{◌≡◌, ap, sym, subst, ◌∙◌}
use mathlib.Core.List.{List}
use native.Mathlib.Omega.{arith}
use borrow.Author.Tests.{le-leb, lt-leb}
use lib.Dec.{leb}
use lib.ListN.{length, take}
use Rattle.grammar.specs.Basics.{over}
use Rattle.grammar.specs.Limits.{limits}
use Rattle.grammar.specs.Table.{encode}
use Rattle.grammar.specs.Refusal.{done, refused, refuse_unless, buffer_too_short}
use Rattle.grammar.proofs.Answers.{unless_holds, unless_fails, then-goes, then_stops}
use Rattle.grammar.specs.declared.Cause.{Cause}
use Rattle.text.specs.Read.{Source}
use Rattle.text.specs.Promise.{text_read, afterwards}
use Rattle.text.specs.declared.TextRead.TheVariants.{Read, Refused}
use Rattle.modules.specs.Joined.{joined, join_texts, joined_table_into}
use Rattle.modules.specs.Promise.{JoinsTexts}
use Rattle.joining.specs.Joins.{JoinedHeld, JoinTold}
use Rattle.joining.specs.declared.ListSizes.{ListSizes}
use Rattle.joining.specs.declared.Join.{Join}
use Rattle.joining.specs.declared.Join.TheVariants.{Joined as JoinJoined, Refused as JoinRefused}

module _ (robot addon row starts lengths firsts sizes terminals nonterminals : List ℕ) where
  -- what the answer tells
  pub told-refused : (r : Join) (c : Cause) (i : ℕ) → r ≡ JoinRefused c i → JoinTold robot addon row starts lengths firsts sizes terminals nonterminals r
      → join_texts limits robot addon ≡ refused c i
  told-refused r c i e h = subst (λ (r : Join). JoinTold robot addon row starts lengths firsts sizes terminals nonterminals r) e h

  pub told-joined : (r : Join) (z : ListSizes) (e q : ℕ) → r ≡ JoinJoined z e q → JoinTold robot addon row starts lengths firsts sizes terminals nonterminals r
      → JoinedHeld robot addon row starts lengths firsts sizes terminals nonterminals z e q
  told-joined r z e q g h = subst (λ (r : Join). JoinTold robot addon row starts lengths firsts sizes terminals nonterminals r) g h

module _ (robot addon table : List ℕ) where
  into_refused : (c : Cause) (i : ℕ) → joined_table_into limits (length table) robot addon ≡ refused c i → JoinsTexts robot addon table (Refused c i) table
  into_refused c i e = record {
    answer = sym (ap text_read e);
    table-after = sym (ap (λ o. afterwards o (λ s. encode s.rules) table) e);
  }

  -- a refusal before 14
  pub join-refused : (c : Cause) (i : ℕ) → join_texts limits robot addon ≡ refused c i → JoinsTexts robot addon table (Refused c i) table
  unfolding joined_table_into
  join-refused c i e = into_refused c i (then_stops _ _ c i e)

  module _ (row starts lengths firsts sizes terminals nonterminals : List ℕ) (z : ListSizes) (e q : ℕ)
      (h : JoinedHeld robot addon row starts lengths firsts sizes terminals nonterminals z e q) where
    abbrev s : Source
    s = joined limits h.r h.m

    into_is : joined_table_into limits (length table) robot addon ≡ refuse_unless buffer_too_short 0 (leb (length (encode s.rules)) (length table)) (done s)
    unfolding joined_table_into
    into_is = then-goes _ _ s h.passes

    -- 14
    pub join-short : length table < e → JoinsTexts robot addon table (Refused buffer_too_short 0) table
    join-short l =
        into_refused buffer_too_short 0
        (into_is ∙ unless_fails buffer_too_short 0 _ _ (lt-leb (length (encode s.rules)) (length table) (omega (arith, h.entries))))

    -- room
    pub join_written : e ≤ length table → (table' : List ℕ) → table' ≡ over (take e row) table
        → JoinsTexts robot addon table (Read z.terminals z.nonterminals e q) table'
    join_written l table' w =
        let o : joined_table_into limits (length table) robot addon ≡ done s
        = into_is ∙ unless_holds buffer_too_short 0 _ _ (le-leb (length (encode s.rules)) (length table) (omega (arith, h.entries))) in
        record {
          answer = (λ i. Read (h.terminals_are i) (h.nonterminals_are i) (h.entries i) (h.states i)) ∙ sym (ap text_read o);
          table-after = w ∙ ap (λ (xs : List ℕ). over xs table) h.table-front ∙ sym (ap (λ o. afterwards o (λ s. encode s.rules) table) o);
        }
