-- The rows that are written from the columns, every rule taken, are those of the grammar. Assumes nothing.
use Prim.Native.Nat.{ℕ, zero, suc, ◌+◌, ◌-◌, ◌≤◌, ◌<◌}
use mathlib.Core.Path.{◌≡◌, refl, sym, ap, ap₂, subst, ◌∙◌}
use mathlib.Core.Bool.{Bool, true}
use mathlib.Core.List.{List, [], ◌∷◌, ◌++◌, map}
use native.Mathlib.Omega.{arith}
use lib.Dec.{ltb}
use lib.ListN.{length, get_or, replicate, get_or-replicate}
use lib.Seq.{append_snoc}
use Rattle.grammar.specs.Limits.{limits}
use Rattle.grammar.specs.Grammar.{Rule, Grammar, IsRule, rule, start, WellFormed}
use Rattle.grammar.specs.Record.{lefts, lengths, record_of}
use Rattle.grammar.specs.declared.CheckedGrammar.{CheckedGrammar}
use Rattle.automaton.specs.Items.{states, base}
use Rattle.moves.specs.Tables.{row_from, member_line, target_line, number_line, kinds, all_lines, kept, blanked, blanked_from}
use Rattle.moves.specs.Clauses.{write, front_classes, front_items, ahead_line, StateRows, AllWritten, Wide, column_states, live_line}
use Rattle.moves.proofs.Lines.{line_base, row-length, number_full, number_at, member_full, target-full}
use Rattle.moves.proofs.Links.{lines-states, same_base}
use Rattle.moves.proofs.Writes.{write-front}
use Rattle.moves.proofs.Columns.{Read, read}
use Rattle.moves.proofs.Built.{rules_in, over-at}
use Rattle.tree_laws.proofs.Places.{aheads, ahead_row}
use Rattle.automaton.proofs.Items.{states_four}
use Rattle.chart.specs.Rows.{Wired}
use Rattle.chart.specs.Filling.{Sheet}
use Rattle.chart_start.specs.Sown.{Columned}
use Rattle.chart_rows.specs.Wiring.{Wirable, Leads, Links, Homes}
use Rattle.chart_rows.specs.Preparing.{Showing}
use Rattle.chart_rows.proofs.PlaceLaws.{Same, ahead-long, P, P-first, base-below, codes-of, ahead-zero}
use Rattle.chart_rows.proofs.ClassLaws.{members, targets, member_zero}
use Rattle.chart_rows.proofs.Sheets.{sheet, wired}

-- taken lines are as they are
kept-all : (l : List ℕ) → map (kept true) l ≡ l
kept-all [] = refl
kept-all (x ∷ l) = ap (λ z. x ∷ z) (kept-all l)

blanked-all : (r : Rule) → blanked true r ≡ r
blanked-all r = λ t. record { left = r.left; right = kept-all r.right t }

lines-all : (t : ℕ → Bool) (k : ℕ) (rs : List Rule) → ((j : ℕ) → j < length rs → t (k + j) ≡ true) → blanked_from t k rs ≡ rs
unfolding blanked_from
lines-all t k [] h = refl
lines-all t k (r ∷ rs) h =
    let z : k + 0 ≡ k = omega arith in
    ap₂ (λ x l. x ∷ l) (ap (λ b. blanked b r) (ap t (sym z) ∙ h 0 (omega arith)) ∙ blanked-all r) (lines-all t (k + 1) rs (λ j i. next j (h (suc j) (omega arith))))
  where
    next : (j : ℕ) → t (k + suc j) ≡ true → t (k + 1 + j) ≡ true
    next j e = let z : k + 1 + j ≡ k + suc j = omega arith in ap t z ∙ e

-- the codes ahead
ahead-rows : (k : ℕ) (rs : List Rule) → row_from ahead_line k rs ≡ aheads rs
unfolding row_from aheads
ahead-rows k [] = refl
ahead-rows k (r ∷ rs) = append_snoc r.right 0 (row_from ahead_line (k + 1) rs) ∙ ap (λ z. r.right ++ (0 ∷ z)) (ahead-rows (k + 1) rs)

lefts-at : (rs : List Rule) (r : ℕ) (z : List ℕ) → r < length rs → get_or (lefts rs ++ z) r 0 ≡ (get_or rs r (record { left = 0; right = [] })).left
unfolding lefts
lefts-at [] r z h = absurd (omega arith)
lefts-at (x ∷ rs) zero z h = refl
lefts-at (x ∷ rs) (suc r) z h = lefts-at rs r z (omega arith)

lengths-at : (rs : List Rule) (r : ℕ) (z : List ℕ) → r < length rs → get_or (lengths rs ++ z) r 0 ≡ length (get_or rs r (record { left = 0; right = [] })).right
unfolding lengths
lengths-at [] r z h = absurd (omega arith)
lengths-at (x ∷ rs) zero z h = refl
lengths-at (x ∷ rs) (suc r) z h = lengths-at rs r z (omega arith)

-- every rule is taken
abbrev pub all : List ℕ
all = replicate limits.max_rules 1

module _ (g : CheckedGrammar) (G : Grammar) (W : WellFormed limits G) (e : g ≡ record_of G) where
  abbrev q : Read g G
  q = read g G e

  rules_are : blanked_from (live_line all) 2 (rules_in g) ≡ G.rules
  rules_are =
      ap (blanked_from (live_line all) 2) q.rules
      ∙ lines-all (live_line all) 2 G.rules (λ j i.
      let z : 2 + j - 2 ≡ j = omega arith in
      ap (λ k. ltb 0 (get_or all k 0)) z ∙ ap (ltb 0) (get_or-replicate limits.max_rules j 1 0 (omega (arith, i, W.count))))

  -- the columns of the record
  columned_of : Columned G g.count g.lefts g.lengths
  unfolding record_of rule
  columned_of = record {
    all = q.count;
    left = λ r h. ap (λ g. get_or g.lefts r 0) e ∙ lefts-at G.rules r (replicate (limits.max_rules - length (lefts G.rules)) 0) (omega (arith, q.count));
    size = λ r h. ap (λ g. get_or g.lengths r 0) e ∙ lengths-at G.rules r (replicate (limits.max_rules - length (lengths G.rules)) 0) (omega (arith, q.count));
  }

  number_rows : row_from number_line 0 (front_items ++ rules_in g) ≡ row_from number_line 0 (all_lines limits G)
  unfolding row_from all_lines
  number_rows = ap (λ rs. row_from number_line 0 (front_items ++ rs)) q.rules

  lines_long : length (all_lines limits G) ≡ 2 + length G.rules
  unfolding all_lines
  lines_long = omega arith

  ahead-row_is : row_from ahead_line 0 (map (blanked true) front_items ++ blanked_from (live_line all) 2 (rules_in g)) ≡ ahead_row limits G
  unfolding row_from ahead_row
  ahead-row_is =
      ap (λ rs. row_from ahead_line 0 (map (blanked true) front_items ++ rs)) rules_are
      ∙ ap (λ z. 0 ∷ 0 ∷ start limits ∷ 0 ∷ z) (ahead-rows 2 G.rules)

  module _ (old new : StateRows) (R : Wide (column_states g.lengths g.count) old) (A : AllWritten g.nonterminals true all (rules_in g) old new) where
    -- a row that is written from place 0 on
    at_front : (front row o n : List ℕ) → front ≡ row → length row ≡ states G → states G ≤ length o → n ≡ write o 0 front → Same (states G) n row
    at_front front row o n f l q w p i =
        ap (λ z. get_or z p 0) (w ∙ ap (write o 0) f ∙ write-front row o (omega arith)) ∙ over-at row o p (omega arith)

    long : (f : ℕ → Rule → List ℕ) → ((k : ℕ) (r : Rule) → length (f k r) ≡ suc (length r.right)) → length (row_from f 0 (all_lines limits G)) ≡ states G
    long f full = row-length f full 0 (all_lines limits G) ∙ lines-states limits G

    class_rows : (f : ℕ → ℕ → Rule → List ℕ)
        → row_from (f (g.nonterminals + 1)) 0 (map (blanked true) (front_classes g.nonterminals) ++ blanked_from (live_line all) 2 (rules_in g)) ≡ row_from (f (kinds G)) 0 (all_lines limits G)
    unfolding all_lines
    class_rows f =
        ap (λ rs. row_from (f (g.nonterminals + 1)) 0 (map (blanked true) (front_classes g.nonterminals) ++ rs)) rules_are
        ∙ ap (λ n. row_from (f (n + 1)) 0 (map (blanked true) (front_classes n) ++ G.rules)) q.nonterminals

    member_at : Same (states G) new.member (members G)
    member_at =
        at_front _ _ old.member new.member (class_rows (member_line limits)) (long (member_line limits (kinds G)) (member_full limits (kinds G)))
        (omega (arith, R.member, q.size, q.total)) A.member

    target_at : Same (states G) new.target (targets G)
    target_at =
        at_front _ _ old.target new.target (class_rows (target_line limits)) (long (target_line limits (kinds G)) (target-full limits (kinds G)))
        (omega (arith, R.target, q.size, q.total)) A.target

    number_of_lem : (r : ℕ) → IsRule G r → base limits G r < states G → get_or new.number (base limits G r) 0 ≡ r
    number_of_lem r i b =
        at_front _ _ old.number new.number number_rows (long number_line number_full) (omega (arith, R.number, q.size, q.total)) A.number (base limits G r) b
        ∙ ap (λ k. get_or (row_from number_line 0 (all_lines limits G)) k 0) (let z : base limits G r ≡ line_base (all_lines limits G) (suc r) + 0 = omega (arith, same_base limits G r (omega (arith, i))) in z)
        ∙ number_at (all_lines limits G) (suc r) 0 (omega (arith, i, lines_long)) (omega arith) ∙ omega arith

    ahead-at : Same (states G) new.ahead (ahead_row limits G)
    ahead-at = at_front _ _ old.ahead new.ahead ahead-row_is (ahead-long G W) (omega (arith, R.ahead, q.size, q.total)) A.ahead

    -- all that is known of the rows
    pub showing_of : (lead next head home : List ℕ) → Leads new.target g.nonterminals g.states lead
        → Links new.ahead g.states next head → Homes new.member g.nonterminals g.states home
        → Showing G g new.ahead new.number lead next head home
    showing_of lead next head home L K H =
        let L' = subst (λ z. Leads new.target z (states G) lead) q.nonterminals (subst (λ z. Leads new.target g.nonterminals z lead) q.total L) in
        let K' = subst (λ z. Links new.ahead z next head) q.total K in
        let H' = subst (λ z. Homes new.member z (states G) home) q.nonterminals (subst (λ z. Homes new.member g.nonterminals z home) q.total H) in
        record {
          places = P G W;
          sheet = subst (λ z. Sheet G (P G W) z new.ahead lead home) (sym q.total)
              (sheet G W new.ahead new.member new.target lead next head home ahead-at member_at target_at L' K' H');
          wired = subst (λ z. Wired z new.ahead lead next head home) (sym q.total)
              (wired G W new.ahead new.member new.target lead next head home ahead-at member_at target_at L' K' H');
          numbers = λ r i. ap (λ k. get_or new.number k 0) (P-first G W r) ∙ number_of_lem r i (base-below G W r i.1);
          columned = columned_of;
        }

    -- what the code asks before the rows are wired
    pub wirable : Wirable new.ahead new.member g.nonterminals g.states
    wirable =
        let z : 0 < states G = omega (arith, states_four limits G) in
        record {
          nonterminals = omega (arith, q.nonterminals, W.nonterminals.1);
          states = omega (arith, q.total, W.size);
          codes = λ p i. codes-of G W new.ahead ahead-at p (omega (arith, q.total));
          front = omega (arith, ahead-at 0 z, ahead-zero G W);
          no_end = omega (arith, member_at 0 z, member_zero G W, q.nonterminals);
        }
