-- The length that is told and the writer's answer, refusal by refusal.
-- Assumes nothing.
use Prim.Native.Nat.{ℕ, suc, ◌+◌, ◌≤◌, ◌<◌}
use mathlib.Core.Path.{◌≡◌, refl, ap, sym, subst, ◌∙◌}
use mathlib.Core.List.{List, [], ◌∷◌, ◌++◌}
use mathlib.Core.Bool.{Bool, true, false}
use native.Mathlib.Omega.{arith}
use native.Mathlib.Nat.{zero-add}
use borrow.Author.Tests.{eq-eqb, ne_eqb}
use lib.ListN.{length, take, drop, take-append-drop}
use lib.Seq.{length-take-le}
use Rattle.grammar.specs.Basics.{choose, over}
use Rattle.grammar.specs.Limits.{limits}
use Rattle.grammar.specs.Grammar.{Rule, Grammar}
use Rattle.grammar.specs.Table.{decode}
use Rattle.grammar.specs.Refusal.{Answer, done, refused, buffer_too_short, malformed, name_repeated}
use Rattle.grammar.specs.TableCheck.{check_table, table_checked}
use Rattle.grammar.specs.declared.TableChecked.{TableChecked}
use Rattle.grammar.specs.declared.TableVerdict.TheVariants.{Refused as TableRefused}
use Rattle.grammar.proofs.Answers.{unless_holds, unless_fails, then-goes, then_stops}
use Rattle.grammar.specs.declared.Cause.{Cause}
use Rattle.text.specs.Names.{all, any, is_name, same_name}
use Rattle.text.specs.Print.{gather, first_double, text_from, write_into}
use Rattle.text.specs.Promise.{text_written, text_length, afterwards, WritesText, LengthAnswer}
use Rattle.text.specs.declared.TextLength.{TextLength}
use Rattle.text.specs.declared.TextLength.TheVariants as told
use Rattle.text.specs.declared.TextWritten.TheVariants.{Written, Refused}
use Rattle.text.specs.Spelled.{spelled}
use Rattle.text.proofs.Sizes.{printed-most}
use Rattle.text.proofs.RoundTrip.{made, into_refused, into_short, into_done}
use Rattle.text.proofs.Promises.{told_as, told-refused}
use Rattle.text_write.specs.Clauses.{Coded, Wrote, text_of, Ready, named_text, NamedAnswer, stops_at}
use Rattle.text_write.proofs.LentLaws.{gather-refused, Cut, cut}
use Rattle.text_write.proofs.TableLaws.{Passed, passed, symbols-most}

-- ---- 18

-- the lowest repeated name is one of them, or there is none
double_most : (earlier names : List (List ℕ)) → first_double earlier names ≤ length names
unfolding first_double
double_most earlier [] = omega arith
double_most earlier (x ∷ xs) = go (any (same_name x) earlier) (double_most (earlier ++ (x ∷ [])) xs)
  where
    go : (b : Bool) → first_double (earlier ++ (x ∷ [])) xs ≤ length xs
        → choose b 0 (suc (first_double (earlier ++ (x ∷ [])) xs)) ≤ suc (length xs)
    go true h = omega arith
    go false h = omega arith

module _ (t : ℕ) (names : List (List ℕ)) (rules : List Rule) where
  pub named_double : (i : ℕ) → i ≡ first_double [] names → i < length names → NamedAnswer t names rules (told.Refused name_repeated i)
  named_double i e h =
      let q : first_double [] names ≡ length names → ⊥ = λ f. (let z : ⊥ = omega arith in z) in
      ap (told.Refused name_repeated) e
      ∙ sym (ap text_length (unless_fails name_repeated (first_double [] names) _ (done (text_of t names rules)) (ne_eqb _ _ q)))

  pub named-bytes : (i k : ℕ) → i ≡ first_double [] names → length names ≤ i → k ≡ length (text_of t names rules)
      → NamedAnswer t names rules (told.Bytes k)
  named-bytes i k e h q =
      let once : first_double [] names ≡ length names = omega (arith, double_most [] names) in
      ap told.Bytes q
      ∙ sym (ap text_length (unless_holds name_repeated (first_double [] names) _ (done (text_of t names rules)) (eq-eqb _ _ once)))

-- ---- table faults and 16

module _ (t n : ℕ) (table bytes starts lengths : List ℕ) where
  pub length-table : (c : Cause) (p : ℕ) → check_table limits t n table ≡ refused c p
      → LengthAnswer t n table bytes starts lengths (told.Refused c p)
  unfolding text_from
  length-table c p e = sym (ap text_length (then_stops _ _ c p e))

  module _ (G : Grammar) (passes : check_table limits t n table ≡ done G) where
    pub length_bad : (i : ℕ) → i ≡ stops_at (t + n) (gather bytes starts lengths 0 (t + n)) → i < t + n
        → LengthAnswer t n table bytes starts lengths (told.Refused malformed i)
    unfolding text_from
    length_bad i e h = go (gather bytes starts lengths 0 (t + n)) refl e
      where
        go : (o : Answer (List (List ℕ))) → gather bytes starts lengths 0 (t + n) ≡ o → i ≡ stops_at (t + n) o
            → LengthAnswer t n table bytes starts lengths (told.Refused malformed i)
        go (done names) q e = absurd (omega arith)
        go (refused c p) q e =
            let k = gather-refused bytes starts lengths 0 (t + n) c p q in
            let z : text_from limits t n table bytes starts lengths ≡ refused c p = then-goes _ _ G passes ∙ then_stops _ _ c p q in
            sym (ap text_length z ∙ (λ d. told.Refused (k.0 d) (sym e d)))

    -- gathering stopped after the last name, so all are lent and well formed
    pub record Lent : Type 0 where
      pub names : List (List ℕ)
      pub gathers : gather bytes starts lengths 0 (t + n) ≡ done names
      pub rows : Cut bytes starts lengths (t + n) names
      pub checked : Passed t n table G

    pub lent : (i : ℕ) → i ≡ stops_at (t + n) (gather bytes starts lengths 0 (t + n)) → t + n ≤ i → Lent
    lent i e h = go (gather bytes starts lengths 0 (t + n)) refl e
      where
        go : (o : Answer (List (List ℕ))) → gather bytes starts lengths 0 (t + n) ≡ o → i ≡ stops_at (t + n) o → Lent
        go (done names) q e =
            record { names = names; gathers = q; rows = cut bytes starts lengths (t + n) names q; checked = passed t n table G passes }
        go (refused c p) q e = absurd (omega (arith, (gather-refused bytes starts lengths 0 (t + n) c p q).1))

    module _ (l : Lent) where
      cut_length : length (take (t + n) starts) ≡ t + n
      cut_length = length-take-le (t + n) starts l.rows.starts-most

      short : length (text_of t l.names (decode table)) ≤ limits.max_text
      short =
          let w = l.checked.taken.well_formed in
          let s = take t l.names in
          let q : s ++ drop t l.names ≡ l.names = take-append-drop t l.names in
          subst (λ rules. length (text_of t l.names rules) ≤ limits.max_text) (sym l.checked.rules)
          (omega (
            arith,
            ap length q,
            l.rows.count,
            l.checked.taken.terminals,
            l.checked.taken.nonterminals,
            w.terminals,
            w.nonterminals.1,
            w.size,
            printed-most limits (record { terminals = s; nonterminals = drop t l.names; rules = G.rules })
                (ap (all is_name) q ∙ l.rows.named),
          ))

      pub ready : Ready t table bytes (take (t + n) starts) (take (t + n) lengths)
      ready = record {
        rows = l.rows.rows;
        few = omega (arith, cut_length, symbols-most t n table G passes);
        coded = subst (λ m. Coded t m table) (sym cut_length) l.checked.coded;
        terminals = omega (arith, cut_length);
        short = subst (λ names. length (text_of t names (decode table)) ≤ limits.max_text) l.rows.spells short;
      }

      -- what is answered for the names of the cut rows is the answer
      pub length-named : (r : TextLength) → NamedAnswer t (spelled bytes (take (t + n) starts) (take (t + n) lengths)) (decode table) r
          → LengthAnswer t n table bytes starts lengths r
      unfolding text_from
      length-named r a =
          let q : text_from limits t n table bytes starts lengths ≡ named_text t l.names G.rules
          = then-goes _ _ G passes ∙ then-goes _ _ l.names l.gathers in
          let k : named_text t l.names G.rules
          ≡ named_text t (spelled bytes (take (t + n) starts) (take (t + n) lengths)) (decode table)
          = λ d. named_text t (l.rows.spells d) (sym l.checked.rules d) in
          a ∙ sym (ap text_length (q ∙ k))

  -- ---- where a length is told, and 14

  -- the table passes and the names are lent, and so long is their text
  pub record Told (k : ℕ) : Type 0 where
    pub grammar : Grammar
    pub passes : check_table limits t n table ≡ done grammar
    pub names : Lent grammar passes
    pub text : text_from limits t n table bytes starts lengths
        ≡ done (text_of t (spelled bytes (take (t + n) starts) (take (t + n) lengths)) (decode table))
    pub size : length (text_of t (spelled bytes (take (t + n) starts) (take (t + n) lengths)) (decode table)) ≡ k

  pub told-bytes : (k : ℕ) → LengthAnswer t n table bytes starts lengths (told.Bytes k) → Told k
  told-bytes k e =
      let a = told_as _ k e in
      let m = made limits t n table bytes starts lengths a.0 a.1 in
      let c = cut bytes starts lengths (t + n) m.names m.lent in
      let p = passed t n table m.grammar m.passed in
      let q : a.0 ≡ text_of t (spelled bytes (take (t + n) starts) (take (t + n) lengths)) (decode table)
      = m.whole ∙ (λ d. text_of t (c.spells d) (sym p.rules d)) in
      record {
        grammar = m.grammar;
        passes = m.passed;
        names = record { names = m.names; gathers = m.lent; rows = c; checked = p };
        text = a.1 ∙ ap done q;
        size = ap length (sym q) ∙ a.2;
      }

  module _ (out : List ℕ) where
    refuses : (c : Cause) (p : ℕ) → write_into limits t n table bytes starts lengths (length out) ≡ refused c p
        → WritesText t n table bytes starts lengths out (Refused c p) out
    refuses c p e = record {
      answer = sym (ap text_written e);
      out-after = sym (ap (λ (o : Answer (List ℕ)). afterwards o (λ text. text) out) e);
    }

    pub write-refused : (c : Cause) (p : ℕ) → LengthAnswer t n table bytes starts lengths (told.Refused c p)
        → WritesText t n table bytes starts lengths out (Refused c p) out
    write-refused c p e =
        refuses c p (into_refused limits t n table bytes starts lengths (length out) c p (told-refused _ c p e))

    pub write-short : (k : ℕ) → LengthAnswer t n table bytes starts lengths (told.Bytes k) → length out < k
        → WritesText t n table bytes starts lengths out (Refused buffer_too_short 0) out
    write-short k e h =
        let a = told_as _ k e in
        refuses buffer_too_short 0
        (into_short limits t n table bytes starts lengths (length out) a.0 a.1 (omega (arith, a.2)))

    pub write_done : (k : ℕ) → Told k → k ≤ length out → (end : ℕ) (out' : List ℕ)
        → Wrote 0 (text_of t (spelled bytes (take (t + n) starts) (take (t + n) lengths)) (decode table)) out end out'
        → WritesText t n table bytes starts lengths out (Written end) out'
    unfolding over
    write_done k l h end out' w =
        let text = text_of t (spelled bytes (take (t + n) starts) (take (t + n) lengths)) (decode table) in
        let e : write_into limits t n table bytes starts lengths (length out) ≡ done text
        = into_done limits t n table bytes starts lengths (length out) text l.text (omega (arith, l.size)) in
        record {
          answer = ap Written (w.place ∙ zero-add (length text)) ∙ sym (ap text_written e);
          out-after = w.row ∙ ap (λ i. text ++ drop i out) (zero-add (length text))
              ∙ sym (ap (λ (o : Answer (List ℕ)). afterwards o (λ text. text) out) e);
        }

-- ---- what the table check's verdict says

pub check-refused : (t n : ℕ) (table : List ℕ) (x : TableChecked) (c : Cause) (p : ℕ) → x ≡ table_checked (check_table limits t n table)
    → x.verdict ≡ TableRefused c p → check_table limits t n table ≡ refused c p
check-refused t n table x c p e h = go (check_table limits t n table) refl (ap (λ (x : TableChecked). x.verdict) (sym e) ∙ h)
  where
    go : (o : Answer Grammar) → check_table limits t n table ≡ o → (table_checked o).verdict ≡ TableRefused c p
        → check_table limits t n table ≡ refused c p
    go (done G) q z = absurd (let o : ◌≡◌ {A = ℕ} 0 1 = cc in omega arith)
    go (refused d s) q z = let u : d ≡ c = cc in let v : s ≡ p = cc in q ∙ (λ i. refused (u i) (v i))
