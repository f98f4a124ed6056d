-- The table check passes exactly the tables of well-formed grammars that have a sentence, and refuses with 19 exactly those of
-- well-formed grammars that have none. Assumes nothing.
use Prim.Native.Nat.{ℕ, ◌≤◌, ◌<◌}
use mathlib.Core.Path.{◌≡◌, refl, ap, sym, subst, ◌∙◌}
use mathlib.Core.Bool.{Bool, true, false}
use mathlib.Core.List.{List}
use mathlib.Core.Logic.{◌↔◌}
use Rattle.grammar.specs.Limits.{Limits}
use Rattle.grammar.specs.Grammar.{Grammar, WellFormed}
use Rattle.grammar.specs.Table.{encode}
use Rattle.grammar.specs.Live.{HasSentence, has_sentence}
use Rattle.grammar.specs.Refusal.{Answer, done, refused, refuse_unless, no_sentence, cause_number}
use Rattle.grammar.specs.TableCheck.{stored_table, check_table}
use Rattle.grammar.proofs.Answers.{no_bool, no_answer, done_inj, unless_holds, unless_fails, unless_done, then-done, then-goes, then_stops}
use Rattle.grammar.proofs.Causes.{CausedBy, cause, up_to, stored_causes}
use Rattle.grammar.proofs.WellFormed.{Taken, stores_all, stored-only}
use Rattle.grammar.proofs.Live.{has_sentence_lem}
use Rattle.grammar.specs.declared.Cause.{Cause}

module _ (L : Limits) where
  -- the last test
  abbrev pub sentenced : Grammar → Answer Grammar
  sentenced G = refuse_unless no_sentence 0 (has_sentence L G) (done G)

  module _ (t n : ℕ) (table : List ℕ) where
    -- a table that passes is stored, with a sentence
    pub passed-stored : (G : Grammar) → check_table L t n table ≡ done G → (stored_table L t n table ≡ done G) × (has_sentence L G ≡ true)
    unfolding check_table
    passed-stored G e =
        let a = then-done (stored_table L t n table) sentenced G e in
        let b = unless_done no_sentence 0 (has_sentence L a.0) (done a.0) G a.2 in
        let q : a.0 ≡ G = done_inj b.1 in
        (a.1 ∙ ap done q, sym (ap (has_sentence L) q) ∙ b.0)

    -- what the test of a sentence adds to 1 to 8
    pub with_sentence : (G : Grammar) → stored_table L t n table ≡ done G → has_sentence L G ≡ true → check_table L t n table ≡ done G
    unfolding check_table
    with_sentence G e h = then-goes (stored_table L t n table) sentenced G e ∙ unless_holds no_sentence 0 (has_sentence L G) (done G) h

    pub without_sentence_lem : (G : Grammar) → stored_table L t n table ≡ done G → has_sentence L G ≡ false → check_table L t n table ≡ refused no_sentence 0
    unfolding check_table
    without_sentence_lem G e h = then-goes (stored_table L t n table) sentenced G e ∙ unless_fails no_sentence 0 (has_sentence L G) (done G) h

    pub not-stored : (c : Cause) (p : ℕ) → stored_table L t n table ≡ refused c p → check_table L t n table ≡ refused c p
    unfolding check_table
    not-stored c p e = then_stops (stored_table L t n table) sentenced c p e

  -- the table of a well-formed grammar with a sentence passes, with that grammar
  pub takes_all : (G : Grammar) → WellFormed L G → has_sentence L G ≡ true → check_table L G.terminals G.nonterminals (encode G.rules) ≡ done G
  takes_all G w h = with_sentence G.terminals G.nonterminals (encode G.rules) G (stores_all L G w) h

module _ (L : Limits) (four : 4 ≤ L.max_states) where
  -- a table that passes is the table of a well-formed grammar
  pub takes_only : (t n : ℕ) (table : List ℕ) (G : Grammar) → check_table L t n table ≡ done G → Taken L t n table G
  takes_only t n table G e = stored-only L four t n table G (passed-stored L t n table G e).0

  module _ (apart : L.max_terminals < L.nonterminal_base) (t n : ℕ) (table : List ℕ) where
    -- the table of a well-formed grammar is stored
    taken-stored : (G : Grammar) → Taken L t n table G → stored_table L t n table ≡ done G
    taken-stored G T = let a = T.terminals in let b = T.nonterminals in let c = T.table in cc (stores_all L G T.well_formed)

    -- it passes exactly the tables of well-formed grammars with a sentence
    pub passes_exactly : (G : Grammar) → (check_table L t n table ≡ done G) ↔ (Taken L t n table G × HasSentence L G)
    passes_exactly G = (
      λ e. let T = takes_only t n table G e in (T, (has_sentence_lem L G T.well_formed apart).0 (passed-stored L t n table G e).1),
      λ (T, s). with_sentence L t n table G (taken-stored G T) ((has_sentence_lem L G T.well_formed apart).1 s),
    )

    -- and refuses with 19, at 0, exactly those of well-formed grammars without one
    pub refuses_exactly : (p : ℕ) → (check_table L t n table ≡ refused no_sentence p) ↔ ((p ≡ 0) × ((G : Grammar) × Taken L t n table G × ¬ HasSentence L G))
    refuses_exactly p = (λ e. told (stored_table L t n table) refl (stored_causes L t n table) e, λ (z, w). without w.0 w.1 w.2 ∙ ap (refused no_sentence) (sym z))
      where
        -- the test fails
        fails : (G : Grammar) → WellFormed L G → ¬ HasSentence L G → (b : Bool) → has_sentence L G ≡ b → b ≡ false
        fails G W none true e = absurd (none ((has_sentence_lem L G W apart).0 e))
        fails G W none false e = refl

        without : (G : Grammar) → Taken L t n table G → ¬ HasSentence L G → check_table L t n table ≡ refused no_sentence 0
        without G T none = without_sentence_lem L t n table G (taken-stored G T) (fails G T.well_formed none (has_sentence L G) refl)

        lacks : (G : Grammar) (b : Bool) → has_sentence L G ≡ b → stored_table L t n table ≡ done G → check_table L t n table ≡ refused no_sentence p
            → (p ≡ 0) × ((G : Grammar) × Taken L t n table G × ¬ HasSentence L G)
        lacks G true b q e = no_answer (sym e ∙ with_sentence L t n table G q b)
        lacks G false b q e =
            let T = stored-only L four t n table G q in
            let z : ◌≡◌ {A = Answer Grammar} (refused no_sentence 0) (refused no_sentence p) = sym (without_sentence_lem L t n table G q b) ∙ e in
            (cc, (G, T, λ s. no_bool (sym ((has_sentence_lem L G T.well_formed apart).1 s) ∙ b)))

        told : (o : Answer Grammar) → stored_table L t n table ≡ o → CausedBy (up_to 8) o → check_table L t n table ≡ refused no_sentence p
            → (p ≡ 0) × ((G : Grammar) × Taken L t n table G × ¬ HasSentence L G)
        told (done G) q c e = lacks G (has_sentence L G) refl q e
        told (refused k at) q (cause h) e =
            let z : ◌≡◌ {A = Answer Grammar} (refused k at) (refused no_sentence p) = sym (not-stored L t n table k at q) ∙ e in
            let w : k ≡ no_sentence = cc in
            no_bool (sym (subst (λ c. up_to 8 (cause_number c) ≡ true) w h))
