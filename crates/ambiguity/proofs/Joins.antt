-- The theorems over the entries over two texts. Assumes nothing.
use Prim.Native.Nat.{ℕ, ◌+◌, ◌≤◌, ◌<◌}
use mathlib.Core.Path.{◌≡◌, refl, ap, ap₂, sym, subst, ◌∙◌}
use mathlib.Core.Bool.{Bool, true, false, not}
use mathlib.Core.List.{List, []}
use native.Mathlib.Omega.{arith}
use borrow.Author.Tests.{leb-true, le-leb, lt-leb}
use lib.Dec.{leb}
use lib.ListN.{length, take, length-append}
use lib.Seq.{take_at}
use Rattle.grammar.specs.Basics.{over}
use Rattle.grammar.specs.Limits.{limits}
use Rattle.grammar.specs.Grammar.{Grammar}
use Rattle.grammar.specs.Tree.{Tree, HasTree}
use Rattle.grammar.specs.Live.{HasSentence}
use Rattle.grammar.specs.Table.{encode, decode}
use Rattle.grammar.specs.Refusal.{Answer, done, refused, refuse_unless, and_then, out_of_range, buffer_too_short, name_repeated, no_sentence, kinds_clash, cause_number}
use Rattle.grammar.specs.declared.TableChecked.{TableChecked}
use Rattle.grammar.specs.declared.TableVerdict.TheVariants.{Passed}
use Rattle.grammar.specs.TableCheck.{check_table, table_checked, TableAnswer}
use Rattle.grammar.proofs.Sentence.{passes_exactly}
use Rattle.grammar.proofs.Causes.{CausedBy, cause, up_to}
use Rattle.grammar.proofs.Answers.{no_answer, no_bool, done_inj, unless_done, unless_holds, unless_fails, then-done, then-goes, then_stops}
use Rattle.grammar.proofs.Rules.{decode-encode}
use Rattle.grammar.specs.declared.Cause.{Cause}
use Rattle.text.specs.Read.{Source, symbol_names, grammar_of}
use Rattle.text.specs.Rules.{last_tests, check_text, check_module, read_into}
use Rattle.text.specs.Print.{printed}
use Rattle.text.specs.Promise.{text_read, text_written, afterwards, ReadsText}
use Rattle.text.specs.declared.TextRead.{TextRead}
use Rattle.text.specs.declared.TextRead.TheVariants.{Read, Refused}
use Rattle.text.specs.declared.TextWritten.{TextWritten}
use Rattle.text.specs.declared.TextWritten.TheVariants.{Written}
use Rattle.text.proofs.WellNamed.{WellNamedSource}
use Rattle.text.proofs.Causes.{module_causes}
use Rattle.text.proofs.Admit.{text-checked}
use Rattle.text.proofs.Promises.{ReadAs, read_as, refuses_as, written_as, after-done}
use Rattle.text.proofs.RoundTrip.{apart, reads_into, into_checked}
use Rattle.modules.specs.Joined.{meet, joined_terminals, joined_nonterminals, joined, joined_text, refuse_clash, join_texts, joined_table_into, joined_text_into}
use Rattle.modules.specs.Shown.{part_of}
use Rattle.modules.specs.Promise.{JoinsTexts, WritesJoined, ShowsPlace, ShowsName}
use Rattle.modules.specs.declared.Place.{Place}
use Rattle.modules.proofs.ReadJoined.{module_well, joined_texts}
use Rattle.modules.proofs.Answer.{joined_well, joined-checked, never_19}
use Rattle.modules.proofs.Sizes.{twice-wide, joined-short, robot-states, module_states}
use Rattle.modules.proofs.Trees.{trees-stay}
use Rattle.joining.proofs.ShownNames.{shown-refused, shown-spelled, shown-robot, shown_module}
use Rattle.ambiguity.specs.Entries.{IsTableOf}
use Rattle.ambiguity.specs.Joins.{JoinTheorems, ShownTheorems, JoinedTextTheorems}

-- ---- refusals

module _ (robot addon table : List ℕ) (v : TextRead) (table' : List ℕ) (p : JoinsTexts robot addon table v table') where
  stops : (cause : Cause) (at : ℕ) → join_texts limits robot addon ≡ refused cause at → (v ≡ Refused cause at) × (table' ≡ table)
  unfolding joined_table_into
  stops c at e =
      let o = then_stops (join_texts limits robot addon) (λ s. refuse_unless buffer_too_short 0 (leb (length (encode s.rules)) (length table)) (done s)) c at e in
      (p.answer ∙ ap text_read o, p.table-after ∙ ap (λ o. afterwards o (λ s. encode s.rules) table) o)

module _ (robot addon : List ℕ) where
  at-robot : (cause : Cause) (at : ℕ) → check_text limits robot ≡ refused cause at → join_texts limits robot addon ≡ refused cause at
  unfolding join_texts
  at-robot c at e = then_stops _ _ c at e

  at_module : (r : Source) → check_text limits robot ≡ done r → (cause : Cause) (at : ℕ) → check_module limits addon ≡ refused cause at
      → join_texts limits robot addon ≡ refused cause at
  unfolding join_texts
  at_module r e c at f = then-goes (check_text limits robot) _ r e ∙ then_stops _ _ c at f

  module _ (r m : Source) (e : check_text limits robot ≡ done r) (f : check_module limits addon ≡ done m) where
    both : join_texts limits robot addon ≡ refuse_clash r m (check_text limits (joined_text limits r m))
    unfolding join_texts
    both = then-goes (check_text limits robot) _ r e ∙ then-goes (check_module limits addon) _ m f

    at_first : meet m.terminals r.nonterminals ≡ true → join_texts limits robot addon ≡ refused kinds_clash 1
    unfolding refuse_clash
    at_first h = both ∙ unless_fails kinds_clash 1 (not (meet m.terminals r.nonterminals)) _ (ap not h)

    module _ (h : meet m.terminals r.nonterminals ≡ false) where
      at_second : meet m.nonterminals r.terminals ≡ true → join_texts limits robot addon ≡ refused kinds_clash 2
      unfolding refuse_clash
      at_second k =
          both ∙ unless_holds kinds_clash 1 (not (meet m.terminals r.nonterminals)) _ (ap not h)
          ∙ unless_fails kinds_clash 2 (not (meet m.nonterminals r.terminals)) _ (ap not k)

      at_joined : meet m.nonterminals r.terminals ≡ false → join_texts limits robot addon ≡ check_text limits (joined_text limits r m)
      unfolding refuse_clash
      at_joined k =
          both ∙ unless_holds kinds_clash 1 (not (meet m.terminals r.nonterminals)) _ (ap not h)
          ∙ unless_holds kinds_clash 2 (not (meet m.nonterminals r.terminals)) _ (ap not k)

-- ---- what is joined, and what is lent for it

as_joined : (robot addon : List ℕ) (r m s : Source) → check_text limits robot ≡ done r → check_module limits addon ≡ done m → join_texts limits robot addon ≡ done s
    → s ≡ joined limits r m
as_joined robot addon r m s e f g =
    let z = joined_texts limits apart robot addon s g in
    z.5 ∙ ap₂ (joined limits) (done_inj (sym z.2 ∙ e)) (done_inj (sym z.3 ∙ f))

module _ (robot addon table : List ℕ) (v : TextRead) (table' : List ℕ) (p : JoinsTexts robot addon table v table') (s : Source)
    (e : join_texts limits robot addon ≡ done s) where
  table_into : joined_table_into limits (length table) robot addon ≡ refuse_unless buffer_too_short 0 (leb (length (encode s.rules)) (length table)) (done s)
  unfolding joined_table_into
  table_into = then-goes (join_texts limits robot addon) _ s e

  table-told : (o : Answer Source) → joined_table_into limits (length table) robot addon ≡ o → (v ≡ text_read o) × (table' ≡ afterwards o (λ s. encode s.rules) table)
  table-told o g = (p.answer ∙ ap text_read g, p.table-after ∙ ap (λ o. afterwards o (λ s. encode s.rules) table) g)

  enough : length (encode s.rules) ≤ length table → (v ≡ text_read (done s)) × (table' ≡ over (encode s.rules) table)
  enough h = table-told (done s) (table_into ∙ unless_holds buffer_too_short 0 _ _ (le-leb (length (encode s.rules)) (length table) h))

  too_short : length table < length (encode s.rules) → (v ≡ Refused buffer_too_short 0) × (table' ≡ table)
  too_short h = table-told (refused buffer_too_short 0) (table_into ∙ unless_fails buffer_too_short 0 _ _ (lt-leb (length (encode s.rules)) (length table) h))

-- ---- a join that passes

module _ (robot addon table : List ℕ) (t n e q : ℕ) (table' : List ℕ) (p : JoinsTexts robot addon table (Read t n e q) table') where
  k : ReadAs (joined_table_into limits (length table) robot addon) t n e q
  k = read_as (joined_table_into limits (length table) robot addon) t n e q p.answer

  abbrev s : Source
  s = k.source

  passes : join_texts limits robot addon ≡ done s
  unfolding joined_table_into
  passes = let a = then-done _ _ s k.whole in a.1 ∙ (unless_done _ _ _ _ _ a.2).1

  front : take e table' ≡ encode s.rules
  front =
      ap (take e) (after-done _ (λ s. encode s.rules) table table' s k.whole p.table-after)
      ∙ take_at (encode s.rules) _ e k.entries

  -- the joined text says the joined lists and rules
  text_says : check_text limits (printed limits s) ≡ done s
  text_says =
      let y = joined_texts limits apart robot addon s passes in
      ap (λ (s : Source). check_text limits (printed limits s)) y.5 ∙ y.4

  table_passes : check_table limits t n (take e table') ≡ done (grammar_of s)
  table_passes =
      (λ d. check_table limits (sym k.terminals d) (sym k.nonterminals d) (front d)) ∙ (text-checked limits apart _ s text_says).table

  passes_on : (c : TableChecked) → TableAnswer t n (take e table') c → c.verdict ≡ Passed
  passes_on c h = ap (λ (r : TableChecked). r.verdict) (h ∙ ap table_checked table_passes)

  -- what was written is the joined text
  written_is : (out : List ℕ) (m : ℕ) (out' : List ℕ) → WritesJoined robot addon out (Written m) out' → take m out' ≡ printed limits s
  unfolding joined_text_into
  written_is out m out' w =
      let a = written_as (joined_text_into limits (length out) robot addon) m w.answer in
      let b = then-done _ _ a.0 a.1 in
      let same : b.0 ≡ s = done_inj (sym b.1 ∙ passes) in
      let text : a.0 ≡ printed limits s = sym (done_inj (unless_done _ _ _ _ _ b.2).1) ∙ ap (printed limits) same in
      ap (take m) (after-done _ (λ text. text) out out' a.0 a.1 w.out-after) ∙ take_at a.0 _ m a.2 ∙ text

  as_read : (out : List ℕ) (m : ℕ) (out' : List ℕ) → WritesJoined robot addon out (Written m) out'
      → (table₂ starts lengths : List ℕ) (r : TextRead) (table₂' starts' lengths' : List ℕ)
      → ReadsText (take m out') table₂ starts lengths r table₂' starts' lengths'
      → e ≤ length table₂ → t + n ≤ length starts → t + n ≤ length lengths → (r ≡ Read t n e q) × (take e table₂' ≡ take e table')
  as_read out m out' w table₂ starts lengths r table₂' starts' lengths' g x y z =
      let many : length (symbol_names s) ≡ t + n = length-append s.terminals s.nonterminals ∙ ap₂ (λ (a b : ℕ). a + b) k.terminals k.nonterminals in
      let o : read_into limits (length table₂) (length starts) (length lengths) (take m out') ≡ done s
      = reads_into limits (length table₂) (length starts) (length lengths) (take m out') s (ap (check_text limits) (written_is out m out' w) ∙ text_says)
      (omega (arith, k.entries)) (omega (arith, many)) (omega (arith, many)) in (
        g.answer ∙ ap text_read o ∙ (λ d. Read (k.terminals d) (k.nonterminals d) (k.entries d) (k.states d)),
        ap (take e) (after-done _ (λ s. encode s.rules) table₂ table₂' s o g.table-after) ∙ take_at (encode s.rules) _ e k.entries ∙ sym front,
      )

  -- a table's grammar is that of the rules that it has
  one-grammar : (t n : ℕ) (table : List ℕ) (G : Grammar) (s : Source) → IsTableOf t n table G → length s.terminals ≡ t → length s.nonterminals ≡ n
      → table ≡ encode s.rules → G ≡ grammar_of s
  one-grammar t n table G s h a b c = λ d. record {
    terminals = (h.terminals ∙ sym a) d;
    nonterminals = (h.nonterminals ∙ sym b) d;
    rules = (sym (decode-encode G.rules) ∙ ap decode (sym h.stored ∙ c) ∙ decode-encode s.rules) d;
  }

  stay : (table₁ starts lengths : List ℕ) (t₁ n₁ e₁ q₁ : ℕ) (table₁' starts' lengths' : List ℕ)
      → ReadsText robot table₁ starts lengths (Read t₁ n₁ e₁ q₁) table₁' starts' lengths'
      → (G J : Grammar) → IsTableOf t₁ n₁ (take e₁ table₁') G → IsTableOf t n (take e table') J
      → (row : List ℕ) (tree : Tree) → HasTree limits G row tree → HasTree limits J row tree
  stay table₁ starts lengths t₁ n₁ e₁ q₁ table₁' starts' lengths' g G J x y row tree h =
      let a = read_as (read_into limits (length table₁) (length starts) (length lengths) robot) t₁ n₁ e₁ q₁ g.answer in
      let r = a.source in
      let z = joined_texts limits apart robot addon s passes in
      let same : r ≡ z.0 = done_inj (sym (into_checked limits (length table₁) (length starts) (length lengths) robot r a.whole) ∙ z.2) in
      let robot-front : take e₁ table₁' ≡ encode r.rules
      = ap (take e₁) (after-done _ (λ s. encode s.rules) table₁ table₁' r a.whole g.table-after) ∙ take_at (encode r.rules) _ e₁ a.entries in
      let p : G ≡ grammar_of z.0 = one-grammar t₁ n₁ (take e₁ table₁') G r x a.terminals a.nonterminals robot-front ∙ ap grammar_of same in
      let q : J ≡ grammar_of (joined limits z.0 z.1) = one-grammar t n (take e table') J s y k.terminals k.nonterminals front ∙ ap grammar_of z.5 in
      subst (λ (J : Grammar). HasTree limits J row tree) (sym q)
      (trees-stay limits z.0 z.1 row tree (subst (λ (G : Grammar). HasTree limits G row tree) p h))

-- ---- 19

never_among : (o : Answer Source) → CausedBy (up_to (cause_number name_repeated)) o → (at : ℕ) → ¬ (o ≡ refused no_sentence at)
never_among o h at e = go (subst (λ (o : Answer Source). CausedBy (up_to (cause_number name_repeated)) o) e h)
  where
    go : CausedBy (up_to (cause_number name_repeated)) {A = Source} (refused no_sentence at) → ⊥
    go (cause h) = no_bool (sym h)

-- the tests of a module's text never give it
module-never : (text : List ℕ) (at : ℕ) → ¬ (check_module limits text ≡ refused no_sentence at)
module-never text = never_among _ (module_causes limits text)

-- nor does the reader for the joined text
module _ (robot addon : List ℕ) (r m : Source) (e : check_text limits robot ≡ done r) (f : check_module limits addon ≡ done m)
    (h : meet m.terminals r.nonterminals ≡ false) (k : meet m.nonterminals r.terminals ≡ false) where
  four : 4 ≤ limits.max_states
  four = omega arith

  wr : WellNamedSource limits r
  wr = (text-checked limits apart robot r e).well

  wm : WellNamedSource limits m
  wm = module_well limits apart addon m f

  short : length (printed limits (joined limits r m)) ≤ limits.max_text
  short = joined-short limits apart four twice-wide r m wr wm h k (robot-states limits apart four twice-wide robot r e) (module_states limits apart four twice-wide addon m f)

  sentence : HasSentence limits (grammar_of r)
  sentence =
      ((passes_exactly limits four apart (length r.terminals) (length r.nonterminals) (encode r.rules) (grammar_of r)).0
      (text-checked limits apart robot r e).table).1

  joined_never : (at : ℕ) → ¬ (check_text limits (joined_text limits r m) ≡ refused no_sentence at)
  joined_never at d =
      go (leb (length (joined_terminals r m)) limits.max_terminals) refl (leb (length (joined_nonterminals r m)) limits.max_nonterminals) refl
      (sym (joined-checked limits apart r m wr wm h k short) ∙ d)
    where
      last : (o : Answer Grammar) → last_tests limits (joined limits r m) ≡ o → and_then o (λ G. done (joined limits r m)) ≡ refused no_sentence at
          → last_tests limits (joined limits r m) ≡ refused no_sentence at
      last (done G) p g = unfold and_then in no_answer (sym g)
      last (refused c i) p g = unfold and_then in p ∙ g' (unfold and_then in g)
        where
          g' : {A B : Type 0} → ◌≡◌ {A = Answer A} (refused c i) (refused no_sentence at) → ◌≡◌ {A = Answer B} (refused c i) (refused no_sentence at)
          g' g = let x : c ≡ no_sentence = cc g in let y : i ≡ at = cc g in ap₂ (λ (c : Cause) (i : ℕ). refused c i) x y

      go : (a : Bool) → leb (length (joined_terminals r m)) limits.max_terminals ≡ a → (b : Bool) → leb (length (joined_nonterminals r m)) limits.max_nonterminals ≡ b
          → ¬ (refuse_unless out_of_range 1 a (refuse_unless out_of_range 2 b (and_then (last_tests limits (joined limits r m)) (λ G. done (joined limits r m)))) ≡ refused no_sentence at)
      go false p b q g = unfold refuse_unless in absurd (let z : out_of_range ≡ no_sentence = cc g in let n : cause_number out_of_range ≡ cause_number no_sentence = ap cause_number z in omega arith)
      go true p false q g = unfold refuse_unless in absurd (let z : out_of_range ≡ no_sentence = cc g in let n : cause_number out_of_range ≡ cause_number no_sentence = ap cause_number z in omega arith)
      go true p true q g =
          let w = joined_well limits apart r m wr wm h k short (leb-true (length (joined_terminals r m)) limits.max_terminals p)
          (leb-true (length (joined_nonterminals r m)) limits.max_nonterminals q) in
          never_19 limits apart r m wr wm h k short four w sentence at (last (last_tests limits (joined limits r m)) refl (unfold refuse_unless in g))

join_never : (robot addon : List ℕ) (r : Source) → check_text limits robot ≡ done r → (at : ℕ) → ¬ (join_texts limits robot addon ≡ refused no_sentence at)
join_never robot addon r e at d = go (check_module limits addon) refl
  where
    go : (o : Answer Source) → check_module limits addon ≡ o → ⊥
    go (refused c i) f =
        let z : refused c i ≡ refused no_sentence at = sym (at_module robot addon r e c i f) ∙ d in
        let x : c ≡ no_sentence = cc z in
        module-never addon i (f ∙ ap (λ (c : Cause). refused c i) x)
    go (done m) f = in-kinds (meet m.terminals r.nonterminals) refl (meet m.nonterminals r.terminals) refl
      where
        in-kinds : (a : Bool) → meet m.terminals r.nonterminals ≡ a → (b : Bool) → meet m.nonterminals r.terminals ≡ b → ⊥
        in-kinds true p b q = let z : ◌≡◌ {A = Answer Source} (refused kinds_clash 1) (refused no_sentence at) = sym (at_first robot addon r m e f p) ∙ d in let y : kinds_clash ≡ no_sentence = cc z in let n : cause_number kinds_clash ≡ cause_number no_sentence = ap cause_number y in omega arith
        in-kinds false p true q = let z : ◌≡◌ {A = Answer Source} (refused kinds_clash 2) (refused no_sentence at) = sym (at_second robot addon r m e f p q) ∙ d in let y : kinds_clash ≡ no_sentence = cc z in let n : cause_number kinds_clash ≡ cause_number no_sentence = ap cause_number y in omega arith
        in-kinds false p false q = joined_never robot addon r m e f p q at (sym (at_joined robot addon r m e f p q) ∙ d)

-- 14 is not 19
into_never : (entries : ℕ) (robot addon : List ℕ) (r : Source) → check_text limits robot ≡ done r → (at : ℕ) → ¬ (joined_table_into limits entries robot addon ≡ refused no_sentence at)
unfolding joined_table_into
into_never entries robot addon r e at d = go (join_texts limits robot addon) refl
  where
    go : (o : Answer Source) → join_texts limits robot addon ≡ o → ⊥
    go (refused c i) f =
        let z : refused c i ≡ refused no_sentence at = sym (then_stops (join_texts limits robot addon) _ c i f) ∙ d in
        let x : c ≡ no_sentence = cc z in
        join_never robot addon r e i (f ∙ ap (λ (c : Cause). refused c i) x)
    go (done s) f = room (leb (length (encode s.rules)) entries) (sym (then-goes (join_texts limits robot addon) _ s f) ∙ d)
      where
        room : (b : Bool) → ¬ (refuse_unless buffer_too_short 0 b (done s) ≡ refused no_sentence at)
        room true g = unfold refuse_unless in no_answer (sym g)
        room false g = unfold refuse_unless in absurd (let z : buffer_too_short ≡ no_sentence = cc g in let n : cause_number buffer_too_short ≡ cause_number no_sentence = ap cause_number z in omega arith)

-- ---- the theorems

pub join_theorems : (robot addon table : List ℕ) (v : TextRead) (table' : List ℕ) → JoinsTexts robot addon table v table' → JoinTheorems robot addon table v table'
join_theorems robot addon table v table' p =
    let read : (t n e q : ℕ) → v ≡ Read t n e q → JoinsTexts robot addon table (Read t n e q) table'
    = λ t n e q g. subst (λ (v : TextRead). JoinsTexts robot addon table v table') g p in
    record {
      robot-first = λ c at e. stops robot addon table v table' p c at (at-robot robot addon c at e);
      module_next = λ r e c at f. stops robot addon table v table' p c at (at_module robot addon r e c at f);
      clash_first = λ r m e f h. stops robot addon table v table' p kinds_clash 1 (at_first robot addon r m e f h);
      clash_second = λ r m e f h k. stops robot addon table v table' p kinds_clash 2 (at_second robot addon r m e f h k);
      joined-last = λ r m e f h k c at g. stops robot addon table v table' p c at (at_joined robot addon r m e f h k ∙ g);
      as_joined = λ r m s e f g. as_joined robot addon r m s e f g;
      enough = enough robot addon table v table' p;
      too_short = too_short robot addon table v table' p;
      never_19 = λ r e at g. into_never (length table) robot addon r e at (refuses_as _ no_sentence at (sym g ∙ p.answer));
      passes_on = λ t n e q g. passes_on robot addon table t n e q table' (read t n e q g);
      as_read = λ t n e q g. as_read robot addon table t n e q table' (read t n e q g);
      trees-stay = λ t n e q g. stay robot addon table t n e q table' (read t n e q g);
    }

pub shown_theorems : (robot addon : List ℕ) (i : ℕ) (part : List ℕ) → ShowsName robot addon i part → ShownTheorems robot addon i part
shown_theorems robot addon i part p = record {
  spelled = λ s g. p ∙ shown-spelled limits apart robot addon s g i;
  of-robot = λ r s e g h k. let x = shown-robot limits apart robot addon s g i r e h k in (x, p ∙ ap (part_of robot addon) x);
  of_module = λ r m s e f g h k l. let x = shown_module limits apart robot addon s g i r m e f h k l in (x, p ∙ ap (part_of robot addon) x);
  none = λ c at g. p ∙ ap (part_of robot addon) (shown-refused limits robot addon c at g i);
}

pub place_theorems : (robot addon : List ℕ) (i : ℕ) (place : Place) → ShowsPlace robot addon i place → ShownTheorems robot addon i (part_of robot addon place)
place_theorems robot addon i place p = shown_theorems robot addon i (part_of robot addon place) (ap (part_of robot addon) p.is)

joined_stops : (robot addon out : List ℕ) (cause : Cause) (at : ℕ) → join_texts limits robot addon ≡ refused cause at
    → joined_text_into limits (length out) robot addon ≡ refused cause at
unfolding joined_text_into
joined_stops robot addon out c at e = then_stops _ _ c at e

joined-most : (robot addon : List ℕ) (s : Source) → join_texts limits robot addon ≡ done s → length (printed limits s) ≤ limits.max_text
joined-most robot addon s e =
    let z = joined_texts limits apart robot addon s e in
    let says : check_text limits (printed limits s) ≡ done s = ap (λ (s : Source). check_text limits (printed limits s)) z.5 ∙ z.4 in
    (text-checked limits apart _ s says).well.short

module _ (robot addon out : List ℕ) (w : TextWritten) (out' : List ℕ) (p : WritesJoined robot addon out w out') (s : Source) (e : join_texts limits robot addon ≡ done s) where
  text_into : joined_text_into limits (length out) robot addon
      ≡ refuse_unless buffer_too_short 0 (leb (length (printed limits s)) (length out)) (done (printed limits s))
  unfolding joined_text_into
  text_into = then-goes (join_texts limits robot addon) _ s e

  text-told : (o : Answer (List ℕ)) → joined_text_into limits (length out) robot addon ≡ o → (w ≡ text_written o) × (out' ≡ afterwards o (λ text. text) out)
  text-told o g = (p.answer ∙ ap text_written g, p.out-after ∙ ap (λ o. afterwards o (λ text. text) out) g)

pub joined_theorems : (robot addon out : List ℕ) (w : TextWritten) (out' : List ℕ) → WritesJoined robot addon out w out' → JoinedTextTheorems robot addon out w out'
joined_theorems robot addon out w out' p = record {
  refuses = λ c at e. let o = joined_stops robot addon out c at e in
      (p.answer ∙ ap text_written o, p.out-after ∙ ap (λ o. afterwards o (λ text. text) out) o);
  written = λ s e h. text-told robot addon out w out' p s e (done (printed limits s))
      (text_into robot addon out w out' p s e ∙ unless_holds buffer_too_short 0 _ _ (le-leb (length (printed limits s)) (length out) h));
  most = joined-most robot addon;
  too_short = λ s e h. text-told robot addon out w out' p s e (refused buffer_too_short 0)
      (text_into robot addon out w out' p s e ∙ unless_fails buffer_too_short 0 _ _ (lt-leb (length (printed limits s)) (length out) h));
}
