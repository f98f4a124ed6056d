-- A text is refused with 19, at 0, exactly if it is read, and what it says is a well-formed grammar without a sentence.
-- Assumes nothing.
use Prim.Native.Nat.{ℕ, ◌≤◌, ◌<◌}
use mathlib.Core.Path.{◌≡◌, refl, ap, sym, subst, ◌∙◌}
use mathlib.Core.Bool.{true}
use mathlib.Core.List.{List}
use mathlib.Core.Logic.{◌↔◌}
use lib.ListN.{length}
use Rattle.grammar.specs.Limits.{Limits}
use Rattle.grammar.specs.Grammar.{Grammar, WellFormed}
use Rattle.grammar.specs.Live.{HasSentence}
use Rattle.grammar.specs.Table.{encode, decode}
use Rattle.grammar.specs.Refusal.{Answer, done, refused, and_then, name_repeated, no_sentence, cause_number}
use Rattle.grammar.proofs.Answers.{no_bool, no_answer, then-goes, then_stops, refused_as}
use Rattle.grammar.proofs.Causes.{CausedBy, cause, up_to}
use Rattle.grammar.proofs.Rules.{decode-encode}
use Rattle.grammar.proofs.Sentence.{refuses_exactly}
use Rattle.grammar.proofs.WellFormed.{Taken}
use Rattle.text.specs.Read.{Source, grammar_of, read_text}
use Rattle.text.specs.Rules.{last_tests, check_text}
use Rattle.text.proofs.Admit.{read_tests}
use Rattle.text.proofs.Causes.{text_causes}
use Rattle.grammar.specs.declared.Cause.{Cause}

-- it is read, and its grammar is well formed and has no sentence
abbrev pub Barren : Limits → List ℕ → Type 0
Barren L text = (s : Source) × (read_text L text ≡ done s) × WellFormed L (grammar_of s) × ¬ HasSentence L (grammar_of s)

module _ (L : Limits) (four : 4 ≤ L.max_states) (apart : L.max_terminals < L.nonterminal_base) (text : List ℕ) where
  abbrev rest : Source → Answer Source
  rest s = and_then (last_tests L s) (λ G. done s)

  -- the grammar of a table of the rules is that of the text
  same-grammar : (s : Source) (G : Grammar) → Taken L (length s.terminals) (length s.nonterminals) (encode s.rules) G → G ≡ grammar_of s
  same-grammar s G T =
      let q : s.rules ≡ G.rules = sym (decode-encode s.rules) ∙ ap decode T.table ∙ decode-encode G.rules in
      λ d. record { terminals = T.terminals d; nonterminals = T.nonterminals d; rules = sym q d }

  pub text-without : (at : ℕ) → (check_text L text ≡ refused no_sentence at) ↔ ((at ≡ 0) × Barren L text)
  unfolding check_text
  text-without at = (λ e. told (read_text L text) refl (text_causes L text) e, λ (z, b). lacks b.0 b.1 b.2 b.3 ∙ ap (refused no_sentence) (sym z))
    where
      tests : (s : Source) → read_text L text ≡ done s → and_then (read_text L text) rest ≡ rest s
      tests s r = then-goes (read_text L text) rest s r

      lacks : (s : Source) → read_text L text ≡ done s → WellFormed L (grammar_of s) → ¬ HasSentence L (grammar_of s)
          → and_then (read_text L text) rest ≡ refused no_sentence 0
      lacks s r W none =
          let T : Taken L (length s.terminals) (length s.nonterminals) (encode s.rules) (grammar_of s)
          = record { well_formed = W; terminals = refl; nonterminals = refl; table = refl } in
          let c = (refuses_exactly L four apart (length s.terminals) (length s.nonterminals) (encode s.rules) 0).1 (refl, (grammar_of s, T, none)) in
          tests s r ∙ then_stops (last_tests L s) (λ G. done s) no_sentence 0 (sym (read_tests L apart text s r) ∙ c)

      last : (s : Source) → read_text L text ≡ done s → (o : Answer Grammar) → last_tests L s ≡ o → and_then (read_text L text) rest ≡ refused no_sentence at
          → (at ≡ 0) × Barren L text
      last s r (done G) l e = no_answer (sym e ∙ tests s r ∙ then-goes (last_tests L s) (λ G. done s) G l)
      last s r (refused c p) l e =
          let z : ◌≡◌ {A = Answer Source} (refused c p) (refused no_sentence at) = sym (tests s r ∙ then_stops (last_tests L s) (λ G. done s) c p l) ∙ e in
          let x = (refuses_exactly L four apart (length s.terminals) (length s.nonterminals) (encode s.rules) at).0
          (read_tests L apart text s r ∙ l ∙ refused_as z) in
          let g = same-grammar s x.1.0 x.1.1 in
          (x.0, (s, r, subst (WellFormed L) g x.1.1.well_formed, subst (λ (G : Grammar). ¬ HasSentence L G) g x.1.2))

      told : (o : Answer Source) → read_text L text ≡ o → CausedBy (up_to (cause_number name_repeated)) o → and_then (read_text L text) rest ≡ refused no_sentence at
          → (at ≡ 0) × Barren L text
      told (done s) r c e = last s r (last_tests L s) refl e
      told (refused k p) r (cause h) e =
          let z : ◌≡◌ {A = Answer Source} (refused k p) (refused no_sentence at) = sym (then_stops (read_text L text) rest k p r) ∙ e in
          let w : k ≡ no_sentence = cc in
          no_bool (sym (subst (λ (c : Cause). up_to (cause_number name_repeated) (cause_number c) ≡ true) w h))
