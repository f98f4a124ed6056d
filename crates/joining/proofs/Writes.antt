-- The text written from the gathered names and the joined table is the joined text. Assumes nothing.
use Prim.Native.Nat.{ℕ, ◌+◌, ◌*◌, ◌≤◌, ◌<◌}
use mathlib.Core.Path.{◌≡◌, ap, ap₂, sym, subst₂, ◌∙◌}
use mathlib.Core.List.{List}
use mathlib.Core.Bool.{true}
use native.Mathlib.Omega.{arith}
use lib.ListN.{length, take, drop, take-append-drop}
use lib.Seq.{get_or-take, length-take-le, take-append_seam, drop-append_seam}
use Rattle.grammar.specs.Limits.{limits}
use Rattle.grammar.specs.Table.{encode}
use Rattle.grammar.specs.Refusal.{Answer, done, refused}
use Rattle.grammar.proofs.Answers.{then-goes, then_stops}
use Rattle.grammar.specs.declared.Cause.{Cause}
use Rattle.text.specs.Names.{all, is_name}
use Rattle.text.specs.Read.{Source, symbol_names, grammar_of}
use Rattle.text.specs.Rules.{check_text}
use Rattle.text.specs.Print.{printed, gather, text_from, write_into}
use Rattle.text.specs.Promise.{text_written, afterwards, WritesText}
use Rattle.text.specs.declared.TextWritten.{TextWritten}
use Rattle.text.specs.declared.TextWritten.TheVariants.{Refused}
use Rattle.text.proofs.Admit.{text-checked}
use Rattle.text.proofs.Gather.{gather-all, gather-front}
use Rattle.text.proofs.RoundTrip.{source_of, text-made, apart}
use Rattle.text_read.specs.Values.{all_names}
use Rattle.modules.specs.Joined.{joined, join_texts, joined_text_into}
use Rattle.joining.specs.Joins.{JoinedHeld}
use Rattle.modules.specs.Promise.{WritesJoined}
use Rattle.joining.specs.Gathering.{longest, Gathered, NamesGathered}
use Rattle.joining.specs.declared.ListSizes.{ListSizes}
use Rattle.joining.proofs.Held.{joined_passes, joined-few}

-- names that are gathered are lent whole
gathered-lent : (names : List (List ℕ)) (k : ℕ) (bytes places spans : List ℕ) → Gathered names k bytes places spans → k * longest ≤ length bytes
    → all is_name names ≡ true → gather bytes places spans 0 k ≡ done names
gathered-lent names k bytes places spans g room w =
    let lp : length (take k places) ≡ k = length-take-le k places g.places-most in
    let ls : length (take k spans) ≡ k = length-take-le k spans g.spans_most in
    ap₂ (λ (a : List ℕ) (b : List ℕ). gather bytes a b 0 k) (sym (take-append-drop k places)) (sym (take-append-drop k spans))
    ∙ gather-front bytes (take k places) (take k spans) (drop k places) (drop k spans) 0 k (omega arith) (omega arith)
    ∙ gather-all bytes (take k places) (take k spans) 0 k (omega arith) (omega arith)
    (λ i h. let l : i < k = omega arith in omega (arith, get_or-take k places i 0 l, get_or-take k spans i 0 l, g.inside i l))
    (ap (all is_name) g.spells ∙ w)
    ∙ ap done g.spells

-- a source's own names and rules make it again
source-again : (s : Source) → source_of (length s.terminals) (symbol_names s) s.rules ≡ s
source-again s = λ i. record {
  terminals = take-append_seam s.terminals s.nonterminals i;
  nonterminals = drop-append_seam s.terminals s.nonterminals i;
  rules = s.rules;
}

-- a source whose text passes, with its table and its names, is written as that text
source-text : (s : Source) (bytes places spans : List ℕ) → check_text limits (printed limits s) ≡ done s
    → Gathered (symbol_names s) (length s.terminals + length s.nonterminals) bytes places spans
    → (length s.terminals + length s.nonterminals) * longest ≤ length bytes
    → text_from limits (length s.terminals) (length s.nonterminals) (encode s.rules) bytes places spans ≡ done (printed limits s)
source-text s bytes places spans e g room =
    let c = text-checked limits apart (printed limits s) s e in
    text-made limits (length s.terminals) (length s.nonterminals) (encode s.rules) bytes places spans (grammar_of s) (symbol_names s) c.table
    (gathered-lent (symbol_names s) (length s.terminals + length s.nonterminals) bytes places spans g room c.well.named) c.well.once
    ∙ ap (λ (s : Source). done (printed limits s)) (source-again s)

module _ {robot addon row starts lengths firsts widths terminals nonterminals : List ℕ} {z : ListSizes} {e q : ℕ}
    (h : JoinedHeld robot addon row starts lengths firsts widths terminals nonterminals z e q) (bytes places spans : List ℕ)
    (room : all_names * longest ≤ length bytes) (g : NamesGathered robot addon z bytes places spans) where
  text_is : text_from limits z.terminals z.nonterminals (take e row) bytes places spans ≡ done (printed limits (joined limits h.r h.m))
  text_is =
      let J = joined limits h.r h.m in
      let few = joined-few h in
      let k = g.gathered h.r h.m h.robot_passes h.addon_passes in
      (λ i. text_from limits (h.terminals_are i) (h.nonterminals_are i) (h.table-front i) bytes places spans)
      ∙ source-text J bytes places spans (joined_passes robot addon J h.passes)
      (subst₂ (λ (a : ℕ) (b : ℕ). Gathered (symbol_names J) (a + b) bytes places spans) h.terminals_are h.nonterminals_are k)
      (omega (arith, h.terminals_are, h.nonterminals_are, few, room))

  into_is : (size : ℕ) → write_into limits z.terminals z.nonterminals (take e row) bytes places spans size ≡ joined_text_into limits size robot addon
  unfolding write_into joined_text_into
  into_is size =
      then-goes _ _ (printed limits (joined limits h.r h.m)) text_is
      ∙ sym (then-goes (join_texts limits robot addon) _ (joined limits h.r h.m) h.passes)

  -- what the writer writes is the joined text
  pub writes_joined : (out : List ℕ) (r : TextWritten) (out' : List ℕ)
      → WritesText z.terminals z.nonterminals (take e row) bytes places spans out r out' → WritesJoined robot addon out r out'
  writes_joined out r out' w = record {
    answer = w.answer ∙ ap text_written (into_is (length out));
    out-after = w.out-after ∙ ap (λ (o : Answer (List ℕ)). afterwards o (λ text. text) out) (into_is (length out));
  }

-- a join that is refused writes nothing
pub joined-refused : (robot addon out : List ℕ) (cause : Cause) (at : ℕ) → join_texts limits robot addon ≡ refused cause at
    → WritesJoined robot addon out (Refused cause at) out
unfolding joined_text_into
joined-refused robot addon out cause at e =
    let q : joined_text_into limits (length out) robot addon ≡ refused cause at = then_stops (join_texts limits robot addon) _ cause at e in
    record { answer = sym (ap text_written q); out-after = sym (ap (λ (o : Answer (List ℕ)). afterwards o (λ text. text) out) q) }
