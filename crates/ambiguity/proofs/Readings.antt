-- The theorems of the two lines of a witness, and of reading back. Assumes nothing.
use Prim.Native.Nat.{ℕ, ◌+◌, ◌≤◌, ◌<◌}
use mathlib.Core.Path.{◌≡◌, refl, ap, ◌∙◌}
use mathlib.Core.Bool.{Bool, true, false, ◌&&◌}
use mathlib.Core.Logic.{◌⊎◌, inl, inr}
use mathlib.Core.List.{List, map}
use native.Mathlib.Omega.{arith}
use borrow.Author.Tests.{le-leb, lt-leb}
use lib.Dec.{leb}
use lib.ListN.{length, length-append}
use Rattle.grammar.specs.Basics.{over, Mem}
use Rattle.grammar.specs.Limits.{limits}
use Rattle.grammar.specs.Grammar.{Grammar, WellFormed}
use Rattle.grammar.specs.Table.{encode}
use Rattle.grammar.specs.Refusal.{Answer, done, refused, buffer_too_short}
use Rattle.grammar.proofs.Answers.{then-goes, then_stops, unless_holds, unless_fails, both_and}
use Rattle.grammar.proofs.WellFormed.{room}
use Rattle.grammar.proofs.Sentence.{takes_only}
use Rattle.grammar.specs.declared.Cause.{Cause}
use Rattle.automaton.specs.Items.{states}
use Rattle.automaton.specs.PositionMoves.{moves_of}
use Rattle.automaton.specs.Position.{position}
use Rattle.automaton.specs.Strings.{Letter}
use Rattle.triples.specs.Index.{index}
use Rattle.triples.specs.Smallest.{smallest}
use Rattle.triple_laws.proofs.Position.{position-regular, position-listed}
use Rattle.parting.proofs.Position.{single}
use Rattle.figures.proofs.ShortestLaws.{shortest-of}
use Rattle.figures.proofs.SidesLaws.{shortest_steps, sides-few, sides-part}
use Rattle.text.specs.Names.{folded}
use Rattle.text.specs.Read.{Source, symbol_names}
use Rattle.text.specs.Rules.{check_text}
use Rattle.text.proofs.Admit.{text-checked}
use Rattle.text.proofs.RoundTrip.{apart}
use Rattle.readings.specs.Promise.{strings_into, read_back_into, read_back, row_after, ReadsBack}
use Rattle.readings.specs.Letters.{letter_number}
use Rattle.readings.specs.declared.ReadBack.{ReadBack}
use Rattle.readings.specs.declared.ReadBack.TheVariants.{Read, GrammarRefused, Refused}
use Rattle.readings.proofs.Again.{lines-again, lines_apart}
use Rattle.readings.proofs.Letters.{letter_again}
use Rattle.readings.proofs.Only.{lines-only}
use Rattle.readings.proofs.Case.{lines_case}
use Rattle.readings.proofs.Said.{strings_right}
use Rattle.ambiguity.specs.Readings.{strings_of, ReadingTheorems, SidesTheorems, Unchanged, BackTheorems}

pub reading_theorems : (text : List ℕ) (s : Source) → check_text limits text ≡ done s → ReadingTheorems s
reading_theorems text s e =
    let c = text-checked limits apart text s e in
    let t = length s.terminals in
    let n = length s.nonterminals in
    let w = (takes_only limits room t n (encode s.rules) _ c.table).well_formed in
    let low : t < limits.nonterminal_base = omega (arith, c.well.terminals-most) in
    let many : length (symbol_names s) ≡ t + n = length-append s.terminals s.nonterminals in
    record {
      again = lines-again limits t n (length s.rules) (symbol_names s) low c.well.named c.well.once many;
      lines_apart = lines_apart limits t n (length s.rules) (symbol_names s) low c.well.named c.well.once many;
      said = strings_right limits t n (length s.rules) (symbol_names s) low many;
      only = lines-only limits t (length s.rules) (symbol_names s) low;
      only_case = λ lines u v e. ap (map folded) (lines-only limits t (length s.rules) (symbol_names s) low lines u v e)
          ∙ lines_case (symbol_names s) lines;
      entries = letter_again t n (length s.rules) c.well.terminals-most c.well.nonterminals-most w.count;
    }

pub sides_theorems : (G : Grammar) → WellFormed limits G → Mem (index (states G) 1 1 1) (smallest (moves_of limits G)) → SidesTheorems G
sides_theorems G W m =
    let M = moves_of limits G in
    let R = position-regular limits G W apart in
    let N = position-listed limits G W apart in
    record {
      witness = (shortest-of (position limits G) M R N m).0;
      one = (shortest_steps M R m).one;
      part = sides-part (position limits G) M R N (single limits G W apart) m;
      few = (sides-few M R m (λ s. s.on_left), sides-few M R m (λ s. s.on_right));
    }

module _ (text lines a b : List ℕ) (r : ReadBack) (a' b' : List ℕ) (h : ReadsBack text lines a b r a' b') where
  abbrev Back : Type 0
  Back = Answer (Answer (List Letter × List Letter))

  -- the promise, by what the definition gives
  told : (o : Back) → read_back_into limits (length a) (length b) text lines ≡ o
      → (r ≡ read_back o) × (a' ≡ row_after o (λ p. p.0) a) × (b' ≡ row_after o (λ p. p.1) b)
  told o e = (
    h.answer ∙ ap read_back e,
    h.left_after ∙ ap (λ (o : Back). row_after o (λ p. p.0) a) e,
    h.right-after ∙ ap (λ (o : Back). row_after o (λ p. p.1) b) e,
  )

  grammar-refused : (cause : Cause) (at : ℕ) → check_text limits text ≡ refused cause at → (r ≡ GrammarRefused cause at) × Unchanged a b a' b'
  unfolding read_back_into
  grammar-refused cause at e =
      let t = told (refused cause at) (then_stops (check_text limits text) _ cause at e) in
      (t.0, (t.1, t.2))

  module _ (s : Source) (c : check_text limits text ≡ done s) where
    into : read_back_into limits (length a) (length b) text lines ≡ done (strings_into limits (length a) (length b) lines s)
    unfolding read_back_into
    into = then-goes (check_text limits text) (λ s. done (strings_into limits (length a) (length b) lines s)) s c

    from : (o : Answer (List Letter × List Letter)) → strings_into limits (length a) (length b) lines s ≡ o
        → (r ≡ read_back (done o)) × (a' ≡ row_after (done o) (λ p. p.0) a) × (b' ≡ row_after (done o) (λ p. p.1) b)
    from o e = told (done o) (into ∙ ap (λ (o : Answer (List Letter × List Letter)). done o) e)

    lines-refused : (cause : Cause) (at : ℕ) → strings_of s lines ≡ refused cause at → (r ≡ Refused cause at) × Unchanged a b a' b'
    unfolding strings_into
    lines-refused cause at e =
        let t = from (refused cause at) (then_stops (strings_of s lines) _ cause at e) in
        (t.0, (t.1, t.2))

    module _ (u v : List Letter) (e : strings_of s lines ≡ done (u, v)) where
      short : (length a < length u) ⊎ (length b < length v) → (r ≡ Refused buffer_too_short 0) × Unchanged a b a' b'
      unfolding strings_into
      short z =
          let t = from (refused buffer_too_short 0) (then-goes (strings_of s lines) _ (u, v) e ∙ unless_fails buffer_too_short 0 _ _ (fails z)) in
          (t.0, (t.1, t.2))
        where
          fails : (length a < length u) ⊎ (length b < length v) → leb (length u) (length a) && leb (length v) (length b) ≡ false
          fails (inl l) = ap (λ (x : Bool). x && leb (length v) (length b)) (lt-leb (length u) (length a) l)
          fails (inr l) = ap (λ (x : Bool). leb (length u) (length a) && x) (lt-leb (length v) (length b) l) ∙ none (leb (length u) (length a))
            where
              none : (x : Bool) → x && false ≡ false
              none true = refl
              none false = refl

      reads : length u ≤ length a → length v ≤ length b
          → (r ≡ Read (length u) (length v)) × (a' ≡ over (map letter_number u) a) × (b' ≡ over (map letter_number v) b)
      unfolding strings_into
      reads k l =
          let t : leb (length u) (length a) && leb (length v) (length b) ≡ true
          = both_and (leb (length u) (length a)) (leb (length v) (length b)) (le-leb (length u) (length a) k) (le-leb (length v) (length b) l) in
          from (done (u, v)) (then-goes (strings_of s lines) _ (u, v) e ∙ unless_holds buffer_too_short 0 _ (done (u, v)) t)

  pub back_theorems : BackTheorems text lines a b r a' b'
  back_theorems = record { grammar-refused = grammar-refused; lines-refused = lines-refused; short = short; reads = reads }
