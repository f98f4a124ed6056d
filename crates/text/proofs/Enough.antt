-- Rows that suffice for every grammar within the limits: the reader, lent such rows, never answers 14, and what it reads stands at
-- their fronts. Assumes nothing.
use Prim.Native.Nat.{ℕ, ◌+◌, ◌≤◌}
use mathlib.Core.Path.{◌≡◌, refl, ap, ap₂, sym, subst, ◌∙◌}
use mathlib.Core.List.{List, [], ◌∷◌}
use native.Mathlib.Omega.{arith}
use lib.ListN.{length, take, drop, length-append}
use lib.Seq.{take-append_seam}
use Rattle.grammar.specs.Basics.{over}
use Rattle.grammar.specs.Limits.{limits}
use Rattle.grammar.specs.Grammar.{Rule, state_count}
use Rattle.grammar.specs.Table.{encode}
use Rattle.grammar.specs.Refusal.{Answer, done, refused}
use Rattle.grammar.specs.TableCheck.{check_table}
use Rattle.grammar.proofs.Answers.{then_stops}
use Rattle.grammar.proofs.Steps.{grammar_of}
use Rattle.grammar.proofs.WellFormed.{room}
use Rattle.grammar.proofs.Sentence.{takes_only}
use Rattle.grammar.specs.declared.Cause.{Cause}
use Rattle.text.specs.Read.{Source, symbol_names}
use Rattle.text.specs.Rules.{check_text, read_into}
use Rattle.text.specs.Promise.{name_starts, name_lengths, text_read, afterwards, ReadsText}
use Rattle.text.specs.declared.TextRead.{TextRead}
use Rattle.text.specs.declared.TextRead.TheVariants.{Read, Refused}
use Rattle.text.specs.Spelled.{spelled, Inside}
use Rattle.text.proofs.Spans.{length-lengths, length-name-starts, read-spelled, read-inside}
use Rattle.text.proofs.WellNamed.{WellNamedSource}
use Rattle.text.proofs.Admit.{text-checked}
use Rattle.text.proofs.RoundTrip.{apart, reads_into}
use Rattle.text.proofs.Promises.{ReadAs, read_as, refuses_as}

-- each rule has two entries more than codes, and one state more
pub entries-states : (rs : List Rule) → length (encode rs) + 4 ≡ state_count rs + length rs
unfolding encode state_count
entries-states [] = refl
entries-states (r ∷ rs) = omega (arith, entries-states rs, length-append r.right (encode rs))

-- rows for a table, starts and lengths that suffice
pub record Enough (e a b : ℕ) : Type 0 where
  pub entries : limits.max_states + limits.max_rules ≤ e
  pub starts : limits.max_terminals + limits.max_nonterminals ≤ a
  pub lengths : limits.max_terminals + limits.max_nonterminals ≤ b

pub enough-checked : (e a b : ℕ) (text : List ℕ) → Enough e a b → read_into limits e a b text ≡ check_text limits text
unfolding read_into
enough-checked e a b text n = go (check_text limits text) refl
  where
    go : (o : Answer Source) → check_text limits text ≡ o → read_into limits e a b text ≡ o
    go (done s) q =
        let c = text-checked limits apart text s q in
        let w = (takes_only limits room (length s.terminals) (length s.nonterminals) (encode s.rules) _ c.table).well_formed in
        let names : length (symbol_names s) ≤ limits.max_terminals + limits.max_nonterminals
        = omega (arith, length-append s.terminals s.nonterminals, c.well.terminals-most, c.well.nonterminals-most) in
        reads_into limits e a b text s q (omega (arith, entries-states s.rules, w.count, w.size, n.entries))
        (omega (arith, names, n.starts)) (omega (arith, names, n.lengths))
    go (refused cause at) q = then_stops _ _ cause at q

-- a row with something at its front
front_of : (x old new : List ℕ) (k : ℕ) → length x ≡ k → new ≡ over x old → (k ≤ length new) × (take k new ≡ x)
unfolding over
front_of x old new k e h = (
  omega (arith, e, ap length h, length-append x (drop (length x) old)),
  ap (λ (n : ℕ). take n new) (sym e) ∙ ap (take (length x)) h ∙ take-append_seam x (drop (length x) old),
)

-- what was read: t, n, the table's entries and Q are the source's, its rows stand at the fronts, and the names are spelled in the text
pub record ReadRows (text : List ℕ) (t n e q : ℕ) (table starts lengths : List ℕ) : Type 0 where
  pub source : Source
  pub checked : check_text limits text ≡ done source
  pub well : WellNamedSource limits source
  pub terminals : length source.terminals ≡ t
  pub nonterminals : length source.nonterminals ≡ n
  pub states : state_count source.rules ≡ q
  pub rules : e + 4 ≡ q + length source.rules
  pub table_fits : e ≤ length table
  pub starts_fits : t + n ≤ length starts
  pub lengths_fits : t + n ≤ length lengths
  pub passes : check_table limits t n (take e table) ≡ done (grammar_of t n source.rules)
  pub spells : spelled text (take (t + n) starts) (take (t + n) lengths) ≡ symbol_names source
  pub inside : Inside text (take (t + n) starts) (take (t + n) lengths)
  pub as_many : length (symbol_names source) ≡ t + n

-- rows that begin with what was read
pub rows-read : (text : List ℕ) (t n e q : ℕ) (k : ReadAs (check_text limits text) t n e q) (table starts lengths : List ℕ)
    → (e ≤ length table) × (take e table ≡ encode k.source.rules) → (t + n ≤ length starts) × (take (t + n) starts ≡ name_starts k.source)
    → (t + n ≤ length lengths) × (take (t + n) lengths ≡ name_lengths (symbol_names k.source)) → ReadRows text t n e q table starts lengths
rows-read text t n e q k table starts lengths a b d =
    let s = k.source in
    let c = text-checked limits apart text s k.whole in
    record {
      source = s;
      checked = k.whole;
      well = c.well;
      terminals = k.terminals;
      nonterminals = k.nonterminals;
      states = k.states;
      rules = omega (arith, entries-states s.rules, k.entries, k.states);
      table_fits = a.0;
      starts_fits = b.0;
      lengths_fits = d.0;
      passes = ap (check_table limits t n) a.1
          ∙ ap₂ (λ (t n : ℕ). check_table limits t n (encode s.rules)) (sym k.terminals) (sym k.nonterminals) ∙ c.table
          ∙ ap₂ (λ (t n : ℕ). done (grammar_of t n s.rules)) k.terminals k.nonterminals;
      spells = ap₂ (spelled text) b.1 d.1 ∙ read-spelled limits apart text s c.read;
      inside = subst (λ (z : List ℕ). Inside text z (take (t + n) lengths)) (sym b.1)
          (subst (Inside text (name_starts s)) (sym d.1) (read-inside limits apart text s c.read));
      as_many = omega (arith, length-append s.terminals s.nonterminals, k.terminals, k.nonterminals);
    }

module _ (text table starts lengths : List ℕ) (enough : Enough (length table) (length starts) (length lengths))
    (r : TextRead) (table' starts' lengths' : List ℕ) (h : ReadsText text table starts lengths r table' starts' lengths') where
  into : read_into limits (length table) (length starts) (length lengths) text ≡ check_text limits text
  into = enough-checked (length table) (length starts) (length lengths) text enough

  pub rows-refused : (cause : Cause) (at : ℕ) → r ≡ Refused cause at → check_text limits text ≡ refused cause at
  rows-refused cause at e = refuses_as (check_text limits text) cause at (sym e ∙ h.answer ∙ ap text_read into)

  pub read-rows : (t n e q : ℕ) → r ≡ Read t n e q → ReadRows text t n e q table' starts' lengths'
  read-rows t n e q g =
      let k = read_as (check_text limits text) t n e q (sym g ∙ h.answer ∙ ap text_read into) in
      let s = k.source in
      let after : (front : Source → List ℕ) (old new : List ℕ)
      → new ≡ afterwards (read_into limits (length table) (length starts) (length lengths) text) front old → new ≡ over (front s) old
      = λ front old new w. w ∙ ap (λ (o : Answer Source). afterwards o front old) (into ∙ k.whole) in
      let many : length (symbol_names s) ≡ t + n = omega (arith, length-append s.terminals s.nonterminals, k.terminals, k.nonterminals) in
      let a = front_of (encode s.rules) table table' e k.entries (after (λ s. encode s.rules) table table' h.table-after) in
      let b = front_of (name_starts s) starts starts' (t + n) (length-name-starts s ∙ many) (after name_starts starts starts' h.starts-after) in
      let d = front_of (name_lengths (symbol_names s)) lengths lengths' (t + n) (length-lengths (symbol_names s) ∙ many)
      (after (λ s. name_lengths (symbol_names s)) lengths lengths' h.lengths-after) in
      rows-read text t n e q k table' starts' lengths' a b d
