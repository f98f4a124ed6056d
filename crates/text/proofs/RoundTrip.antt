-- The round trips of the reader and the writer: text read and written again with the reader's names is the text with each use in
-- its declared spelling; tables and names written and read again are the same table and names. What is written is never longer
-- than the reader takes.
-- Assumes nothing.
use Prim.Native.Nat.{ℕ, ◌+◌, ◌*◌, ◌≤◌, ◌<◌}
use mathlib.Core.Path.{◌≡◌, ap, sym, subst, subst₂, ◌∙◌}
use mathlib.Core.List.{List, [], ◌++◌}
use mathlib.Core.Bool.{true, false}
use native.Mathlib.Omega.{arith}
use borrow.Author.Tests.{le-leb, lt-leb, leb-true, eq-eqb, eqb-true}
use lib.ListN.{length, take, drop, length-drop, take-append-drop}
use lib.Seq.{length-take-le, take-append_seam, drop-append_seam}
use Rattle.grammar.specs.Limits.{Limits, limits}
use Rattle.grammar.specs.Grammar.{Rule, Grammar, state_count, WellFormed}
use Rattle.grammar.specs.Table.{encode}
use Rattle.grammar.specs.Live.{has_sentence}
use Rattle.grammar.specs.Refusal.{done, refused, refuse_unless, and_then, buffer_too_short}
use Rattle.grammar.specs.TableCheck.{check_table}
use Rattle.grammar.proofs.Answers.{done_inj, unless_holds, unless_fails, unless_done, then-done, then-goes, then_stops}
use Rattle.grammar.proofs.Steps.{grammar_of}
use Rattle.grammar.proofs.WellFormed.{room}
use Rattle.grammar.proofs.Sentence.{passed-stored, takes_all, takes_only}
use Rattle.grammar.specs.declared.Cause.{Cause}
use Rattle.text.specs.Names.{all, is_name, has_double}
use Rattle.text.specs.Read.{Source, symbol_names, read_text}
use Rattle.text.specs.Rules.{check_text, read_into}
use Rattle.text.specs.Spelling.{spelled_text}
use Rattle.text.specs.Print.{printed, gather, first_double, text_from, write_into}
use Rattle.text.specs.Promise.{name_starts, name_lengths}
use Rattle.text.proofs.WellNamed.{RuleFits, WellNamedSource}
use Rattle.text.proofs.PrintRead.{print_read, read_length}
use Rattle.text.proofs.ReadPrinted.{read_print}
use Rattle.text.proofs.Admit.{text-checked, checked-text}
use Rattle.text.proofs.Gather.{gather-front, gathered, gather-read, first_double_lem}
use Rattle.text.proofs.Sizes.{printed-most, Wide, wide}

-- the source of t, names and rules: the first t names are the terminals'
abbrev pub source_of : ℕ → List (List ℕ) → List Rule → Source
source_of t names rules = record { terminals = take t names; nonterminals = drop t names; rules = rules }

-- the source of what is written: t, n, the table and the names that are lent
pub record SourceOf (t n : ℕ) (table bytes starts lengths : List ℕ) (s : Source) : Type 0 where
  pub terminals : length s.terminals ≡ t
  pub nonterminals : length s.nonterminals ≡ n
  pub rules : encode s.rules ≡ table
  pub names : gather bytes starts lengths 0 (t + n) ≡ done (symbol_names s)

-- a source's own names and rules make it again
source-again : (s : Source) → source_of (length s.terminals) (symbol_names s) s.rules ≡ s
source-again s = λ i. record {
  terminals = take-append_seam s.terminals s.nonterminals i;
  nonterminals = drop-append_seam s.terminals s.nonterminals i;
  rules = s.rules;
}

module _ (L : Limits) where
  -- ---- the writer

  -- there is a text where the table passes, the names are lent whole and well formed, and none stands twice
  pub text-made : (t n : ℕ) (table bytes starts lengths : List ℕ) (G : Grammar) (names : List (List ℕ))
      → check_table L t n table ≡ done G → gather bytes starts lengths 0 (t + n) ≡ done names → has_double names ≡ false
      → text_from L t n table bytes starts lengths ≡ done (printed L (source_of t names G.rules))
  unfolding text_from refuse_unless and_then
  text-made t n table bytes starts lengths G names c g o =
      let f : first_double [] names ≡ length names = (first_double_lem names).1 o in
      rw (c, g, eq-eqb (first_double [] names) (length names) f)

  -- the faults of the table come first
  pub table-refuses : (t n : ℕ) (table bytes starts lengths : List ℕ) (c : Cause) (p : ℕ) → check_table L t n table ≡ refused c p
      → text_from L t n table bytes starts lengths ≡ refused c p
  unfolding text_from
  table-refuses t n table bytes starts lengths c p e = then_stops (check_table L t n table) _ c p e

  module _ (t n : ℕ) (table bytes starts lengths : List ℕ) (room : ℕ) where
    -- where there is none, the writer refuses for the same cause
    pub into_refused : (c : Cause) (p : ℕ) → text_from L t n table bytes starts lengths ≡ refused c p
        → write_into L t n table bytes starts lengths room ≡ refused c p
    unfolding write_into
    into_refused c p e = then_stops _ _ c p e

    -- lent too little for it, the writer answers 14; lent enough, it writes it
    pub into_short : (text : List ℕ) → text_from L t n table bytes starts lengths ≡ done text → room < length text
        → write_into L t n table bytes starts lengths room ≡ refused buffer_too_short 0
    unfolding write_into
    into_short text e h = then-goes _ _ text e ∙ unless_fails buffer_too_short 0 _ (done text) (lt-leb (length text) room h)

    pub into_done : (text : List ℕ) → text_from L t n table bytes starts lengths ≡ done text → length text ≤ room
        → write_into L t n table bytes starts lengths room ≡ done text
    unfolding write_into
    into_done text e h = then-goes _ _ text e ∙ unless_holds buffer_too_short 0 _ (done text) (le-leb (length text) room h)

    -- the writer writes where the table passes, the names are lent whole and well formed, none twice, and there is room
    pub writes : (G : Grammar) (names : List (List ℕ)) → check_table L t n table ≡ done G
        → gather bytes starts lengths 0 (t + n) ≡ done names → has_double names ≡ false
        → length (printed L (source_of t names G.rules)) ≤ room
        → write_into L t n table bytes starts lengths room ≡ done (printed L (source_of t names G.rules))
    writes G names c g o h = into_done _ (text-made t n table bytes starts lengths G names c g o) h

  -- entries of the rows past t + n do not count
  pub write-front : (t n : ℕ) (table bytes xs ys xs' ys' : List ℕ) (room : ℕ) → t + n ≤ length xs → t + n ≤ length ys
      → write_into L t n table bytes (xs ++ xs') (ys ++ ys') room ≡ write_into L t n table bytes xs ys room
  unfolding write_into text_from
  write-front t n table bytes xs ys xs' ys' room h k =
      simp (gather-front bytes xs ys xs' ys' 0 (t + n) (omega arith) (omega arith))

  -- what a text is made of
  pub record Made (t n : ℕ) (table bytes starts lengths text : List ℕ) : Type 0 where
    pub grammar : Grammar
    pub names : List (List ℕ)
    pub passed : check_table L t n table ≡ done grammar
    pub lent : gather bytes starts lengths 0 (t + n) ≡ done names
    pub once : has_double names ≡ false
    pub whole : text ≡ printed L (source_of t names grammar.rules)

  pub made : (t n : ℕ) (table bytes starts lengths text : List ℕ) → text_from L t n table bytes starts lengths ≡ done text
      → Made t n table bytes starts lengths text
  unfolding text_from
  made t n table bytes starts lengths text e =
      let a = then-done _ _ _ e in
      let b = then-done _ _ _ a.2 in
      let c = unless_done _ _ _ _ _ b.2 in
      record {
        grammar = a.0;
        names = b.0;
        passed = a.1;
        lent = b.1;
        once = (first_double_lem b.0).0 (eqb-true (first_double [] b.0) (length b.0) c.0);
        whole = sym (done_inj c.1);
      }

  -- what the writer wrote, and there was room
  pub wrote : (t n : ℕ) (table bytes starts lengths : List ℕ) (room : ℕ) (text : List ℕ)
      → write_into L t n table bytes starts lengths room ≡ done text
      → Made t n table bytes starts lengths text × (length text ≤ room)
  unfolding write_into
  wrote t n table bytes starts lengths room text e =
      let w = then-done _ _ _ e in
      let d = unless_done _ _ _ _ _ w.2 in
      let q : w.0 ≡ text = done_inj d.1 in (
        made t n table bytes starts lengths text (w.1 ∙ ap done q),
        subst (λ text. length text ≤ room) q (leb-true (length w.0) room d.0),
      )

  -- ---- the reader

  -- lent enough, the reader reads where the text passes
  pub reads_into : (e a b : ℕ) (text : List ℕ) (s : Source) → check_text L text ≡ done s → length (encode s.rules) ≤ e
      → length (symbol_names s) ≤ a → length (symbol_names s) ≤ b → read_into L e a b text ≡ done s
  unfolding read_into refuse_unless and_then
  reads_into e a b text s c h k l =
      rw (c, le-leb (length (encode s.rules)) e h, le-leb (length (symbol_names s)) a k, le-leb (length (symbol_names s)) b l)

  -- where it reads, the text passes
  pub into_checked : (e a b : ℕ) (text : List ℕ) (s : Source) → read_into L e a b text ≡ done s → check_text L text ≡ done s
  unfolding read_into
  into_checked e a b text s h =
      let x = then-done _ _ _ h in
      x.1 ∙ (unless_done _ _ _ _ _ x.2).1

module _ (L : Limits) (apart : L.max_terminals < L.nonterminal_base) where
  -- text read and written again with the reader's names, lent enough, is the text with each use in its declared spelling
  pub read-then-write : (e a b : ℕ) (text : List ℕ) (s : Source) (room : ℕ) → read_into L e a b text ≡ done s
      → length text ≤ room
      → write_into L (length s.terminals) (length s.nonterminals) (encode s.rules) text (name_starts s)
      (name_lengths (symbol_names s)) room ≡ done (spelled_text (symbol_names s) text)
  read-then-write e a b text s room h k =
      let c = text-checked L apart text s (into_checked L e a b text s h) in
      let t = length s.terminals in
      let n = length s.nonterminals in
      let p : printed L (source_of t (symbol_names s) s.rules) ≡ spelled_text (symbol_names s) text
      = ap (printed L) (source-again s) ∙ print_read L apart text s c.read in
      writes L t n (encode s.rules) text (name_starts s) (name_lengths (symbol_names s)) room (grammar_of t n s.rules)
      (symbol_names s) c.table (gather-read L apart text s c.read) c.well.once
      (subst (λ n. n ≤ room) (sym (ap length (ap (printed L) (source-again s)) ∙ read_length L apart text s c.read)) k)
      ∙ ap done p

-- t, n, as many names, and the well-formed grammar of a table that passes
record Named (L : Limits) (t n : ℕ) (names : List (List ℕ)) (G : Grammar) : Type 0 where
  size-t : length (take t names) ≡ t
  size-n : length (drop t names) ≡ n
  both : take t names ++ drop t names ≡ names
  formed : WellFormed L G
  sentence : has_sentence L G ≡ true
  grammar-t : G.terminals ≡ length (take t names)
  grammar-n : G.nonterminals ≡ length (drop t names)

module _ (L : Limits) (four : 4 ≤ L.max_states) where
  named_by : (t n : ℕ) (table : List ℕ) (names : List (List ℕ)) (G : Grammar) → check_table L t n table ≡ done G
      → length names ≡ t + n → Named L t n names G
  named_by t n table names G e h =
      let a = takes_only L four t n table G e in
      let p : length (take t names) ≡ t = length-take-le t names (omega arith) in
      let d = length-drop t names in
      let q : length (drop t names) ≡ n = omega arith in
      record {
        size-t = p;
        size-n = q;
        both = take-append-drop t names;
        formed = a.well_formed;
        sentence = (passed-stored L t n table G e).1;
        grammar-t = a.terminals ∙ sym p;
        grammar-n = a.nonterminals ∙ sym q;
      }

  source_well : (t n : ℕ) (names : List (List ℕ)) (G : Grammar) → Named L t n names G → all is_name names ≡ true
      → has_double names ≡ false → length (printed L (source_of t names G.rules)) ≤ L.max_text
      → WellNamedSource L (source_of t names G.rules)
  source_well t n names G d g o h =
      let w = d.formed in
      let p : G.terminals ≡ length (take t names) = d.grammar-t in
      let q : G.nonterminals ≡ length (drop t names) = d.grammar-n in
      record {
        named = ap (all is_name) d.both ∙ g;
        once = ap has_double d.both ∙ o;
        terminals-most = subst (λ k. k ≤ L.max_terminals) p w.terminals;
        nonterminals_least = subst (λ k. 1 ≤ k) q w.nonterminals.0;
        nonterminals-most = subst (λ k. k ≤ L.max_nonterminals) q w.nonterminals.1;
        fit = λ r m. subst₂ (λ t n. RuleFits L t n r) p q
            (record { left = w.lefts r m; codes = w.codes r m; few = w.lengths r m });
        short = h;
      }

  source_passes : (t n : ℕ) (names : List (List ℕ)) (G : Grammar) → Named L t n names G
      → check_table L (length (take t names)) (length (drop t names)) (encode G.rules)
      ≡ done (grammar_of (length (take t names)) (length (drop t names)) G.rules)
  source_passes t n names G d =
      subst₂ (λ t n. check_table L t n (encode G.rules) ≡ done (grammar_of t n G.rules)) d.grammar-t d.grammar-n
      (takes_all L G d.formed d.sentence)

  -- what is written is never longer than the reader takes
  pub write-short : Wide L → (t n : ℕ) (table bytes starts lengths : List ℕ) (room : ℕ) (text : List ℕ)
      → write_into L t n table bytes starts lengths room ≡ done text → length text ≤ L.max_text
  write-short wide t n table bytes starts lengths room text e =
      let x = (wrote L t n table bytes starts lengths room text e).0 in
      let G = x.grammar in
      let names = x.names in
      let g = gathered bytes starts lengths 0 (t + n) names x.lent in
      let d = named_by t n table names G x.passed g.count in
      let w = d.formed in
      let s : Source = source_of t names G.rules in
      let z1 : length (printed L s) + 88 ≤ 25 + 16 * length (symbol_names s) + 22 * state_count G.rules
      = printed-most L s (ap (all is_name) d.both ∙ g.named) in
      let z2 : length (symbol_names s) ≡ t + n = ap length d.both ∙ g.count in
      let z3 : length text ≡ length (printed L s) = ap length x.whole in
      let z4 : G.terminals ≤ L.max_terminals = w.terminals in
      let z5 : G.nonterminals ≤ L.max_nonterminals = w.nonterminals.1 in
      let z6 : state_count G.rules ≤ L.max_states = w.size in
      let z7 : G.terminals ≡ t = d.grammar-t ∙ d.size-t in
      let z8 : G.nonterminals ≡ n = d.grammar-n ∙ d.size-n in
      omega arith

module _ (L : Limits) (apart : L.max_terminals < L.nonterminal_base) (four : 4 ≤ L.max_states) (wide : Wide L) where
  -- a table and names written and read again, lent enough, are the same table and names
  pub write-then-read : (t n : ℕ) (table bytes starts lengths : List ℕ) (room : ℕ) (text : List ℕ) (e a b : ℕ)
      → write_into L t n table bytes starts lengths room ≡ done text → length table ≤ e → t + n ≤ a → t + n ≤ b
      → (s : Source) × (read_into L e a b text ≡ done s) × SourceOf t n table bytes starts lengths s
  write-then-read t n table bytes starts lengths room text e a b h ke ka kb =
      let x = (wrote L t n table bytes starts lengths room text h).0 in
      let G = x.grammar in
      let names = x.names in
      let g = gathered bytes starts lengths 0 (t + n) names x.lent in
      let d = named_by L four t n table names G x.passed g.count in
      let short : length text ≤ L.max_text = write-short L four wide t n table bytes starts lengths room text h in
      let s : Source = source_of t names G.rules in
      let w : WellNamedSource L s
      = source_well L four t n names G d g.named x.once (subst (λ w. length w ≤ L.max_text) x.whole short) in
      let r : read_text L text ≡ done s = ap (read_text L) x.whole ∙ read_print L apart s w in
      let i : encode G.rules ≡ table = sym (takes_only L four t n table G x.passed).table in
      let c : check_text L text ≡ done s = checked-text L apart text s r (source_passes L four t n names G d) in
      let z : length (symbol_names s) ≡ t + n = ap length d.both ∙ g.count in
      let y : length (encode s.rules) ≡ length table = ap length i in (
        s,
        reads_into L e a b text s c (omega arith) (omega arith) (omega arith),
        record { terminals = d.size-t; nonterminals = d.size-n; rules = i; names = x.lent ∙ ap done (sym d.both) },
      )

-- ---- at the limits in force

-- terminals are below the first nonterminal
pub apart : limits.max_terminals < limits.nonterminal_base
apart = omega arith

-- what is written is never longer than the reader takes
pub limits-short : (t n : ℕ) (table bytes starts lengths : List ℕ) (room : ℕ) (text : List ℕ)
    → write_into limits t n table bytes starts lengths room ≡ done text → length text ≤ limits.max_text
limits-short = write-short limits room wide

-- text read and written again is the text in declared spelling
pub limits-read-then-write : (e a b : ℕ) (text : List ℕ) (s : Source) (room : ℕ) → read_into limits e a b text ≡ done s
    → length text ≤ room
    → write_into limits (length s.terminals) (length s.nonterminals) (encode s.rules) text (name_starts s)
    (name_lengths (symbol_names s)) room ≡ done (spelled_text (symbol_names s) text)
limits-read-then-write = read-then-write limits apart

-- a table and names written and read again are the same table and names
pub limits-write-then-read : (t n : ℕ) (table bytes starts lengths : List ℕ) (room : ℕ) (text : List ℕ) (e a b : ℕ)
    → write_into limits t n table bytes starts lengths room ≡ done text → length table ≤ e → t + n ≤ a → t + n ≤ b
    → (s : Source) × (read_into limits e a b text ≡ done s) × SourceOf t n table bytes starts lengths s
limits-write-then-read = write-then-read limits apart room wide
