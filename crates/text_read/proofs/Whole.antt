-- The whole text: the last tests look at the rules that are kept only, and what each way through the code says of the reader's answer.
-- Assumes nothing.
use Prim.Native.Nat.{ℕ, zero, suc, ◌+◌, ◌-◌, ◌≤◌, ◌<◌}
use mathlib.Core.Path.{◌≡◌, refl, ap, ap₂, sym, subst, ◌∙◌}
use mathlib.Core.List.{List, [], ◌∷◌, ◌++◌, map}
use mathlib.Core.Bool.{not}
use native.Mathlib.Omega.{arith}
use borrow.Author.Tests.{le-leb, lt-leb}
use lib.Dec.{leb}
use lib.ListN.{length, take, drop, length-append, length-drop}
use lib.Seq.{take_all, length-take-le}
use Rattle.grammar.specs.Basics.{Mem, here, there}
use Rattle.grammar.specs.Limits.{Limits, limits}
use Rattle.grammar.specs.Grammar.{Rule, Grammar, state_count}
use Rattle.grammar.specs.Table.{encode}
use Rattle.grammar.specs.Refusal.{Answer, done, refused, refuse_unless, and_then, no_sentence, rule_repeated, too_many_states, malformed}
use Rattle.grammar.specs.Live.{has_sentence}
use Rattle.grammar.specs.Record.{record_of}
use Rattle.grammar.specs.TableCheck.{is_among, stored_table, check_table, table_checked}
use Rattle.grammar.specs.declared.TableChecked.{TableChecked}
use Rattle.grammar.specs.declared.TableVerdict.TheVariants.{Passed, Refused as TableRefused}
use Rattle.grammar.proofs.Answers.{no_answer, done_inj, unless_holds, unless_fails, unless_done, then-done, then-goes, then_stops}
use Rattle.grammar.specs.declared.Cause.{Cause}
use Rattle.text.specs.Pieces.{split_on, join, ended_by}
use Rattle.text.specs.Keys.{key}
use Rattle.text.specs.Read.{Source, symbol_names, grammar_of, names_of, rule_lines, read_lines, read_text}
use Rattle.text.specs.Rules.{admit, last_tests, check_text, check_module}
use Rattle.text.specs.Print.{print_line, print_rule, printed}
use Rattle.text.specs.Promise.{starts_from, name_starts, name_lengths, text_read}
use Rattle.text.specs.declared.TextRead.{TextRead}
use Rattle.text.specs.declared.TextRead.TheVariants.{Read, Refused}
use Rattle.text.proofs.WellNamed.{WellNamedSource, mem_each, mem_none}
use Rattle.text.proofs.PrintRead.{read_well, join_names}
use Rattle.text.proofs.Admit.{admit-same, stored-admit, table_tests, passed-said}
use Rattle.text.proofs.RoundTrip.{apart}
use Rattle.text.specs.Spelled.{spelled}
use Rattle.text.proofs.Spans.{lengths_append}
use Rattle.names.specs.Found.{part}
use Rattle.text_read.specs.declared.Kept.{Kept}
use Rattle.text_read.specs.declared.Kept.TheVariants.{Entries, Fault}
use Rattle.text_read.specs.declared.Heads.{Heads}
use Rattle.text_read.specs.declared.Heads.TheVariants as H
use Rattle.text_read.specs.Lines.{RulesReady, RulesKept, RulesTold, kept_rules, kept_entries}
use Rattle.text_read.specs.Values.{all_names, smaller}
use Rattle.text_read.specs.declared.TextKept.{TextKept}
use Rattle.text_read.specs.declared.TextKept.TheVariants as K
use Rattle.text_read.specs.Texts.{HeadsAt, HeadsRead, HeadsTold, table_read, Ready, TextRules, LinesTold, NamesTold, KeptWithin, kept_read, module_read, Checks, ChecksText, ChecksModule}
use Rattle.text_read.proofs.Rooms.{smaller_in, heads_most}
use Rattle.text_read.proofs.Places.{heads_spelled}

-- ---- the first rules

-- one rule past the limit decides like all
admit-first : (L : Limits) (m : ℕ) (earlier : List Rule) (at : ℕ) (rs : List Rule)
    → admit L m earlier at (take (suc m) rs) ≡ admit L m earlier at rs
unfolding admit
admit-first L zero earlier at [] = refl
admit-first L zero earlier at (r ∷ rs) = refl
admit-first L (suc m) earlier at [] = refl
admit-first L (suc m) earlier at (r ∷ rs) =
    ap (λ o. refuse_unless rule_repeated at (not (is_among r earlier)) (refuse_unless too_many_states at (leb (state_count earlier + (length r.right + 1)) L.max_states) o))
    (admit-first L m (earlier ++ (r ∷ [])) (at + 2 + length r.right) rs)

-- rules that pass are not too many
pub admit-few : (L : Limits) (m : ℕ) (earlier : List Rule) (at : ℕ) (rs q : List Rule) → admit L m earlier at rs ≡ done q → length rs ≤ m
unfolding admit
admit-few L m earlier at [] q e = omega arith
admit-few L zero earlier at (r ∷ rs) q e = no_answer e
admit-few L (suc m) earlier at (r ∷ rs) q e =
    let a = unless_done _ _ _ _ _ e in
    let b = unless_done _ _ _ _ _ a.1 in
    let h = admit-few L m (earlier ++ (r ∷ [])) (at + 2 + length r.right) rs q b.1 in
    omega arith

mem_take : (k : ℕ) (rs : List Rule) (r : Rule) → Mem r (take k rs) → Mem r rs
mem_take zero rs r m = mem_none m
mem_take (suc k) [] r m = m
mem_take (suc k) (x ∷ rs) r m = mem_each (λ y. Mem y (x ∷ rs)) x (take k rs) here (λ y m. there (mem_take k rs y m)) r m

ended_less : (f : Rule → List ℕ) (k : ℕ) (rs : List Rule) → length (ended_by 10 (map f (take k rs))) ≤ length (ended_by 10 (map f rs))
unfolding ended_by
ended_less f zero rs = omega arith
ended_less f (suc k) [] = omega arith
ended_less f (suc k) (r ∷ rs) =
    omega (
      arith,
      length-append (f r) (10 ∷ ended_by 10 (map f (take k rs))),
      length-append (f r) (10 ∷ ended_by 10 (map f rs)),
      ended_less f k rs,
    )

-- a source with the first rules only
abbrev first_rules : ℕ → Source → Source
first_rules k s = record { terminals = s.terminals; nonterminals = s.nonterminals; rules = take k s.rules }

printed_less : (k : ℕ) (s : Source) → length (printed limits (first_rules k s)) ≤ length (printed limits s)
unfolding printed ended_by
printed_less k s =
    let f = print_rule limits (length s.terminals) (symbol_names s) in
    let a = print_line 0 (join 44 s.terminals) in
    let b = print_line 1 (join 44 s.nonterminals) in
    let x = ended_by 10 (map f (take k s.rules)) in
    let y = ended_by 10 (map f s.rules) in
    omega (
      arith,
      length-append a (10 ∷ (b ++ 10 ∷ x)),
      length-append b (10 ∷ x),
      length-append a (10 ∷ (b ++ 10 ∷ y)),
      length-append b (10 ∷ y),
      ended_less f k s.rules,
    )

first_well : (k : ℕ) (s : Source) → WellNamedSource limits s → WellNamedSource limits (first_rules k s)
first_well k s w = record {
  named = w.named;
  once = w.once;
  terminals-most = w.terminals-most;
  nonterminals_least = w.nonterminals_least;
  nonterminals-most = w.nonterminals-most;
  fit = λ r m. w.fit r (mem_take k s.rules r m);
  short = omega (arith, w.short, printed_less k s);
}

-- ---- the last tests of a text that was read

-- the last tests of the rules that are kept are those of all: with more than a grammar has the answer is 7 either way
module _ (s : Source) where
  few-first : (rules : List Rule) → admit limits limits.max_rules [] 0 s.rules ≡ done rules → take kept_rules s.rules ≡ s.rules
  few-first rules e = let few = admit-few limits limits.max_rules [] 0 s.rules rules e in take_all kept_rules s.rules (omega arith)

  first_tests : last_tests limits (first_rules kept_rules s) ≡ last_tests limits s
  unfolding last_tests
  first_tests =
      ap (λ o. and_then o (λ rules. refuse_unless no_sentence 0 (has_sentence limits (grammar_of (first_rules kept_rules s))) (done (grammar_of (first_rules kept_rules s)))))
      (admit-first limits limits.max_rules [] 0 s.rules)
      ∙ go (admit limits limits.max_rules [] 0 s.rules) refl
    where
      go : (o : Answer (List Rule)) → admit limits limits.max_rules [] 0 s.rules ≡ o
          → and_then o (λ rules. refuse_unless no_sentence 0 (has_sentence limits (grammar_of (first_rules kept_rules s))) (done (grammar_of (first_rules kept_rules s))))
          ≡ and_then o (λ rules. refuse_unless no_sentence 0 (has_sentence limits (grammar_of s)) (done (grammar_of s)))
      go (refused c i) e = unfold and_then in refl
      go (done rules) e =
          unfold and_then in
          ap (λ (rs : List Rule). let G = grammar_of (record { terminals = s.terminals; nonterminals = s.nonterminals; rules = rs }) in
          refuse_unless no_sentence 0 (has_sentence limits G) (done G)) (few-first rules e)

  -- where they pass all rules are among the first kept_rules
  passed_first : (G : Grammar) → last_tests limits s ≡ done G → take kept_rules s.rules ≡ s.rules
  unfolding last_tests
  passed_first G e = let a = then-done _ _ _ e in few-first a.0 a.1

-- what is kept of a text that was read, and the answer of the tests of its table, which are those of the text
module _ (s : Source) (t n end : ℕ) (row : List ℕ) (p : t ≡ length s.terminals) (q : n ≡ length s.nonterminals)
    (used : end ≡ length (encode (take kept_rules s.rules))) (front : take end row ≡ encode (take kept_rules s.rules))
    (r : TextRead) (tests : Answer Grammar) (told : r ≡ table_read t n end tests)
    (said : (G : Grammar) → tests ≡ done G → (G ≡ grammar_of s) × (take kept_rules s.rules ≡ s.rules))
    (o : Answer Source) (whole : o ≡ and_then tests (λ G. done s)) (starts lengths : List ℕ) (names : NamesTold (done s) starts lengths) where
  last-told : Checks o r row starts lengths
  last-told = go tests refl
    where
      go : (x : Answer Grammar) → tests ≡ x → Checks o r row starts lengths
      go (refused c i) e =
          let x : o ≡ refused c i = whole ∙ then_stops _ _ c i e in
          record {
            answer = told ∙ ap (table_read t n end) e ∙ sym (ap text_read x);
            table = λ z w. no_answer (sym x ∙ w);
            names = record { starts-front = λ z w. no_answer (sym x ∙ w); lengths-front = λ z w. no_answer (sym x ∙ w) };
          }
      go (done G) e =
          let same = (said G e).0 in
          let all = (said G e).1 in
          let x : o ≡ done s = whole ∙ then-goes _ _ G e in
          let size : end ≡ length (encode s.rules) = used ∙ ap (λ rs. length (encode rs)) all in
          record {
            answer = told ∙ ap (table_read t n end) e
                ∙ (λ d. Read (p d) (q d) (size d) (state_count (same d).rules)) ∙ sym (ap text_read x);
            table = λ z w. subst (λ (z : Source). take (length (encode z.rules)) row ≡ encode z.rules) (done_inj (sym x ∙ w))
                (ap (λ m. take m row) (sym size) ∙ front ∙ ap encode all);
            names = subst (λ (o : Answer Source). NamesTold o starts lengths) (sym x) names;
          }

-- the two ways of testing a text that was read
module _ (text : List ℕ) (s : Source) (read : read_text limits text ≡ done s) where
  check-on : check_text limits text ≡ and_then (last_tests limits s) (λ G. done s)
  unfolding check_text
  check-on = then-goes (read_text limits text) (λ s. and_then (last_tests limits s) (λ G. done s)) s read

  -- the rules up to 8, as a grammar
  abbrev rule_tests : Answer Grammar
  rule_tests = and_then (admit limits limits.max_rules [] 0 s.rules) (λ rules. done (grammar_of s))

  module-on : check_module limits text ≡ and_then rule_tests (λ G. done s)
  unfolding check_module
  module-on = then-goes (read_text limits text) _ s read ∙ go (admit limits limits.max_rules [] 0 s.rules)
    where
      go : (o : Answer (List Rule)) → and_then o (λ rules. done s) ≡ and_then (and_then o (λ rules. done (grammar_of s))) (λ G. done s)
      go (refused c i) = unfold and_then in refl
      go (done rules) = unfold and_then in refl

  well : WellNamedSource limits (first_rules kept_rules s)
  well = first_well kept_rules s (read_well limits apart text s read)

  module _ (t n end : ℕ) (row : List ℕ) (p : t ≡ length s.terminals) (q : n ≡ length s.nonterminals)
      (front : take end row ≡ encode (take kept_rules s.rules)) where
    table_is : check_table limits t n (take end row) ≡ last_tests limits s
    table_is = (λ d. check_table limits (p d) (q d) (front d)) ∙ table_tests limits (first_rules kept_rules s) well ∙ first_tests s

    stored_is : stored_table limits t n (take end row) ≡ rule_tests
    stored_is =
        (λ d. stored_table limits (p d) (q d) (front d)) ∙ stored-admit limits (first_rules kept_rules s) well
        ∙ ap (λ o. and_then o (λ rules. done (record { terminals = length s.terminals; nonterminals = length s.nonterminals; rules = rules })))
        (admit-first limits limits.max_rules [] 0 s.rules)
        ∙ go (admit limits limits.max_rules [] 0 s.rules) refl
      where
        go : (o : Answer (List Rule)) → admit limits limits.max_rules [] 0 s.rules ≡ o
            → and_then o (λ rules. done (record { terminals = length s.terminals; nonterminals = length s.nonterminals; rules = rules }))
            ≡ and_then o (λ rules. done (grammar_of s))
        go (refused c i) e = unfold and_then in refl
        go (done rules) e =
            unfold and_then in
            ap (λ (rs : List Rule). done (record { terminals = length s.terminals; nonterminals = length s.nonterminals; rules = rs }))
            (admit-same limits limits.max_rules [] 0 s.rules rules e)

  -- where they pass all rules are among the first kept_rules
  rules-said : (G : Grammar) → rule_tests ≡ done G → (G ≡ grammar_of s) × (take kept_rules s.rules ≡ s.rules)
  rules-said G e = let a = then-done _ _ G e in (sym (done_inj a.2), few-first s a.0 a.1)

-- ---- refusals before the last tests

-- the rows of a text that does not pass need not have names
pub refused-names : (o : Answer Source) (c : Cause) (i : ℕ) (starts lengths : List ℕ) → o ≡ refused c i → NamesTold o starts lengths
refused-names o c i starts lengths e = record { starts-front = λ s w. no_answer (sym e ∙ w); lengths-front = λ s w. no_answer (sym e ∙ w) }

pub text-long : (text : List ℕ) → limits.max_text < length text → read_text limits text ≡ refused malformed 0
unfolding read_text
text-long text h = unless_fails malformed 0 (leb (length text) limits.max_text) (read_lines limits (split_on 10 text)) (lt-leb (length text) limits.max_text h)

module _ (text : List ℕ) (short : length text ≤ limits.max_text) where
  read-lines : read_text limits text ≡ read_lines limits (split_on 10 text)
  unfolding read_text
  read-lines = unless_holds malformed 0 (leb (length text) limits.max_text) (read_lines limits (split_on 10 text)) (le-leb (length text) limits.max_text short)

  pub lines-refused : (c : Cause) (i : ℕ) → read_lines limits (split_on 10 text) ≡ refused c i → read_text limits text ≡ refused c i
  lines-refused c i e = read-lines ∙ e

  -- ---- the rule lines, after both declaring lines

  module _ (a e b f t n : ℕ) (h : HeadsAt text a e b f t n) where
    pub rules-refused : (c : Cause) (i : ℕ)
        → rule_lines limits 3 (length (names_of (part a e text))) (names_of (part a e text) ++ names_of (part b f text)) (split_on 10 (drop (f + 1) text)) ≡ refused c i
        → read_text limits text ≡ refused c i
    rules-refused c i q = lines-refused c i (h.lines ∙ then_stops _ _ c i q)

    pub rules-read : (rules : List Rule)
        → rule_lines limits 3 (length (names_of (part a e text))) (names_of (part a e text) ++ names_of (part b f text)) (split_on 10 (drop (f + 1) text)) ≡ done rules
        → read_text limits text ≡ done (record { terminals = names_of (part a e text); nonterminals = names_of (part b f text); rules = rules })
    rules-read rules q = read-lines ∙ h.lines ∙ then-goes _ _ rules q

    -- the names of a text that is read
    pub heads_names : (s : Source) → read_text limits text ≡ done s
        → (s.terminals ≡ names_of (part a e text)) × (s.nonterminals ≡ names_of (part b f text))
    heads_names s q =
        let r = then-done _ _ s (sym h.lines ∙ sym read-lines ∙ q) in
        let x = done_inj r.2 in
        (sym (ap (λ (s : Source). s.terminals) x), sym (ap (λ (s : Source). s.nonterminals) x))

    -- their starts
    heads_places : starts_from a (names_of (part a e text)) ++ starts_from b (names_of (part b f text))
        ≡ starts_from (length (key 0) + 1) (names_of (part a e text))
        ++ starts_from (length (print_line 0 (join 44 (names_of (part a e text)))) + 1 + (length (key 1) + 1)) (names_of (part b f text))
    unfolding print_line
    heads_places =
        let v = part a e text in
        let l : length v ≡ e - a = length-take-le (e - a) (drop a text) (omega (arith, h.first-inside, h.second, h.second-inside, h.ends, length-drop a text)) in
        let m : length (key 0 ++ 61 ∷ join 44 (names_of v)) ≡ e
        = length-append (key 0) (61 ∷ join 44 (names_of v)) ∙ omega (arith, ap length (join_names v), h.first, h.first-inside) in
        let x : b ≡ length (key 0 ++ 61 ∷ join 44 (names_of v)) + 1 + (length (key 1) + 1) = h.second ∙ ap (λ m. m + 1 + (length (key 1) + 1)) (sym m) in
        ap₂ (λ x y. starts_from x (names_of v) ++ starts_from y (names_of (part b f text))) h.first x

    module _ (starts lengths : List ℕ) (s : Source) (q : read_text limits text ≡ done s) where
      count_is : length (symbol_names s) ≡ t + length (names_of (part b f text))
      count_is =
          let x = heads_names s q in
          length-append s.terminals s.nonterminals
          ∙ ap₂ (λ xs ys. length xs + length ys) x.0 x.1 ∙ ap (λ m. m + length (names_of (part b f text))) (sym h.terminals)

      pub starts-told : take (t + length (names_of (part b f text))) starts
          ≡ starts_from a (names_of (part a e text)) ++ starts_from b (names_of (part b f text))
          → take (length (symbol_names s)) starts ≡ name_starts s
      unfolding name_starts
      starts-told g =
          let x = heads_names s q in
          ap (λ m. take m starts) count_is ∙ g ∙ heads_places
          ∙ ap₂ (λ ts ns. starts_from (length (key 0) + 1) ts ++ starts_from (length (print_line 0 (join 44 ts)) + 1 + (length (key 1) + 1)) ns)
          (sym x.0) (sym x.1)

      pub lengths-told : take (t + length (names_of (part b f text))) lengths
          ≡ name_lengths (names_of (part a e text)) ++ name_lengths (names_of (part b f text))
          → take (length (symbol_names s)) lengths ≡ name_lengths (symbol_names s)
      lengths-told g =
          let x = heads_names s q in
          ap (λ m. take m lengths) count_is ∙ g ∙ sym (lengths_append (names_of (part a e text)) (names_of (part b f text)))
          ∙ ap₂ (λ ts ns. name_lengths (ts ++ ns)) (sym x.0) (sym x.1)

-- ---- from the table check's answer to the reader's

pub checked_refused : (t n end : ℕ) (o : Answer Grammar) (x : TableChecked) (c : Cause) (i : ℕ) → x ≡ table_checked o → x.verdict ≡ TableRefused c i
    → Refused c i ≡ table_read t n end o
checked_refused t n end (done G) x c i e v =
    let z : Passed ≡ TableRefused c i = sym (ap (λ (x : TableChecked). x.verdict) e) ∙ v in
    absurd (let y : ◌≡◌ {A = ℕ} 0 1 = cc z in omega arith)
checked_refused t n end (refused d j) x c i e v =
    let z : TableRefused d j ≡ TableRefused c i = sym (ap (λ (x : TableChecked). x.verdict) e) ∙ v in
    let p : c ≡ d = cc z in
    let q : i ≡ j = cc z in
    ap₂ (λ c i. Refused c i) p q

pub checked-passed : (t n end : ℕ) (o : Answer Grammar) (x : TableChecked) → x ≡ table_checked o → x.verdict ≡ Passed
    → Read t n end x.grammar.states ≡ table_read t n end o
unfolding record_of
checked-passed t n end (done G) x e v = ap (λ (x : TableChecked). Read t n end x.grammar.states) e
checked-passed t n end (refused d j) x e v =
    let z : TableRefused d j ≡ Passed = sym (ap (λ (x : TableChecked). x.verdict) e) ∙ v in
    absurd (let y : ◌≡◌ {A = ℕ} 0 1 = cc z in omega arith)

-- ---- the rule lines at the code's places

module _ (text : List ℕ) (from t n : ℕ) (starts lengths links row : List ℕ) (p : Ready text from t n starts lengths links row) where
  pub ready_rules : RulesReady text (take (t + n) starts) (take (t + n) lengths) links t row
  ready_rules = record {
    lexicon = p.lexicon;
    few = p.heads.terminals-most;
    most = omega (arith, length-take-le (t + n) starts p.starts-room, p.heads.nonterminals-most);
    enough = p.enough;
    short = p.short;
  }

  ready_lines : rule_lines limits 3 t (spelled text (take (t + n) starts) (take (t + n) lengths)) (split_on 10 (drop from text))
      ≡ rule_lines limits 3 (length (names_of (part p.a p.e text)))
      (names_of (part p.a p.e text) ++ names_of (part p.b p.f text)) (split_on 10 (drop (p.f + 1) text))
  ready_lines =
      let x = p.heads.terminals in
      let y = heads_spelled text p.a p.e p.b p.f t n p.heads starts lengths p.starts-front p.lengths-front in
      let z = p.begins in
      λ d. rule_lines limits 3 (x d) (y d) (split_on 10 (drop (z d) text))

  pub ready_refused : (c : Cause) (i : ℕ)
      → rule_lines limits 3 t (spelled text (take (t + n) starts) (take (t + n) lengths)) (split_on 10 (drop from text)) ≡ refused c i
      → read_text limits text ≡ refused c i
  ready_refused c i q = rules-refused text p.short p.a p.e p.b p.f t n p.heads c i (sym ready_lines ∙ q)

  pub ready_told : (row' : List ℕ) (end : ℕ)
      → RulesKept (rule_lines limits 3 t (spelled text (take (t + n) starts) (take (t + n) lengths)) (split_on 10 (drop from text))) row' end
      → TextRules text t n end row'
  ready_told row' end k =
      let h = p.heads in
      record {
        source = _;
        read = rules-read text p.short p.a p.e p.b p.f t n h k.rules (sym ready_lines ∙ k.read);
        terminals = h.terminals;
        nonterminals = h.nonterminals;
        used = k.used;
        front = k.front;
        inside = k.inside;
      }

-- what the answer of all rule lines tells
pub told-rules : (o : Answer (List Rule)) (row : List ℕ) (r : Kept) (end : ℕ) → r ≡ Entries end → RulesTold o row r → RulesKept o row end
told-rules o row r end e t = subst (λ (r : Kept). RulesTold o row r) e t

pub told_fault : (o : Answer (List Rule)) (row : List ℕ) (r : Kept) (c : Cause) (i : ℕ) → r ≡ Fault c i → RulesTold o row r → o ≡ refused c i
told_fault o row r c i e t = subst (λ (r : Kept). RulesTold o row r) e t

-- and of the two declaring lines
pub told_heads : (text starts lengths links : List ℕ) (r : Heads) (f t n : ℕ) → r ≡ H.Names f t n → HeadsTold text starts lengths links r
    → HeadsRead text starts lengths links f t n
told_heads text starts lengths links r f t n q h = subst (λ (r : Heads). HeadsTold text starts lengths links r) q h

pub told_headless : (text starts lengths links : List ℕ) (r : Heads) (c : Cause) (i : ℕ) → r ≡ H.Fault c i → HeadsTold text starts lengths links r
    → read_lines limits (split_on 10 text) ≡ refused c i
told_headless text starts lengths links r c i q h = subst (λ (r : Heads). HeadsTold text starts lengths links r) q h

-- the rows that the names' places were put into
module _ (text starts lengths links : List ℕ) (f t n : ℕ) (short : length text ≤ limits.max_text) (h : HeadsRead text starts lengths links f t n) where
  most : t + n ≤ smaller (length text) all_names
  most = smaller_in (length text) all_names (t + n) (heads_most text h.a h.e h.b f t n h.heads) (omega (arith, h.heads.terminals-most, h.heads.nonterminals-most))

  pub ready : (row : List ℕ) → smaller (length text) all_names ≤ length starts → smaller (length text) all_names ≤ length lengths
      → smaller (length text) kept_entries ≤ length row → Ready text (f + 1) t n starts lengths links row
  ready row p q z = record {
    a = h.a;
    e = h.e;
    b = h.b;
    f = f;
    heads = h.heads;
    begins = refl;
    short = short;
    starts-front = h.starts-front;
    lengths-front = h.lengths-front;
    starts-room = omega (arith, most);
    lengths-room = omega (arith, most);
    lexicon = h.tree;
    enough = z;
  }

  pub names-told : NamesTold (read_text limits text) starts lengths
  names-told = record {
    starts-front = λ s w. starts-told text short h.a h.e h.b f t n h.heads starts lengths s w
        (ap (λ m. take (t + m) starts) (sym h.heads.nonterminals) ∙ h.starts-front);
    lengths-front = λ s w. lengths-told text short h.a h.e h.b f t n h.heads starts lengths s w
        (ap (λ m. take (t + m) lengths) (sym h.heads.nonterminals) ∙ h.lengths-front);
  }

-- ---- the answer of the lines, and of the table check

pub kept-within : (text row : List ℕ) (k : TextKept) → LinesTold text row k → KeptWithin k row
kept-within text row (K.Fault c i) h = tt
kept-within text row (K.Rules t n end) h = h.inside

-- a fault of the lines is one of every way of testing
module _ (text row starts lengths : List ℕ) (names : NamesTold (read_text limits text) starts lengths) where
  fault_told : (o : Answer Source) (c : Cause) (i : ℕ) (r : TextRead) → o ≡ refused c i → r ≡ Refused c i → Checks o r row starts lengths
  fault_told o c i r h e = record { answer = e ∙ sym (ap text_read h); table = λ s w. no_answer (sym h ∙ w); names = refused-names o c i starts lengths h }

  -- a text that was read has these names
  read_names : (s : Source) → read_text limits text ≡ done s → NamesTold (done s) starts lengths
  read_names s e = subst (λ (o : Answer Source). NamesTold o starts lengths) e names

  pub checks : (k : TextKept) (r : TextRead) → LinesTold text row k → r ≡ kept_read k row → ChecksText text r row starts lengths
  unfolding check_text
  checks (K.Fault c i) r h e = fault_told _ c i r (then_stops _ _ c i h) e
  checks (K.Rules t n end) r h e =
      let s = h.source in
      last-told s t n end row h.terminals h.nonterminals h.used h.front r (last_tests limits s)
      (e ∙ ap (table_read t n end) (table_is text s h.read t n end row h.terminals h.nonterminals h.front))
      (λ G g. (passed-said limits s G g, passed_first s G g)) (check_text limits text) (check-on text s h.read) starts lengths (read_names s h.read)

  pub checks_module : (k : TextKept) (r : TextRead) → LinesTold text row k → r ≡ module_read k row → ChecksModule text r row starts lengths
  unfolding check_module
  checks_module (K.Fault c i) r h e = fault_told _ c i r (then_stops _ _ c i h) e
  checks_module (K.Rules t n end) r h e =
      let s = h.source in
      last-told s t n end row h.terminals h.nonterminals h.used h.front r (rule_tests text s h.read)
      (e ∙ ap (table_read t n end) (stored_is text s h.read t n end row h.terminals h.nonterminals h.front))
      (rules-said text s h.read) (check_module limits text) (module-on text s h.read) starts lengths (read_names s h.read)
