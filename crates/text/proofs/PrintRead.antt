-- Text read and printed again is the text in declared spelling, and what a successful read says of its source.
-- Over any limits that keep terminals below the first nonterminal.
-- Assumes nothing.
use Prim.Native.Nat.{ℕ, suc, ◌+◌, ◌≤◌, ◌<◌}
use mathlib.Core.Path.{◌≡◌, refl, ap, ap₂, sym, subst, ◌∙◌}
use mathlib.Core.List.{List, [], ◌∷◌, ◌++◌, append-nil, map}
use mathlib.Core.Bool.{true, false}
use mathlib.Core.Logic.{◌⊎◌}
use mathlib.Core.Option.{Option, none, some}
use native.Mathlib.Omega.{arith}
use borrow.Author.Tests.{eqb-true, leb-true, not-true}
use lib.ListN.{length, length-append, length-map}
use Rattle.grammar.specs.Basics.{Mem}
use Rattle.grammar.specs.Limits.{Limits}
use Rattle.grammar.specs.Grammar.{Terminal, Nonterminal, Rule, start}
use Rattle.grammar.specs.Refusal.{Answer, done}
use Rattle.grammar.proofs.Answers.{and_both, no_answer, done_inj, unless_done, then-done}
use Rattle.grammar.specs.declared.Cause.{Cause}
use Rattle.text.specs.Pieces.{split_on, led_by, join, ended_by}
use Rattle.text.specs.Names.{all, is_name, has_double}
use Rattle.text.specs.Keys.{key_table, key_lengths, key, value_of}
use Rattle.text.specs.Read.{Source, symbol_names, refuse_none, names_of, declaration, Sides, sides_of, number_of}
use Rattle.text.specs.Read.{is_known, code_of, rule_of, rule_line, rule_lines, whole_line, read_lines, read_text}
use Rattle.text.specs.Spelling.{spelling, spelled_sides, or_line, value_sides, spelled_line, spelled_lines, spelled_text}
use Rattle.text.specs.Print.{print_line, name_of, print_rule, printed}
use Rattle.text.proofs.Pieces.{join-split, all_head, all_tail, all_append}
use Rattle.text.proofs.Names.{within_both, known_number, code-left, code-right, known-name, value-key}
use Rattle.text.proofs.Case.{text-length}
use Rattle.text.proofs.WellNamed.{RuleFits, WellNamedSource, mem_each, mem_none}

-- ---- what a result says of its parts

-- there is a value, and the rest has the result
pub none_done : {A B : Type 0} (c : Cause) (p : ℕ) (m : Option A) (go : A → Answer B) (b : B) → refuse_none c p m go ≡ done b
    → (a : A) × (m ≡ some a) × (go a ≡ done b)
unfolding refuse_none
none_done c p none go b e = no_answer e
none_done c p (some a) go b e = (a, refl, e)

-- the line is there and another piece follows it
pub whole-done : {B : Type 0} (at : ℕ) (ps : List (List ℕ)) (go : List ℕ → List (List ℕ) → Answer B) (b : B)
    → whole_line at ps go ≡ done b
    → (p q : List ℕ) × (qs : List (List ℕ)) × (ps ≡ p ∷ q ∷ qs) × (go p (q ∷ qs) ≡ done b)
unfolding whole_line
whole-done at [] go b e = no_answer e
whole-done at (p ∷ []) go b e = no_answer e
whole-done at (p ∷ q ∷ qs) go b e = (p, q, qs, refl, e)

-- ---- a declaring line

-- a value is its names with commas between
pub join_names : (v : List ℕ) → join 44 (names_of v) ≡ v
unfolding names_of join
join_names [] = refl
join_names (b ∷ v) = join-split 44 (b ∷ v)

-- what a declaring line says
pub record Declared (k lo hi : ℕ) (earlier : List (List ℕ)) (line : List ℕ) (names : List (List ℕ)) : Type 0 where
  pub spelled : line ≡ print_line k (join 44 names)
  pub named : all is_name names ≡ true
  pub once : has_double (earlier ++ names) ≡ false
  pub least : lo ≤ length names
  pub most : length names ≤ hi

-- a declaring line that passes says that
pub declared : (at k lo hi : ℕ) (earlier : List (List ℕ)) (line : List ℕ) (names : List (List ℕ))
    → declaration at k lo hi earlier line ≡ done names → Declared k lo hi earlier line names
unfolding declaration print_line
declared at k lo hi earlier line names h =
    let r = none_done _ _ _ _ _ h in
    let g = unless_done _ _ _ _ _ r.2 in
    let o = unless_done _ _ _ _ _ g.1 in
    let n = unless_done _ _ _ _ _ o.1 in
    let v = r.0 in
    subst (Declared k lo hi earlier line) (done_inj n.1)
    (record {
      spelled = value-key (key k) line v r.1 ∙ ap (λ w. key k ++ 61 ∷ w) (sym (join_names v));
      named = g.0;
      once = not-true (has_double (earlier ++ names_of v)) o.0;
      least = (within_both lo hi (length (names_of v)) n.0).0;
      most = (within_both lo hi (length (names_of v)) n.0).1;
    })

-- ---- a rule's line

line-none : (names : List (List ℕ)) → spelled_line names [] ≡ []
unfolding spelled_line value_of key key_table key_lengths
line-none names = refl

empty_list : (p : List ℕ) → length p ≡ 0 → p ≡ []
empty_list [] h = refl
empty_list (b ∷ p) h = absurd (omega arith)

module _ (L : Limits) where
  -- what a rule's line says
  pub record RuleRead (t : ℕ) (names : List (List ℕ)) (line : List ℕ) (r : Rule) : Type 0 where
    pub v : List ℕ
    pub s : Sides
    pub value : value_of (key 2) line ≡ some v
    pub sides : sides_of (split_on 58 v) ≡ some s
    pub head-known : is_known t names s.head ≡ true
    pub body-known : all (is_known 0 names) s.body ≡ true
    pub few : length s.body ≤ L.max_length
    pub made : rule_of L t names s ≡ r

  -- a rule's line that passes says that
  pub rule-read : (at t : ℕ) (names : List (List ℕ)) (line : List ℕ) (r : Rule) → rule_line L at t names line ≡ done r
      → RuleRead t names line r
  unfolding rule_line
  rule-read at t names line r d =
      let v = none_done _ _ _ _ _ d in
      let s = none_done _ _ _ _ _ v.2 in
      let g = unless_done _ _ _ _ _ s.2 in
      let k = unless_done _ _ _ _ _ g.1 in
      let m = unless_done _ _ _ _ _ k.1 in
      let w = and_both (is_known t names s.0.head) (all (is_known 0 names) s.0.body) k.0 in
      record {
        v = v.0;
        s = s.0;
        value = v.1;
        sides = s.1;
        head-known = w.0;
        body-known = w.1;
        few = leb-true (length s.0.body) L.max_length m.0;
        made = done_inj m.1;
      }

  -- what the rules' lines say
  pub record RulesRead (t n : ℕ) (names ps : List (List ℕ)) (rs : List Rule) : Type 0 where
    pub spelled : join 10 (map (spelled_line names) ps) ≡ ended_by 10 (map (print_rule L t names) rs)
    pub fit : (r : Rule) → Mem r rs → RuleFits L t n r

  module _ (t : ℕ) (apart : t < start L) (names : List (List ℕ)) where
    names-back : (xs : List (List ℕ)) → all (is_known 0 names) xs ≡ true
        → map (name_of L t names) (map (λ x. code_of L t (number_of names x)) xs) ≡ map (spelling names) xs
    names-back [] e = refl
    names-back (x ∷ xs) e =
        ap₂ (λ w ws. w ∷ ws) (known-name L t 0 names x apart (all_head (is_known 0 names) x xs e))
        (names-back xs (all_tail (is_known 0 names) x xs e))

    rule_print : (s : Sides) → is_known t names s.head ≡ true → all (is_known 0 names) s.body ≡ true
        → print_rule L t names (rule_of L t names s) ≡ spelled_sides names s
    unfolding print_rule rule_of print_line
    rule_print s h b = rw (known-name L t t names s.head apart h, names-back s.body b)

    -- a rule's line, its names as they are declared, is the printed rule
    pub rule-spelled : (line : List ℕ) (r : Rule) → RuleRead t names line r → spelled_line names line ≡ print_rule L t names r
    unfolding spelled_line
    rule-spelled line r d =
        ap (λ (o : Option (List ℕ)). or_line line names (value_sides o)) d.value ∙ ap (or_line line names) d.sides
        ∙ sym (rule_print d.s d.head-known d.body-known) ∙ ap (print_rule L t names) d.made

    codes_fit : (n : ℕ) → length names ≡ t + n → (xs : List (List ℕ)) → all (is_known 0 names) xs ≡ true
        → (c : ℕ) → Mem c (map (λ x. code_of L t (number_of names x)) xs) → Terminal t c ⊎ Nonterminal L n c
    codes_fit n e [] k c m = mem_none m
    codes_fit n e (x ∷ xs) k c m =
        let i = number_of names x in
        let h = (known_number 0 names x (all_head (is_known 0 names) x xs k)).1 in
        mem_each (λ c. Terminal t c ⊎ Nonterminal L n c) (code_of L t i) (map (λ x. code_of L t (number_of names x)) xs)
        (code-right L t apart n i (omega arith)) (codes_fit n e xs (all_tail (is_known 0 names) x xs k)) c m

    -- its rule fits
    pub rule_fits : (n : ℕ) → length names ≡ t + n → (line : List ℕ) (r : Rule) → RuleRead t names line r → RuleFits L t n r
    unfolding rule_of
    rule_fits n e line r d =
        let i = number_of names d.s.head in
        let h = known_number t names d.s.head d.head-known in
        let l : t ≤ i = h.0 in
        let k : i < length names = h.1 in
        let f = d.few in
        let z = length-map d.s.body (λ x. code_of L t (number_of names x)) in
        subst (RuleFits L t n) d.made
        (record {
          left = code-left L t apart n i l (omega arith);
          codes = codes_fit n e d.s.body d.body-known;
          few = omega arith;
        })

    -- ---- all lines

    -- the rules' lines are the printed rules, and the rules fit
    pub rules-read : (n : ℕ) → length names ≡ t + n → (at : ℕ) (ps : List (List ℕ)) (rs : List Rule)
        → rule_lines L at t names ps ≡ done rs → RulesRead t n names ps rs
    unfolding rule_lines join led_by ended_by
    rules-read n e at [] rs d = no_answer d
    rules-read n e at (p ∷ []) rs d =
        let u = unless_done _ _ _ _ _ d in
        let q : p ≡ [] = empty_list p (eqb-true (length p) 0 u.0) in
        subst (RulesRead t n names (p ∷ [])) (done_inj u.1)
        (record {
          spelled = append-nil (spelled_line names p) ∙ ap (spelled_line names) q ∙ line-none names;
          fit = λ r m. mem_none m;
        })
    rules-read n e at (p ∷ q ∷ qs) rs d =
        let a = then-done _ _ _ d in
        let b = then-done _ _ _ a.2 in
        let r = a.0 in
        let x = rule-read at t names p r a.1 in
        let y = rules-read n e (suc at) (q ∷ qs) b.0 b.1 in
        subst (RulesRead t n names (p ∷ q ∷ qs)) (done_inj b.2)
        (record {
          spelled = ap (λ w. w ++ 10 ∷ join 10 (map (spelled_line names) (q ∷ qs))) (rule-spelled p r x)
              ∙ ap (λ w. print_rule L t names r ++ 10 ∷ w) y.spelled;
          fit = mem_each (RuleFits L t n) r b.0 (rule_fits n e p r x) y.fit;
        })

  -- what the lines of a text say
  pub record LinesRead (ps : List (List ℕ)) (s : Source) : Type 0 where
    pub first : List ℕ
    pub second : List ℕ
    pub third : List ℕ
    pub rest : List (List ℕ)
    pub at : ps ≡ first ∷ second ∷ third ∷ rest
    pub ts : Declared 0 0 L.max_terminals [] first s.terminals
    pub ns : Declared 1 1 L.max_nonterminals s.terminals second s.nonterminals
    pub rs : rule_lines L 3 (length s.terminals) (symbol_names s) (third ∷ rest) ≡ done s.rules

  -- lines that pass say that
  pub lines-read : (ps : List (List ℕ)) (s : Source) → read_lines L ps ≡ done s → LinesRead ps s
  unfolding read_lines
  lines-read ps s d =
      let l1 = whole-done _ _ _ _ d in
      let ts = then-done _ _ _ l1.4 in
      let l2 = whole-done _ _ _ _ ts.2 in
      let ns = then-done _ _ _ l2.4 in
      let rs = then-done _ _ _ ns.2 in
      subst (LinesRead ps) (done_inj rs.2)
      (record {
        first = l1.0;
        second = l2.0;
        third = l2.1;
        rest = l2.2;
        at = l1.3 ∙ ap (λ w. l1.0 ∷ w) l2.3;
        ts = declared 1 0 0 L.max_terminals [] l1.0 ts.0 ts.1;
        ns = declared 2 1 1 L.max_nonterminals ts.0 l2.0 ns.0 ns.1;
        rs = rs.1;
      })

module _ (L : Limits) (apart : L.max_terminals < L.nonterminal_base) where
  lines-rules : (ps : List (List ℕ)) (s : Source) (d : LinesRead L ps s)
      → RulesRead L (length s.terminals) (length s.nonterminals) (symbol_names s) (d.third ∷ d.rest) s.rules
  lines-rules ps s d =
      let h : length s.terminals ≤ L.max_terminals = d.ts.most in
      rules-read L (length s.terminals) (omega arith) (symbol_names s) (length s.nonterminals)
      (length-append s.terminals s.nonterminals) 3 (d.third ∷ d.rest) s.rules d.rs

  lines-spelled : (ps : List (List ℕ)) (s : Source) → LinesRead L ps s → join 10 (spelled_lines (symbol_names s) ps) ≡ printed L s
  unfolding printed ended_by join led_by spelled_lines
  lines-spelled ps s d =
      ap (λ qs. join 10 (spelled_lines (symbol_names s) qs)) d.at
      ∙ ap₂ (λ p q. p ++ 10 ∷ (q ++ 10 ∷ join 10 (map (spelled_line (symbol_names s)) (d.third ∷ d.rest))))
      d.ts.spelled d.ns.spelled
      ∙ ap (λ w. print_line 0 (join 44 s.terminals) ++ 10 ∷ (print_line 1 (join 44 s.nonterminals) ++ 10 ∷ w))
      (lines-rules ps s d).spelled

  -- text read and printed again is the text with each use in its declared spelling
  pub print_read : (text : List ℕ) (s : Source) → read_text L text ≡ done s → printed L s ≡ spelled_text (symbol_names s) text
  unfolding read_text spelled_text
  print_read text s d =
      let r = unless_done _ _ _ _ _ d in
      sym (lines-spelled (split_on 10 text) s (lines-read L (split_on 10 text) s r.1))

  -- and so as long as the text
  pub read_length : (text : List ℕ) (s : Source) → read_text L text ≡ done s → length (printed L s) ≡ length text
  read_length text s d = ap length (print_read text s d) ∙ text-length (symbol_names s) text

  -- its two declaring lines stand in front
  pub read-front : (text : List ℕ) (s : Source) → read_text L text ≡ done s
      → (rest : List ℕ)
      × (text ≡ print_line 0 (join 44 s.terminals) ++ 10 ∷ (print_line 1 (join 44 s.nonterminals) ++ 10 ∷ rest))
  unfolding read_text join led_by
  read-front text s d =
      let r = unless_done _ _ _ _ _ d in
      let l = lines-read L (split_on 10 text) s r.1 in (
        join 10 (l.third ∷ l.rest),
        sym (join-split 10 text) ∙ ap (join 10) l.at
            ∙ ap₂ (λ p q. p ++ 10 ∷ (q ++ 10 ∷ join 10 (l.third ∷ l.rest))) l.ts.spelled l.ns.spelled,
      )

  -- a source that was read is well named, its rules fit, and its text is not too long
  pub read_well : (text : List ℕ) (s : Source) → read_text L text ≡ done s → WellNamedSource L s
  unfolding read_text
  read_well text s d =
      let r = unless_done _ _ _ _ _ d in
      let l = lines-read L (split_on 10 text) s r.1 in
      record {
        named = all_append is_name s.terminals s.nonterminals l.ts.named l.ns.named;
        once = l.ns.once;
        terminals-most = l.ts.most;
        nonterminals_least = l.ns.least;
        nonterminals-most = l.ns.most;
        fit = (lines-rules (split_on 10 text) s l).fit;
        short = subst (λ n. n ≤ L.max_text) (sym (read_length text s d)) (leb-true (length text) L.max_text r.0);
      }
