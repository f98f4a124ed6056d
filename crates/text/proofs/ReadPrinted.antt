-- A well-named source, printed and read, is the same source; so a text in declared spelling says what the text said.
-- Over any limits that keep terminals below the first nonterminal.
-- Assumes nothing.
use Prim.Native.Nat.{ℕ, zero, suc, ◌+◌, ◌≤◌, ◌<◌}
use mathlib.Core.Path.{◌≡◌, refl, ap, ap₂, sym, ◌∙◌}
use mathlib.Core.List.{List, [], ◌∷◌, ◌++◌, map}
use mathlib.Core.Bool.{true, false}
use mathlib.Core.Logic.{◌⊎◌}
use mathlib.Core.Option.{some}
use native.Mathlib.Omega.{arith}
use borrow.Author.Tests.{le-leb}
use lib.ListN.{length, get_or, length-append, length-map}
use Rattle.grammar.specs.Basics.{Mem, here, there}
use Rattle.grammar.specs.Limits.{Limits}
use Rattle.grammar.specs.Grammar.{Terminal, Nonterminal, Rule, start}
use Rattle.grammar.specs.Refusal.{Answer, done, refuse_unless, and_then}
use Rattle.text.specs.Pieces.{split_on, led_by, join, ended_by}
use Rattle.text.specs.Names.{all, is_name, has_double}
use Rattle.text.specs.Keys.{key_table, key_lengths, key}
use Rattle.text.specs.Read.{Source, symbol_names, refuse_none, names_of, declaration, body_of, sides_of, number_of}
use Rattle.text.specs.Read.{is_known, code_of, symbol_of, rule_of, rule_line, rule_lines, whole_line, read_lines, read_text}
use Rattle.text.specs.Spelling.{spelled_text}
use Rattle.text.specs.Print.{print_line, name_of, print_rule, printed}
use Rattle.text.proofs.Pieces.{other, split_piece, split_free, split-join, split-ended, led_free, join_free, all_none}
use Rattle.text.proofs.Pieces.{all_head, all_cons, all_append, all-front, all_back, all-at}
use Rattle.text.proofs.Names.{both-within, name-size, name_free, names_free, no_line-end, no_space, no_comma, no_colon}
use Rattle.text.proofs.Names.{double_front, place-again, number_known, Numbered, left_number, right_number, key-value}
use Rattle.text.proofs.WellNamed.{RuleFits, WellNamedSource}
use Rattle.text.proofs.PrintRead.{print_read, read_well}

-- ---- a declaring line

names-again : (names : List (List ℕ)) → all is_name names ≡ true → names_of (join 44 names) ≡ names
unfolding names_of join
names-again [] h = refl
names-again (p ∷ ps) h =
    go p (name-size p (all_head is_name p ps h)).0 (split-join 44 p ps (names_free 44 (p ∷ ps) no_comma h))
  where
    go : (p : List ℕ) → 1 ≤ length p → split_on 44 (join 44 (p ∷ ps)) ≡ p ∷ ps → names_of (join 44 (p ∷ ps)) ≡ p ∷ ps
    go [] l e = absurd (omega arith)
    go (b ∷ p) l e = e

declared-again : (at k lo hi : ℕ) (earlier names : List (List ℕ)) → all is_name names ≡ true
    → has_double (earlier ++ names) ≡ false
    → lo ≤ length names → length names ≤ hi → declaration at k lo hi earlier (print_line k (join 44 names)) ≡ done names
unfolding declaration print_line refuse_none refuse_unless
declared-again at k lo hi earlier names g o l h =
    rw (key-value (key k) (join 44 names), names-again names g, g, o, both-within lo hi (length names) l h)

-- ---- a rule's line

sides-again : (l : List ℕ) (names : List (List ℕ)) → is_name l ≡ true → all is_name names ≡ true
    → sides_of (split_on 58 (l ++ 58 ∷ led_by 32 names)) ≡ some (record { head = l; body = names })
unfolding sides_of body_of
sides-again l names g h =
    rw (
      split_piece 58 l (led_by 32 names) (name_free 58 l no_colon g),
      split_free 58 (led_by 32 names) (led_free 58 32 names refl (names_free 58 names no_colon h)),
      spaces,
    )
  where
    spaces : split_on 32 (led_by 32 names) ≡ [] ∷ names
    spaces = unfold join in split-join 32 [] names
        (all_cons (all (other 32)) [] names (all_none (other 32)) (names_free 32 names no_space h))

module _ (L : Limits) (t n : ℕ) (apart : t < start L) (names : List (List ℕ)) (size : length names ≡ t + n)
    (named : all is_name names ≡ true) (once : has_double names ≡ false) where
  -- a declared code's name is a name, known, and found at the code's number
  record NameAgain (from c : ℕ) : Type 0 where
    good : is_name (name_of L t names c) ≡ true
    known : is_known from names (name_of L t names c) ≡ true
    again : code_of L t (number_of names (name_of L t names c)) ≡ c

  name-again : (from c : ℕ) → Numbered L t n from c → NameAgain from c
  unfolding name_of
  name-again from c d =
      let i = symbol_of L t c in
      let l = d.low in
      let h = d.high in
      let x = get_or names i [] in
      let e : number_of names x ≡ i = unfold number_of in place-again names i once (omega arith) in
      record {
        good = all-at is_name names i [] named (omega arith);
        known = number_known from names x (omega arith) (omega arith);
        again = ap (code_of L t) e ∙ d.again;
      }

  record NamesAgain (cs : List ℕ) : Type 0 where
    good : all is_name (map (name_of L t names) cs) ≡ true
    known : all (is_known 0 names) (map (name_of L t names) cs) ≡ true
    again : map (λ x. code_of L t (number_of names x)) (map (name_of L t names) cs) ≡ cs

  codes-again : (cs : List ℕ) → ((x : ℕ) → Mem x cs → Terminal t x ⊎ Nonterminal L n x) → NamesAgain cs
  codes-again [] f = record { good = all_none is_name; known = all_none (is_known 0 names); again = refl }
  codes-again (c ∷ cs) f =
      let a = name-again 0 c (right_number L t apart n c (f c here)) in
      let b = codes-again cs (λ x m. f x (there m)) in
      record {
        good = all_cons is_name (name_of L t names c) (map (name_of L t names) cs) a.good b.good;
        known = all_cons (is_known 0 names) (name_of L t names c) (map (name_of L t names) cs) a.known b.known;
        again = ap₂ (λ x xs. x ∷ xs) a.again b.again;
      }

  rule-again : (at : ℕ) (r : Rule) → RuleFits L t n r → rule_line L at t names (print_rule L t names r) ≡ done r
  unfolding rule_line print_rule print_line refuse_none refuse_unless rule_of
  rule-again at r f =
      let l = name-again t r.left (left_number L t apart n r.left f.left) in
      let cs = codes-again r.right f.codes in
      let m : length (map (name_of L t names) r.right) ≡ length r.right = length-map r.right (name_of L t names) in
      rw (
        key-value (key 2) (name_of L t names r.left ++ 58 ∷ led_by 32 (map (name_of L t names) r.right)),
        sides-again (name_of L t names r.left) (map (name_of L t names) r.right) l.good cs.good,
        l.good,
        cs.good,
        l.known,
        cs.known,
        m,
        le-leb (length r.right) L.max_length f.few,
        l.again,
        cs.again,
      )

-- ---- lines

key_free : (k : ℕ) → k < 3 → all (other 10) (key k) ≡ true
unfolding all key key_table key_lengths
key_free zero h = refl
key_free (suc zero) h = refl
key_free (suc (suc zero)) h = refl
key_free (suc (suc (suc k))) h = absurd (omega arith)

line_free : (k : ℕ) (v : List ℕ) → k < 3 → all (other 10) v ≡ true → all (other 10) (print_line k v) ≡ true
unfolding print_line
line_free k v h e = all_append (other 10) (key k) (61 ∷ v) (key_free k h) (all_cons (other 10) 61 v refl e)

declaring_free : (k : ℕ) (names : List (List ℕ)) → k < 3 → all is_name names ≡ true
    → all (other 10) (print_line k (join 44 names)) ≡ true
declaring_free k names h g = line_free k (join 44 names) h (join_free 10 44 names refl (names_free 10 names no_line-end g))

more-lines : (ps : List (List ℕ)) → 0 < length (ps ++ ([] ∷ []))
more-lines [] = omega arith
more-lines (p ∷ ps) = omega arith

rules-step : (L : Limits) (at t : ℕ) (names : List (List ℕ)) (p : List ℕ) (qs : List (List ℕ)) → 0 < length qs
    → rule_lines L at t names (p ∷ qs)
    ≡ and_then (rule_line L at t names p) (λ r. and_then (rule_lines L (suc at) t names qs) (λ rs. done (r ∷ rs)))
unfolding rule_lines
rules-step L at t names p [] h = absurd (omega arith)
rules-step L at t names p (q ∷ qs) h = refl

-- a whole line goes on
pub whole-step : {B : Type 0} (at : ℕ) (p : List ℕ) (qs : List (List ℕ)) (go : List ℕ → List (List ℕ) → Answer B) → 0 < length qs
    → whole_line at (p ∷ qs) go ≡ go p qs
unfolding whole_line
whole-step at p [] go h = absurd (omega arith)
whole-step at p (q ∷ qs) go h = refl

module _ (L : Limits) (t n : ℕ) (apart : t < start L) (names : List (List ℕ)) (size : length names ≡ t + n)
    (named : all is_name names ≡ true) (once : has_double names ≡ false) where
  rule_free : (r : Rule) → RuleFits L t n r → all (other 10) (print_rule L t names r) ≡ true
  unfolding print_rule
  rule_free r f =
      let x = name_of L t names r.left in
      let xs = map (name_of L t names) r.right in
      let l = name-again L t n apart names size named once t r.left (left_number L t apart n r.left f.left) in
      let cs = codes-again L t n apart names size named once r.right f.codes in
      line_free 2 (x ++ 58 ∷ led_by 32 xs) (omega arith)
      (all_append (other 10) x (58 ∷ led_by 32 xs) (name_free 10 x no_line-end l.good)
      (all_cons (other 10) 58 (led_by 32 xs) refl (led_free 10 32 xs refl (names_free 10 xs no_line-end cs.good))))

  rules_free : (rs : List Rule) → ((r : Rule) → Mem r rs → RuleFits L t n r)
      → all (all (other 10)) (map (print_rule L t names) rs) ≡ true
  rules_free [] f = all_none (all (other 10))
  rules_free (r ∷ rs) f =
      all_cons (all (other 10)) (print_rule L t names r) (map (print_rule L t names) rs) (rule_free r (f r here))
      (rules_free rs (λ r m. f r (there m)))

  rules-again : (at : ℕ) (rs : List Rule) → ((r : Rule) → Mem r rs → RuleFits L t n r)
      → rule_lines L at t names (map (print_rule L t names) rs ++ ([] ∷ [])) ≡ done rs
  unfolding rule_lines refuse_unless and_then
  rules-again at [] f = refl
  rules-again at (r ∷ rs) f =
      let ps = map (print_rule L t names) rs in
      rules-step L at t names (print_rule L t names r) (ps ++ ([] ∷ [])) (more-lines ps)
      ∙ rw (rule-again L t n apart names size named once at r (f r here), rules-again (suc at) rs (λ r m. f r (there m)))

module _ (L : Limits) (apart : L.max_terminals < L.nonterminal_base) where
  -- a well-named source printed and read is the same source
  pub read_print : (s : Source) → WellNamedSource L s → read_text L (printed L s) ≡ done s
  unfolding read_text read_lines printed refuse_unless and_then
  read_print s w =
      let ts = s.terminals in
      let ns = s.nonterminals in
      let t = length ts in
      let first = print_line 0 (join 44 ts) in
      let second = print_line 1 (join 44 ns) in
      let rs = map (print_rule L t (ts ++ ns)) s.rules in
      let m : t ≤ L.max_terminals = w.terminals-most in
      let a : t < start L = omega arith in
      let size = length-append ts ns in
      let gt : all is_name ts ≡ true = all-front is_name ts ns w.named in
      let gn : all is_name ns ≡ true = all_back is_name ts ns w.named in
      let free : all (all (other 10)) (first ∷ second ∷ rs) ≡ true
      = all_cons (all (other 10)) first (second ∷ rs) (declaring_free 0 ts (omega arith) gt)
      (all_cons (all (other 10)) second rs (declaring_free 1 ns (omega arith) gn)
      (rules_free L t (length ns) a (ts ++ ns) size w.named w.once s.rules w.fit)) in
      let h : 0 < length (rs ++ ([] ∷ [])) = more-lines rs in
      rw (
        le-leb (length (ended_by 10 (first ∷ second ∷ rs))) L.max_text w.short,
        split-ended 10 (first ∷ second ∷ rs) free,
        whole-step 1 first (second ∷ (rs ++ ([] ∷ []))) _ (omega arith),
        declared-again 1 0 0 L.max_terminals [] ts gt (double_front ts ns w.once) (omega arith) m,
        whole-step 2 second (rs ++ ([] ∷ [])) _ h,
        declared-again 2 1 1 L.max_nonterminals ts ns gn w.once w.nonterminals_least w.nonterminals-most,
        rules-again L t (length ns) a (ts ++ ns) size w.named w.once 3 s.rules w.fit,
      )

  -- in declared spelling a text says what it said
  pub read_again : (text : List ℕ) (s : Source) → read_text L text ≡ done s
      → read_text L (spelled_text (symbol_names s) text) ≡ done s
  read_again text s e = ap (read_text L) (sym (print_read L apart text s e)) ∙ read_print s (read_well L apart text s e)
