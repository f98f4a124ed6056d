-- What the reader answers for the joined text: 1 at 1, 1 at 2, then the last tests of the joined rules; never 19. Assumes nothing.
use Prim.Native.Nat.{ℕ, ◌+◌, ◌≤◌, ◌<◌}
use mathlib.Core.Path.{◌≡◌, refl, ap, sym, subst, ◌∙◌}
use mathlib.Core.Bool.{Bool, true, false}
use mathlib.Core.List.{List, [], ◌∷◌, ◌++◌}
use native.Mathlib.Omega.{arith}
use borrow.Author.Tests.{le-leb, leb-true}
use lib.Dec.{leb}
use lib.ListN.{length, length-append}
use Rattle.grammar.specs.Limits.{Limits}
use Rattle.grammar.specs.Table.{encode, decode}
use Rattle.grammar.specs.Live.{HasSentence}
use Rattle.grammar.specs.Refusal.{Answer, done, refused, refuse_unless, and_then, out_of_range, malformed, no_sentence}
use Rattle.grammar.proofs.Answers.{unless_holds}
use Rattle.grammar.proofs.Rules.{decode-encode}
use Rattle.grammar.proofs.Sentence.{refuses_exactly}
use Rattle.text.specs.Pieces.{split_on, join}
use Rattle.text.specs.Names.{within, all, is_name, has_double}
use Rattle.text.specs.Keys.{key}
use Rattle.text.specs.Read.{Source, grammar_of, refuse_none, names_of, declaration, rule_lines, whole_line, read_lines, read_text}
use Rattle.text.specs.Rules.{last_tests, check_text}
use Rattle.text.specs.Print.{print_line, printed}
use Rattle.text.proofs.Pieces.{all_append, split_piece, split_pos}
use Rattle.text.proofs.Names.{key-value, double_front}
use Rattle.text.proofs.WellNamed.{WellNamedSource}
use Rattle.text.proofs.ReadPrinted.{read_print, whole-step}
use Rattle.text.proofs.Admit.{table_tests}
use Rattle.modules.specs.Joined.{meet, added, joined_terminals, joined_nonterminals, joined}
use Rattle.modules.proofs.Named.{terminals-named, nonterminals-named, joined_once, rules_fit}
use Rattle.modules.proofs.ReadJoined.{again, line_free, rest, heads}
use Rattle.modules.proofs.Trees.{trees-stay}

-- a declaring line of names without a double: only 1 is left
declares : (at k lo hi : ℕ) (earlier names : List (List ℕ)) → all is_name names ≡ true → has_double (earlier ++ names) ≡ false
    → declaration at k lo hi earlier (print_line k (join 44 names)) ≡ refuse_unless out_of_range at (within lo hi (length names)) (done names)
unfolding declaration print_line refuse_none
declares at k lo hi earlier names g o =
    let e : names_of (join 44 names) ≡ names = again names g in
    rw (key-value (key k) (join 44 names), e, g, o) (unfold refuse_unless in refl)

module _ (L : Limits) (ts ns : List (List ℕ)) (gt : all is_name ts ≡ true) (gn : all is_name ns ≡ true) (once : has_double (ts ++ ns) ≡ false) where
  -- what follows the first line, and the second
  abbrev after-second : List (List ℕ) → List (List ℕ) → List (List ℕ) → Answer Source
  after-second rest ts ns = and_then (rule_lines L 3 (length ts) (ts ++ ns) rest) (λ rs. done (record { terminals = ts; nonterminals = ns; rules = rs }))

  abbrev after_first : List (List ℕ) → List (List ℕ) → Answer Source
  after_first more ts = whole_line 2 more (λ second rest. and_then (declaration 2 1 1 L.max_nonterminals ts second) (λ ns. after-second rest ts ns))

  ends : (rest : List (List ℕ)) (b : Bool) → and_then (refuse_unless out_of_range 2 b (done ns)) (after-second rest ts) ≡ refuse_unless out_of_range 2 b (after-second rest ts ns)
  unfolding refuse_unless and_then
  ends rest true = refl
  ends rest false = refl

  starts : (more : List (List ℕ)) (o : Answer Source) (a : Bool) → after_first more ts ≡ o
      → and_then (refuse_unless out_of_range 1 a (done ts)) (after_first more) ≡ refuse_unless out_of_range 1 a o
  unfolding refuse_unless and_then
  starts more o true e = e
  starts more o false e = refl

  lines-answer : (p q : List ℕ) (rest : List (List ℕ)) → p ≡ print_line 0 (join 44 ts) → q ≡ print_line 1 (join 44 ns) → 0 < length rest
      → read_lines L (p ∷ q ∷ rest) ≡ refuse_unless out_of_range 1 (within 0 L.max_terminals (length ts))
      (refuse_unless out_of_range 2 (within 1 L.max_nonterminals (length ns)) (after-second rest ts ns))
  unfolding read_lines
  lines-answer p q rest e f l =
      whole-step 1 p (q ∷ rest) (λ first more. and_then (declaration 1 0 0 L.max_terminals [] first) (after_first more)) (omega arith)
      ∙ ap (λ (o : Answer (List (List ℕ))). and_then o (after_first (q ∷ rest)))
      (ap (declaration 1 0 0 L.max_terminals []) e ∙ declares 1 0 0 L.max_terminals [] ts gt (double_front ts ns once))
      ∙ starts (q ∷ rest) _ (within 0 L.max_terminals (length ts))
      (whole-step 2 q rest (λ second rest. and_then (declaration 2 1 1 L.max_nonterminals ts second) (λ ns. after-second rest ts ns)) l
      ∙ ap (λ (o : Answer (List (List ℕ))). and_then o (after-second rest ts))
      (ap (declaration 2 1 1 L.max_nonterminals ts) f ∙ declares 2 1 1 L.max_nonterminals ts ns gn once)
      ∙ ends rest (within 1 L.max_nonterminals (length ns)))

  -- a text with these two declaring lines
  heads_answer : (text more : List ℕ) → text ≡ print_line 0 (join 44 ts) ++ 10 ∷ (print_line 1 (join 44 ns) ++ 10 ∷ more) → length text ≤ L.max_text
      → read_text L text ≡ refuse_unless out_of_range 1 (within 0 L.max_terminals (length ts))
      (refuse_unless out_of_range 2 (within 1 L.max_nonterminals (length ns)) (after-second (split_on 10 more) ts ns))
  unfolding read_text
  heads_answer text more e h =
      let p = print_line 0 (join 44 ts) in
      let q = print_line 1 (join 44 ns) in
      unless_holds malformed 0 (leb (length text) L.max_text) (read_lines L (split_on 10 text)) (le-leb (length text) L.max_text h)
      ∙ ap (read_lines L) (ap (split_on 10) e ∙ split_piece 10 p (q ++ 10 ∷ more) (line_free 0 ts (omega arith) gt)
      ∙ ap (λ (ps : List (List ℕ)). p ∷ ps) (split_piece 10 q more (line_free 1 ns (omega arith) gn)))
      ∙ lines-answer p q (split_on 10 more) refl refl (split_pos 10 more)

module _ (L : Limits) (apart : L.max_terminals < L.nonterminal_base) (robot addon : Source) (wr : WellNamedSource L robot) (wm : WellNamedSource L addon)
    (first : meet addon.terminals robot.nonterminals ≡ false) (second : meet addon.nonterminals robot.terminals ≡ false)
    (short : length (printed L (joined L robot addon)) ≤ L.max_text) where
  abbrev J : Source
  J = joined L robot addon

  abbrev tj : ℕ
  tj = length (joined_terminals robot addon)

  abbrev nj : ℕ
  nj = length (joined_nonterminals robot addon)

  least : 1 ≤ nj
  least = omega (arith, wr.nonterminals_least, length-append robot.nonterminals (added robot.nonterminals addon.nonterminals))

  -- within the limits the joined source is well named
  pub joined_well : tj ≤ L.max_terminals → nj ≤ L.max_nonterminals → WellNamedSource L J
  unfolding joined
  joined_well a b = record {
    named = all_append is_name (joined_terminals robot addon) (joined_nonterminals robot addon) (terminals-named L robot addon wr wm first second) (nonterminals-named L robot addon wr wm first second);
    once = joined_once L robot addon wr wm first second;
    terminals-most = a;
    nonterminals_least = least;
    nonterminals-most = b;
    fit = rules_fit L robot addon wr wm first second apart a;
    short = short;
  }

  -- what the reader gives for the joined text: 1 at 1, 1 at 2, else the joined source
  pub joined-answer : read_text L (printed L J) ≡ refuse_unless out_of_range 1 (leb tj L.max_terminals) (refuse_unless out_of_range 2 (leb nj L.max_nonterminals) (done J))
  joined-answer =
      let gt = terminals-named L robot addon wr wm first second in
      let gn = nonterminals-named L robot addon wr wm first second in
      let o = joined_once L robot addon wr wm first second in
      let a = heads_answer L (joined_terminals robot addon) (joined_nonterminals robot addon) gt gn o (printed L J) (rest L J) (unfold joined in heads L J) short in
      a ∙ go _ (leb tj L.max_terminals) (leb nj L.max_nonterminals) refl refl a
    where
      go : (more : Answer Source) (a b : Bool) → leb tj L.max_terminals ≡ a → leb nj L.max_nonterminals ≡ b
          → read_text L (printed L J) ≡ refuse_unless out_of_range 1 (within 0 L.max_terminals tj) (refuse_unless out_of_range 2 (within 1 L.max_nonterminals nj) more)
          → refuse_unless out_of_range 1 (within 0 L.max_terminals tj) (refuse_unless out_of_range 2 (within 1 L.max_nonterminals nj) more)
          ≡ refuse_unless out_of_range 1 a (refuse_unless out_of_range 2 b (done J))
      go more false b e f q = rw (le-leb 0 tj (omega arith), e) (unfold refuse_unless in refl)
      go more true false e f q = rw (le-leb 0 tj (omega arith), e, le-leb 1 nj least, f) (unfold refuse_unless in refl)
      go more true true e f q = sym q ∙ read_print L apart J (joined_well (leb-true tj L.max_terminals e) (leb-true nj L.max_nonterminals f)) ∙ (unfold refuse_unless in refl)

  -- the reader's answer for the joined text
  pub joined-checked : check_text L (printed L J)
      ≡ refuse_unless out_of_range 1 (leb tj L.max_terminals) (refuse_unless out_of_range 2 (leb nj L.max_nonterminals) (and_then (last_tests L J) (λ G. done J)))
  unfolding check_text
  joined-checked = ap (λ (o : Answer Source). and_then o (λ s. and_then (last_tests L s) (λ G. done s))) joined-answer ∙ go (leb tj L.max_terminals) (leb nj L.max_nonterminals)
    where
      go : (a b : Bool) → and_then (refuse_unless out_of_range 1 a (refuse_unless out_of_range 2 b (done J))) (λ s. and_then (last_tests L s) (λ G. done s))
          ≡ refuse_unless out_of_range 1 a (refuse_unless out_of_range 2 b (and_then (last_tests L J) (λ G. done J)))
      go false b = unfold refuse_unless and_then in refl
      go true false = unfold refuse_unless and_then in refl
      go true true = unfold refuse_unless and_then in refl

  -- the joined grammar has a sentence where the robot's has one, so the last tests never give 19
  pub never_19 : 4 ≤ L.max_states → WellNamedSource L J → HasSentence L (grammar_of robot) → (at : ℕ) → ¬ (last_tests L J ≡ refused no_sentence at)
  never_19 four w h at e =
      let c = (refuses_exactly L four apart (length J.terminals) (length J.nonterminals) (encode J.rules) at).0 (table_tests L J w ∙ e) in
      let G = c.1.0 in
      let T = c.1.1 in
      let same : G ≡ grammar_of J = λ i. record {
        terminals = T.terminals i;
        nonterminals = T.nonterminals i;
        rules = (sym (decode-encode G.rules) ∙ ap decode (sym T.table) ∙ decode-encode J.rules) i;
      } in
      c.1.2 (subst (HasSentence L) (sym same) (h.0, h.1, trees-stay L robot addon h.0 h.1 h.2))
