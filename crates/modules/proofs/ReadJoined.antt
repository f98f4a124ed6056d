-- What the reader gives for the joined text is the joined source: its lists, its rules, so its table. Assumes nothing.
use Prim.Native.Nat.{ℕ, zero, suc, ◌+◌, ◌≤◌, ◌<◌}
use mathlib.Core.Path.{◌≡◌, refl, ap, sym, subst, ◌∙◌}
use mathlib.Core.Bool.{true, false}
use mathlib.Core.List.{List, [], ◌∷◌, ◌++◌, map}
use native.Mathlib.Omega.{arith}
use borrow.Author.Tests.{not-true}
use lib.ListN.{length, get_or, drop}
use lib.Seq.{drop-append-add}
use Rattle.grammar.specs.Limits.{Limits}
use Rattle.grammar.specs.Refusal.{done}
use Rattle.grammar.proofs.Answers.{done_inj, unless_done, then-done}
use Rattle.text.specs.Pieces.{split_on, join, ended_by}
use Rattle.text.specs.Names.{all, is_name}
use Rattle.text.specs.Keys.{key_table, key_lengths, key}
use Rattle.text.specs.Read.{Source, symbol_names, names_of, read_text}
use Rattle.text.specs.Rules.{check_text, check_module}
use Rattle.text.specs.Print.{print_line, print_rule, printed}
use Rattle.text.proofs.Pieces.{other, all_append, all_cons, all-front, all_back, all_head, split_piece, join_free, split-join}
use Rattle.text.proofs.Names.{no_line-end, no_comma, names_free, name-size}
use Rattle.text.proofs.WellNamed.{WellNamedSource}
use Rattle.text.proofs.PrintRead.{read-front, read_length, read_well}
use Rattle.text.proofs.ReadPrinted.{read_print}
use Rattle.text.proofs.Admit.{text-checked}
use Rattle.modules.specs.Joined.{meet, joined_terminals, joined_nonterminals, joined, refuse_clash, join_texts}
use Rattle.modules.proofs.Named.{terminals-named, nonterminals-named, joined_once, rules_fit}

-- ---- declaring lines tell their names

free : (k : ℕ) → k < 2 → all (other 10) (key k) ≡ true
unfolding all key key_table key_lengths
free zero h = refl
free (suc zero) h = refl
free (suc (suc k)) h = absurd (omega arith)

pub again : (names : List (List ℕ)) → all is_name names ≡ true → names_of (join 44 names) ≡ names
unfolding names_of join
again [] g = refl
again (p ∷ ps) g = go p (name-size p (all_head is_name p ps g)).0 (split-join 44 p ps (names_free 44 (p ∷ ps) no_comma g))
  where
    go : (p : List ℕ) → 1 ≤ length p → split_on 44 (join 44 (p ∷ ps)) ≡ p ∷ ps → names_of (join 44 (p ∷ ps)) ≡ p ∷ ps
    go [] h e = absurd (omega arith)
    go (b ∷ p) h e = e

pub line_free : (k : ℕ) (names : List (List ℕ)) → k < 2 → all is_name names ≡ true → all (other 10) (print_line k (join 44 names)) ≡ true
unfolding print_line
line_free k names h g =
    all_append (other 10) (key k) (61 ∷ join 44 names) (free k h) (all_cons (other 10) 61 (join 44 names) refl (join_free 10 44 names refl (names_free 10 names no_line-end g)))

first_piece : List (List ℕ) → List ℕ
first_piece [] = []
first_piece (p ∷ ps) = p

other_pieces : List (List ℕ) → List (List ℕ)
other_pieces [] = []
other_pieces (p ∷ ps) = ps

-- two texts that begin with a line each
lines_apart : (p q a b : List ℕ) → all (other 10) p ≡ true → all (other 10) q ≡ true → p ++ 10 ∷ a ≡ q ++ 10 ∷ b → (p ≡ q) × (split_on 10 a ≡ split_on 10 b)
unfolding first_piece other_pieces
lines_apart p q a b h k e =
    let s : p ∷ split_on 10 a ≡ q ∷ split_on 10 b = sym (split_piece 10 p a h) ∙ ap (split_on 10) e ∙ split_piece 10 q b k in
    (ap first_piece s, ap other_pieces s)

-- a declaring line tells its names
line-names : (k : ℕ) (xs ys : List (List ℕ)) → all is_name xs ≡ true → all is_name ys ≡ true → print_line k (join 44 xs) ≡ print_line k (join 44 ys) → xs ≡ ys
unfolding print_line
line-names k xs ys g h e =
    sym (again xs g)
    ∙ ap names_of (sym (drop-append-add (key k) (61 ∷ join 44 xs) 1) ∙ ap (drop (length (key k) + 1)) e ∙ drop-append-add (key k) (61 ∷ join 44 ys) 1)
    ∙ again ys h

unfoldable pub rest : Limits → Source → List ℕ
rest L s = ended_by 10 (map (print_rule L (length s.terminals) (symbol_names s)) s.rules)

pub heads : (L : Limits) (s : Source) → printed L s ≡ print_line 0 (join 44 s.terminals) ++ 10 ∷ (print_line 1 (join 44 s.nonterminals) ++ 10 ∷ rest L s)
unfolding printed ended_by rest
heads L s = refl

-- a printed text that begins with the declaring lines of some lists is of these lists
same_lists : (L : Limits) (s r : Source) (more : List ℕ) → all is_name s.terminals ≡ true → all is_name s.nonterminals ≡ true → all is_name r.terminals ≡ true → all is_name r.nonterminals ≡ true
    → printed L r ≡ print_line 0 (join 44 s.terminals) ++ 10 ∷ (print_line 1 (join 44 s.nonterminals) ++ 10 ∷ more)
    → (s.terminals ≡ r.terminals) × (s.nonterminals ≡ r.nonterminals)
same_lists L s r more a b c d e =
    let u = sym e ∙ heads L r in
    let v = lines_apart _ _ _ _ (line_free 0 s.terminals (omega arith) a) (line_free 0 r.terminals (omega arith) c) u in
    let w : print_line 1 (join 44 s.nonterminals) ∷ split_on 10 more ≡ print_line 1 (join 44 r.nonterminals) ∷ split_on 10 (rest L r) =
    sym (split_piece 10 (print_line 1 (join 44 s.nonterminals)) more (line_free 1 s.nonterminals (omega arith) b))
    ∙ v.1 ∙ split_piece 10 (print_line 1 (join 44 r.nonterminals)) (rest L r) (line_free 1 r.nonterminals (omega arith) d) in
    (line-names 0 s.terminals r.terminals a c v.0, line-names 1 s.nonterminals r.nonterminals b d (first w))
  where
    first : {p q : List ℕ} {ps qs : List (List ℕ)} → p ∷ ps ≡ q ∷ qs → p ≡ q
    first e = ap (λ (l : List (List ℕ)). get_or l 0 []) e

module _ (L : Limits) (apart : L.max_terminals < L.nonterminal_base) where
  -- what the reader gives for the joined text of two well-named sources without a clash
  pub joined-read : (robot addon s : Source) → WellNamedSource L robot → WellNamedSource L addon
      → meet addon.terminals robot.nonterminals ≡ false → meet addon.nonterminals robot.terminals ≡ false
      → read_text L (printed L (joined L robot addon)) ≡ done s → s ≡ joined L robot addon
  unfolding joined
  joined-read robot addon s wr wm f g e =
      let J = joined L robot addon in
      let w = read_well L apart (printed L J) s e in
      let p = read-front L apart (printed L J) s e in
      let tn = terminals-named L robot addon wr wm f g in
      let nn = nonterminals-named L robot addon wr wm f g in
      let q = same_lists L s J p.0 (all-front is_name s.terminals s.nonterminals w.named) (all_back is_name s.terminals s.nonterminals w.named) tn nn p.1 in
      let ft : length (joined_terminals robot addon) ≤ L.max_terminals = subst (λ l. length l ≤ L.max_terminals) q.0 w.terminals-most in
      let well : WellNamedSource L J = record {
        named = all_append is_name (joined_terminals robot addon) (joined_nonterminals robot addon) tn nn;
        once = joined_once L robot addon wr wm f g;
        terminals-most = ft;
        nonterminals_least = subst (λ l. 1 ≤ length l) q.1 w.nonterminals_least;
        nonterminals-most = subst (λ l. length l ≤ L.max_nonterminals) q.1 w.nonterminals-most;
        fit = rules_fit L robot addon wr wm f g apart ft;
        short = subst (λ k. k ≤ L.max_text) (read_length L apart (printed L J) s e) w.short;
      } in
      done_inj (sym e ∙ read_print L apart J well)

  -- a module's text that passes says a well-named source
  pub module_read_lem : (text : List ℕ) (s : Source) → check_module L text ≡ done s → read_text L text ≡ done s
  unfolding check_module
  module_read_lem text s e =
      let a = then-done _ _ _ e in
      let b = then-done _ _ _ a.2 in
      a.1 ∙ b.2

  pub module_well : (text : List ℕ) (s : Source) → check_module L text ≡ done s → WellNamedSource L s
  module_well text s e = read_well L apart text s (module_read_lem text s e)

  -- the joined table is what the reader gives for the joined text
  pub joined_texts : (robot addon : List ℕ) (s : Source) → join_texts L robot addon ≡ done s
      → (r m : Source) × (check_text L robot ≡ done r) × (check_module L addon ≡ done m) × (check_text L (printed L (joined L r m)) ≡ done s) × (s ≡ joined L r m)
  unfolding join_texts check_module refuse_clash
  joined_texts robot addon s e =
      let a = then-done _ _ _ e in
      let b = then-done _ _ _ a.2 in
      let c = unless_done _ _ _ _ _ b.2 in
      let d = unless_done _ _ _ _ _ c.1 in
      let r = a.0 in
      let m = b.0 in (
        r,
        m,
        a.1,
        b.1,
        d.1,
        joined-read r m s (text-checked L apart robot r a.1).well (module_well addon m b.1)
            (not-true (meet m.terminals r.nonterminals) c.0) (not-true (meet m.nonterminals r.terminals) d.0)
            (text-checked L apart (printed L (joined L r m)) s d.1).read,
      )
