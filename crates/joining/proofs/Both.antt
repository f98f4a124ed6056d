-- Both texts in their rows: their names, what is asked before these are counted and before the rules are put, and the answer.
-- Assumes nothing.
use Prim.Native.Nat.{ℕ, zero, suc, ◌+◌, ◌≤◌, ◌<◌}
use mathlib.Core.Path.{◌≡◌, refl, ap, ap₂, sym, subst, ◌∙◌}
use mathlib.Core.Bool.{Bool, true, false, not}
use mathlib.Core.List.{List, [], ◌∷◌, ◌++◌, map}
use mathlib.Core.Logic.{◌⊎◌, inl, inr}
use native.Mathlib.Omega.{arith}
use borrow.Author.Tests.{ltb-true, ltb-false}
use lib.Dec.{ltb}
use lib.ListN.{length, take, drop, get_or, length-append, length-drop, get_or-eq_default}
use lib.Seq.{length-take-le, take_at, drop_at, get_or-take, get_or-drop}
use Rattle.grammar.specs.Basics.{over, Mem, here, there}
use Rattle.grammar.specs.Limits.{limits}
use Rattle.grammar.specs.Grammar.{Terminal, Nonterminal, Rule, Grammar, start}
use Rattle.grammar.specs.Table.{encode}
use Rattle.grammar.specs.Refusal.{Answer, done, refused, and_then, kinds_clash}
use Rattle.grammar.specs.TableCheck.{check_table}
use Rattle.grammar.proofs.Answers.{unless_fails, unless_holds}
use Rattle.text.specs.Names.{same_name, has_double}
use Rattle.text.specs.Read.{Source, symbol_names, read_text}
use Rattle.text.specs.Rules.{check_text, check_module}
use Rattle.text.specs.Print.{printed}
use Rattle.text.specs.Promise.{name_starts, name_lengths}
use Rattle.text.specs.Spelled.{spelled, Inside}
use Rattle.text.proofs.WellNamed.{RuleFits, WellNamedSource}
use Rattle.text.proofs.Names.{double_front}
use Rattle.text.proofs.Spans.{length-name-starts, length-lengths, read-spelled, read-inside}
use Rattle.text.proofs.RoundTrip.{apart}
use Rattle.lexicon.specs.Tree.{Spans}
use Rattle.modules.specs.Joined.{meet, added, added_rules, joined_terminals, joined_nonterminals, joined_rule, joined, refuse_clash, join_texts}
use Rattle.joining.specs.Numbers.{numbered}
use Rattle.joining.specs.Naming.{BothNamed, refuse_names, Recoding, RuleRecoding, recoded_rule}
use Rattle.modules.proofs.Meets.{double_back}
use Rattle.modules.proofs.Named.{covered, place-some}
use Rattle.joining.proofs.Loops.{length-numbered}
use Rattle.joining.proofs.Recoded.{number_at}
use Rattle.joining.proofs.RuleLaws.{rule-recoded}
use Rattle.modules.proofs.Sizes.{twice-wide, join_clash, join_goes}
use Rattle.joining.proofs.Refusals.{first_clash, second_clash, clear}

-- ---- parts of what is spelled

spelled_none : (text xs : List ℕ) → spelled text xs [] ≡ []
unfolding spelled
spelled_none text [] = refl
spelled_none text (x ∷ xs) = refl

spelled-take : (text xs cs : List ℕ) (t : ℕ) → spelled text (take t xs) (take t cs) ≡ take t (spelled text xs cs)
unfolding spelled
spelled-take text xs cs zero = refl
spelled-take text [] cs (suc t) = refl
spelled-take text (x ∷ xs) [] (suc t) = refl
spelled-take text (x ∷ xs) (c ∷ cs) (suc t) = ap (λ (l : List (List ℕ)). take c (drop x text) ∷ l) (spelled-take text xs cs t)

spelled-drop : (text xs cs : List ℕ) (t : ℕ) → spelled text (drop t xs) (drop t cs) ≡ drop t (spelled text xs cs)
unfolding spelled
spelled-drop text xs cs zero = refl
spelled-drop text [] cs (suc t) = refl
spelled-drop text (x ∷ xs) [] (suc t) = spelled_none text (drop t xs)
spelled-drop text (x ∷ xs) (c ∷ cs) (suc t) = spelled-drop text xs cs t

-- ---- the names of one text, of which t are terminals, at the front of the rows

module _ (text : List ℕ) (s : Source) (read : read_text limits text ≡ done s) (t n : ℕ) (p : length s.terminals ≡ t)
    (q : length s.nonterminals ≡ n) (xs cs : List ℕ) (starts-are : xs ≡ name_starts s) (lengths_are : cs ≡ name_lengths (symbol_names s)) where
  pub starts-length : length xs ≡ t + n
  starts-length =
      ap length starts-are ∙ length-name-starts s ∙ length-append s.terminals s.nonterminals ∙ ap₂ (λ (a b : ℕ). a + b) p q

  pub lengths-length : length cs ≡ t + n
  lengths-length =
      ap length lengths_are ∙ length-lengths (symbol_names s) ∙ length-append s.terminals s.nonterminals ∙ ap₂ (λ (a b : ℕ). a + b) p q

  spells : spelled text xs cs ≡ symbol_names s
  spells = ap₂ (spelled text) starts-are lengths_are ∙ read-spelled limits apart text s read

  inside : Inside text xs cs
  inside =
      subst (λ (z : List ℕ). Inside text z cs) (sym starts-are)
      (subst (Inside text (name_starts s)) (sym lengths_are) (read-inside limits apart text s read))

  pub terminals-spelled : spelled text (take t xs) (take t cs) ≡ s.terminals
  terminals-spelled = spelled-take text xs cs t ∙ ap (take t) spells ∙ take_at s.terminals s.nonterminals t p

  pub nonterminals-spelled : spelled text (drop t xs) (drop t cs) ≡ s.nonterminals
  nonterminals-spelled = spelled-drop text xs cs t ∙ ap (drop t) spells ∙ drop_at s.terminals s.nonterminals t p

  pub terminals_spans : Spans text (take t xs) (take t cs)
  terminals_spans = record {
    paired = length-take-le t xs (omega (arith, starts-length)) ∙ sym (length-take-le t cs (omega (arith, lengths-length)));
    inside = λ i h.
        let l : i < t = omega (arith, length-take-le t xs (omega (arith, starts-length))) in
        omega (arith, get_or-take t xs i 0 l, get_or-take t cs i 0 l, inside i (omega (arith, starts-length)));
  }

  pub nonterminals_spans : Spans text (drop t xs) (drop t cs)
  nonterminals_spans = record {
    paired = length-drop t xs ∙ omega (arith, starts-length, lengths-length, length-drop t cs);
    inside = λ i h. omega (arith, get_or-drop t xs i 0, get_or-drop t cs i 0, length-drop t xs, inside (t + i) (omega (arith, length-drop t xs)));
  }

-- ---- the names of both texts

module _ (robot addon : List ℕ) (r m : Source) (robot-read : read_text limits robot ≡ done r) (addon-read : read_text limits addon ≡ done m)
    (wr : WellNamedSource limits r) (wm : WellNamedSource limits m) (t n u v : ℕ)
    (rt : length r.terminals ≡ t) (rn : length r.nonterminals ≡ n) (mt : length m.terminals ≡ u) (mn : length m.nonterminals ≡ v)
    (xs cs ys ds : List ℕ) (xs_are : xs ≡ name_starts r) (cs_are : cs ≡ name_lengths (symbol_names r))
    (ys_are : ys ≡ name_starts m) (ds_are : ds ≡ name_lengths (symbol_names m))
    (terminals nonterminals : List ℕ) (first-room : limits.max_terminals ≤ length terminals) (second-room : limits.max_nonterminals ≤ length nonterminals) where
  pub both-named : BothNamed robot xs cs t addon ys ds u terminals nonterminals
  both-named =
      let a = starts-length robot r robot-read t n rt rn xs cs xs_are cs_are in
      let b = starts-length addon m addon-read u v mt mn ys ds ys_are ds_are in
      let x = length-take-le t xs (omega (arith, a)) in
      let y = length-take-le u ys (omega (arith, b)) in
      record {
        robot-terminals = omega (arith, a);
        addon-terminals = omega (arith, b);
        robot_paired = a ∙ sym (lengths-length robot r robot-read t n rt rn xs cs xs_are cs_are);
        addon_paired = b ∙ sym (lengths-length addon m addon-read u v mt mn ys ds ys_are ds_are);
        first = record {
          robot_spans = terminals_spans robot r robot-read t n rt rn xs cs xs_are cs_are;
          once = ap has_double (terminals-spelled robot r robot-read t n rt rn xs cs xs_are cs_are) ∙ double_front r.terminals r.nonterminals wr.once;
          robot-few = omega (arith, x, rt, wr.terminals-most);
          addon_spans = terminals_spans addon m addon-read u v mt mn ys ds ys_are ds_are;
          addon-few = omega (arith, y, mt, wm.terminals-most);
          other_spans = nonterminals_spans addon m addon-read u v mt mn ys ds ys_are ds_are;
          room = omega (arith, y, mt, wm.terminals-most, first-room);
        };
        second = record {
          robot_spans = nonterminals_spans robot r robot-read t n rt rn xs cs xs_are cs_are;
          once = ap has_double (nonterminals-spelled robot r robot-read t n rt rn xs cs xs_are cs_are) ∙ double_back r.terminals r.nonterminals wr.once;
          robot-few = omega (arith, a, length-drop t xs, rn, wr.nonterminals-most);
          addon_spans = nonterminals_spans addon m addon-read u v mt mn ys ds ys_are ds_are;
          addon-few = omega (arith, b, length-drop u ys, mn, wm.nonterminals-most);
          other_spans = terminals_spans addon m addon-read u v mt mn ys ds ys_are ds_are;
          room = omega (arith, b, length-drop u ys, mn, wm.nonterminals-most, second-room);
        };
      }

-- ---- the numbers counted off

-- they are below the number of joined names
numbers-below : (names xs : List (List ℕ)) (k : ℕ) → has_double xs ≡ false → length (names ++ added names xs) ≤ k → 0 < k
    → (i : ℕ) → get_or (numbered names (length names) xs) i 0 < k
numbers-below names xs k once h some i = go (ltb i (length xs)) refl
  where
    go : (b : Bool) → ltb i (length xs) ≡ b → get_or (numbered names (length names) xs) i 0 < k
    go true e =
        let l = ltb-true i (length xs) e in
        omega (arith, number_at names xs i once l, place-some (same_name (get_or xs i [])) (names ++ added names xs) (covered names xs i l))
    go false e =
        let l = ltb-false i (length xs) e in
        let z = get_or-eq_default (numbered names (length names) xs) 0 {n = i} (omega (arith, length-numbered names (length names) xs)) in
        omega (arith, z)

-- a row that begins with numbers
pub row-front : (names xs : List (List ℕ)) (old new : List ℕ) (u : ℕ) → length xs ≡ u → new ≡ over (numbered names (length names) xs) old
    → take u new ≡ numbered names (length names) xs
unfolding over
row-front names xs old new u e h =
    ap (take u) h ∙ take_at (numbered names (length names) xs) (drop (length (numbered names (length names) xs)) old) u (length-numbered names (length names) xs ∙ e)

-- ---- the rules

module _ (r m : Source) (wm : WellNamedSource limits m) (second : meet m.nonterminals r.terminals ≡ false)
    (few : length (joined_terminals r m) ≤ limits.max_terminals) (most : length (joined_nonterminals r m) ≤ limits.max_nonterminals) where
  abbrev T : List ℕ
  T = numbered r.terminals (length r.terminals) m.terminals

  abbrev N : List ℕ
  N = numbered r.nonterminals (length r.nonterminals) m.nonterminals

  code_recoding : (c : ℕ) → Terminal (length m.terminals) c ⊎ Nonterminal limits (length m.nonterminals) c → Recoding T N c
  code_recoding c h =
      let x = length-numbered r.terminals (length r.terminals) m.terminals in
      let y = length-numbered r.nonterminals (length r.nonterminals) m.nonterminals in
      record {
        low = low h;
        terminal = λ l. omega (arith, x, first h l);
        nonterminal = λ l. omega (arith, y, later h l);
        terminals-few = numbers-below r.terminals m.terminals limits.max_terminals (double_front m.terminals m.nonterminals wm.once) few (omega arith);
        nonterminals-few = numbers-below r.nonterminals m.nonterminals limits.max_nonterminals (double_back m.terminals m.nonterminals wm.once) most (omega arith);
      }
    where
      low : Terminal (length m.terminals) c ⊎ Nonterminal limits (length m.nonterminals) c → 1 ≤ c
      low (inl h) = h.0
      low (inr h) = omega (arith, h.0)

      first : Terminal (length m.terminals) c ⊎ Nonterminal limits (length m.nonterminals) c → c < start limits → c ≤ length m.terminals
      first (inl h) l = h.1
      first (inr h) l = absurd (omega (arith, h.0))

      later : Terminal (length m.terminals) c ⊎ Nonterminal limits (length m.nonterminals) c → start limits ≤ c → c < start limits + length m.nonterminals
      later (inl h) l = absurd (omega (arith, h.1, wm.terminals-most))
      later (inr h) l = h.1

  mem_at : (cs : List ℕ) (i : ℕ) → i < length cs → Mem (get_or cs i 0) cs
  mem_at [] i h = absurd (omega arith)
  mem_at (c ∷ cs) zero h = here
  mem_at (c ∷ cs) (suc i) h = there (mem_at cs i (omega arith))

  pub rules_recoding : (rule : Rule) → Mem rule m.rules → RuleRecoding T N rule
  rules_recoding rule h =
      let f = wm.fit rule h in
      record {
        left = code_recoding rule.left (inr f.left);
        right = λ i l. code_recoding (get_or rule.right i 0) (f.codes (get_or rule.right i 0) (mem_at rule.right i l));
        few = f.few;
      }

  -- recoded rules are the joined ones
  rules-joined : (rules : List Rule) → ((rule : Rule) → Mem rule rules → RuleFits limits (length m.terminals) (length m.nonterminals) rule)
      → map (recoded_rule limits T N) rules ≡ map (joined_rule limits r m) rules
  rules-joined [] f = refl
  rules-joined (x ∷ rules) f =
      ap₂ (λ (y : Rule) (l : List Rule). y ∷ l) (sym (rule-recoded limits r m wm second (omega (arith, wm.terminals-most)) x (f x here)))
      (rules-joined rules (λ y h. f y (there h)))

  pub rules_are : encode (r.rules ++ added_rules r.rules (map (recoded_rule limits T N) m.rules)) ≡ encode (joined limits r m).rules
  unfolding joined
  rules_are = ap (λ (l : List Rule). encode (r.rules ++ added_rules r.rules l)) (rules-joined m.rules wm.fit)

-- ---- the answer

abbrev pub joined_check : Source → Source → Answer Grammar
joined_check r m = check_table limits (length (joined_terminals r m)) (length (joined_nonterminals r m)) (encode (joined limits r m).rules)

module _ (r m : Source) (a : Answer Source) where
  clash_first : meet m.terminals r.nonterminals ≡ true → refuse_clash r m a ≡ refused kinds_clash 1
  unfolding refuse_clash
  clash_first p = unless_fails kinds_clash 1 (not (meet m.terminals r.nonterminals)) _ (ap not p)

  clash_second : meet m.terminals r.nonterminals ≡ false → meet m.nonterminals r.terminals ≡ true
      → refuse_clash r m a ≡ refused kinds_clash 2
  unfolding refuse_clash
  clash_second p q =
      unless_holds kinds_clash 1 (not (meet m.terminals r.nonterminals)) _ (ap not p)
      ∙ unless_fails kinds_clash 2 (not (meet m.nonterminals r.terminals)) _ (ap not q)

pub join-named : (robot addon : List ℕ) (r m : Source) → check_text limits robot ≡ done r → check_module limits addon ≡ done m
    → join_texts limits robot addon
    ≡ refuse_names r.terminals r.nonterminals m.terminals m.nonterminals (and_then (joined_check r m) (λ G. done (joined limits r m)))
join-named robot addon r m e f = go (meet m.terminals r.nonterminals) refl (meet m.nonterminals r.terminals) refl
  where
    four : 4 ≤ limits.max_states
    four = omega arith

    rest : Answer Source
    rest = check_text limits (printed limits (joined limits r m))

    clash : join_texts limits robot addon ≡ refuse_clash r m rest
    clash = join_clash limits apart four twice-wide robot addon r m e f

    go : (a : Bool) → meet m.terminals r.nonterminals ≡ a → (b : Bool) → meet m.nonterminals r.terminals ≡ b
        → join_texts limits robot addon
        ≡ refuse_names r.terminals r.nonterminals m.terminals m.nonterminals (and_then (joined_check r m) (λ G. done (joined limits r m)))
    go true p b q = clash ∙ clash_first r m rest p ∙ sym (first_clash r.terminals r.nonterminals m.terminals m.nonterminals _ p)
    go false p true q = clash ∙ clash_second r m rest p q ∙ sym (second_clash r.terminals r.nonterminals m.terminals m.nonterminals _ p q)
    go false p false q =
        join_goes limits apart four twice-wide robot addon r m e f p q
        ∙ sym (clear r.terminals r.nonterminals m.terminals m.nonterminals _ p q)
