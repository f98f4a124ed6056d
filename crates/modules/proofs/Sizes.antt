-- The joined text is never longer than the reader takes, so it is refused for its counts, its rules or its states and nothing else.
-- What is answered after the two texts and 20. Assumes nothing.
use Prim.Native.Nat.{ℕ, zero, suc, ◌+◌, ◌*◌, ◌≤◌, ◌<◌}
use mathlib.Core.Path.{◌≡◌, refl, ap, sym, subst, ◌∙◌}
use mathlib.Core.Bool.{Bool, true, false, not}
use mathlib.Core.List.{List, [], ◌∷◌, ◌++◌, map}
use native.Mathlib.Omega.{arith}
use borrow.Author.Tests.{leb-true}
use lib.Dec.{leb}
use lib.ListN.{length, length-append, length-map}
use Rattle.grammar.specs.Basics.{choose}
use Rattle.grammar.specs.Limits.{Limits, limits}
use Rattle.grammar.specs.Grammar.{Rule, state_count}
use Rattle.grammar.specs.Table.{encode}
use Rattle.grammar.specs.Refusal.{done, refuse_unless, and_then, out_of_range, rule_repeated, too_many_states, kinds_clash}
use Rattle.grammar.specs.TableCheck.{is_among, check_table}
use Rattle.grammar.proofs.Answers.{no_answer, done_inj, unless_holds, unless_done, then-done, then-goes}
use Rattle.grammar.proofs.WellFormed.{states_snoc}
use Rattle.text.specs.Names.{any, same_name, is_name}
use Rattle.text.specs.Read.{Source}
use Rattle.text.specs.Rules.{admit, last_tests, check_text, check_module}
use Rattle.text.specs.Print.{printed}
use Rattle.text.proofs.Pieces.{all_append}
use Rattle.text.proofs.WellNamed.{WellNamedSource}
use Rattle.text.proofs.Sizes.{printed-most}
use Rattle.text.proofs.Admit.{admit-same, table_tests, text-checked}
use Rattle.modules.specs.Joined.{meet, added, added_rules, joined_terminals, joined_nonterminals, joined_code, joined_rule, joined, refuse_clash, join_texts}
use Rattle.modules.proofs.Named.{terminals-named, nonterminals-named}
use Rattle.modules.proofs.ReadJoined.{module_well}
use Rattle.modules.proofs.Answer.{joined_well, joined-checked}

-- rules that pass 7, 6, 8 have no more states than there may be
admit-states : (L : Limits) (m : ℕ) (earlier : List Rule) (at : ℕ) (rs out : List Rule) → state_count earlier ≤ L.max_states
    → admit L m earlier at rs ≡ done out → state_count out ≤ L.max_states
unfolding admit
admit-states L m earlier at [] out h e = subst (λ (rs : List Rule). state_count rs ≤ L.max_states) (done_inj e) h
admit-states L zero earlier at (r ∷ rs) out h e = no_answer e
admit-states L (suc m) earlier at (r ∷ rs) out h e =
    let a = unless_done rule_repeated at (not (is_among r earlier)) _ out e in
    let b = unless_done too_many_states at (leb (state_count earlier + (length r.right + 1)) L.max_states) _ out a.1 in
    admit-states L m (earlier ++ (r ∷ [])) (at + 2 + length r.right) rs out
    (omega (arith, states_snoc earlier r, leb-true (state_count earlier + (length r.right + 1)) L.max_states b.0)) b.1

states_append : (rs ss : List Rule) → state_count (rs ++ ss) + 4 ≡ state_count rs + state_count ss
unfolding state_count
states_append [] ss = omega arith
states_append (r ∷ rs) ss = omega (arith, states_append rs ss)

states-added : (rules xs : List Rule) → state_count (added_rules rules xs) ≤ state_count xs
unfolding state_count added_rules
states-added rules [] = omega arith
states-added rules (x ∷ xs) = go (is_among x rules) (states-added rules xs)
  where
    go : (c : Bool) → state_count (added_rules rules xs) ≤ state_count xs → state_count (choose c (added_rules rules xs) (x ∷ added_rules rules xs)) ≤ state_count xs + (length x.right + 1)
    go true h = omega arith
    go false h = omega arith

states-joined : (L : Limits) (robot addon : Source) (rs : List Rule) → state_count (map (joined_rule L robot addon) rs) ≡ state_count rs
unfolding state_count
states-joined L robot addon [] = refl
states-joined L robot addon (r ∷ rs) = omega (arith, states-joined L robot addon rs, length-map r.right (joined_code L robot addon))

added-few : (names xs : List (List ℕ)) → length (added names xs) ≤ length xs
unfolding added
added-few names [] = omega arith
added-few names (x ∷ xs) = go (any (same_name x) names) (added-few names xs)
  where
    go : (c : Bool) → length (added names xs) ≤ length xs → length (choose c (added names xs) (x ∷ added names xs)) ≤ suc (length xs)
    go true h = omega arith
    go false h = omega arith

-- limits with room for every joined text
abbrev pub TwiceWide : Limits → Type 0
TwiceWide L = 25 + 32 * (L.max_terminals + L.max_nonterminals) + 44 * L.max_states ≤ L.max_text + 88

pub twice-wide : TwiceWide limits
twice-wide = omega arith

module _ (L : Limits) (apart : L.max_terminals < L.nonterminal_base) (four : 4 ≤ L.max_states) (room : TwiceWide L) (robot addon : Source)
    (wr : WellNamedSource L robot) (wm : WellNamedSource L addon)
    (first : meet addon.terminals robot.nonterminals ≡ false) (second : meet addon.nonterminals robot.terminals ≡ false)
    (sr : state_count robot.rules ≤ L.max_states) (sm : state_count addon.rules ≤ L.max_states) where
  pub joined-short : length (printed L (joined L robot addon)) ≤ L.max_text
  unfolding joined
  joined-short =
      let rt = robot.terminals in
      let rn = robot.nonterminals in
      let mt = addon.terminals in
      let mn = addon.nonterminals in
      let more = map (joined_rule L robot addon) addon.rules in
      let p = printed-most L (joined L robot addon) (all_append is_name (joined_terminals robot addon) (joined_nonterminals robot addon)
      (terminals-named L robot addon wr wm first second) (nonterminals-named L robot addon wr wm first second)) in
      omega (
        arith,
        p,
        room,
        sr,
        sm,
        length-append (joined_terminals robot addon) (joined_nonterminals robot addon),
        length-append rt (added rt mt),
        length-append rn (added rn mn),
        added-few rt mt,
        added-few rn mn,
        wr.terminals-most,
        wr.nonterminals-most,
        wm.terminals-most,
        wm.nonterminals-most,
        states_append robot.rules (added_rules robot.rules more),
        states-added robot.rules more,
        states-joined L robot addon addon.rules,
      )

module _ (L : Limits) (apart : L.max_terminals < L.nonterminal_base) (four : 4 ≤ L.max_states) (room : TwiceWide L) where
  four_states : state_count [] ≤ L.max_states
  unfolding state_count
  four_states = four

  pub robot-states : (text : List ℕ) (s : Source) → check_text L text ≡ done s → state_count s.rules ≤ L.max_states
  unfolding check_text last_tests
  robot-states text s e =
      let a = then-done _ _ s e in
      let b = then-done _ _ s a.2 in
      let q : a.0 ≡ s = done_inj b.2 in
      let c = then-done _ _ b.0 b.1 in
      subst (λ (s : Source). state_count s.rules ≤ L.max_states) q
      (subst (λ (rs : List Rule). state_count rs ≤ L.max_states) (admit-same L L.max_rules [] 0 a.0.rules c.0 c.1)
      (admit-states L L.max_rules [] 0 a.0.rules c.0 four_states c.1))

  pub module_states : (text : List ℕ) (s : Source) → check_module L text ≡ done s → state_count s.rules ≤ L.max_states
  unfolding check_module
  module_states text s e =
      let a = then-done _ _ s e in
      let b = then-done _ _ s a.2 in
      subst (λ (s : Source). state_count s.rules ≤ L.max_states) (done_inj b.2)
      (subst (λ (rs : List Rule). state_count rs ≤ L.max_states) (admit-same L L.max_rules [] 0 a.0.rules b.0 b.1)
      (admit-states L L.max_rules [] 0 a.0.rules b.0 four_states b.1))

  -- after the two texts, 20: at 1, at 2
  pub join_clash : (robot addon : List ℕ) (r m : Source) → check_text L robot ≡ done r → check_module L addon ≡ done m
      → join_texts L robot addon ≡ refuse_clash r m (check_text L (printed L (joined L r m)))
  unfolding join_texts
  join_clash robot addon r m e f = then-goes (check_text L robot) _ r e ∙ then-goes (check_module L addon) _ m f

  -- then 1 at 1, 1 at 2, and the table check of the joined table
  pub join_goes : (robot addon : List ℕ) (r m : Source) → check_text L robot ≡ done r → check_module L addon ≡ done m
      → meet m.terminals r.nonterminals ≡ false → meet m.nonterminals r.terminals ≡ false
      → let tj = length (joined_terminals r m) in let nj = length (joined_nonterminals r m) in
      join_texts L robot addon ≡ refuse_unless out_of_range 1 (leb tj L.max_terminals) (refuse_unless out_of_range 2 (leb nj L.max_nonterminals)
      (and_then (check_table L tj nj (encode (joined L r m).rules)) (λ G. done (joined L r m))))
  unfolding refuse_clash
  join_goes robot addon r m e f h k =
      let wr = (text-checked L apart robot r e).well in
      let wm = module_well L apart addon m f in
      let short = joined-short L apart four room r m wr wm h k (robot-states robot r e) (module_states addon m f) in
      join_clash robot addon r m e f
      ∙ unless_holds kinds_clash 1 (not (meet m.terminals r.nonterminals)) _ (ap not h)
      ∙ unless_holds kinds_clash 2 (not (meet m.nonterminals r.terminals)) _ (ap not k)
      ∙ joined-checked L apart r m wr wm h k short
      ∙ go (leb (length (joined_terminals r m)) L.max_terminals) (leb (length (joined_nonterminals r m)) L.max_nonterminals) refl refl wr wm short
    where
      go : (a b : Bool) → leb (length (joined_terminals r m)) L.max_terminals ≡ a → leb (length (joined_nonterminals r m)) L.max_nonterminals ≡ b
          → WellNamedSource L r → WellNamedSource L m → length (printed L (joined L r m)) ≤ L.max_text
          → refuse_unless out_of_range 1 a (refuse_unless out_of_range 2 b (and_then (last_tests L (joined L r m)) (λ G. done (joined L r m))))
          ≡ refuse_unless out_of_range 1 a (refuse_unless out_of_range 2 b
          (and_then (check_table L (length (joined_terminals r m)) (length (joined_nonterminals r m)) (encode (joined L r m).rules)) (λ G. done (joined L r m))))
      go false b p q wr wm short = unfold refuse_unless in refl
      go true false p q wr wm short = unfold refuse_unless in refl
      go true true p q wr wm short =
          let w = joined_well L apart r m wr wm h k short (leb-true (length (joined_terminals r m)) L.max_terminals p) (leb-true (length (joined_nonterminals r m)) L.max_nonterminals q) in
          ap (λ o. refuse_unless out_of_range 1 true (refuse_unless out_of_range 2 true (and_then o (λ G. done (joined L r m))))) (sym (tests w))
        where
          tests : WellNamedSource L (joined L r m) → check_table L (length (joined_terminals r m)) (length (joined_nonterminals r m)) (encode (joined L r m).rules) ≡ last_tests L (joined L r m)
          tests w = unfold joined in table_tests L (joined L r m) w
