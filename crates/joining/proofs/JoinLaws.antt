-- Two texts that were read, from their rows to the answer of the join. Assumes nothing.
use Prim.Native.Nat.{ℕ, ◌+◌, ◌≤◌}
use mathlib.Core.Path.{◌≡◌, refl, ap, ap₂, sym, subst, ◌∙◌}
use mathlib.Core.List.{List, ◌++◌, map}
use native.Mathlib.Omega.{arith}
use lib.ListN.{length, take, drop}
use lib.Seq.{length-take-le}
use Rattle.grammar.specs.Limits.{limits}
use Rattle.grammar.specs.Grammar.{Grammar, state_count}
use Rattle.grammar.specs.Table.{encode}
use Rattle.grammar.specs.Refusal.{Answer, done, refused, and_then}
use Rattle.grammar.specs.TableCheck.{check_table}
use Rattle.grammar.proofs.Answers.{done_inj, then-done, then-goes, then_stops}
use Rattle.grammar.specs.declared.Cause.{Cause}
use Rattle.text.specs.Read.{Source, symbol_names, grammar_of, read_text}
use Rattle.text.specs.Rules.{last_tests, check_text, check_module}
use Rattle.text.specs.Promise.{name_starts, name_lengths}
use Rattle.text.specs.Spelled.{spelled}
use Rattle.text.specs.declared.TextRead.{TextRead}
use Rattle.text.specs.declared.TextRead.TheVariants.{Read, Refused}
use Rattle.text.proofs.WellNamed.{WellNamedSource}
use Rattle.text.proofs.Promises.{ReadAs, read_as, refuses_as}
use Rattle.text.proofs.Admit.{text-checked}
use Rattle.text.proofs.Enough.{entries-states}
use Rattle.text.proofs.RoundTrip.{apart}
use Rattle.text_read.specs.Texts.{table_read, ChecksText, ChecksModule}
use Rattle.text_read.proofs.Whole.{admit-few}
use Rattle.text_read.proofs.Written as written
use Rattle.modules.specs.Joined.{added_rules, joined_terminals, joined_nonterminals, joined, join_texts}
use Rattle.joining.specs.Numbers.{numbered}
use Rattle.joining.specs.Naming.{BothNamed, NamesCounted, CountsTold, RulesReady, RulesPut, recoded_rule}
use Rattle.joining.specs.Joins.{JoinedHeld, BothRead}
use Rattle.joining.specs.declared.Counts.{Counts}
use Rattle.joining.specs.declared.Counts.TheVariants.{Names, Fault}
use Rattle.modules.proofs.ReadJoined.{module_read_lem, module_well, joined_texts}
use Rattle.modules.proofs.Sizes.{twice-wide, robot-states, module_states}
use Rattle.joining.proofs.Refusals.{names_pass, counts_are}
use Rattle.joining.proofs.Both.{terminals-spelled, nonterminals-spelled, both-named, row-front, rules_recoding, rules_are, joined_check, join-named}

four : 4 ≤ limits.max_states
four = omega arith

-- ---- texts that pass have few rules

robot-rules : (text : List ℕ) (s : Source) → check_text limits text ≡ done s → length s.rules ≤ limits.max_rules
unfolding check_text last_tests
robot-rules text s e =
    let a = then-done _ _ s e in
    let b = then-done _ _ s a.2 in
    let c = then-done _ _ b.0 b.1 in
    subst (λ (s : Source). length s.rules ≤ limits.max_rules) (done_inj b.2) (admit-few limits limits.max_rules _ 0 a.0.rules c.0 c.1)

module-rules : (text : List ℕ) (s : Source) → check_module limits text ≡ done s → length s.rules ≤ limits.max_rules
unfolding check_module
module-rules text s e =
    let a = then-done _ _ s e in
    let b = then-done _ _ s a.2 in
    subst (λ (s : Source). length s.rules ≤ limits.max_rules) (done_inj b.2) (admit-few limits limits.max_rules _ 0 a.0.rules b.0 b.1)

-- ---- what the last tests tell

pub table-refused : (t n end : ℕ) (o : Answer Grammar) (x : TextRead) (c : Cause) (i : ℕ) → x ≡ table_read t n end o → x ≡ Refused c i → o ≡ refused c i
table-refused t n end (done G) x c i e f = absurd (let z : Read t n end (state_count G.rules) ≡ Refused c i = sym e ∙ f in let y : ◌≡◌ {A = ℕ} 0 1 = cc z in omega arith)
table-refused t n end (refused d j) x c i e f =
    let z : Refused d j ≡ Refused c i = sym e ∙ f in
    let p : d ≡ c = cc z in
    let q : j ≡ i = cc z in
    ap₂ (λ (c : Cause) (i : ℕ). refused c i) p q

pub record TablePassed (o : Answer Grammar) (end p q : ℕ) : Type 0 where
  pub grammar : Grammar
  pub is : o ≡ done grammar
  pub entries : p ≡ end
  pub states : q ≡ state_count grammar.rules

table-passed : (t n end : ℕ) (o : Answer Grammar) (x : TextRead) (a b p q : ℕ) → x ≡ table_read t n end o → x ≡ Read a b p q → TablePassed o end p q
table-passed t n end (done G) x a b p q e f =
    let z : Read t n end (state_count G.rules) ≡ Read a b p q = sym e ∙ f in
    let i : p ≡ end = cc z in
    let j : q ≡ state_count G.rules = cc z in
    record { grammar = G; is = refl; entries = i; states = j }
table-passed t n end (refused c i) x a b p q e f = absurd (let z : Refused c i ≡ Read a b p q = sym e ∙ f in let y : ◌≡◌ {A = ℕ} 0 1 = cc z in omega arith)

-- the table of texts that are joined passes
joined_passes : (robot addon : List ℕ) (r m : Source) → join_texts limits robot addon ≡ done (joined limits r m)
    → joined_check r m ≡ done (grammar_of (joined limits r m))
unfolding joined
joined_passes robot addon r m e =
    let y = joined_texts limits apart robot addon (joined limits r m) e in
    (text-checked limits apart _ (joined limits r m) y.4).table

-- ---- both texts

module _ {robot addon : List ℕ} {t n e u v d : ℕ} {row starts lengths table firsts sizes terminals nonterminals : List ℕ}
    (h : BothRead robot addon t n e u v d row starts lengths table firsts sizes terminals nonterminals) where
  abbrev pub rk : ReadAs (check_text limits robot) t n e h.q
  rk = written.known (check_text limits robot) row starts lengths (Read t n e h.q) h.robot-read t n e h.q refl

  abbrev pub mk : ReadAs (check_module limits addon) u v d h.z
  mk = written.known (check_module limits addon) table firsts sizes (Read u v d h.z) h.addon-read u v d h.z refl

  abbrev pub rs : Source
  rs = rk.source

  abbrev pub ms : Source
  ms = mk.source

  robot-read : read_text limits robot ≡ done rs
  robot-read = (text-checked limits apart robot rs rk.whole).read

  addon-read : read_text limits addon ≡ done ms
  addon-read = module_read_lem limits apart addon ms mk.whole

  wr : WellNamedSource limits rs
  wr = (text-checked limits apart robot rs rk.whole).well

  wm : WellNamedSource limits ms
  wm = module_well limits apart addon ms mk.whole

  -- the rows hold what is kept
  pub robot-names_fit : (t + n ≤ length starts) × (t + n ≤ length lengths)
  robot-names_fit = (
    written.starts-kept (check_text limits robot) row starts lengths (Read t n e h.q) h.robot-read t n e h.q refl,
    written.lengths-kept (check_text limits robot) row starts lengths (Read t n e h.q) h.robot-read t n e h.q refl,
  )

  pub addon-names_fit : (u + v ≤ length firsts) × (u + v ≤ length sizes)
  addon-names_fit = (
    written.starts-kept (check_module limits addon) table firsts sizes (Read u v d h.z) h.addon-read u v d h.z refl,
    written.lengths-kept (check_module limits addon) table firsts sizes (Read u v d h.z) h.addon-read u v d h.z refl,
  )

  pub addon-table_fits : d ≤ length table
  addon-table_fits = written.entries-kept (check_module limits addon) table firsts sizes (Read u v d h.z) h.addon-read u v d h.z refl

  pub names-few : (t ≤ limits.max_terminals) × (n ≤ limits.max_nonterminals) × (u ≤ limits.max_terminals) × (v ≤ limits.max_nonterminals)
  names-few = (
    omega (arith, rk.terminals, wr.terminals-most),
    omega (arith, rk.nonterminals, wr.nonterminals-most),
    omega (arith, mk.terminals, wm.terminals-most),
    omega (arith, mk.nonterminals, wm.nonterminals-most),
  )

  pub numbers_fit : (u ≤ length terminals) × (v ≤ length nonterminals)
  numbers_fit = (omega (arith, names-few.2, h.rows.terminals-room), omega (arith, names-few.3, h.rows.nonterminals-room))

  -- names
  abbrev pub xs : List ℕ
  xs = take (t + n) starts

  abbrev pub cs : List ℕ
  cs = take (t + n) lengths

  abbrev pub ys : List ℕ
  ys = take (u + v) firsts

  abbrev pub ds : List ℕ
  ds = take (u + v) sizes

  xs_are : xs ≡ name_starts rs
  xs_are = written.starts-front (check_text limits robot) row starts lengths (Read t n e h.q) h.robot-read t n e h.q refl

  cs_are : cs ≡ name_lengths (symbol_names rs)
  cs_are = written.lengths-front (check_text limits robot) row starts lengths (Read t n e h.q) h.robot-read t n e h.q refl

  ys_are : ys ≡ name_starts ms
  ys_are = written.starts-front (check_module limits addon) table firsts sizes (Read u v d h.z) h.addon-read u v d h.z refl

  ds_are : ds ≡ name_lengths (symbol_names ms)
  ds_are = written.lengths-front (check_module limits addon) table firsts sizes (Read u v d h.z) h.addon-read u v d h.z refl

  pub named : BothNamed robot xs cs t addon ys ds u terminals nonterminals
  named =
      both-named robot addon rs ms robot-read addon-read wr wm t n u v rk.terminals rk.nonterminals mk.terminals mk.nonterminals
      xs cs ys ds xs_are cs_are ys_are ds_are terminals nonterminals h.rows.terminals-room h.rows.nonterminals-room

  module _ (terminals' nonterminals' : List ℕ) where
    -- what is told of the names
    abbrev pub Told : Counts → Type 0
    Told = CountsTold (spelled robot (take t xs) (take t cs)) (spelled robot (drop t xs) (drop t cs))
        (spelled addon (take u ys) (take u ds)) (spelled addon (drop u ys) (drop u ds)) terminals nonterminals terminals' nonterminals'

    abbrev Known : Counts → Type 0
    Known = CountsTold rs.terminals rs.nonterminals ms.terminals ms.nonterminals terminals nonterminals terminals' nonterminals'

    told-known : (r : Counts) → Told r → Known r
    told-known r w =
        let a = terminals-spelled robot rs robot-read t n rk.terminals rk.nonterminals xs cs xs_are cs_are in
        let b = nonterminals-spelled robot rs robot-read t n rk.terminals rk.nonterminals xs cs xs_are cs_are in
        let c = terminals-spelled addon ms addon-read u v mk.terminals mk.nonterminals ys ds ys_are ds_are in
        let d = nonterminals-spelled addon ms addon-read u v mk.terminals mk.nonterminals ys ds ys_are ds_are in
        counts_are _ _ _ _ rs.terminals rs.nonterminals ms.terminals ms.nonterminals terminals nonterminals terminals' nonterminals' r a b c d w

    pub names-refused : (r : Counts) {c : Cause} {i : ℕ} → r ≡ Fault c i → Told r → join_texts limits robot addon ≡ refused c i
    names-refused r {c} {i} g w =
        let k : Known (Fault c i) = subst Known g (told-known r w) in
        join-named robot addon rs ms rk.whole mk.whole ∙ k _

    module _ (r : Counts) {a b : ℕ} (g : r ≡ Names a b) (w : Told r) where
      pub counted : NamesCounted rs.terminals rs.nonterminals ms.terminals ms.nonterminals terminals nonterminals terminals' nonterminals' a b
      counted = subst Known g (told-known r w)

      abbrev T : List ℕ
      T = numbered rs.terminals (length rs.terminals) ms.terminals

      abbrev N : List ℕ
      N = numbered rs.nonterminals (length rs.nonterminals) ms.nonterminals

      terminals_are : take u terminals' ≡ T
      terminals_are = row-front rs.terminals ms.terminals terminals terminals' u mk.terminals counted.terminals-row

      nonterminals_are : take v nonterminals' ≡ N
      nonterminals_are = row-front rs.nonterminals ms.nonterminals nonterminals nonterminals' v mk.nonterminals counted.nonterminals-row

      few : length (joined_terminals rs ms) ≤ limits.max_terminals
      few = omega (arith, counted.terminals_are, counted.terminals-most)

      most : length (joined_nonterminals rs ms) ≤ limits.max_nonterminals
      most = omega (arith, counted.nonterminals_are, counted.nonterminals-most)

      robot-front : take e row ≡ encode rs.rules
      robot-front = written.entries-front (check_text limits robot) row starts lengths (Read t n e h.q) h.robot-read t n e h.q refl

      addon-front : take d table ≡ encode ms.rules
      addon-front = written.entries-front (check_module limits addon) table firsts sizes (Read u v d h.z) h.addon-read u v d h.z refl

      pub rules_ready : RulesReady (take d table) (take u terminals') (take v nonterminals') row e
      rules_ready =
          subst (λ (T : List ℕ). RulesReady (take d table) T (take v nonterminals') row e) (sym terminals_are)
          (subst (λ (N : List ℕ). RulesReady (take d table) T N row e) (sym nonterminals_are) (record {
            rules = ms.rules;
            table_is = addon-front;
            recoding = rules_recoding rs ms wm counted.second_clear few most;
            robot = rs.rules;
            front = robot-front;
            room = omega (
              arith,
              h.rows.both,
              length-take-le d table addon-table_fits,
              rk.entries,
              mk.entries,
              entries-states rs.rules,
              entries-states ms.rules,
              robot-rules robot rs rk.whole,
              module-rules addon ms mk.whole,
              robot-states limits apart four twice-wide robot rs rk.whole,
              module_states limits apart four twice-wide addon ms mk.whole,
            );
          }))

      module _ {row' : List ℕ} {end : ℕ} (put : RulesPut (take d table) (take u terminals') (take v nonterminals') row e row' end) where
        joined-front : take end row' ≡ encode (joined limits rs ms).rules
        joined-front =
            put.put ms.rules rs.rules addon-front robot-front
            ∙ ap₂ (λ (T N : List ℕ). encode (rs.rules ++ added_rules rs.rules (map (recoded_rule limits T N) ms.rules))) terminals_are nonterminals_are
            ∙ rules_are rs ms wm counted.second_clear few most

        check_is : check_table limits a b (take end row') ≡ joined_check rs ms
        check_is = λ i. check_table limits (counted.terminals_are i) (counted.nonterminals_are i) (joined-front i)

        -- the answer is the table check's
        answer_is : join_texts limits robot addon ≡ and_then (check_table limits a b (take end row')) (λ G. done (joined limits rs ms))
        answer_is =
            join-named robot addon rs ms rk.whole mk.whole
            ∙ names_pass rs.terminals rs.nonterminals ms.terminals ms.nonterminals _ counted.first_clear counted.second_clear few most
            ∙ ap (λ o. and_then o (λ G. done (joined limits rs ms))) (sym check_is)

        pub last-refused : {x : TextRead} {c : Cause} {i : ℕ} → x ≡ table_read a b end (check_table limits a b (take end row')) → x ≡ Refused c i
            → join_texts limits robot addon ≡ refused c i
        last-refused {x} {c} {i} f g = answer_is ∙ then_stops _ _ c i (table-refused a b end _ x c i f g)

        pub last-joined : {x : TextRead} {p q j k : ℕ} → x ≡ table_read a b end (check_table limits a b (take end row')) → x ≡ Read p q j k
            → JoinedHeld robot addon row' starts lengths firsts sizes terminals' nonterminals'
            (record { t = t; n = n; u = u; v = v; terminals = a; nonterminals = b }) j k
        last-joined {x} {p} {q} {j} {k} f g =
            let J = joined limits rs ms in
            let o = table-passed a b end _ x p q j k f g in
            let passes : join_texts limits robot addon ≡ done J = answer_is ∙ then-goes _ _ o.grammar o.is in
            let same : o.grammar ≡ grammar_of J = done_inj (sym o.is ∙ check_is ∙ joined-table passes) in
            let size : end ≡ length (encode J.rules) = sym (length-take-le end row' put.inside) ∙ ap length joined-front in
            record {
              r = rs;
              m = ms;
              robot_passes = rk.whole;
              addon_passes = mk.whole;
              passes = passes;
              t_is = sym rk.terminals;
              n_is = sym rk.nonterminals;
              u_is = sym mk.terminals;
              v_is = sym mk.nonterminals;
              terminals_are = counted.terminals_are ∙ joined-counts.0;
              nonterminals_are = counted.nonterminals_are ∙ joined-counts.1;
              entries = o.entries ∙ size;
              states = o.states ∙ ap (λ (G : Grammar). state_count G.rules) same;
              table-front = ap (λ (k : ℕ). take k row') o.entries ∙ joined-front;
              starts-front = h.robot-read.names.starts-front rs rk.whole;
              lengths-front = h.robot-read.names.lengths-front rs rk.whole;
              firsts_front = h.addon-read.names.starts-front ms mk.whole;
              sizes_front = h.addon-read.names.lengths-front ms mk.whole;
              terminals-front = ap (λ (k : ℕ). take k terminals') mk.terminals ∙ terminals_are;
              nonterminals-front = ap (λ (k : ℕ). take k nonterminals') mk.nonterminals ∙ nonterminals_are;
            }
          where
            joined-counts : (length (joined_terminals rs ms) ≡ length (joined limits rs ms).terminals)
                × (length (joined_nonterminals rs ms) ≡ length (joined limits rs ms).nonterminals)
            joined-counts = unfold joined in (refl, refl)

            joined-table : join_texts limits robot addon ≡ done (joined limits rs ms) → joined_check rs ms ≡ done (grammar_of (joined limits rs ms))
            joined-table e = joined_passes robot addon rs ms e

-- ---- refusals of either text, and texts that are both read

robot_stops : (robot addon : List ℕ) (c : Cause) (i : ℕ) → check_text limits robot ≡ refused c i → join_texts limits robot addon ≡ refused c i
unfolding join_texts
robot_stops robot addon c i e = then_stops _ _ c i e

addon_stops : (robot addon : List ℕ) (r : Source) (c : Cause) (i : ℕ) → check_text limits robot ≡ done r → check_module limits addon ≡ refused c i
    → join_texts limits robot addon ≡ refused c i
unfolding join_texts
addon_stops robot addon r c i e f = then-goes (check_text limits robot) _ r e ∙ then_stops _ _ c i f

pub robot-refused : (robot addon : List ℕ) {row starts lengths : List ℕ} {x : TextRead} {c : Cause} {i : ℕ} → ChecksText robot x row starts lengths → x ≡ Refused c i
    → join_texts limits robot addon ≡ refused c i
robot-refused robot addon {row} {starts} {lengths} {x} {c} {i} h e =
    robot_stops robot addon c i (refuses_as (check_text limits robot) c i (sym e ∙ h.answer))

pub addon-refused : (robot addon : List ℕ) {row starts lengths table firsts sizes : List ℕ} {x y : TextRead} {t n e q : ℕ} {c : Cause} {i : ℕ} → ChecksText robot x row starts lengths
    → x ≡ Read t n e q → ChecksModule addon y table firsts sizes → y ≡ Refused c i → join_texts limits robot addon ≡ refused c i
addon-refused robot addon {row} {starts} {lengths} {table} {firsts} {sizes} {x} {y} {t} {n} {e} {q} {c} {i} h g k w =
    let a = read_as (check_text limits robot) t n e q (sym g ∙ h.answer) in
    addon_stops robot addon a.source c i a.whole (refuses_as (check_module limits addon) c i (sym w ∙ k.answer))
