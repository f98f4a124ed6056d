-- What follows from the promises for one sentence. Assumes nothing.
use Prim.Native.Nat.{ℕ, ◌≤◌, ◌<◌}
use mathlib.Core.Path.{◌≡◌, refl, ap, ap₂, sym, subst, subst₂, ◌∙◌}
use mathlib.Core.List.{List}
use mathlib.Core.Logic.{inl, inr}
use native.Mathlib.Omega.{arith}
use lib.ListN.{length}
use Rattle.grammar.specs.Limits.{limits}
use Rattle.grammar.specs.Grammar.{Grammar}
use Rattle.grammar.specs.Tree.{Tree, HasTwoTrees}
use Rattle.grammar.specs.Refusal.{Answer, done, refused, buffer_too_short, row_wrong, cause_number}
use Rattle.grammar.specs.TableCheck.{check_table, table_checked}
use Rattle.grammar.proofs.Answers.{no_answer, done_inj, then-goes, then_stops}
use Rattle.grammar.proofs.Lists.{lt_or_le}
use Rattle.grammar.specs.declared.Cause.{Cause}
use Rattle.triples.specs.Verdict.{CertificateAnswer}
use Rattle.triples.specs.declared.CheckVerdict.TheVariants as check
use Rattle.table_check.proofs.Callers.{refused-table}
use Rattle.trees.specs.Trees.{rules_of, one, several, count_0, count_2, work_size, check_row, cleared, trees_room}
use Rattle.trees.specs.Promise.{FindsTrees, refuses, no_tree, several-trees, one-tree, too_short, room_told, TreesRoomAnswer}
use Rattle.trees.specs.declared.TreesFound.{TreesFound}
use Rattle.trees.specs.declared.TreesFound.TheVariants.{Nothing, One, Several, Refused}
use Rattle.trees.specs.declared.TreesRoom.{TreesRoom}
use Rattle.trees.specs.declared.TreesRoom.TheVariants as room
use Rattle.tree_laws.proofs.Laws.{agrees_once, never_several}
use Rattle.ambiguity.specs.Entries.{Stores}
use Rattle.ambiguity.specs.Trees.{OneTree, AnswerTheorems, RefusedFor, by-table, by_row, by_work, by_list, TreesTheorems, TreesRoomTheorems}
use Rattle.ambiguity.proofs.Entries.{stores, checked, stopped}
use Rattle.ambiguity.proofs.Checks.{certificate_theorems}
use Rattle.ambiguity.proofs.TreeAnswers.{one_of, agrees_one, Told, told_none, told-several, told-one, told-short, told_once, none_told, several-told, untouched_told, one_told, numbers-told}
use Rattle.ambiguity.proofs.RowChecks.{fault_or_row, table_stops, row_stops, work_stops, nothing_stops, row-passed}

-- an accepted certificate, at whatever m, leaves no sentence two trees
certified : (t n : ℕ) (table : List ℕ) (m : ℕ) (bytes : List ℕ) → CertificateAnswer t n table m bytes check.Accepted
    → (G : Grammar) → Stores t n table G → (sentence : List ℕ) → ¬ HasTwoTrees limits G sentence
certified t n table m bytes h G s sentence =
    let c = certificate_theorems t n table m bytes check.Accepted h in
    elim (stopped t n table m) [
      | inl (cause, at, x) ↦ let z = c.refused cause at x in absurd (let y : ◌≡◌ {A = ℕ} 0 1 = cc in omega arith)
      | inr (H, x) ↦
          let e : H ≡ G = done_inj (sym (checked t n table H x.stores) ∙ checked t n table G s) in
          subst (λ (G : Grammar). ¬ HasTwoTrees limits G sentence) e (c.one-tree H x refl sentence)
    ]

module _ (t n : ℕ) (table w work list : List ℕ) where
  -- a refusal beforehand, and otherwise the answer
  stops_at_lem : {r : TreesFound} {work' list' : List ℕ} (cause : Cause) (at : ℕ) → check_row limits t n table w work ≡ refused cause at
      → FindsTrees t n table w work list r work' list' → (r ≡ Refused cause at) × (work' ≡ work) × (list' ≡ list)
  stops_at_lem cause at e (refuses c p q) =
      let z : refused c p ≡ refused cause at = sym q ∙ e in
      let x : c ≡ cause = cc in
      let y : p ≡ at = cc in
      (ap₂ (λ c p. Refused c p) x y, refl, refl)
  stops_at_lem cause at e (no_tree H q a) = no_answer (sym e ∙ q)
  stops_at_lem cause at e (several-trees H q a) = no_answer (sym e ∙ q)
  stops_at_lem cause at e (one-tree H q rules a h) = no_answer (sym e ∙ q)
  stops_at_lem cause at e (too_short H q rules a h) = no_answer (sym e ∙ q)

  told_of : {r : TreesFound} {l : List ℕ} (G H : Grammar) → check_row limits t n table w work ≡ done G → check_row limits t n table w work ≡ done H
      → Told w list H r l → (cleared H work ≡ cleared G work) × Told w list G r l
  told_of {r} {l} G H e q x =
      let z : H ≡ G = done_inj (sym q ∙ e) in
      (ap (λ (G : Grammar). cleared G work) z, subst (λ (G : Grammar). Told w list G r l) z x)

  tells : {r : TreesFound} {work' list' : List ℕ} (G : Grammar) → check_row limits t n table w work ≡ done G
      → FindsTrees t n table w work list r work' list' → (work' ≡ cleared G work) × Told w list G r list'
  tells G e (refuses c p q) = no_answer (sym q ∙ e)
  tells G e (no_tree H q a) = told_of G H e q (told_none a)
  tells G e (several-trees H q a) = told_of G H e q (told-several a)
  tells G e (one-tree H q rules a h) = told_of G H e q (told-one rules a h)
  tells G e (too_short H q rules a h) = told_of G H e q (told-short rules a h)

  -- why it was refused
  stopped_for : (cause : Cause) (at : ℕ) → check_row limits t n table w work ≡ refused cause at → RefusedFor t n table w work list work list cause at
  stopped_for cause at e = go (check_table limits t n table) refl
    where
      is : (c : Cause) (p : ℕ) → check_row limits t n table w work ≡ refused c p → RefusedFor t n table w work list work list c p
          → RefusedFor t n table w work list work list cause at
      is c p q x =
          let z : ◌≡◌ {A = Answer Grammar} (refused c p) (refused cause at) = sym q ∙ e in
          let u : c ≡ cause = cc in
          let v : p ≡ at = cc in
          subst₂ (RefusedFor t n table w work list work list) u v x

      go : (o : Answer Grammar) → check_table limits t n table ≡ o → RefusedFor t n table w work list work list cause at
      go (refused c p) d =
          is c p (table_stops t n table w work c p d)
          (by-table (table_checked (check_table limits t n table)) refl (ap (λ (o : Answer Grammar). (table_checked o).verdict) d) refl refl)
      go (done G) d =
          let s = stores t n table G d in
          elim (fault_or_row t w) [
            | inl (p, x) ↦ is row_wrong p (row_stops t n table w work G s p x) (by_row G s x refl refl)
            | inr x ↦ elim (lt_or_le (length work) (work_size G)) [
              | inl h ↦ is buffer_too_short 0 (work_stops t n table w work G s x h) (by_work G s x h refl refl)
              | inr h ↦ no_answer (sym e ∙ nothing_stops t n table w work G s x h)
            ]
          ]

  why : {work' list' : List ℕ} (cause : Cause) (at : ℕ) → FindsTrees t n table w work list (Refused cause at) work' list'
      → RefusedFor t n table w work list work' list' cause at
  why cause at (refuses c p e) = stopped_for cause at e
  why cause at (too_short G e rules a h) =
      let s = row-passed t n table w work G e in
      let x = one_of G w rules a in
      by_list G s.0 s.1 x.0 x.1 (subst (λ (rules : List ℕ). length list < length rules) x.2 h) refl refl

  -- two trees are not told as one, nor several told with an accepted certificate
  not-one : {k : ℕ} {work' list' : List ℕ} (G : Grammar) → Stores t n table G → HasTwoTrees limits G w
      → FindsTrees t n table w work list (One k) work' list' → ⊥
  not-one G s h (one-tree H e rules a l) =
      let z : G ≡ H = done_inj (sym (checked t n table G s) ∙ checked t n table H (row-passed t n table w work H e).0) in
      let y = agrees_once limits H w (count_2 (subst (λ (G : Grammar). HasTwoTrees limits G w) z h)) a in
      let o : ◌≡◌ {A = ℕ} 0 1 = cc in
      omega arith

  not-several : {work' list' : List ℕ} (m : ℕ) (bytes : List ℕ) → CertificateAnswer t n table m bytes check.Accepted
      → FindsTrees t n table w work list Several work' list' → ⊥
  not-several m bytes c (several-trees G e a) = never_several limits G w (certified t n table m bytes c G (row-passed t n table w work G e).0 w) a

  -- with a work row that is long enough 14 is given for the list
  for_list : {work' list' : List ℕ} {cause : Cause} {at : ℕ} (G : Grammar) → Stores t n table G → work_size G ≤ length work → cause ≡ buffer_too_short
      → RefusedFor t n table w work list work' list' cause at
      → (G : Grammar) × Stores t n table G × ((tree : Tree) × OneTree G w tree × (length list < length (rules_of tree)))
  for_list {cause = cause} {at = at} G s h q (by-table c a d x y) = no_answer (sym (refused-table t n table c a cause at d) ∙ checked t n table G s)
  for_list G s h q (by_row H x y z u) = absurd (let n : cause_number row_wrong ≡ cause_number buffer_too_short = ap cause_number q in omega arith)
  for_list G s h q (by_work H x y l z u) =
      let e : H ≡ G = done_inj (sym (checked t n table H x) ∙ checked t n table G s) in
      absurd (let l' = subst (λ (G : Grammar). length work < work_size G) e l in omega arith)
  for_list G s h q (by_list H x y tree o l z u) = (H, x, (tree, o, l))

  module _ (r : TreesFound) (work' list' : List ℕ) (f : FindsTrees t n table w work list r work' list') where
    answer_theorems : (G : Grammar) → check_row limits t n table w work ≡ done G → AnswerTheorems t n table w work list G r work' list'
    answer_theorems G e =
        let x = tells G e f in
        let a = x.1 in
        let told : (r₂ : TreesFound) → r ≡ r₂ → Told w list G r₂ list' = λ r₂ q. subst (λ (r : TreesFound). Told w list G r list') q a in
        record {
          zeros = x.0;
          none = (λ q. none_told w list (told Nothing q), λ h. (told_once w list a (told_none (count_0 h))).0);
          several = (λ q. several-told w list (told Several q), λ h. (told_once w list a (told-several (count_2 h))).0);
          untouched = untouched_told w list a;
          one = λ tree h l. told_once w list a (told-one (rules_of tree) (agrees_one G w tree h) l);
          one_only = λ k q. one_told w list (told (One k) q);
          numbers = λ k i q. numbers-told w list i (told (One k) q);
          short = λ tree h l. told_once w list a (told-short (rules_of tree) (agrees_one G w tree h) l);
        }

    given : (v : TreesFound) → r ≡ v → FindsTrees t n table w work list v work' list'
    given v q = subst (λ (r : TreesFound). FindsTrees t n table w work list r work' list') q f

    pub trees_theorems : TreesTheorems t n table w work list r work' list'
    trees_theorems = record {
      table-refused = λ c cause at a d. stops_at_lem cause at (table_stops t n table w work cause at (refused-table t n table c a cause at d)) f;
      row-refused = λ G s at x. stops_at_lem row_wrong at (row_stops t n table w work G s at x) f;
      work_short = λ G s x h. stops_at_lem buffer_too_short 0 (work_stops t n table w work G s x h) f;
      rows = fault_or_row t w;
      answers = λ G s x h. answer_theorems G (nothing_stops t n table w work G s x h);
      refused-only = λ cause at q. why cause at (given (Refused cause at) q);
      never_one = λ G s h k q. not-one G s h (given (One k) q);
      never_several = λ m bytes c q. not-several m bytes c (given Several q);
      determined = λ r₂ work₂ list₂ g. same r₂ work₂ list₂ g (check_row limits t n table w work) refl;
    }
      where
        same : (r₂ : TreesFound) (work₂ list₂ : List ℕ) → FindsTrees t n table w work list r₂ work₂ list₂
            → (o : Answer Grammar) → check_row limits t n table w work ≡ o → (r ≡ r₂) × (work' ≡ work₂) × (list' ≡ list₂)
        same r₂ work₂ list₂ g (refused cause at) e =
            let x = stops_at_lem cause at e f in
            let y = stops_at_lem cause at e g in
            (x.0 ∙ sym y.0, x.1 ∙ sym y.1, x.2 ∙ sym y.2)
        same r₂ work₂ list₂ g (done G) e =
            let x = tells G e f in
            let y = tells G e g in
            let z = told_once w list x.1 y.1 in
            (z.0, x.0 ∙ sym y.0, z.1)

module _ (t n : ℕ) (table : List ℕ) (r : TreesRoom) (h : TreesRoomAnswer t n table r) where
  -- the room, by what the table check gives
  room-passed : (G : Grammar) → check_table limits t n table ≡ done G → r ≡ room.Entries (work_size G)
  unfolding trees_room
  room-passed G e = h ∙ ap room_told (then-goes (check_table limits t n table) (λ G. done (work_size G)) G e)

  room-refused : (cause : Cause) (at : ℕ) → check_table limits t n table ≡ refused cause at → r ≡ room.Refused cause at
  unfolding trees_room
  room-refused cause at e = h ∙ ap room_told (then_stops (check_table limits t n table) (λ G. done (work_size G)) cause at e)

  -- the table passed, and the number is its grammar's
  room_of_lem : (e : ℕ) → r ≡ room.Entries e → (G : Grammar) × Stores t n table G × (e ≡ work_size G)
  room_of_lem e q = go (check_table limits t n table) refl
    where
      go : (o : Answer Grammar) → check_table limits t n table ≡ o → (G : Grammar) × Stores t n table G × (e ≡ work_size G)
      go (done G) c = let z : room.Entries e ≡ room.Entries (work_size G) = sym q ∙ room-passed G c in (G, stores t n table G c, cc)
      go (refused cause at) c = let z : room.Entries e ≡ room.Refused cause at = sym q ∙ room-refused cause at c in absurd (let y : ◌≡◌ {A = ℕ} 0 1 = cc in omega arith)

  pub trees-room_theorems : TreesRoomTheorems t n table r
  trees-room_theorems = record {
    table-refused = λ c cause at a d. room-refused cause at (refused-table t n table c a cause at d);
    told = λ G s. room-passed G (checked t n table G s);
    enough = λ e q w work list v work' list' f l at p.
        let g = room_of_lem e q in
        for_list t n table w work list g.0 g.1 (omega (arith, l, g.2)) refl
        ((trees_theorems t n table w work list v work' list' f).refused-only buffer_too_short at p);
    short = λ e q w work list v work' list' f x l.
        let g = room_of_lem e q in
        (trees_theorems t n table w work list v work' list' f).work_short g.0 g.1 x (omega (arith, l, g.2));
  }
