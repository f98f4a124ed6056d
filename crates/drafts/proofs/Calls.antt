-- Rows over histories: every call leaves a row that holds what its step makes of the draft. Assumes nothing.
use Prim.Native.Nat.{ℕ, zero, suc, ◌+◌, ◌-◌, ◌≤◌, ◌<◌}
use mathlib.Core.Path.{◌≡◌, refl, ap, sym, subst, ◌∙◌}
use mathlib.Core.Bool.{◌&&◌}
use mathlib.Core.List.{List, [], ◌∷◌, ◌++◌}
use mathlib.Core.Option.{Option, none, some}
use native.Mathlib.Omega.{arith}
use lib.Dec.{leb, ltb}
use lib.ListN.{length, drop, length-drop, length-append}
use lib.Seq.{length-take-le}
use borrow.Author.Tests.{leb-true, ltb-true}
use Rattle.grammar.specs.Limits.{limits}
use Rattle.grammar.specs.Grammar.{Rule}
use Rattle.grammar.specs.Table.{encode, rule_at}
use Rattle.grammar.specs.Refusal.{Answer, done, refused, and_then, too_many_rules, not_present}
use Rattle.grammar.specs.TableCheck.{next_rule}
use Rattle.grammar.proofs.Answers.{and_both, unless_done, then-done, done_inj, no_answer}
use Rattle.grammar.proofs.Steps.{next-done, read_done}
use Rattle.grammar.proofs.WellFormed.{states_snoc}
use Rattle.drafts.specs.Draft.{Draft, Edit, add, withdraw, mark, return, without, with_mark, with_rules, kept, restored, add_rule, taken, or_same, after, marks_count, is_mark}
use Rattle.drafts.specs.Row.{block_size, draft_room, block_of, rules_in, draft_in, image, put, target, stepped}
use Rattle.drafts.specs.Promise.{row_after}
use Rattle.drafts.specs.Edits.{calls}
use Rattle.drafts.proofs.Marks.{kept_at}
use Rattle.drafts.proofs.Opens.{open_steps}
use Rattle.drafts.proofs.Begins.{table_fits}
use Rattle.drafts.proofs.Holdings.{Holding, holding, fits_in, block_size_lem, put-draft, put-mark}

-- ---- one step

without_fits : (m : ℕ) (rs : List Rule) → length (encode (without m rs)) ≤ length (encode rs)
unfolding encode without
without_fits m [] = omega arith
without_fits zero (r ∷ rs) = omega (arith, length-append r.right (encode rs))
without_fits (suc m) (r ∷ rs) = omega (arith, length-append r.right (encode rs), length-append r.right (encode (without m rs)), without_fits m rs)

length_snoc : (rs : List Rule) (r : Rule) → length (rs ++ (r ∷ [])) ≡ length rs + 1
length_snoc rs r = length-append rs (r ∷ [])

-- an added rule fits
add_fits : (d e : Draft) (entries : List ℕ) → add_rule limits d entries ≡ done e → (e ≡ with_rules d e.rules) × (length (image e.rules) ≤ block_size)
unfolding add_rule
add_fits d e entries q =
    let at = length (encode d.rules) in
    let table = encode d.rules ++ entries in
    let t = d.terminals in
    let n = d.nonterminals in
    let u = unless_done too_many_rules at (ltb (length d.rules) limits.max_rules) _ e q in
    let v = then-done (next_rule limits t n table d.rules at) _ e u.1 in
    let k = v.0 in
    let x = next-done limits t n table d.rules at k v.1 in
    let w = (read_done limits t n table at k x.read).whole in
    let r = rule_at table at k in
    let g : with_rules d (d.rules ++ (r ∷ [])) ≡ e = done_inj v.2 in
    let rs : d.rules ++ (r ∷ []) ≡ e.rules = ap (λ (d : Draft). d.rules) g in
    let s : length r.right ≡ k = length-take-le k (drop (at + 2) table) (omega (arith, length-drop (at + 2) table, w)) in
    let c : length d.rules < limits.max_rules = ltb-true (length d.rules) limits.max_rules u.0 in
    let z = x.size in
    let m1 = table_fits (d.rules ++ (r ∷ [])) in
    let m2 = states_snoc d.rules r in
    let m3 = length_snoc d.rules r in
    let f : length (image (d.rules ++ (r ∷ []))) ≤ block_size = omega (arith, m1, m2, m3, s, c, z) in
    (sym g ∙ ap (with_rules d) rs, subst (λ (l : List Rule). length (image l) ≤ block_size) rs f)

module _ (row : List ℕ) (d : Draft) (h : draft_in row ≡ done d) where
  abbrev held : Holding row d
  held = holding row d h

  room : draft_room ≤ length row
  room = held.room

  own_fits : length (image d.rules) ≤ block_size
  own_fits = fits_in (block_of row 0) d.rules (let b = block_size_lem row 0 room (omega arith) in omega (arith, b)) held.rules

  -- other rules in the draft's block
  put-rules : (e : Draft) → e ≡ with_rules d e.rules → length (image e.rules) ≤ block_size → draft_in (put row 0 e.rules) ≡ done e
  put-rules e q f = put-draft row e.rules room f d.rules ∙ ap done (ap (λ (d : Draft). with_rules d e.rules) (sym held.same) ∙ sym q)

  pub put_step : (s : Edit) (e : Draft) → taken limits d s ≡ done e → draft_in (put row (target s) e.rules) ≡ done e
  unfolding taken
  put_step (add entries) e q =
      let a = add_fits d e entries q in
      put-rules e a.0 a.1
  put_step (withdraw i) e q =
      let u = unless_done not_present i (leb 1 i && leb i (length d.rules)) (done (with_rules d (without (i - 1) d.rules))) e q in
      let g : with_rules d (without (i - 1) d.rules) ≡ e = done_inj u.1 in
      let r : without (i - 1) d.rules ≡ e.rules = ap (λ (d : Draft). d.rules) g in
      let f = own_fits in
      let w = without_fits (i - 1) d.rules in
      put-rules e (sym g ∙ ap (with_rules d) r) (subst (λ (l : List Rule). length (image l) ≤ block_size) r (omega (arith, f, w)))
  put_step (mark k) e q =
      let u = unless_done not_present k (is_mark k) (done (with_mark d k)) e q in
      let g : with_mark d k ≡ e = done_inj u.1 in
      let b = and_both (leb 1 k) (leb k marks_count) u.0 in
      ap (λ (l : List Rule). draft_in (put row k l)) (sym (ap (λ (d : Draft). d.rules) g))
      ∙ put-mark row d.rules room own_fits k (leb-true 1 k b.0) (leb-true k marks_count b.1) held.rules
      ∙ ap done (ap (λ (d : Draft). with_mark d k) (sym held.same) ∙ g)
  put_step (return k) e q =
      let u = unless_done not_present k (is_mark k) (restored d k (kept d k)) e q in
      let b = and_both (leb 1 k) (leb k marks_count) u.0 in
      let l : 1 ≤ k = leb-true 1 k b.0 in
      let m : k ≤ marks_count = leb-true k marks_count b.1 in
      let w : kept d k ≡ rules_in (block_of row k) = ap (λ (d : Draft). kept d k) held.same ∙ kept_at row d.rules k l m in
      back (kept d k) u.1 l m w
    where
      back : (o : Option (List Rule)) → restored d k o ≡ done e → 1 ≤ k → k ≤ marks_count → o ≡ rules_in (block_of row k) → draft_in (put row 0 e.rules) ≡ done e
      back none z l m w = no_answer z
      back (some rs) z l m w =
          let g : with_rules d rs ≡ e = done_inj z in
          let r : rs ≡ e.rules = ap (λ (d : Draft). d.rules) g in
          let n = block_size_lem row k room m in
          let f : length (image rs) ≤ block_size = fits_in (block_of row k) rs (omega (arith, n)) (sym w) in
          put-rules e (sym g ∙ ap (with_rules d) r) (subst (λ (l : List Rule). length (image l) ≤ block_size) r f)

-- every call leaves a row that holds what the step gives
pub step_holds : (row : List ℕ) (d : Draft) (s : Edit) → draft_in row ≡ done d → draft_in (row_after row (stepped row s)) ≡ done (or_same limits d (taken limits d s))
unfolding and_then
step_holds row d s h = ap (λ (o : Answer (List ℕ)). draft_in (row_after row o)) (open_steps row s d h) ∙ go (taken limits d s) refl
  where
    go : (a : Answer Draft) → taken limits d s ≡ a → draft_in (row_after row (and_then a (λ e. done (put row (target s) e.rules)))) ≡ done (or_same limits d a)
    go (done e) q = put_step row d h s e q
    go (refused c p) q = h

-- every history leaves a row that holds what it makes of the draft, which may be ill-formed
pub every-row : (row : List ℕ) (d : Draft) (history : List Edit) → draft_in row ≡ done d → draft_in (calls row history) ≡ done (after limits d history)
unfolding calls after
every-row row d [] h = h
every-row row d (s ∷ history) h = every-row (row_after row (stepped row s)) (or_same limits d (taken limits d s)) history (step_holds row d s h)
