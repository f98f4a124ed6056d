-- A row that holds a draft, and one that holds none; what an entry leaves. Assumes nothing.
use Prim.Native.Nat.{ℕ, ◌+◌, ◌-◌, ◌≤◌, ◌<◌}
use mathlib.Core.Path.{◌≡◌, ap, ap₂, sym, ◌∙◌}
use mathlib.Core.List.{List}
use mathlib.Core.Option.{Option, none, some}
use mathlib.Core.Logic.{inl, inr}
use native.Mathlib.Omega.{arith}
use lib.Dec.{leb}
use lib.ListN.{length, take, drop, length-drop}
use lib.Seq.{take-take, length-take-le}
use borrow.Author.Tests.{le-leb, lt-leb, leb-true}
use Rattle.grammar.specs.Limits.{limits}
use Rattle.grammar.specs.Grammar.{Rule}
use Rattle.grammar.specs.Table.{encode}
use Rattle.grammar.specs.Refusal.{Answer, done, refused, and_then, buffer_too_short, not_present}
use Rattle.grammar.proofs.Answers.{unless_holds, unless_fails, unless_done, then-goes, then_stops, done_inj, no_answer, refused_as}
use Rattle.grammar.proofs.Lists.{lt_or_le}
use Rattle.grammar.specs.declared.Cause.{Cause}
use Rattle.drafts.specs.Draft.{Draft, Edit, taken}
use Rattle.drafts.specs.Row.{block_size, block_at, draft_room, block_of, end_of, rules_to, rules_in, draft_with, draft_or, draft_in, image, put, target, stepped}
use Rattle.drafts.specs.Promise.{answered, row_after, Leaves, EditsDraft}
use Rattle.drafts.specs.Edits.{end_or, open_row, opening}
use Rattle.drafts.specs.declared.DraftAnswer.TheVariants.{Done, Refused}
use Rattle.drafts.specs.declared.FoundDraft.{FoundDraft}
use Rattle.drafts.specs.declared.FoundDraft.TheVariants.{Opened, Shut}
use Rattle.drafts.proofs.Walks.{held-block}

-- ---- the code's answers tell the definitions'

opened-told : (o : Answer ℕ) (e : ℕ) → opening o ≡ Opened e → o ≡ done e
opened-told (done d) e q = let z : d ≡ e = cc in ap done z
opened-told (refused c p) e q = let z : ◌≡◌ {A = ℕ} 0 1 = cc in absurd (let o : ⊥ = omega arith in o)

shut-told : (o : Answer ℕ) (c : Cause) (p : ℕ) → opening o ≡ Shut c p → o ≡ refused c p
shut-told (done d) c p q = let z : ◌≡◌ {A = ℕ} 0 1 = cc in absurd (let o : ⊥ = omega arith in o)
shut-told (refused d r) c p q = let x : d ≡ c = cc in let y : r ≡ p = cc in ap₂ (λ c p. refused c p) x y

pub opened_at : (row : List ℕ) (f : FoundDraft) (end : ℕ) → f ≡ opening (open_row row) → f ≡ Opened end → open_row row ≡ done end
opened_at row f end e q = opened-told (open_row row) end (sym e ∙ q)

pub shut_at : (row : List ℕ) (f : FoundDraft) (c : Cause) (p : ℕ) → f ≡ opening (open_row row) → f ≡ Shut c p → open_row row ≡ refused c p
shut_at row f c p e q = shut-told (open_row row) c p (sym e ∙ q)

-- ---- opening

pub open_short : (row : List ℕ) → length row < draft_room → open_row row ≡ refused buffer_too_short 0
unfolding open_row
open_short row h = unless_fails buffer_too_short 0 (leb draft_room (length row)) (end_or (end_of (block_of row 0))) (lt-leb draft_room (length row) h)

open_room : (row : List ℕ) → draft_room ≤ length row → open_row row ≡ end_or (end_of (block_of row 0))
unfolding open_row
open_room row h = unless_holds buffer_too_short 0 (leb draft_room (length row)) (end_or (end_of (block_of row 0))) (le-leb draft_room (length row) h)

pub open_ends : (row : List ℕ) (e : ℕ) → draft_room ≤ length row → end_of (block_of row 0) ≡ some e → open_row row ≡ done e
open_ends row e h q = open_room row h ∙ ap end_or q

pub open_nothing : (row : List ℕ) → draft_room ≤ length row → end_of (block_of row 0) ≡ none → open_row row ≡ refused not_present 0
open_nothing row h q = open_room row h ∙ ap end_or q

-- what the front of a block says of the row
pub record InBlock (row : List ℕ) (j end : ℕ) : Type 0 where
  pub rules : List Rule
  pub found : rules_in (block_of row j) ≡ some rules
  pub front : take end (drop (block_at j) row) ≡ image rules
  pub size : end ≡ 1 + length (encode rules)
  pub few : end ≤ block_size

pub in_block : (row : List ℕ) (j end : ℕ) → block_at j + block_size ≤ length row → end_of (block_of row j) ≡ some end → InBlock row j end
in_block row j end h e =
    let b = held-block (block_of row j) end e in
    let z : length (block_of row j) ≡ block_size = length-take-le block_size (drop (block_at j) row) (omega (arith, length-drop (block_at j) row, h)) in
    let w = b.within in
    let f : end ≤ block_size = omega (arith, z, w) in
    record { rules = b.rules; found = b.found; front = sym (take-take end block_size (drop (block_at j) row) f) ∙ b.front; size = b.size; few = f }

-- a row that holds a draft
pub record Open (row : List ℕ) (end : ℕ) : Type 0 where
  pub room : draft_room ≤ length row
  pub block : InBlock row 0 end
  pub held : draft_in row ≡ done (draft_with row block.rules)

pub open_done : (row : List ℕ) (end : ℕ) → open_row row ≡ done end → Open row end
unfolding open_row draft_in
open_done row end e =
    let u = unless_done buffer_too_short 0 (leb draft_room (length row)) (end_or (end_of (block_of row 0))) end e in
    let h : draft_room ≤ length row = leb-true draft_room (length row) u.0 in
    let b = in_block row 0 end (omega (arith, h)) (ended (end_of (block_of row 0)) u.1) in
    record {
      room = h;
      block = b;
      held = unless_holds buffer_too_short 0 (leb draft_room (length row)) (draft_or row (rules_in (block_of row 0))) u.0 ∙ ap (draft_or row) b.found;
    }
  where
    ended : (o : Option ℕ) → end_or o ≡ done end → o ≡ some end
    ended none q = no_answer q
    ended (some d) q = ap some (done_inj q)

-- one that holds none refuses every step
pub open_refused : (row : List ℕ) (c : Cause) (p : ℕ) → open_row row ≡ refused c p → draft_in row ≡ refused c p
unfolding open_row draft_in
open_refused row c p e = elim (lt_or_le (length row) draft_room) [
  | inl b ↦
      unless_fails buffer_too_short 0 (leb draft_room (length row)) (draft_or row (rules_in (block_of row 0))) (lt-leb draft_room (length row) b)
      ∙ refused_as (sym (unless_fails buffer_too_short 0 (leb draft_room (length row)) (end_or (end_of (block_of row 0))) (lt-leb draft_room (length row) b)) ∙ e)
  | inr b ↦
      unless_holds buffer_too_short 0 (leb draft_room (length row)) (draft_or row (rules_in (block_of row 0))) (le-leb draft_room (length row) b)
      ∙ go (end_of (block_of row 0)) (sym (unless_holds buffer_too_short 0 (leb draft_room (length row)) (end_or (end_of (block_of row 0))) (le-leb draft_room (length row) b)) ∙ e)
]
  where
    go : (o : Option ℕ) → end_or o ≡ refused c p → draft_or row (rules_to (block_of row 0) o) ≡ refused c p
    go none q = refused_as q
    go (some d) q = no_answer (sym q)

pub shut_steps : (row : List ℕ) (s : Edit) (c : Cause) (p : ℕ) → open_row row ≡ refused c p → stepped row s ≡ refused c p
unfolding stepped
shut_steps row s c p e = then_stops (draft_in row) (λ d. and_then (taken limits d s) (λ e. done (put row (target s) e.rules))) c p (open_refused row c p e)

-- one that holds a draft does what the step does to it
pub open_steps : (row : List ℕ) (s : Edit) (d : Draft) → draft_in row ≡ done d
    → stepped row s ≡ and_then (taken limits d s) (λ e. done (put row (target s) e.rules))
unfolding stepped
open_steps row s d e = then-goes (draft_in row) (λ d. and_then (taken limits d s) (λ e. done (put row (target s) e.rules))) d e

pub step-done : (row : List ℕ) (s : Edit) (d e : Draft) → draft_in row ≡ done d → taken limits d s ≡ done e → stepped row s ≡ done (put row (target s) e.rules)
step-done row s d e h q = open_steps row s d h ∙ then-goes (taken limits d s) (λ e. done (put row (target s) e.rules)) e q

pub step-refused : (row : List ℕ) (s : Edit) (d : Draft) (c : Cause) (p : ℕ) → draft_in row ≡ done d → taken limits d s ≡ refused c p → stepped row s ≡ refused c p
step-refused row s d c p h q = open_steps row s d h ∙ then_stops (taken limits d s) (λ e. done (put row (target s) e.rules)) c p q

-- ---- what an entry leaves

pub leaves_refused : (o : Answer (List ℕ)) (row : List ℕ) (c : Cause) (p : ℕ) → o ≡ refused c p → Leaves o row (Refused c p) row
leaves_refused o row c p e = record { answer = sym (ap answered e); leaves = sym (ap (row_after row) e) }

pub leaves_done : (o : Answer (List ℕ)) (row after now : List ℕ) → o ≡ done after → now ≡ after → Leaves o row Done now
leaves_done o row after now e q = record { answer = sym (ap answered e); leaves = q ∙ sym (ap (row_after row) e) }

-- one that holds no draft refuses every edit
pub leaves_shut : (row : List ℕ) (s : Edit) (f : FoundDraft) (c : Cause) (p : ℕ) → f ≡ opening (open_row row) → f ≡ Shut c p → EditsDraft row s (Refused c p) row
leaves_shut row s f c p e q = leaves_refused (stepped row s) row c p (shut_steps row s c p (shut_at row f c p e q))
