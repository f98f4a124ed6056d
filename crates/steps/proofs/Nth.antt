-- The element of a list at a place, found part by part as the code does. Assumes nothing.
use Prim.Native.Nat.{ℕ, zero, suc, ◌+◌, ◌-◌, ◌*◌, ◌/◌, ◌%◌, ◌≤◌, ◌<◌}
use mathlib.Core.Path.{◌≡◌, refl, sym, ap, subst, ◌∙◌}
use Rattle.std.specs.Prelude.{Ok, Err}
use mathlib.Core.Bool.{Bool, true, false}
use mathlib.Core.List.{List, [], ◌∷◌, ◌++◌, map}
use mathlib.Core.Option.{Option, none, some}
use native.Mathlib.Omega.{arith}
use native.Mathlib.Nat.{suc-mul, mod-lt, div-add-mod'}
use lib.ListN.{length, get_or, drop, drop_of_length-le}
use borrow.Author.Tests.{le-leb, lt-leb, eq-eqb, ne_eqb}
use Rattle.grammar.specs.Basics.{choose, Mem, here, there, when, each}
use Rattle.grammar.specs.Limits.{limits}
use Rattle.grammar.proofs.Lists.{drop-next}
use Rattle.triples.specs.Records.{step}
use Rattle.triples.specs.declared.Move.TheVariants.{Closing}
use Rattle.triples.specs.declared.Step.{Step}
use Rattle.triple_laws.proofs.Members.{mem_place}
use Rattle.steps.specs.declared.StepAnswer.{StepAnswer}
use Rattle.steps.specs.declared.StepAnswer.TheVariants.{Record, NoMore}
use Rattle.steps.specs.Steps.{nth, record_answer}
use Rattle.steps.specs.declared.Sides.{Sides}
use Rattle.steps.specs.Plan.{inside, between, pick_of, weight, Low, grid, pairs, lefts, shift_of, above, from_shift, shifted}
use Rattle.steps.proofs.Between.{of-between}

-- ---- one turn of the search for a target

pub pick-here : (a b : ℕ) (row : List ℕ) (i k : ℕ) → i < length row → k < weight a b (get_or row i 0)
    → pick_of (between a b (drop i row)) k ≡ Ok (get_or row i 0)
unfolding between pick_of
pick-here a b row i k h l = ap (λ (l : List ℕ). pick_of (between a b l) k) (drop-next row i h) ∙ go (inside a b (get_or row i 0)) k l
  where
    go : (c : Bool) (k : ℕ) → k < choose c 1 0 → pick_of (when c (get_or row i 0 ∷ []) ++ between a b (drop (i + 1) row)) k ≡ Ok (get_or row i 0)
    go true zero l = refl
    go true (suc k) l = absurd (omega arith)
    go false k l = absurd (omega arith)

pub pick-on : (a b : ℕ) (row : List ℕ) (i k : ℕ) → i < length row → weight a b (get_or row i 0) ≤ k
    → pick_of (between a b (drop (i + 1) row)) (k - weight a b (get_or row i 0)) ≡ pick_of (between a b (drop i row)) k
unfolding between pick_of
pick-on a b row i k h l = sym (ap (λ (l : List ℕ). pick_of (between a b l) k) (drop-next row i h) ∙ go (inside a b (get_or row i 0)) k l)
  where
    go : (c : Bool) (k : ℕ) → choose c 1 0 ≤ k → pick_of (when c (get_or row i 0 ∷ []) ++ between a b (drop (i + 1) row)) k ≡ pick_of (between a b (drop (i + 1) row)) (k - choose c 1 0)
    go true zero l = absurd (omega arith)
    go true (suc k) l = ap (pick_of (between a b (drop (i + 1) row))) (let z : k ≡ suc k - 1 = omega arith in z)
    go false k l = ap (pick_of (between a b (drop (i + 1) row))) (let z : k ≡ k - 0 = omega arith in z)

pub pick_end : (a b : ℕ) (row : List ℕ) (i k : ℕ) → length row ≤ i → pick_of (between a b (drop i row)) k ≡ Err k
unfolding between pick_of
pick_end a b row i k h = ap (λ (l : List ℕ). pick_of (between a b l) k) (drop_of_length-le row {i = i} h)

-- ---- a part of the list

pick_some : (g : ℕ → Step) (l : List ℕ) (m : List Step) (k u : ℕ) → Ok u ≡ pick_of l k → nth (map g l ++ m) k ≡ some (g u)
unfolding pick_of nth
pick_some g [] m k u e = absurd (cc)
pick_some g (x ∷ l) m zero u e = cc
pick_some g (x ∷ l) m (suc k) u e = pick_some g l m k u e

pick-none : (g : ℕ → Step) (l : List ℕ) (m : List Step) (k rest : ℕ) → Err rest ≡ pick_of l k → nth (map g l ++ m) k ≡ nth m rest
unfolding pick_of nth
pick-none g [] m k rest e = cc
pick-none g (x ∷ l) m zero rest e = absurd (cc)
pick-none g (x ∷ l) m (suc k) rest e = pick-none g l m k rest e

pick_at : (l : List ℕ) (k u : ℕ) → Ok u ≡ pick_of l k → Mem u l
unfolding pick_of
pick_at [] k u e = absurd (cc)
pick_at (x ∷ l) zero u e = let q : x ≡ u = cc in subst (λ (y : ℕ). Mem y (x ∷ l)) q here
pick_at (x ∷ l) (suc k) u e = there (pick_at l k u e)

-- the element is in the part
pub found_here : (l : List ℕ) (k u : ℕ) → Ok u ≡ pick_of l k → (g : ℕ → Step) (m : List Step) (v : Step) → v ≡ g u
    → Record v ≡ record_answer (nth (map g l ++ m) k)
found_here l k u e g m v z = ap (λ (s : Step). Record s) z ∙ ap record_answer (sym (pick_some g l m k u e))

-- or further on
pub not-here : (l : List ℕ) (k rest : ℕ) → Err rest ≡ pick_of l k → (g : ℕ → Step) (m : List Step) (z : StepAnswer)
    → z ≡ record_answer (nth m rest) → z ≡ record_answer (nth (map g l ++ m) k)
not-here l k rest e g m z q = q ∙ ap record_answer (sym (pick-none g l m k rest e))

-- a target that was found is a state
pub found-low : (a b : ℕ) (row : List ℕ) (k u : ℕ) → Low row → Ok u ≡ pick_of (between a b row) k → u < limits.max_states
found-low a b row k u low e =
    let p = mem_place 0 ((of-between a b row u).0 (pick_at (between a b row) k u e)).0 in
    omega (arith, low p.0 p.1, p.2)

-- no part is left
pub no_more : (k : ℕ) → NoMore ≡ record_answer (nth [] k)
unfolding nth
no_more k = refl

-- ---- a whole image

pub image-at : (g : ℕ → Step) (l : List ℕ) (m : List Step) (k : ℕ) → k < length l → nth (map g l ++ m) k ≡ some (g (get_or l k 0))
unfolding nth
image-at g [] m k h = absurd (omega arith)
image-at g (u ∷ l) m zero h = refl
image-at g (u ∷ l) m (suc k) h = image-at g l m k (omega arith)

pub image-past : (g : ℕ → Step) (l : List ℕ) (m : List Step) (k : ℕ) → length l ≤ k → nth (map g l ++ m) k ≡ nth m (k - length l)
unfolding nth
image-past g [] m k h = ap (nth m) (let z : k ≡ k - 0 = omega arith in z)
image-past g (u ∷ l) m zero h = absurd (omega arith)
image-past g (u ∷ l) m (suc k) h = image-past g l m k (omega arith) ∙ ap (nth m) (let z : k - length l ≡ suc k - suc (length l) = omega arith in z)

pub image-ends : (g : ℕ → Step) (l : List ℕ) (k : ℕ) → length l ≤ k → NoMore ≡ record_answer (nth (map g l ++ []) k)
unfolding nth
image-ends g l k h = ap record_answer (sym (image-past g l [] k h))

-- ---- all pairs

module _ (i j : ℕ) (rs : List ℕ) where
  abbrev pair : ℕ → ℕ → Step
  pair u v = step 1 u v (Closing i) (Closing j)

  pairs-here : (ls : List ℕ) (a b k : ℕ) → k ≡ a * length rs + b → b < length rs → a < length ls
      → nth (grid i j ls rs) k ≡ some (pair (get_or ls a 0) (get_or rs b 0))
  unfolding grid each
  pairs-here [] a b k e h l = absurd (omega arith)
  pairs-here (u ∷ ls) zero b k e h l =
      let z : k ≡ b = omega arith in
      image-at (pair u) rs (grid i j ls rs) k (omega arith) ∙ ap (λ (n : ℕ). some (pair u (get_or rs n 0))) z
  pairs-here (u ∷ ls) (suc a) b k e h l =
      let w = suc-mul a (length rs) in
      let z : k - length rs ≡ a * length rs + b = omega arith in
      image-past (pair u) rs (grid i j ls rs) k (omega arith) ∙ pairs-here ls a b (k - length rs) z h (omega arith)

  pairs_gone : (ls : List ℕ) (a b k : ℕ) → k ≡ a * length rs + b → length ls ≤ a → nth (grid i j ls rs) k ≡ none
  unfolding grid each nth
  pairs_gone [] a b k e l = refl
  pairs_gone (u ∷ ls) zero b k e l = absurd (omega arith)
  pairs_gone (u ∷ ls) (suc a) b k e l =
      let w = suc-mul a (length rs) in
      let z : k - length rs ≡ a * length rs + b = omega arith in
      image-past (pair u) rs (grid i j ls rs) k (omega arith) ∙ pairs_gone ls a b (k - length rs) z (omega arith)

  pub pair-at : (ls : List ℕ) (k : ℕ) → 0 < length rs → k / length rs < length ls
      → nth (grid i j ls rs) k ≡ some (pair (get_or ls (k / length rs) 0) (get_or rs (k % length rs) 0))
  pair-at ls k h l = pairs-here ls (k / length rs) (k % length rs) k (sym (div-add-mod' k (length rs))) (mod-lt k h) l

  pub pair-past : (ls : List ℕ) (k : ℕ) → length ls ≤ k / length rs → nth (grid i j ls rs) k ≡ none
  pair-past ls k l = pairs_gone ls (k / length rs) (k % length rs) k (sym (div-add-mod' k (length rs))) l

  pub pair-none : (ls : List ℕ) (k : ℕ) → length rs ≡ 0 → nth (grid i j ls rs) k ≡ none
  unfolding grid each nth
  pair-none [] k e = refl
  pair-none (u ∷ ls) k e =
      let z : k - length rs ≡ k = omega arith in
      image-past (pair u) rs (grid i j ls rs) k (omega arith) ∙ ap (nth (grid i j ls rs)) z ∙ pair-none ls k e

-- a number that is not 0
pub positive : (n : ℕ) → (n ≡ 0 → ⊥) → 0 < n
positive zero h = absurd (h refl)
positive (suc n) h = omega arith

-- none for equal rules
pub pairs_equal : (i j : ℕ) (ls rs : List ℕ) (k : ℕ) → i ≡ j → NoMore ≡ record_answer (nth (pairs i j ls rs) k)
unfolding nth
pairs_equal i j ls rs k e = ap (λ b. record_answer (nth (choose b [] (grid i j ls rs)) k)) (sym (eq-eqb i j e))

pub pairs_unequal : (i j : ℕ) (ls rs : List ℕ) (k : ℕ) (o : Option Step) → (i ≡ j → ⊥) → nth (grid i j ls rs) k ≡ o
    → record_answer o ≡ record_answer (nth (pairs i j ls rs) k)
pairs_unequal i j ls rs k o n e =
    ap record_answer (sym e) ∙ ap (λ b. record_answer (nth (choose b [] (grid i j ls rs)) k)) (sym (ne_eqb i j n))

-- ---- the shift

module _ (number after ls : List ℕ) (s : Sides) (x k : ℕ) where
  -- the state after the left one
  abbrev n : ℕ
  n = get_or after s.left 0

  abbrev near : List Step
  near = lefts number ls s (s.left + 1) (n + 1) ++ from_shift number after ls s x

  pub shift_none : x ≡ 0 → nth (above number ls s (s.left + 1)) k ≡ nth (shifted number after ls s x) k
  unfolding shifted
  shift_none e = ap (λ b. nth (choose b near (above number ls s (s.left + 1))) k) (sym (lt-leb 1 x (omega arith)))

  pub shift_some : (x ≡ 0 → ⊥) → nth near k ≡ nth (shifted number after ls s x) k
  unfolding shifted
  shift_some m = ap (λ b. nth (choose b near (above number ls s (s.left + 1))) k) (sym (le-leb 1 x (positive x m)))

  pub shift_first : k ≡ 0 → some (shift_of after s x) ≡ nth (from_shift number after ls s x) k
  unfolding from_shift nth
  shift_first e = ap (λ (k : ℕ). nth (shift_of after s x ∷ above number ls s (n + 1)) k) (sym e)

  pub shift_later : (b : ℕ) → b ≡ n + 1 → (k ≡ 0 → ⊥) → nth (above number ls s b) (k - 1) ≡ nth (from_shift number after ls s x) k
  unfolding from_shift nth
  shift_later b e m = ap (λ (b : ℕ). nth (above number ls s b) (k - 1)) e ∙ go k m
    where
      go : (k : ℕ) → (k ≡ 0 → ⊥) → nth (above number ls s (n + 1)) (k - 1) ≡ nth (shift_of after s x ∷ above number ls s (n + 1)) k
      go zero m = absurd (m refl)
      go (suc k) m = ap (nth (above number ls s (n + 1))) (let z : suc k - 1 ≡ k = omega arith in z)
