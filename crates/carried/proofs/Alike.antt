-- Moves that are alike but for the codes ahead: their step records differ in the code of a shift and in nothing else, so their
-- successors are the same indices in the same order. Assumes nothing.
use Prim.Native.Nat.{ℕ, zero, suc, ◌<◌}
use mathlib.Core.Path.{◌≡◌, refl, ap, ap₂, sym, ◌∙◌}
use mathlib.Core.Bool.{Bool, true, false, not, ◌&&◌}
use mathlib.Core.List.{List, [], ◌∷◌, ◌++◌, map, map-append, map-map}
use lib.Dec.{eqb, ltb, leb}
use Rattle.grammar.specs.Basics.{choose, when, each}
use Rattle.grammar.specs.TableCheck.{is_terminal}
use Rattle.automaton.specs.Moves.{Moves, terminal_ahead}
use Rattle.triples.specs.Index.{index, layer_of, left_of, right_of}
use Rattle.triples.specs.Records.{step, left_alone, right_alone, both_shift, both_close, choices, key, insert, ordered, records, next_index}
use Rattle.triples.specs.Smallest.{successors}
use Rattle.triples.specs.declared.Move.{Move}
use Rattle.triples.specs.declared.Move.TheVariants.{Opening, Closing, Symbol, Still}
use Rattle.triples.specs.declared.Step.{Step}
use Rattle.carried.specs.Carried.{moved}
use Rattle.carried.proofs.Codes.{moved_same, moved-terminal, moved-some}
use Rattle.carried.proofs.Lists.{map_same, each_map}

-- N is M with the codes from b on moved up by d; terminals lie below b
pub record Alike (b d : ℕ) (M N : Moves) : Type 0 where
  pub low : M.terminals < b
  pub states : N.states ≡ M.states
  pub terminals : N.terminals ≡ M.terminals
  pub ahead : (p : ℕ) → N.ahead p ≡ moved b d (M.ahead p)
  pub after : (p : ℕ) → N.after p ≡ M.after p
  pub openings : (p : ℕ) → N.openings p ≡ M.openings p
  pub closings : (p : ℕ) → N.closings p ≡ M.closings p

-- a step record with its shifts' codes moved
unfoldable pub moved_move : ℕ → ℕ → Move → Move
moved_move b d (Opening i) = Opening i
moved_move b d (Closing i) = Closing i
moved_move b d (Symbol x) = Symbol (moved b d x)
moved_move b d Still = Still

unfoldable pub moved_step : ℕ → ℕ → Step → Step
moved_step b d s = step s.layer s.left s.right (moved_move b d s.on_left) (moved_move b d s.on_right)

module _ (b d : ℕ) (M N : Moves) (A : Alike b d M N) (some : 0 < b) where
  terminal-same : (p : ℕ) → terminal_ahead N p ≡ terminal_ahead M p
  terminal-same p =
      ap₂ (λ (t x : ℕ). is_terminal t x) A.terminals (A.ahead p) ∙ moved-terminal b d M.terminals (M.ahead p) A.low

  shift_same : (f p q : ℕ) → both_shift N f p q ≡ map (moved_step b d) (both_shift M f p q)
  unfolding both_shift moved_step moved_move
  shift_same f p q =
      ap₂ (λ (x y : ℕ). when (leb 1 x && eqb x y) (step f (N.after p) (N.after q) (Symbol x) (Symbol x) ∷ [])) (A.ahead p) (A.ahead q)
      ∙ ap₂ (λ (u v : ℕ). when (leb 1 (moved b d x) && eqb (moved b d x) (moved b d y)) (step f u v (Symbol (moved b d x)) (Symbol (moved b d x)) ∷ []))
      (A.after p) (A.after q)
      ∙ ap₂ (λ (u v : Bool). when (u && v) (step f (M.after p) (M.after q) (Symbol (moved b d x)) (Symbol (moved b d x)) ∷ []))
      (moved-some b d x some) (moved_same b d x y)
      ∙ go (leb 1 x && eqb x y)
    where
      x : ℕ
      x = M.ahead p

      y : ℕ
      y = M.ahead q

      go : (c : Bool) → when c (step f (M.after p) (M.after q) (Symbol (moved b d x)) (Symbol (moved b d x)) ∷ [])
          ≡ map (moved_step b d) (when c (step f (M.after p) (M.after q) (Symbol x) (Symbol x) ∷ []))
      go true = refl
      go false = refl

  -- records of one side, and of two closings, hold no codes
  left-same : (f q : ℕ) (kind : ℕ → Move) → ((i : ℕ) → moved_move b d (kind i) ≡ kind i) → (ms : List (ℕ × ℕ))
      → left_alone f q kind ms ≡ map (moved_step b d) (left_alone f q kind ms)
  unfolding left_alone moved_step moved_move
  left-same f q kind h ms =
      map_same _ _ (λ m. ap (λ (k : Move). step f m.1 q k Still) (sym (h m.0))) ms
      ∙ sym (map-map (moved_step b d) (λ m. step f m.1 q (kind m.0) Still) ms)

  right-same : (f p : ℕ) (kind : ℕ → Move) → ((i : ℕ) → moved_move b d (kind i) ≡ kind i) → (ms : List (ℕ × ℕ))
      → right_alone f p kind ms ≡ map (moved_step b d) (right_alone f p kind ms)
  unfolding right_alone moved_step moved_move
  right-same f p kind h ms =
      map_same _ _ (λ m. ap (λ (k : Move). step f p m.1 Still k) (sym (h m.0))) ms
      ∙ sym (map-map (moved_step b d) (λ m. step f p m.1 Still (kind m.0)) ms)

  close-same : (p q : ℕ) → both_close N p q ≡ map (moved_step b d) (both_close M p q)
  unfolding both_close moved_step moved_move
  close-same p q =
      ap₂ (λ (us vs : List (ℕ × ℕ)). each us (λ m. each vs (λ n. when (not (eqb m.0 n.0)) (step 1 m.1 n.1 (Closing m.0) (Closing n.0) ∷ []))))
      (A.closings p) (A.closings q)
      ∙ each_map (moved_step b d) (M.closings p) _ _ (λ m. each_map (moved_step b d) (M.closings q) _ _ (λ n. go m n (not (eqb m.0 n.0))))
    where
      go : (m n : ℕ × ℕ) (c : Bool) → when c (step 1 m.1 n.1 (Closing m.0) (Closing n.0) ∷ [])
          ≡ map (moved_step b d) (when c (step 1 m.1 n.1 (Closing m.0) (Closing n.0) ∷ []))
      go m n true = refl
      go m n false = refl

  when-same : (c e : Bool) (us vs : List Step) → c ≡ e → us ≡ map (moved_step b d) vs → when c us ≡ map (moved_step b d) (when e vs)
  when-same c true us vs q h = ap (λ (k : Bool). when k us) q ∙ h
  when-same c false us vs q h = ap (λ (k : Bool). when k us) q

  -- the first records are the second ones with their codes moved
  record As (us vs : List Step) : Type 0 where
    pub same : us ≡ map (moved_step b d) vs

  told : {us vs : List Step} → us ≡ map (moved_step b d) vs → As us vs
  told h = record { same = h }

  under : {c e : Bool} {us vs : List Step} → c ≡ e → As us vs → As (when c us) (when e vs)
  under {c = c} {e = e} {us = us} {vs = vs} q h = told (when-same c e us vs q h.same)

  join : {us vs us' vs' : List Step} → As us us' → As vs vs' → As (us ++ vs) (us' ++ vs')
  join {us' = us'} {vs' = vs'} h k = told (ap₂ (λ (x y : List Step). x ++ y) h.same k.same ∙ sym (map-append (moved_step b d) us' vs'))

  opened : (i : ℕ) → moved_move b d (Opening i) ≡ Opening i
  unfolding moved_move
  opened i = refl

  closed : (i : ℕ) → moved_move b d (Closing i) ≡ Closing i
  unfolding moved_move
  closed i = refl

  left_open : (f p q : ℕ) → As (left_alone f q (λ i. Opening i) (N.openings p)) (left_alone f q (λ i. Opening i) (M.openings p))
  left_open f p q = record {
    same = ap (λ (ms : List (ℕ × ℕ)). left_alone f q (λ i. Opening i) ms) (A.openings p) ∙ left-same f q (λ i. Opening i) opened (M.openings p);
  }

  right_open : (f p q : ℕ) → As (right_alone f p (λ i. Opening i) (N.openings q)) (right_alone f p (λ i. Opening i) (M.openings q))
  right_open f p q = record {
    same = ap (λ (ms : List (ℕ × ℕ)). right_alone f p (λ i. Opening i) ms) (A.openings q) ∙ right-same f p (λ i. Opening i) opened (M.openings q);
  }

  left-close : (f p q : ℕ) → As (left_alone f q (λ i. Closing i) (N.closings p)) (left_alone f q (λ i. Closing i) (M.closings p))
  left-close f p q = record {
    same = ap (λ (ms : List (ℕ × ℕ)). left_alone f q (λ i. Closing i) ms) (A.closings p) ∙ left-same f q (λ i. Closing i) closed (M.closings p);
  }

  right-close : (f p q : ℕ) → As (right_alone f p (λ i. Closing i) (N.closings q)) (right_alone f p (λ i. Closing i) (M.closings q))
  right-close f p q = record {
    same = ap (λ (ms : List (ℕ × ℕ)). right_alone f p (λ i. Closing i) ms) (A.closings q) ∙ right-same f p (λ i. Closing i) closed (M.closings q);
  }

  shift : (f p q : ℕ) → As (both_shift N f p q) (both_shift M f p q)
  shift f p q = record { same = shift_same f p q }

  close : (p q : ℕ) → As (both_close N p q) (both_close M p q)
  close p q = record { same = close-same p q }

  pub choices-same : (f p q : ℕ) → choices N f p q ≡ map (moved_step b d) (choices M f p q)
  unfolding choices
  choices-same zero p q =
      (join (join (join (join (join (left_open 0 p q) (right_open 0 p q)) (shift 0 p q)) (close p q))
      (under (terminal-same q) (left-close 1 p q))) (under (terminal-same p) (right-close 1 p q))).same
  choices-same (suc zero) p q =
      (join (join (join (join (left_open 1 p q) (left-close 1 p q)) (right_open 1 p q)) (right-close 1 p q))
      (under (terminal-same p) (shift 1 p q))).same
  choices-same (suc (suc f)) p q = refl

  key-same : (i : ℕ) (s : Step) → key N i (moved_step b d s) ≡ key M i s
  unfolding moved_step
  key-same i s = ap (λ (n : ℕ). choose (eqb (index n s.layer s.left s.right) i) 0 (suc (index n s.layer s.left s.right))) A.states

  insert-same : (i : ℕ) (s : Step) (ss : List Step) → insert N i (moved_step b d s) (map (moved_step b d) ss) ≡ map (moved_step b d) (insert M i s ss)
  unfolding insert
  insert-same i s [] = refl
  insert-same i s (t ∷ ts) =
      ap₂ (λ (u v : ℕ). choose (leb u v) (moved_step b d s ∷ moved_step b d t ∷ map (moved_step b d) ts) (moved_step b d t ∷ insert N i (moved_step b d s) (map (moved_step b d) ts)))
      (key-same i s) (key-same i t)
      ∙ ap (λ (l : List Step). choose (leb (key M i s) (key M i t)) (moved_step b d s ∷ moved_step b d t ∷ map (moved_step b d) ts) (moved_step b d t ∷ l)) (insert-same i s ts)
      ∙ go (leb (key M i s) (key M i t)) (s ∷ t ∷ ts) (t ∷ insert M i s ts)
    where
      go : (c : Bool) (us vs : List Step) → choose c (map (moved_step b d) us) (map (moved_step b d) vs) ≡ map (moved_step b d) (choose c us vs)
      go true us vs = refl
      go false us vs = refl

  ordered_same : (i : ℕ) (ss : List Step) → ordered N i (map (moved_step b d) ss) ≡ map (moved_step b d) (ordered M i ss)
  unfolding ordered
  ordered_same i [] = refl
  ordered_same i (s ∷ ss) = ap (λ (l : List Step). insert N i (moved_step b d s) l) (ordered_same i ss) ∙ insert-same i s (ordered M i ss)

  -- the step records are the same but for the codes of shifts
  pub records-same : (f p q : ℕ) → records N f p q ≡ map (moved_step b d) (records M f p q)
  unfolding records
  records-same f p q =
      ap (λ (n : ℕ). when (ltb p n && ltb q n) (ordered N (index n f p q) (choices N f p q))) A.states
      ∙ when-same (ltb p M.states && ltb q M.states) (ltb p M.states && ltb q M.states)
      (ordered N (index M.states f p q) (choices N f p q)) (ordered M (index M.states f p q) (choices M f p q)) refl
      (ap (λ (l : List Step). ordered N (index M.states f p q) l) (choices-same f p q) ∙ ordered_same (index M.states f p q) (choices M f p q))

  next-same : (s : Step) → next_index N (moved_step b d s) ≡ next_index M s
  unfolding moved_step
  next-same s = ap (λ (n : ℕ). index n s.layer s.left s.right) A.states

  -- the successors of an index are the same indices, in the same order
  pub successors-same : (i : ℕ) → successors N i ≡ successors M i
  unfolding successors
  successors-same i =
      ap (λ (n : ℕ). map (next_index N) (records N (layer_of n i) (left_of n i) (right_of n i))) A.states
      ∙ ap (map (next_index N)) (records-same (layer_of M.states i) (left_of M.states i) (right_of M.states i))
      ∙ map-map (next_index N) (moved_step b d) (records M (layer_of M.states i) (left_of M.states i) (right_of M.states i))
      ∙ map_same _ _ next-same (records M (layer_of M.states i) (left_of M.states i) (right_of M.states i))
