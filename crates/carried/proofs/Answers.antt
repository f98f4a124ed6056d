-- Whatever is answered of moves by their number of states and their successors is the same where these are. Assumes nothing.
use Prim.Native.Nat.{ℕ, zero, suc, ◌+◌, ◌-◌, ◌*◌, ◌<◌}
use mathlib.Core.Path.{◌≡◌, refl, ap, ap₂, sym, ◌∙◌}
use mathlib.Core.Bool.{Bool, true, false, not, ◌&&◌}
use mathlib.Core.List.{List, [], ◌∷◌, ◌++◌, map}
use mathlib.Core.Option.{Option, some}
use lib.Dec.{eqb, leb}
use lib.ListN.{length, get_or, length-append, length-map}
use Rattle.grammar.specs.Basics.{choose, when, each}
use Rattle.grammar.specs.Refusal.{Answer, done, refuse_unless, certificate_length, spare_bit, start_missing, end_present, successor_missing, witness_wrong}
use Rattle.automaton.specs.Moves.{Moves}
use Rattle.automaton.specs.AllMoves.{numbers, Moved, moved, leaving, all_moves, move_count}
use Rattle.automaton.specs.Strings.{opening, closing, symbol}
use Rattle.triples.specs.Index.{index, triple_count}
use Rattle.triples.specs.Smallest.{is_element, push_all, explore, successors, smallest}
use Rattle.triples.specs.Certificate.{byte_count, lowest, is_set, are_set, check_bytes}
use Rattle.triples.specs.Witness.{check_on, check_row}
use Rattle.triples.specs.Shortest.{first_row, or_else, in_front, row_of, fewest, row_or_none, shortest}
use Rattle.triples.specs.Looked.{total, looked_at}
use Rattle.search.specs.Promise.{is_potential}
use Rattle.carried.proofs.Codes.{moved-some}
use Rattle.carried.proofs.Alike.{Alike}

-- searches by equal successors
explore-same : (f g : ℕ → List ℕ) → ((i : ℕ) → f i ≡ g i) → (m place : ℕ) (queue : List ℕ) → explore f m place queue ≡ explore g m place queue
unfolding explore
explore-same f g h zero place queue = refl
explore-same f g h (suc m) place queue =
    ap (λ (l : List ℕ). choose (leb (length queue) place) queue l)
    (ap (λ (l : List ℕ). explore f m (suc place) (push_all queue l)) (h (get_or queue place 0))
    ∙ explore-same f g h m (suc place) (push_all queue (g (get_or queue place 0))))

lowest-same : (f g : ℕ → Bool) → ((i : ℕ) → f i ≡ g i) → (m i : ℕ) → lowest f m i ≡ lowest g m i
unfolding lowest
lowest-same f g h zero i = refl
lowest-same f g h (suc m) i = ap₂ (λ (c : Bool) (k : ℕ). choose c i k) (h i) (lowest-same f g h m (suc i))

total-same : (f g : ℕ → ℕ) → ((i : ℕ) → f i ≡ g i) → (l : List ℕ) → total f l ≡ total g l
unfolding total
total-same f g h [] = refl
total-same f g h (i ∷ is) = ap₂ (λ (x y : ℕ). x + y) (h i) (total-same f g h is)

first-same : (f g : ℕ → Option (List ℕ)) → ((i : ℕ) → f i ≡ g i) → (l : List ℕ) → first_row f l ≡ first_row g l
unfolding first_row
first-same f g h [] = refl
first-same f g h (j ∷ js) = ap₂ (λ (x y : Option (List ℕ)). or_else (in_front j x) y) (h j) (first-same f g h js)

row-of-same : (f g : ℕ → List ℕ) → ((i : ℕ) → f i ≡ g i) → (goal m i : ℕ) → row_of f goal m i ≡ row_of g goal m i
unfolding row_of
row-of-same f g h goal zero i = refl
row-of-same f g h goal (suc m) i =
    ap (first_row (row_of f goal m)) (h i) ∙ first-same (row_of f goal m) (row_of g goal m) (λ j. row-of-same f g h goal m j) (g i)

fewest-same : (f g : ℕ → List ℕ) → ((i : ℕ) → f i ≡ g i) → (goal more m i : ℕ) → fewest f goal more m i ≡ fewest g goal more m i
unfolding fewest
fewest-same f g h goal zero m i = refl
fewest-same f g h goal (suc more) m i =
    ap₂ (λ (x y : Option (List ℕ)). or_else x y) (row-of-same f g h goal m i) (fewest-same f g h goal more (suc m) i)

-- answers by as many states and equal successors
module _ (M N : Moves) (same : N.states ≡ M.states) (next : (i : ℕ) → successors N i ≡ successors M i) where
  pub set_same : smallest N ≡ smallest M
  unfolding smallest
  set_same = ap (λ (Q : ℕ). explore (successors N) (triple_count Q) 0 (0 ∷ [])) same
      ∙ explore-same (successors N) (successors M) next (triple_count M.states) 0 (0 ∷ [])

  pub verdict-same : is_potential N ≡ is_potential M
  verdict-same = ap₂ (λ (Q : ℕ) (l : List ℕ). is_element (index Q 1 1 1) l) same set_same

  pub looked-same : looked_at N ≡ looked_at M
  unfolding looked_at
  looked-same =
      ap (total (λ i. length (successors N i))) set_same
      ∙ total-same (λ i. length (successors N i)) (λ i. length (successors M i)) (λ i. ap length (next i)) (smallest M)

  pub shortest-same : shortest N ≡ shortest M
  unfolding shortest
  shortest-same =
      ap (λ (Q : ℕ). row_or_none (in_front 0 (fewest (successors N) (index Q 1 1 1) (triple_count Q) 0 0))) same
      ∙ ap (λ (o : Option (List ℕ)). row_or_none (in_front 0 o))
      (fewest-same (successors N) (successors M) next (index M.states 1 1 1) (triple_count M.states) 0 0)

  pub bytes_same : (bytes : List ℕ) → check_bytes N bytes ≡ check_bytes M bytes
  unfolding check_bytes
  bytes_same bytes =
      ap (λ (Q : ℕ).
      let spare = lowest (is_set bytes) (8 * byte_count Q - triple_count Q) (triple_count Q) in
      let lacking = lowest (λ i. is_set bytes i && not (are_set bytes (successors N i))) (triple_count Q) 0 in
      refuse_unless certificate_length 0 (eqb (length bytes) (byte_count Q))
      (refuse_unless spare_bit spare (eqb spare (8 * byte_count Q))
      (refuse_unless start_missing 0 (is_set bytes 0)
      (refuse_unless end_present (index Q 1 1 1) (not (is_set bytes (index Q 1 1 1)))
      (refuse_unless successor_missing lacking (eqb lacking (triple_count Q))
      (done tt)))))) same
      ∙ ap (λ (lacking : ℕ).
      let Q = M.states in
      let spare = lowest (is_set bytes) (8 * byte_count Q - triple_count Q) (triple_count Q) in
      refuse_unless certificate_length 0 (eqb (length bytes) (byte_count Q))
      (refuse_unless spare_bit spare (eqb spare (8 * byte_count Q))
      (refuse_unless start_missing 0 (is_set bytes 0)
      (refuse_unless end_present (index Q 1 1 1) (not (is_set bytes (index Q 1 1 1)))
      (refuse_unless successor_missing lacking (eqb lacking (triple_count Q))
      (done tt))))))
      (lowest-same _ _ (λ i. ap (λ (l : List ℕ). is_set bytes i && not (are_set bytes l)) (next i)) (triple_count M.states) 0)

  on_same : (i place : ℕ) (row : List ℕ) → check_on N i place row ≡ check_on M i place row
  unfolding check_on
  on_same i place [] = ap (λ (Q : ℕ). refuse_unless witness_wrong place (eqb i (index Q 1 1 1)) (done tt)) same
  on_same i place (j ∷ is) =
      ap₂ (λ (l : List ℕ) (a : Answer Unit). refuse_unless witness_wrong place (is_element j l) a) (next i) (on_same j (suc place) is)

  pub row_same : (row : List ℕ) → check_row N row ≡ check_row M row
  unfolding check_row
  row_same [] = refl
  row_same (i ∷ is) = ap₂ (λ (Q : ℕ) (a : Answer Unit). refuse_unless witness_wrong 0 (eqb i (index Q 0 0 0)) a) same (on_same i 1 is)

-- moves that are alike but for the codes ahead are as many
module _ (b d : ℕ) (M N : Moves) (A : Alike b d M N) (some : 0 < b) where
  count_each : (f g : ℕ → List Moved) → ((p : ℕ) → length (f p) ≡ length (g p)) → (l : List ℕ) → length (each l f) ≡ length (each l g)
  unfolding each
  count_each f g h [] = refl
  count_each f g h (p ∷ l) =
      length-append (f p) (each l f) ∙ ap₂ (λ (x y : ℕ). x + y) (h p) (count_each f g h l) ∙ sym (length-append (g p) (each l g))

  -- the number of moves that leave a state, by its lists
  leaves : (K : Moves) (p : ℕ) → length (leaving K p)
      ≡ length (K.openings p) + length (K.closings p) + choose (leb 1 (K.ahead p)) 1 0
  unfolding leaving
  leaves K p =
      length-append (o ++ c) (when (leb 1 (K.ahead p)) (x ∷ []))
      ∙ ap₂ (λ (u v : ℕ). u + v)
      (length-append o c ∙ ap₂ (λ (u v : ℕ). u + v) (length-map (K.openings p) (λ m. moved p (opening m.0) m.1))
      (length-map (K.closings p) (λ m. moved p (closing m.0) m.1)))
      (go (leb 1 (K.ahead p)))
    where
      o : List Moved
      o = map (λ m. moved p (opening m.0) m.1) (K.openings p)

      c : List Moved
      c = map (λ m. moved p (closing m.0) m.1) (K.closings p)

      x : Moved
      x = moved p (symbol (K.ahead p)) (K.after p)

      go : (k : Bool) → length (when k (x ∷ [])) ≡ choose k 1 0
      go true = refl
      go false = refl

  leave_same : (p : ℕ) → length (leaving N p) ≡ length (leaving M p)
  leave_same p =
      leaves N p
      ∙ ap₂ (λ (u v : ℕ). u + v) (ap₂ (λ (us vs : List (ℕ × ℕ)). length us + length vs) (A.openings p) (A.closings p))
      (ap (λ (c : Bool). choose c 1 0) (ap (leb 1) (A.ahead p) ∙ moved-some b d (M.ahead p) some))
      ∙ sym (leaves M p)

  pub count_same : move_count N ≡ move_count M
  unfolding all_moves
  count_same =
      ap (λ (Q : ℕ). length (each (numbers Q) (leaving N))) A.states ∙ count_each (leaving N) (leaving M) leave_same (numbers M.states)
