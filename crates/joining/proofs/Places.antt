-- Where the rows of two joined texts say that a symbol's name stands. Assumes nothing.
use Prim.Native.Nat.{ℕ, zero, suc, ◌+◌, ◌-◌, ◌≤◌, ◌<◌}
use mathlib.Core.Path.{◌≡◌, refl, ap, ap₂, sym, subst, ◌∙◌}
use mathlib.Core.Bool.{Bool, true, false}
use mathlib.Core.List.{List, [], ◌∷◌, ◌++◌}
use native.Mathlib.Omega.{arith}
use borrow.Author.Tests.{eq-eqb, eqb-true, ltb-false}
use lib.Dec.{eqb, ltb}
use lib.ListN.{length, take, get_or, length-append}
use lib.Seq.{get_or-take}
use Rattle.std.specs.Prelude.{cond, not, Some, None}
use Rattle.std.specs.List.{position, position_or_len}
use Rattle.std.specs.Option.{unwrap_or}
use Rattle.std.proofs.lemmas.List.Sums.{prefix_len-le-length}
use Rattle.std.proofs.lemmas.List.Recursion.{is_position_or_len}
use Rattle.grammar.specs.Basics.{choose}
use Rattle.grammar.specs.Limits.{limits}
use Rattle.grammar.specs.declared.Cause.{Cause}
use Rattle.text.specs.Names.{place}
use Rattle.text.specs.Read.{Source, symbol_names}
use Rattle.text.specs.Promise.{name_starts, name_lengths}
use Rattle.text.proofs.Spans.{length-name-starts, length-lengths}
use Rattle.modules.specs.Joined.{meet, added, joined_terminals, joined_nonterminals, joined}
use Rattle.joining.specs.Numbers.{numbered}
use Rattle.joining.specs.Joins.{JoinTold, PlaceReady}
use Rattle.joining.specs.declared.ListSizes.{ListSizes}
use Rattle.joining.specs.declared.Join.{Join}
use Rattle.joining.specs.declared.Join.TheVariants.{Refused}
use Rattle.modules.specs.declared.Place.TheVariants.{Robot, Module, Neither}
use Rattle.joining.proofs.Loops.{length-numbered}
use Rattle.joining.proofs.ShownLaws.{added-counted}
use Rattle.joining.proofs.Declarers.{OfRobot, OfModule, own_terminal, own_nonterminal, added-terminal, added-nonterminal}
use Rattle.joining.proofs.ShownNames.{Told, clear, robot-told, module_told, neither_told, shown-refused}

-- ---- the first entry that is i

-- its place is the one that the library finds, or how many entries there are
pub place-found : {A : Type 0} (p : A → Bool) (l : List A) → unwrap_or (position p l) (length l) ≡ place p l
unfolding place
place-found p l =
    let same : place p l ≡ position_or_len p l = is_position_or_len (place p) p refl (λ x xs. step (p x) (place p xs)) l in
    go (ltb (position_or_len p l) (length l)) refl ∙ sym same
  where
    step : (c : Bool) (k : ℕ) → choose c 0 (suc k) ≡ cond c 0 (1 + k)
    step true k = refl
    step false k = omega arith

    go : (c : Bool) → ltb (position_or_len p l) (length l) ≡ c
        → unwrap_or (cond c (Some (position_or_len p l)) None) (length l) ≡ position_or_len p l
    go true e = refl
    go false e = omega (arith, prefix_len-le-length (λ x. not (p x)) l, ltb-false (position_or_len p l) (length l) e)

-- where one is, it is there
pub entry_found : (l : List ℕ) (i j : ℕ) → j < length l → get_or l j 0 ≡ i
    → (place (λ (x : ℕ). eqb x i) l < length l) × (get_or l (place (λ (x : ℕ). eqb x i) l) 0 ≡ i)
unfolding place
entry_found [] i j h e = absurd (omega arith)
entry_found (x ∷ l) i zero h e = rw (eq-eqb x i e) (omega arith, e)
entry_found (x ∷ l) i (suc j) h e = go (place (λ (x : ℕ). eqb x i) l) (eqb x i) refl (entry_found l i j (omega arith) e)
  where
    go : (k : ℕ) (c : Bool) → eqb x i ≡ c → (k < length l) × (get_or l k 0 ≡ i)
        → (choose c 0 (suc k) < suc (length l)) × (get_or (x ∷ l) (choose c 0 (suc k)) 0 ≡ i)
    go k true f again = (omega arith, eqb-true x i f)
    go k false f again = (omega (arith, again.0), again.1)

-- ---- rows that begin with what is told

-- a row is as long as its front, and has its entries
front-room : (k : ℕ) (l front : List ℕ) → take k l ≡ front → length front ≡ k → k ≤ length l
front-room k l front e h = room k l (ap length e ∙ h)
  where
    room : (k : ℕ) (l : List ℕ) → length (take k l) ≡ k → k ≤ length l
    room zero l h = omega arith
    room (suc k) [] h = absurd (omega arith)
    room (suc k) (x ∷ l) h = let z = room k l (omega arith) in omega arith

front-entry : (k : ℕ) (l front : List ℕ) (j : ℕ) → take k l ≡ front → j < k → get_or l j 0 ≡ get_or front j 0
front-entry k l front j e h = sym (get_or-take k l j 0 h) ∙ ap (λ (l : List ℕ). get_or l j 0) e

-- the place of a number past the robot's names is that of a name of the module
found : (row : List ℕ) (u : ℕ) (names xs : List (List ℕ)) (i : ℕ) → u ≡ length xs → take (length xs) row ≡ numbered names (length names) xs
    → length names ≤ i → i < length (names ++ added names xs)
    → (place (λ (x : ℕ). eqb x i) (take u row) < u) × (get_or (numbered names (length names) xs) (place (λ (x : ℕ). eqb x i) (take u row)) 0 ≡ i)
found row u names xs i e f h l =
    let c = added-counted names xs (length names) i h (omega (arith, l, length-append names (added names xs))) in
    let n = length-numbered names (length names) xs in
    let d = entry_found (numbered names (length names) xs) i c.number (omega (arith, c.inside, n)) c.is in
    let q = ap (λ (k : ℕ). take k row) e ∙ f in
    let p = ap (λ (l : List ℕ). place (λ (x : ℕ). eqb x i) l) q in
    (omega (arith, p, d.0, n, e), ap (λ (j : ℕ). get_or (numbered names (length names) xs) j 0) p ∙ d.1)

-- the rows of two texts that are joined
module _ {robot addon : List ℕ} {z : ListSizes} {starts lengths firsts widths terminals nonterminals : List ℕ}
    (ready : PlaceReady robot addon z starts lengths firsts widths terminals nonterminals) where
  abbrev r : Source
  r = ready.held.r

  abbrev m : Source
  m = ready.held.m

  apart : limits.max_terminals < limits.nonterminal_base
  apart = omega arith

  abbrev names : List (List ℕ)
  names = joined_terminals r m ++ joined_nonterminals r m

  -- how many there are
  record Sizes : Type 0 where
    t_is : z.t ≡ length r.terminals
    n_is : z.n ≡ length r.nonterminals
    u_is : z.u ≡ length m.terminals
    v_is : z.v ≡ length m.nonterminals
    terminals_are : z.terminals ≡ length (joined_terminals r m)
    nonterminals_are : z.nonterminals ≡ length (joined_nonterminals r m)
    names_are : length names ≡ z.terminals + z.nonterminals
    robot-names : length (symbol_names r) ≡ z.t + z.n
    module-names : length (symbol_names m) ≡ z.u + z.v

  sizes : Sizes
  unfolding joined
  sizes =
      let h = ready.held in
      record {
        t_is = h.t_is;
        n_is = h.n_is;
        u_is = h.u_is;
        v_is = h.v_is;
        terminals_are = h.terminals_are;
        nonterminals_are = h.nonterminals_are;
        names_are = omega (arith, length-append (joined_terminals r m) (joined_nonterminals r m), h.terminals_are, h.nonterminals_are);
        robot-names = omega (arith, length-append r.terminals r.nonterminals, h.t_is, h.n_is);
        module-names = omega (arith, length-append m.terminals m.nonterminals, h.u_is, h.v_is);
      }

  -- the rows have all names
  pub robot-room : (z.t + z.n ≤ length starts) × (z.t + z.n ≤ length lengths)
  robot-room =
      let h = ready.held in (
        omega (arith, sizes.robot-names, front-room _ starts (name_starts r) h.starts-front (length-name-starts r)),
        omega (arith, sizes.robot-names, front-room _ lengths (name_lengths (symbol_names r)) h.lengths-front (length-lengths (symbol_names r))),
      )

  pub module_room : (z.u + z.v ≤ length firsts) × (z.u + z.v ≤ length widths)
  module_room =
      let h = ready.held in (
        omega (arith, sizes.module-names, front-room _ firsts (name_starts m) h.firsts_front (length-name-starts m)),
        omega (arith, sizes.module-names, front-room _ widths (name_lengths (symbol_names m)) h.sizes_front (length-lengths (symbol_names m))),
      )

  pub terminals-room : z.u ≤ length terminals
  terminals-room =
      let h = ready.held in
      omega (arith, h.u_is, front-room _ terminals _ h.terminals-front (length-numbered r.terminals (length r.terminals) m.terminals))

  pub nonterminals-room : z.v ≤ length nonterminals
  nonterminals-room =
      let h = ready.held in
      omega (arith, h.v_is, front-room _ nonterminals _ h.nonterminals-front (length-numbered r.nonterminals (length r.nonterminals) m.nonterminals))

  -- ---- the module's number of a symbol that it adds

  abbrev terminal : ℕ → ℕ
  terminal i = place (λ (x : ℕ). eqb x i) (take z.u terminals)

  abbrev nonterminal : ℕ → ℕ
  nonterminal k = place (λ (x : ℕ). eqb x k) (take z.v nonterminals)

  terminal-found : (i : ℕ) → z.t ≤ i → i < z.terminals
      → (terminal i < z.u) × (get_or (numbered r.terminals (length r.terminals) m.terminals) (terminal i) 0 ≡ i)
  terminal-found i h l =
      found terminals z.u r.terminals m.terminals i ready.held.u_is ready.held.terminals-front (omega (arith, h, sizes.t_is))
      (omega (arith, l, sizes.terminals_are))

  nonterminal-found : (k : ℕ) → z.n ≤ k → k < z.nonterminals
      → (nonterminal k < z.v) × (get_or (numbered r.nonterminals (length r.nonterminals) m.nonterminals) (nonterminal k) 0 ≡ k)
  nonterminal-found k h l =
      found nonterminals z.v r.nonterminals m.nonterminals k ready.held.v_is ready.held.nonterminals-front
      (omega (arith, h, sizes.n_is))
      (omega (arith, l, sizes.nonterminals_are))

  pub terminal_in : (i : ℕ) → z.t ≤ i → i < z.terminals → terminal i < z.u
  terminal_in i h l = (terminal-found i h l).0

  pub nonterminal_in : (k : ℕ) → z.n ≤ k → k < z.nonterminals → nonterminal k < z.v
  nonterminal_in k h l = (nonterminal-found k h l).0

  -- ---- the places that the rows tell

  clear_of : (meet m.terminals r.nonterminals ≡ false) × (meet m.nonterminals r.terminals ≡ false)
  clear_of = clear limits apart robot addon r m ready.held.robot_passes ready.held.addon_passes ready.held.passes

  robot-row : (i j : ℕ) → i < length names → OfRobot r names i j → Told limits robot addon i (Robot (get_or starts j 0) (get_or lengths j 0))
  robot-row i j h o =
      let d = ready.held in
      subst (Told limits robot addon i)
      (ap₂ (λ (a l : ℕ). Robot a l) (sym (front-entry _ starts (name_starts r) j d.starts-front o.declared))
      (sym (front-entry _ lengths (name_lengths (symbol_names r)) j d.lengths-front o.declared)))
      (robot-told limits apart robot addon r m d.robot_passes d.addon_passes d.passes i j h o)

  module-row : (i j : ℕ) → i < length names → OfModule r m names i j → Told limits robot addon i (Module (get_or firsts j 0) (get_or widths j 0))
  module-row i j h o =
      let d = ready.held in
      subst (Told limits robot addon i)
      (ap₂ (λ (a l : ℕ). Module a l) (sym (front-entry _ firsts (name_starts m) j d.firsts_front o.declared))
      (sym (front-entry _ widths (name_lengths (symbol_names m)) j d.sizes_front o.declared)))
      (module_told limits apart robot addon r m d.robot_passes d.addon_passes d.passes i j h o)

  pub own_terminal-told : (i : ℕ) → i < z.t → Told limits robot addon i (Robot (get_or starts i 0) (get_or lengths i 0))
  own_terminal-told i h =
      robot-row i i
      (omega (arith, sizes.t_is, length-append (joined_terminals r m) (joined_nonterminals r m), length-append r.terminals (added r.terminals m.terminals)))
      (own_terminal r m clear_of.0 clear_of.1 i (omega (arith, sizes.t_is)))

  pub added-terminal-told : (i : ℕ) → z.t ≤ i → i < z.terminals
      → Told limits robot addon i (Module (get_or firsts (terminal i) 0) (get_or widths (terminal i) 0))
  added-terminal-told i h l =
      let f = terminal-found i h l in
      module-row i (terminal i) (omega (arith, sizes.names_are))
      (added-terminal r m clear_of.0 clear_of.1 i (terminal i) (omega (arith, h, sizes.t_is)) (omega (arith, l, sizes.terminals_are))
      (omega (arith, f.0, sizes.u_is)) f.1)

  pub own_nonterminal-told : (i : ℕ) → z.terminals ≤ i → i - z.terminals < z.n
      → Told limits robot addon i (Robot (get_or starts (z.t + (i - z.terminals)) 0) (get_or lengths (z.t + (i - z.terminals)) 0))
  own_nonterminal-told i h l =
      let j : length r.terminals + (i - length (joined_terminals r m)) ≡ z.t + (i - z.terminals) = omega (arith, sizes.t_is, sizes.terminals_are) in
      subst (λ (j : ℕ). Told limits robot addon i (Robot (get_or starts j 0) (get_or lengths j 0))) j
      (robot-row i _
      (omega (arith, h, l, sizes.names_are, sizes.n_is, sizes.nonterminals_are, length-append r.nonterminals (added r.nonterminals m.nonterminals)))
      (own_nonterminal r m clear_of.0 clear_of.1 i (omega (arith, h, sizes.terminals_are)) (omega (arith, l, sizes.n_is, sizes.terminals_are))))

  pub added-nonterminal-told : (i : ℕ) → z.terminals ≤ i → z.n ≤ i - z.terminals → i - z.terminals < z.nonterminals
      → let j = z.u + nonterminal (i - z.terminals) in Told limits robot addon i (Module (get_or firsts j 0) (get_or widths j 0))
  added-nonterminal-told i h k l =
      let f = nonterminal-found (i - z.terminals) k l in
      let n = nonterminal (i - z.terminals) in
      let q : i - z.terminals ≡ i - length (joined_terminals r m) = omega (arith, sizes.terminals_are) in
      let j : length m.terminals + n ≡ z.u + n = omega (arith, sizes.u_is) in
      subst (λ (j : ℕ). Told limits robot addon i (Module (get_or firsts j 0) (get_or widths j 0))) j
      (module-row i _ (omega (arith, h, l, sizes.names_are))
      (added-nonterminal r m clear_of.0 clear_of.1 i n (omega (arith, h, sizes.terminals_are))
      (omega (arith, k, sizes.n_is, sizes.terminals_are)) (omega (arith, f.0, sizes.v_is)) (f.1 ∙ q)))

  pub past-told : (i : ℕ) → z.terminals ≤ i → z.nonterminals ≤ i - z.terminals → Told limits robot addon i Neither
  past-told i h l =
      neither_told limits apart robot addon r m ready.held.robot_passes ready.held.addon_passes ready.held.passes i
      (omega (arith, h, l, sizes.names_are))

-- ---- the answer of the join

module _ (robot addon row starts lengths firsts widths terminals nonterminals : List ℕ) (o : Join)
    (told : JoinTold robot addon row starts lengths firsts widths terminals nonterminals o) where
  pub place-refused : (cause : Cause) (at i : ℕ) → o ≡ Refused cause at → Told limits robot addon i Neither
  place-refused cause at i h =
      (sym (shown-refused limits robot addon cause at (subst (JoinTold robot addon row starts lengths firsts widths terminals nonterminals) h told) i), tt)
