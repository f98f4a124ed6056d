-- What is shown for a joined symbol is its name, byte for byte, and where it stands. Assumes nothing.
use Prim.Native.Nat.{ℕ, ◌+◌, ◌≤◌, ◌<◌}
use mathlib.Core.Path.{◌≡◌, refl, ap, sym, ◌∙◌}
use mathlib.Core.Bool.{true, false}
use mathlib.Core.List.{List, [], ◌++◌}
use mathlib.Core.Logic.{inl, inr}
use native.Mathlib.Omega.{arith}
use borrow.Author.Tests.{not-true}
use lib.ListN.{length, get_or, get_or-eq_default}
use Rattle.grammar.specs.Limits.{Limits}
use Rattle.grammar.specs.Refusal.{Answer, done, refused, and_then}
use Rattle.grammar.proofs.Answers.{unless_done, then-goes}
use Rattle.grammar.proofs.Lists.{lt_or_le}
use Rattle.grammar.specs.declared.Cause.{Cause}
use Rattle.text.specs.Names.{any, same_name}
use Rattle.text.specs.Read.{Source, symbol_names, number_of, read_text}
use Rattle.text.specs.Rules.{check_text, check_module}
use Rattle.text.specs.Promise.{name_starts, name_lengths}
use Rattle.text.proofs.Spans.{spelled_at, length-name-starts, length-lengths, read-spelled, read-inside}
use Rattle.text.proofs.Admit.{text-checked}
use Rattle.modules.specs.Joined.{meet, joined_terminals, joined_nonterminals, joined, refuse_clash, join_texts}
use Rattle.modules.specs.Shown.{declared_in, place_of_name, place_among, place_in, shown, part_at, part_of, Inside}
use Rattle.modules.specs.declared.Place.{Place}
use Rattle.modules.specs.declared.Place.TheVariants.{Robot, Module, Neither}
use Rattle.modules.proofs.ReadJoined.{module_read_lem, module_well, joined_texts}
use Rattle.joining.proofs.Declarers.{OfRobot, OfModule, place_at, among_in, among-past, among-robot, among_module, declared-by}

-- ---- texts

-- in a text that is read a name stands where its start and length say
place-spelled : (L : Limits) (apart : L.max_terminals < L.nonterminal_base) (text : List ℕ) (s : Source)
    → read_text L text ≡ done s → (j : ℕ) → j < length (symbol_names s)
    → part_at text (get_or (name_starts s) j 0) (get_or (name_lengths (symbol_names s)) j 0) ≡ get_or (symbol_names s) j []
place-spelled L apart text s e j h =
    sym (spelled_at text (name_starts s) (name_lengths (symbol_names s)) j (length-name-starts s ∙ sym (length-lengths (symbol_names s)))
    (omega (arith, h, length-name-starts s)))
    ∙ ap (λ (l : List (List ℕ)). get_or l j []) (read-spelled L apart text s e)

place_inside : (L : Limits) (apart : L.max_terminals < L.nonterminal_base) (text : List ℕ) (s : Source)
    → read_text L text ≡ done s → (j : ℕ) → j < length (symbol_names s)
    → get_or (name_starts s) j 0 + get_or (name_lengths (symbol_names s)) j 0 ≤ length text
place_inside L apart text s e j h = read-inside L apart text s e j (omega (arith, h, length-name-starts s))

module _ (L : Limits) (robot addon : List ℕ) where
  -- texts that are joined: the place is that among the joined names
  shown-among : (r m s : Source) → check_text L robot ≡ done r → check_module L addon ≡ done m → join_texts L robot addon ≡ done s → (i : ℕ)
      → shown L robot addon i ≡ place_among r m (symbol_names s) i
  unfolding shown place_in
  shown-among r m s e f g i =
      ap place_in (then-goes (check_text L robot) _ r e ∙ then-goes (check_module L addon) _ m f
      ∙ then-goes (join_texts L robot addon) (λ s. done (place_among r m (symbol_names s) i)) s g)

  -- texts that are refused
  pub shown-refused : (cause : Cause) (at : ℕ) → join_texts L robot addon ≡ refused cause at → (i : ℕ) → shown L robot addon i ≡ Neither
  unfolding shown place_in and_then
  shown-refused cause at e i = go (check_text L robot) (check_module L addon) (join_texts L robot addon) e
    where
      go : (a b o : Answer Source) → o ≡ refused cause at
          → place_in (and_then a (λ r. and_then b (λ m. and_then o (λ s. done (place_among r m (symbol_names s) i))))) ≡ Neither
      go (refused c p) b o e = refl
      go (done r) (refused c p) o e = refl
      go (done r) (done m) o e = ap (λ (o : Answer Source). place_in (and_then o (λ s. done (place_among r m (symbol_names s) i)))) e

  -- no name is of another kind in the other text
  join_clear : (r m s : Source) → check_text L robot ≡ done r → check_module L addon ≡ done m → join_texts L robot addon ≡ done s
      → (meet m.terminals r.nonterminals ≡ false) × (meet m.nonterminals r.terminals ≡ false)
  unfolding join_texts refuse_clash
  join_clear r m s e f g =
      let p = sym (then-goes (check_text L robot) _ r e ∙ then-goes (check_module L addon) _ m f) ∙ g in
      let c = unless_done _ _ _ _ _ p in
      let d = unless_done _ _ _ _ _ c.1 in
      (not-true (meet m.terminals r.nonterminals) c.0, not-true (meet m.nonterminals r.terminals) d.0)

-- what is told of a place: it is the one shown, and it lies in its text
abbrev pub Told : Limits → List ℕ → List ℕ → ℕ → Place → Type 0
Told L robot addon i p = (p ≡ shown L robot addon i) × Inside robot addon p

module _ (L : Limits) (apart : L.max_terminals < L.nonterminal_base) (robot addon : List ℕ) (r m : Source)
    (e : check_text L robot ≡ done r) (f : check_module L addon ≡ done m) (g : join_texts L robot addon ≡ done (joined L r m)) where
  abbrev together : List (List ℕ)
  together = joined_terminals r m ++ joined_nonterminals r m

  joined-among : (i : ℕ) → shown L robot addon i ≡ place_among r m together i
  unfolding joined
  joined-among i = shown-among L robot addon r m (joined L r m) e f g i

  pub clear : (meet m.terminals r.nonterminals ≡ false) × (meet m.nonterminals r.terminals ≡ false)
  clear = join_clear L robot addon r m (joined L r m) e f g

  pub robot-told : (i j : ℕ) → i < length together → OfRobot r together i j → Told L robot addon i (place_at Robot r j)
  robot-told i j h o =
      let c = text-checked L apart robot r e in
      (sym (joined-among i ∙ among-robot r m together i j c.well.once h o), place_inside L apart robot r c.read j o.declared)

  pub module_told : (i j : ℕ) → i < length together → OfModule r m together i j → Told L robot addon i (place_at Module m j)
  module_told i j h o =
      let c = module_read_lem L apart addon m f in
      (sym (joined-among i ∙ among_module r m together i j (module_well L apart addon m f).once h o), place_inside L apart addon m c j o.declared)

  pub neither_told : (i : ℕ) → length together ≤ i → Told L robot addon i Neither
  neither_told i h = (sym (joined-among i ∙ among-past r m together i h), tt)

  spelled-joined : (i : ℕ) → part_of robot addon (shown L robot addon i) ≡ get_or together i []
  spelled-joined i = elim (lt_or_le i (length together)) [
    | inl h ↦ elim (declared-by r m clear.0 clear.1 i h) [
      | inl d ↦
          ap (part_of robot addon) (sym (robot-told i d.0 h d.1).0)
          ∙ place-spelled L apart robot r (text-checked L apart robot r e).read d.0 d.1.declared ∙ sym d.1.is
      | inr d ↦
          ap (part_of robot addon) (sym (module_told i d.0 h d.1).0)
          ∙ place-spelled L apart addon m (module_read_lem L apart addon m f) d.0 d.1.declared ∙ sym d.1.is
    ]
    | inr h ↦ ap (part_of robot addon) (sym (neither_told i h).0) ∙ sym (get_or-eq_default together [] {n = i} h)
  ]

-- ---- what is shown

module _ (L : Limits) (apart : L.max_terminals < L.nonterminal_base) (robot addon : List ℕ) (s : Source)
    (g : join_texts L robot addon ≡ done s) (i : ℕ) where
  -- it is the joined symbol's name, byte for byte; past the last symbol both are empty
  pub shown-spelled : part_of robot addon (shown L robot addon i) ≡ get_or (symbol_names s) i []
  unfolding joined
  shown-spelled =
      let a = joined_texts L apart robot addon s g in
      let r = a.0 in
      let m = a.1 in
      spelled-joined L apart robot addon r m a.2 a.3 (g ∙ ap done a.5) i
      ∙ sym (ap (λ (s : Source). get_or (symbol_names s) i []) a.5)

  -- a symbol whose name the robot declares is shown as the robot declares it
  pub shown-robot : (r : Source) → check_text L robot ≡ done r → i < length (symbol_names s)
      → any (same_name (get_or (symbol_names s) i [])) (symbol_names r) ≡ true
      → shown L robot addon i ≡ place_at Robot r (number_of (symbol_names r) (get_or (symbol_names s) i []))
  unfolding place_of_name declared_in
  shown-robot r e h k =
      let a = joined_texts L apart robot addon s g in
      shown-among L robot addon r a.1 s e a.3 g i ∙ among_in r a.1 (symbol_names s) i h ∙ rw k refl

  -- one that the module alone declares as the module declares it
  pub shown_module : (r m : Source) → check_text L robot ≡ done r → check_module L addon ≡ done m → i < length (symbol_names s)
      → any (same_name (get_or (symbol_names s) i [])) (symbol_names r) ≡ false → any (same_name (get_or (symbol_names s) i [])) (symbol_names m) ≡ true
      → shown L robot addon i ≡ place_at Module m (number_of (symbol_names m) (get_or (symbol_names s) i []))
  unfolding place_of_name declared_in
  shown_module r m e f h k l = shown-among L robot addon r m s e f g i ∙ among_in r m (symbol_names s) i h ∙ rw (k, l) refl
