-- What the rows of two joined texts hold: the names of each text, by kind, and the joined names that are gathered from them. Assumes nothing.
use Prim.Native.Nat.{ℕ, zero, suc, ◌+◌, ◌-◌, ◌≤◌, ◌<◌}
use mathlib.Core.Path.{◌≡◌, refl, ap, ap₂, sym, subst, subst₂, ◌∙◌}
use mathlib.Core.List.{List, [], ◌∷◌, ◌++◌}
use mathlib.Core.Bool.{true}
use native.Mathlib.Omega.{arith}
use lib.ListN.{length, take, drop, get_or, length-append, length-drop, length-take, get_or-append}
use lib.Seq.{take_at, drop_at, take-add, get_or-append-add, length-take-le, take-append_seam, drop-append_seam}
use Rattle.grammar.specs.Limits.{limits}
use Rattle.grammar.specs.Refusal.{done}
use Rattle.grammar.proofs.Answers.{done_inj}
use Rattle.text.specs.Names.{all, is_name}
use Rattle.text.specs.Read.{Source, symbol_names, read_text}
use Rattle.text.specs.Rules.{check_text}
use Rattle.text.specs.Print.{printed}
use Rattle.text.specs.Promise.{name_starts, name_lengths}
use Rattle.text.specs.Spelled.{spelled}
use Rattle.text.proofs.Pieces.{all_head, all_tail}
use Rattle.text.proofs.Names.{name-size}
use Rattle.text.proofs.WellNamed.{WellNamedSource}
use Rattle.text.proofs.PrintRead.{read_well}
use Rattle.text.proofs.Spans.{length-lengths, length-name-starts, read-spelled, read-inside, spelled_append, length-spelled}
use Rattle.text.proofs.Admit.{text-checked}
use Rattle.text.proofs.RoundTrip.{apart}
use Rattle.modules.specs.Joined.{added, joined, join_texts}
use Rattle.joining.specs.Joins.{JoinedHeld}
use Rattle.joining.specs.Numbers.{numbered}
use Rattle.joining.specs.Gathering.{longest, fresh, kind_names, NameRoom, Gathered, Puts, Listed, KindReady, NamesGathered}
use Rattle.joining.specs.declared.ListSizes.{ListSizes}
use Rattle.joining.proofs.Loops.{length-numbered}
use Rattle.joining.proofs.GatherLaws.{gathered_none, puts_more, fresh_added}
use Rattle.modules.proofs.ReadJoined.{joined_texts, module_read_lem}

-- ---- rows end to end

module _ (text A B C D : List ℕ) (e : length A ≡ length C) (l : Listed text (A ++ B) (C ++ D)) where
  listed-front : Listed text A C
  listed-front = record {
    rows = record {
      paired = e;
      inside = λ i h. omega (
        arith,
        get_or-append A B 0 i h,
        get_or-append C D 0 i (omega (arith, e)),
        l.rows.inside i (omega (arith, length-append A B)),
      );
    };
    short = λ i h. omega (arith, get_or-append C D 0 i (omega (arith, e)), l.short i (omega (arith, length-append A B)));
  }

  later : (i : ℕ) → get_or (C ++ D) (length A + i) 0 ≡ get_or D i 0
  later i = ap (λ (n : ℕ). get_or (C ++ D) (n + i) 0) e ∙ get_or-append-add C D i 0

  listed_back : Listed text B D
  listed_back = record {
    rows = record {
      paired = omega (arith, l.rows.paired, length-append A B, length-append C D, e);
      inside = λ i h. omega (arith, get_or-append-add A B i 0, later i, l.rows.inside (length A + i) (omega (arith, length-append A B)));
    };
    short = λ i h. omega (arith, later i, l.short (length A + i) (omega (arith, length-append A B)));
  }

-- two lists of which the first parts are as long as each other
ends_same : {A : Type 0} (xs ys us vs : List A) → length xs ≡ length us → xs ++ ys ≡ us ++ vs → (xs ≡ us) × (ys ≡ vs)
ends_same xs ys us vs e q = (
  sym (take-append_seam xs ys) ∙ ap (take (length xs)) q ∙ take_at us vs (length xs) (sym e),
  sym (drop-append_seam xs ys) ∙ ap (drop (length xs)) q ∙ drop_at us vs (length xs) (sym e),
)

-- ---- the rows of a text that was read

names-short : (names : List (List ℕ)) → all is_name names ≡ true → (i : ℕ) → i < length names → get_or (name_lengths names) i 0 ≤ longest
unfolding name_lengths
names-short [] g i h = absurd (omega arith)
names-short (x ∷ xs) g zero h = (name-size x (all_head is_name x xs g)).1
names-short (x ∷ xs) g (suc i) h = names-short xs (all_tail is_name x xs g) i (omega arith)

-- its terminals, k, and its nonterminals, n
pub record Halves (text starts lengths : List ℕ) (k n : ℕ) (ts ns : List (List ℕ)) : Type 0 where
  pub starts-most : k + n ≤ length starts
  pub lengths-most : k + n ≤ length lengths
  pub first : Listed text (take k starts) (take k lengths)
  pub second : Listed text (take n (drop k starts)) (take n (drop k lengths))
  pub first-names : spelled text (take k starts) (take k lengths) ≡ ts
  pub second-names : spelled text (take n (drop k starts)) (take n (drop k lengths)) ≡ ns
  pub first-few : k ≤ limits.max_terminals
  pub second-few : n ≤ limits.max_nonterminals

taken-most : (n : ℕ) (row xs : List ℕ) → take n row ≡ xs → n ≡ length xs → n ≤ length row
taken-most n row xs e q = omega (arith, ap length e, length-take n row)

pub halves : (text starts lengths : List ℕ) (s : Source) (k n : ℕ) → read_text limits text ≡ done s → k ≡ length s.terminals → n ≡ length s.nonterminals
    → take (length (symbol_names s)) starts ≡ name_starts s → take (length (symbol_names s)) lengths ≡ name_lengths (symbol_names s)
    → Halves text starts lengths k n s.terminals s.nonterminals
halves text starts lengths s k n e p q f g =
    let m = length (symbol_names s) in
    let w = read_well limits apart text s e in
    let c : k + n ≡ m = omega (arith, length-append s.terminals s.nonterminals, p, q) in
    let sm = taken-most m starts (name_starts s) f (sym (length-name-starts s)) in
    let lm = taken-most m lengths (name_lengths (symbol_names s)) g (sym (length-lengths (symbol_names s))) in
    let A = take k starts in
    let B = take n (drop k starts) in
    let C = take k lengths in
    let D = take n (drop k lengths) in
    let la : length A ≡ k = length-take-le k starts (omega arith) in
    let lc : length C ≡ k = length-take-le k lengths (omega arith) in
    let x : name_starts s ≡ A ++ B = sym f ∙ ap (λ (i : ℕ). take i starts) (sym c) ∙ take-add k n starts in
    let y : name_lengths (symbol_names s) ≡ C ++ D = sym g ∙ ap (λ (i : ℕ). take i lengths) (sym c) ∙ take-add k n lengths in
    let l : Listed text (A ++ B) (C ++ D) = subst₂ (λ (a : List ℕ) (b : List ℕ). Listed text a b) x y (record {
      rows = record { paired = length-name-starts s ∙ sym (length-lengths (symbol_names s)); inside = read-inside limits apart text s e };
      short = λ i h. names-short (symbol_names s) w.named i (omega (arith, length-name-starts s));
    }) in
    let z = ends_same (spelled text A C) (spelled text B D) s.terminals s.nonterminals (length-spelled text A C (la ∙ sym lc) ∙ la ∙ p)
    (sym (spelled_append text A B C D (la ∙ sym lc)) ∙ sym (ap₂ (λ (a : List ℕ) (b : List ℕ). spelled text a b) x y) ∙ read-spelled limits apart text s e) in
    record {
      starts-most = omega arith;
      lengths-most = omega arith;
      first = listed-front text A B C D (la ∙ sym lc) l;
      second = listed_back text A B C D (la ∙ sym lc) l;
      first-names = z.0;
      second-names = z.1;
      first-few = omega (arith, p, w.terminals-most);
      second-few = omega (arith, q, w.nonterminals-most);
    }

-- ---- the joined names

-- all of the robot's of one kind, then those that the module adds
kind-names : (robot starts lengths addon firsts widths numbers : List ℕ) (names xs : List (List ℕ))
    → spelled robot starts lengths ≡ names → spelled addon firsts widths ≡ xs → length starts ≡ length names → numbers ≡ numbered names (length names) xs
    → kind_names robot starts lengths addon firsts widths numbers ≡ names ++ added names xs
kind-names robot starts lengths addon firsts widths numbers names xs e f n q =
    ap₂ (λ (a : List (List ℕ)) (b : List (List ℕ)). a ++ b) e
    ((λ i. fresh (n i) (q i) (f i)) ∙ fresh_added names xs (length names) (length names) refl (omega arith))

-- a join that passes: so does the joined text
pub joined_passes : (robot addon : List ℕ) (s : Source) → join_texts limits robot addon ≡ done s → check_text limits (printed limits s) ≡ done s
joined_passes robot addon s e = let x = joined_texts limits apart robot addon s e in ap (λ (s : Source). check_text limits (printed limits s)) x.5 ∙ x.4

module _ {robot addon row starts lengths firsts widths terminals nonterminals : List ℕ} {z : ListSizes} {e q : ℕ}
    (h : JoinedHeld robot addon row starts lengths firsts widths terminals nonterminals z e q) where
  -- the joined source
  abbrev J : Source
  J = joined limits h.r h.m

  -- how many nonterminals the robot's text has, and the module's, as the parts that are lent say it
  abbrev rest : ℕ
  rest = z.t + z.n - z.t

  abbrev more : ℕ
  more = z.u + z.v - z.u

  -- the names that are put
  abbrev first-put : List (List ℕ)
  first-put = kind_names robot (take z.t starts) (take z.t lengths) addon (take z.u firsts) (take z.u widths) (take z.u terminals)

  abbrev second-put : List (List ℕ)
  second-put =
      kind_names robot (take rest (drop z.t starts)) (take rest (drop z.t lengths)) addon (take more (drop z.u firsts)) (take more (drop z.u widths))
      (take z.v nonterminals)

  pub robot_halves : Halves robot starts lengths z.t rest h.r.terminals h.r.nonterminals
  robot_halves =
      halves robot starts lengths h.r z.t rest (text-checked limits apart robot h.r h.robot_passes).read h.t_is (omega (arith, h.n_is))
      h.starts-front h.lengths-front

  pub addon_halves : Halves addon firsts widths z.u more h.m.terminals h.m.nonterminals
  addon_halves =
      halves addon firsts widths h.m z.u more (module_read_lem limits apart addon h.m h.addon_passes) h.u_is (omega (arith, h.v_is))
      h.firsts_front h.sizes_front

  well : WellNamedSource limits J
  well = (text-checked limits apart _ _ (joined_passes robot addon _ h.passes)).well

  pub terminals-most : z.u ≤ length terminals
  terminals-most =
      let n = length-numbered h.r.terminals (length h.r.terminals) h.m.terminals in
      omega (arith, h.u_is, taken-most (length h.m.terminals) terminals _ h.terminals-front (sym n))

  pub nonterminals-most : z.v ≤ length nonterminals
  nonterminals-most =
      let n = length-numbered h.r.nonterminals (length h.r.nonterminals) h.m.nonterminals in
      omega (arith, h.v_is, taken-most (length h.m.nonterminals) nonterminals _ h.nonterminals-front (sym n))

  pub joined-few : (z.terminals ≤ limits.max_terminals) × (z.nonterminals ≤ limits.max_nonterminals)
  joined-few = (omega (arith, h.terminals_are, well.terminals-most), omega (arith, h.nonterminals_are, well.nonterminals-most))

  -- the names of each kind
  first-names : first-put ≡ J.terminals
  unfolding joined
  first-names =
      kind-names robot _ _ addon _ _ _ h.r.terminals h.m.terminals robot_halves.first-names addon_halves.first-names
      (length-take-le z.t starts (omega (arith, robot_halves.starts-most)) ∙ h.t_is)
      (ap (λ (i : ℕ). take i terminals) h.u_is ∙ h.terminals-front)

  second-names : second-put ≡ J.nonterminals
  unfolding joined
  second-names =
      kind-names robot _ _ addon _ _ _ h.r.nonterminals h.m.nonterminals robot_halves.second-names addon_halves.second-names
      (length-take-le rest (drop z.t starts) (omega (arith, robot_halves.starts-most, length-drop z.t starts))
      ∙ (let w : rest ≡ length h.r.nonterminals = omega (arith, h.n_is) in w))
      (ap (λ (i : ℕ). take i nonterminals) h.v_is ∙ h.nonterminals-front)

  -- what the two calls are lent
  module _ (bytes places spans : List ℕ) (room : NameRoom bytes places spans) where
    pub first_ready : KindReady robot (take z.t starts) (take z.t lengths) addon (take z.u firsts) (take z.u widths) (take z.u terminals)
        bytes places spans 0
    first_ready = record {
      robot-listed = robot_halves.first;
      addon-listed = addon_halves.first;
      numbered = length-take-le z.u firsts (omega (arith, addon_halves.starts-most)) ∙ sym (length-take-le z.u terminals terminals-most);
      room = room;
      few = omega (arith, ap length first-names, h.terminals_are, joined-few.0);
    }

    pub second_ready : KindReady robot (take rest (drop z.t starts)) (take rest (drop z.t lengths))
        addon (take more (drop z.u firsts)) (take more (drop z.u widths)) (take z.v nonterminals) bytes places spans z.terminals
    second_ready = record {
      robot-listed = robot_halves.second;
      addon-listed = addon_halves.second;
      numbered = length-take-le more (drop z.u firsts) (omega (arith, addon_halves.starts-most, length-drop z.u firsts))
          ∙ (let w : more ≡ z.v = omega arith in w) ∙ sym (length-take-le z.v nonterminals nonterminals-most);
      room = room;
      few = omega (arith, ap length second-names, h.nonterminals_are, joined-few);
    }

  -- what they leave
  module _ (bytes places spans bytes₁ places₁ spans₁ bytes₂ places₂ spans₂ : List ℕ)
      (f : Puts first-put 0 bytes places spans bytes₁ places₁ spans₁) (g : Puts second-put z.terminals bytes₁ places₁ spans₁ bytes₂ places₂ spans₂) where
    both-put : Gathered (symbol_names J) (z.terminals + z.nonterminals) bytes₂ places₂ spans₂
    both-put =
        let p = subst (λ (names : List (List ℕ)). Puts names 0 bytes places spans bytes₁ places₁ spans₁) first-names f in
        let s = subst (λ (names : List (List ℕ)). Puts names z.terminals bytes₁ places₁ spans₁ bytes₂ places₂ spans₂) second-names g in
        let w = (puts_more J.terminals J.nonterminals z.terminals (omega (arith, h.terminals_are)) p s).after [] (gathered_none bytes places spans) in
        let i : 0 + length (symbol_names J) ≡ z.terminals + z.nonterminals
        = omega (arith, length-append J.terminals J.nonterminals, h.terminals_are, h.nonterminals_are) in
        subst (λ (k : ℕ). Gathered (symbol_names J) k bytes₂ places₂ spans₂) i w

    pub all-gathered : NamesGathered robot addon z bytes₂ places₂ spans₂
    all-gathered = record {
      gathered = λ r m x y.
          subst₂ (λ (r : Source) (m : Source). Gathered (symbol_names (joined limits r m)) (z.terminals + z.nonterminals) bytes₂ places₂ spans₂)
          (done_inj (sym h.robot_passes ∙ x)) (done_inj (sym h.addon_passes ∙ y)) both-put;
    }
