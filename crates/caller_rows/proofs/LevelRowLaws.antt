-- The rows of a level: the first four states, then what each rule adds. Assumes nothing.
use Prim.Native.Nat.{ℕ, zero, suc, ◌+◌, ◌-◌, ◌*◌, ◌≤◌, ◌<◌}
use mathlib.Core.Path.{◌≡◌, refl, sym, ap, subst, subst₂, ◌∙◌}
use mathlib.Core.Logic.{inl}
use mathlib.Core.List.{List}
use native.Mathlib.Omega.{arith}
use native.Mathlib.Decide.{ℕ_discrete, dec_lt}
use native.Mathlib.Numerals.{add-one}
use lib.Dec.{eqb}
use lib.ListN.{length, get_or, take, drop, length-take, length-drop}
use Rattle.grammar.specs.Limits.{limits}
use lib.Seq.{get_or-take, get_or-drop}
use Rattle.live.specs.Marks.{before, right_at}
use Rattle.caller_rows.specs.Clauses.{Filled, start_of}
use Rattle.caller_rule.specs.RuleRows.{Alike, code_before, low_before, WroteBlocks, Six, Wide, member_class, target_class, Ruled, RuleWritten}
use Rattle.caller_rows.specs.LevelRows.{LevelRow, ends, callers_of, Levelled, FrontWritten, LevelWritten}
use Rattle.caller_rule.proofs.WroteLaws.{past_end, less_mul}

-- ---- where a rule begins

-- the next rule begins where this one ends
pub start-next : (lengths widths : List ℕ) (i : ℕ) → start_of lengths widths (i + 1) ≡ start_of lengths widths i + (get_or lengths i 0 + 1) * get_or widths i 0
unfolding start_of
start-next lengths widths i = ap (start_of lengths widths) (add-one i)

-- an earlier rule ends before a later one begins
pub start_up : (lengths widths : List ℕ) (i n : ℕ) → i < n → start_of lengths widths i + (get_or lengths i 0 + 1) * get_or widths i 0 ≤ start_of lengths widths n
unfolding start_of
start_up lengths widths i zero h = absurd (omega arith)
start_up lengths widths i (suc n) h = elim (ℕ_discrete i n) [
  | yes e ↦ subst (λ k. start_of lengths widths k + (get_or lengths k 0 + 1) * get_or widths k 0 ≤ start_of lengths widths n + (get_or lengths n 0 + 1) * get_or widths n 0) (sym e) (omega arith)
  | no e ↦ let z = start_up lengths widths i n (omega (arith, h, e)) in omega (arith, z)
]

-- four states stand before the rules
pub start_four : (lengths widths : List ℕ) (n : ℕ) → 4 ≤ start_of lengths widths n
unfolding start_of
start_four lengths widths zero = omega arith
start_four lengths widths (suc n) = let z = start_four lengths widths n in omega (arith, z)

-- states 0 and 1, then rule 0
pub row-start : (old mid new : List ℕ) (ends : ℕ → ℕ) (g : ℕ → ℕ → ℕ) (start width dots : ℕ → ℕ) (f : ℕ → ℕ → ℕ → ℕ) → Filled old mid 2 ends
    → WroteBlocks mid new 2 1 2 g → LevelRow old new 0 ends (λ d. g d 0) start width dots f
row-start old mid new ends g start width dots f a b = record {
  size = b.size ∙ a.size;
  first_two = λ p h. b.outside p (inl h) ∙ a.inside p h;
  next_two = λ d h. ap (λ (k : ℕ). get_or new k 0) (let z : 2 + d ≡ 2 + d * 1 + 0 = omega arith in z) ∙ b.inside d 0 h (omega arith);
  rules = λ i d r h. absurd (omega arith);
}

-- then rule by rule
pub row_next : (lengths widths old mid new : List ℕ) (n at w m : ℕ) (ends zeroth : ℕ → ℕ) (f : ℕ → ℕ → ℕ → ℕ) (g : ℕ → ℕ → ℕ)
    → LevelRow old mid n ends zeroth (start_of lengths widths) (λ i. get_or widths i 0) (λ i. get_or lengths i 0 + 1) f
    → WroteBlocks mid new at w m g → at ≡ start_of lengths widths n → w ≡ get_or widths n 0 → m ≡ get_or lengths n 0 + 1 → ((d r : ℕ) → g d r ≡ f n d r)
    → LevelRow old new (n + 1) ends zeroth (start_of lengths widths) (λ i. get_or widths i 0) (λ i. get_or lengths i 0 + 1) f
row_next lengths widths old mid new n at w m ends zeroth f g a b ea ew em s =
    let four = start_four lengths widths n in
    record {
      size = b.size ∙ a.size;
      first_two = λ p h. b.outside p (inl (omega (arith, h, ea, four))) ∙ a.first_two p h;
      next_two = λ d h. b.outside (2 + d) (inl (omega (arith, h, ea, four))) ∙ a.next_two d h;
      rules = λ i d r h k l. elim (ℕ_discrete i n) [
        | yes z ↦ subst (λ i. d < get_or lengths i 0 + 1 → r < get_or widths i 0 → get_or new (start_of lengths widths i + d * get_or widths i 0 + r) 0 ≡ f i d r) (sym z)
            (λ k l.
            (λ j. get_or new (sym ea j + d * sym ew j + r) 0)
            ∙ b.inside d r (omega (arith, k, em)) (omega (arith, l, ew))
            ∙ s d r) k l
        | no z ↦
            let i' : i < n = omega (arith, h, z) in
            let x = start_up lengths widths i n i' in
            let y = less_mul d (get_or lengths i 0 + 1) (get_or widths i 0) k in
            b.outside (start_of lengths widths i + d * get_or widths i 0 + r) (inl (omega (arith, x, y, l, ea))) ∙ a.rules i d r i' k l
      ];
    }

-- ---- one rule of a level

-- a part by its place and length
pub part_is : (l : List ℕ) (u u' k k' : ℕ) → u ≡ u' → k ≡ k' → take (u + k - u) (drop u l) ≡ take k' (drop u' l)
part_is l u u' k k' e f = ap (λ (n : ℕ). take n (drop u l)) (let z : u + k - u ≡ k = omega arith in z) ∙ (λ j. take (f j) (drop (e j) l))

-- it has that length
pub part_many : (l : List ℕ) (u k : ℕ) → u + k ≤ length l → length (take k (drop u l)) ≡ k
part_many l u k h = omega (arith, length-take k (drop u l), length-drop u l)

-- and no greater entries
part-below : (l : List ℕ) (u k r : ℕ) → ((j : ℕ) → j < length l → get_or l j 0 < limits.max_states) → get_or (take k (drop u l)) r 0 < limits.max_states
part-below l u k r h = elim (dec_lt r k) [
  | yes i ↦
      let e = get_or-take k (drop u l) r 0 i ∙ get_or-drop u l r 0 in
      elim (dec_lt (u + r) (length l)) [
        | yes j ↦ omega (arith, e, h (u + r) j)
        | no j ↦ omega (arith, e, past_end l (u + r) (omega (arith, j)))
      ]
  | no i ↦ omega (arith, past_end (take k (drop u l)) r (omega (arith, i, length-take k (drop u l))))
]

module _ (lefts lengths codes : List ℕ) (count K : ℕ) (first callers below widths ranks : List ℕ) (given : Levelled lefts lengths codes count K first callers below widths ranks)
    (i : ℕ) (h : i < count) where
  abbrev C : List ℕ
  C = right_at lengths codes i

  abbrev D : List ℕ
  D = callers_of lefts first widths callers i

  pub codes_many : length C ≡ get_or lengths i 0
  codes_many = part_many codes (before lengths i) (get_or lengths i 0) (given.codes_in i h)

  pub callers_many : length D ≡ get_or widths i 0
  callers_many = part_many callers (get_or first (get_or lefts i 0 - limits.nonterminal_base) 0) (get_or widths i 0) (given.callers_in i h)

  own_ruled : (low at : ℕ) → low ≡ start_of lengths below i → at ≡ start_of lengths widths i → Ruled C D ranks K (get_or below i 0) low at
  own_ruled low at el ea =
      let x = start_up lengths widths i count h in
      let y = start_up lengths below i count h in
      let p : (length C + 1) * length D ≡ (get_or lengths i 0 + 1) * get_or widths i 0 = λ j. (codes_many j + 1) * callers_many j in
      let q : (length C + 1) * get_or below i 0 ≡ (get_or lengths i 0 + 1) * get_or below i 0 = λ j. (codes_many j + 1) * get_or below i 0 in
      record {
        kinds = given.kinds;
        short = omega (arith, codes_many, given.short i h);
        ranked = given.ranked;
        below = λ r k. part-below callers (get_or first (get_or lefts i 0 - limits.nonterminal_base) 0) (get_or widths i 0) r given.callers-small;
        little = given.little;
        many = omega (arith, callers_many, given.callers_in i h, given.callers-few);
        room = omega (arith, x, p, ea, given.room);
        low-room = omega (arith, y, q, el, given.low-room);
      }

  -- as the code cuts them out
  pub one_ruled : (C' D' : List ℕ) (low at : ℕ) → C' ≡ C → D' ≡ D → low ≡ start_of lengths below i → at ≡ start_of lengths widths i
      → Ruled C' D' ranks K (get_or below i 0) low at
  one_ruled C' D' low at ec ed el ea = subst₂ (λ C D. Ruled C D ranks K (get_or below i 0) low at) (sym ec) (sym ed) (own_ruled low at el ea)

  pub one_written : (C' D' : List ℕ) (low at : ℕ) (old new : Six) → C' ≡ C → D' ≡ D
      → RuleWritten (i + 1) C' K D' ranks (get_or below i 0) low at (length C' + 1) old new
      → RuleWritten (i + 1) C K D ranks (get_or below i 0) low at (get_or lengths i 0 + 1) old new
  one_written C' D' low at old new ec ed X =
      subst (λ (n : ℕ). RuleWritten (i + 1) C K D ranks (get_or below i 0) low at (n + 1) old new) codes_many
      (subst₂ (λ C D. RuleWritten (i + 1) C K D ranks (get_or below i 0) low at (length C + 1) old new) ec ed X)

-- room for fewer
pub wide_less : (n q : ℕ) (rows : Six) → n ≤ q → Wide q rows → Wide n rows
wide_less n q rows h W = record {
  ahead = omega (arith, h, W.ahead);
  number = omega (arith, h, W.number);
  member = omega (arith, h, W.member);
  target = omega (arith, h, W.target);
  after = omega (arith, h, W.after);
  down = omega (arith, h, W.down);
}

module _ (lefts lengths codes : List ℕ) (K : ℕ) (first callers below widths ranks : List ℕ) where
  abbrev All : ℕ → Six → Six → Type 0
  All n old new = LevelWritten lefts lengths codes K first callers below widths ranks n old new

  pub level_start : (old new : Six) → FrontWritten K ranks old new → All 0 old new
  level_start old new X =
      let e = X.1 in
      let r = X.2 in
      record {
        ahead = row-start _ _ _ _ _ _ _ _ _ e.ahead r.ahead;
        number = row-start _ _ _ _ _ _ _ _ _ e.number r.number;
        member = row-start _ _ _ _ _ _ _ _ _ e.member r.member;
        target = row-start _ _ _ _ _ _ _ _ _ e.target r.target;
        after = row-start _ _ _ _ _ _ _ _ _ e.after r.after;
        down = row-start _ _ _ _ _ _ _ _ _ e.down r.down;
      }

  pub level_next : (count n : ℕ) → Levelled lefts lengths codes count K first callers below widths ranks → n < count → (low at : ℕ) (old mid new : Six)
      → low ≡ start_of lengths below n → at ≡ start_of lengths widths n → All n old mid
      → RuleWritten (n + 1) (right_at lengths codes n) K (callers_of lefts first widths callers n) ranks (get_or below n 0) low at (get_or lengths n 0 + 1) mid new
      → All (n + 1) old new
  level_next count n given h low at old mid new el ea X Y =
      let w = callers_many lefts lengths codes count K first callers below widths ranks given n h in
      let D : List ℕ = callers_of lefts first widths callers n in
      let C : List ℕ = right_at lengths codes n in
      let m : ℕ = get_or below n 0 in
      record {
        ahead = row_next lengths widths _ _ _ n at (length D) (get_or lengths n 0 + 1) _ _ _ _ X.ahead Y.ahead ea w refl (λ d r. refl);
        number = row_next lengths widths _ _ _ n at (length D) (get_or lengths n 0 + 1) _ _ _ _ X.number Y.number ea w refl (λ d r. refl);
        member = row_next lengths widths _ _ _ n at (length D) (get_or lengths n 0 + 1) _ _ _ _ X.member Y.member ea w refl
            (λ d r. λ j. member_class (eqb d (length C)) (get_or C d 0) K (get_or D r 0) (el j + d * m + get_or ranks (get_or D r 0) 0));
        target = row_next lengths widths _ _ _ n at (length D) (get_or lengths n 0 + 1) _ _ _ _ X.target Y.target ea w refl
            (λ d r. λ j. target_class (eqb d 0) (code_before C d) K (get_or D r 0) (low_before (el j + d * m) m d + get_or ranks (get_or D r 0) 0));
        after = row_next lengths widths _ _ _ n at (length D) (get_or lengths n 0 + 1) _ _ _ _ X.after Y.after ea w refl
            (λ d r. λ j. ea j + d * length D + r + length D);
        down = row_next lengths widths _ _ _ n at (length D) (get_or lengths n 0 + 1) _ _ _ _ X.down Y.down ea w refl
            (λ d r. λ j. el j + d * m + get_or ranks (get_or D r 0) 0);
      }

-- a rule keeps the lengths
pub rule-kept : (q i : ℕ) (codes : List ℕ) (K : ℕ) (callers ranks : List ℕ) (narrow low at n : ℕ) (old new : Six) → Wide q old
    → RuleWritten i codes K callers ranks narrow low at n old new → Wide q new
rule-kept q i codes K callers ranks narrow low at n old new W X = record {
  ahead = omega (arith, W.ahead, X.ahead.size);
  number = omega (arith, W.number, X.number.size);
  member = omega (arith, W.member, X.member.size);
  target = omega (arith, W.target, X.target.size);
  after = omega (arith, W.after, X.after.size);
  down = omega (arith, W.down, X.down.size);
}

-- rows have the lengths that they have
pub alike_none : (old : Six) → Alike old old
alike_none old = record { ahead = refl; number = refl; member = refl; target = refl; after = refl; down = refl }

-- and still after a rule
pub alike_next : (i : ℕ) (codes : List ℕ) (K : ℕ) (callers ranks : List ℕ) (narrow low at n : ℕ) (old mid new : Six) → Alike old mid
    → RuleWritten i codes K callers ranks narrow low at n mid new → Alike old new
alike_next i codes K callers ranks narrow low at n old mid new A X = record {
  ahead = X.ahead.size ∙ A.ahead;
  number = X.number.size ∙ A.number;
  member = X.member.size ∙ A.member;
  target = X.target.size ∙ A.target;
  after = X.after.size ∙ A.after;
  down = X.down.size ∙ A.down;
}
