-- From rows written level by level to what the automaton says: a written level has as many states as the automaton with one caller
-- more (`level_states`), and each entry of its rows says what its state is (`level_says`). Assumes nothing.
use Prim.Native.Nat.{ℕ, zero, suc, ◌+◌, ◌-◌, ◌*◌, ◌≤◌, ◌<◌}
use mathlib.Core.Path.{◌≡◌, refl, sym, ap, ap₂, subst, ◌∙◌}
use mathlib.Core.Bool.{true}
use mathlib.Core.List.{List, [], ◌∷◌, map}
use native.Mathlib.Omega.{arith}
use native.Mathlib.Nat.{suc-mul}
use native.Mathlib.Numerals.{add-one}
use lib.Dec.{eqb, leb}
use lib.ListN.{length, get_or, take}
use lib.Seq.{take-nil}
use borrow.Author.Tests.{ne_eqb}
use Rattle.grammar.specs.Basics.{choose, when, Mem}
use Rattle.grammar.specs.Limits.{limits}
use Rattle.grammar.specs.Grammar.{Grammar, rule, WellFormed}
use Rattle.grammar.specs.Live.{is_live}
use Rattle.automaton.specs.Items.{length_of}
use Rattle.automaton.specs.Callers.{Spot, first, last, spot, same_items, code_at, chains, chains_of, spots, number_of}
use Rattle.automaton.specs.CallerMoves.{spot_ahead, spot_after}
use Rattle.triple_laws.proofs.Members.{only_one}
use Rattle.triple_laws.proofs.Callers.{place_out}
use Rattle.triple_laws.proofs.CallerMoves.{number_first, number_last}
use Rattle.caller_laws.specs.Classes.{caller_of, member_of, target_of, rule_at, rank}
use Rattle.caller_laws.proofs.Walk.{Chain, map_at, rank-found, chained_live, shorter_chain}
use Rattle.caller_laws.proofs.Blocks.{map_many, width, begins, begins-next, begins_two, states_are, item_number, each-state}
use Rattle.live.specs.Marks.{right_at}
use Rattle.caller_rows.specs.Clauses.{start_of}
use Rattle.caller_rule.specs.RuleRows.{Six, member_class, target_class, code_before, low_before}
use Rattle.caller_rows.specs.LevelRows.{ends, callers_of, Row, LevelWritten}
use Rattle.caller_rows.specs.Levels.{LevelOf, dropped, Says}

-- terminals and nonterminals have different codes
apart : limits.max_terminals < limits.nonterminal_base
apart = omega arith

-- ---- where the states of a rule begin

-- rule 0 has one chain, the empty one
one_chain : (G : Grammar) → is_live limits G 0 ≡ true → (k : ℕ) → chains_of limits G k 0 ≡ [] ∷ []
unfolding chains
one_chain G sentence zero = refl
one_chain G sentence (suc k) = ap (λ b. when b (chains limits G (suc k) 0)) sentence

-- and one symbol
one_symbol : (G : Grammar) → length_of limits G 0 ≡ 1
unfolding rule
one_symbol G = refl

-- the rows of lengths and of chains tell where the states of a rule with k callers begin
module _ (G : Grammar) (sentence : is_live limits G 0 ≡ true) (k count : ℕ) (lengths widths : List ℕ)
    (long : (i : ℕ) → i < count → get_or lengths i 0 ≡ length (rule limits G (suc i)).right)
    (wide : (i : ℕ) → i < count → get_or widths i 0 ≡ length (chains_of limits G k (suc i))) where
  -- with the rules numbered from 0, as the rows have them
  start_is : (i : ℕ) → i ≤ count → start_of lengths widths i ≡ begins limits G k (suc i)
  unfolding start_of
  start_is zero h =
      let z : suc (length_of limits G 0) * width limits G k 0 ≡ 2 * 1 = ap₂ (λ a b. suc a * b) (one_symbol G) (ap length (one_chain G sentence k)) in
      omega (arith, z, begins-next limits G k 0, begins_two limits G k)
  start_is (suc i) h =
      let z : (get_or lengths i 0 + 1) * get_or widths i 0 ≡ suc (length_of limits G (suc i)) * width limits G k (suc i) =
      ap₂ (λ a b. a * b) (add-one (get_or lengths i 0) ∙ ap suc (long i (omega arith))) (wide i (omega arith)) in
      omega (arith, z, start_is i (omega arith), begins-next limits G k (suc i))

-- the states that are counted are those with m callers
pub level_states : (G : Grammar) → is_live limits G 0 ≡ true → (m count : ℕ) (lengths widths : List ℕ) → count ≡ length G.rules
    → ((i : ℕ) → i < count → get_or lengths i 0 ≡ length (rule limits G (suc i)).right)
    → ((i : ℕ) → i < count → get_or widths i 0 ≡ length (chains_of limits G m (suc i)))
    → start_of lengths widths count ≡ length (spots limits G m)
level_states G sentence m count lengths widths all long wide =
    start_is G sentence m count lengths widths long wide count (omega arith)
    ∙ ap (λ n. begins limits G m (suc n)) all ∙ sym (states_are limits G m)

-- ---- the states of one rule

-- what the states of rule i are written from
record RuleOf (G : Grammar) (m : ℕ) (ranks : List ℕ) (i : ℕ) (codes callers : List ℕ) (narrow low at : ℕ) : Type 0 where
  rule-of : i ≤ length G.rules
  codes_are : codes ≡ (rule limits G i).right
  callers_are : callers ≡ map (λ cs. number_of limits G m (caller_of cs)) (chains_of limits G (suc m) i)
  narrow_is : narrow ≡ width limits G m i
  low_is : low ≡ begins limits G m i
  at_is : at ≡ begins limits G (suc m) i
  ranks_are : (cs : Chain) → Mem cs (chains_of limits G (suc m) i) → get_or ranks (number_of limits G m (caller_of cs)) 0 ≡ rank (take m cs) (chains_of limits G m i)

module _ (G : Grammar) (W : WellFormed limits G) (m : ℕ) where
  -- how many states there are one level below, and their numbers
  abbrev K : ℕ
  K = length (spots limits G m)

  abbrev n : Spot → ℕ
  n = number_of limits G m

  module _ (ranks : List ℕ) (i : ℕ) (codes callers : List ℕ) (narrow low at d : ℕ) (cs : Chain) (R : RuleOf G m ranks i codes callers narrow low at)
      (k : d ≤ length_of limits G i) (w : Mem cs (chains_of limits G (suc m) i)) where
    -- the place of the chain
    abbrev r : ℕ
    r = rank cs (chains_of limits G (suc m) i)

    -- the code ahead, and of a dot further back
    code_is : (e : ℕ) → get_or codes e 0 ≡ code_at limits G (i, e)
    unfolding code_at
    code_is e =
        ap (λ l. get_or l e 0) R.codes_are
        ∙ sym (ap (λ b. choose b (get_or (rule limits G i).right e 0) 0) (chained_live limits G W apart m i cs w))

    -- the caller
    caller_is : get_or callers r 0 ≡ n (caller_of cs)
    caller_is =
        let f = rank-found w in
        ap (λ l. get_or l r 0) R.callers_are ∙ map_at (λ cs. n (caller_of cs)) (chains_of limits G (suc m) i) r [] f.0 ∙ ap (λ cs. n (caller_of cs)) f.1

    -- the number one level below, with the dot at e
    down_is : (e : ℕ) → e ≤ length_of limits G i → low + e * narrow + get_or ranks (get_or callers r 0) 0 ≡ n (spot i e (take m cs))
    down_is e l =
        let z = item_number limits G W apart m i e (take m cs) R.rule-of l (shorter_chain limits G W apart m i cs R.rule-of w) in
        let y = ap (λ c. get_or ranks c 0) caller_is ∙ R.ranks_are cs w in
        omega (arith, z, y, R.low_is, ap (λ a. e * a) R.narrow_is)

    -- the class that the state moves by
    member_is : member_class (eqb d (length codes)) (get_or codes d 0) K (get_or callers r 0) (low + d * narrow + get_or ranks (get_or callers r 0) 0) ≡ member_of limits G m (spot i d cs)
    unfolding member_of
    member_is =
        ap (λ l. member_class (eqb d (length l)) (get_or codes d 0) K (get_or callers r 0) (low + d * narrow + get_or ranks (get_or callers r 0) 0)) R.codes_are
        ∙ ap (λ x. member_class (eqb d (length_of limits G i)) x K (get_or callers r 0) (low + d * narrow + get_or ranks (get_or callers r 0) 0)) (code_is d)
        ∙ ap₂ (λ c e. member_class (eqb d (length_of limits G i)) (code_at limits G (i, d)) K c e) caller_is (down_is d k)

    -- the state after a shift
    after_is : d < length_of limits G i → at + d * length callers + r + length callers ≡ number_of limits G (suc m) (spot i (suc d) cs)
    after_is l =
        let z = item_number limits G W apart (suc m) i (suc d) cs R.rule-of l w in
        let y : length callers ≡ width limits G (suc m) i = ap length R.callers_are ∙ map_many (λ cs. n (caller_of cs)) (chains_of limits G (suc m) i) in
        omega (arith, z, y, R.at_is, ap (λ a. d * a) y, suc-mul d (width limits G (suc m) i))

    -- what is shown stands ahead of the rule's end
    shown-inside : 1 ≤ spot_ahead limits G (spot i d cs) → d < length_of limits G i
    unfolding spot_ahead
    shown-inside h = (place_out limits G W apart (code_at limits G (i, d)) i d h R.rule-of refl).inside

  -- the class that leads to the state
  target_is : (ranks : List ℕ) (i : ℕ) (codes callers : List ℕ) (narrow low at d : ℕ) (cs : Chain) → RuleOf G m ranks i codes callers narrow low at
      → d ≤ length_of limits G i → Mem cs (chains_of limits G (suc m) i)
      → target_class (eqb d 0) (code_before codes d) K (get_or callers (rank cs (chains_of limits G (suc m) i)) 0)
      (low_before (low + d * narrow) narrow d + get_or ranks (get_or callers (rank cs (chains_of limits G (suc m) i)) 0) 0) ≡ target_of limits G m (spot i d cs)
  unfolding target_of
  target_is ranks i codes callers narrow low at zero cs R k w = ap (λ c. K + c) (caller_is ranks i codes callers narrow low at 0 cs R k w)
  target_is ranks i codes callers narrow low at (suc d) cs R k w =
      let r = rank cs (chains_of limits G (suc m) i) in
      let c = get_or callers r 0 in
      let e = get_or ranks c 0 in
      let z : low + suc d * narrow - narrow ≡ low + d * narrow = omega (arith, suc-mul d narrow) in
      ap (λ b. choose b (K + c) (choose (leb limits.nonterminal_base (get_or codes d 0)) (low + suc d * narrow - narrow + e) (2 * K + 1))) (ne_eqb (suc d) 0 (λ q. omega (arith, q)))
      ∙ ap (λ x. choose (leb limits.nonterminal_base x) (low + suc d * narrow - narrow + e) (2 * K + 1)) (code_is ranks i codes callers narrow low at (suc d) cs R k w d)
      ∙ ap (λ x. choose (leb limits.nonterminal_base (code_at limits G (i, d))) x (2 * K + 1))
      (ap (λ x. x + e) z ∙ down_is ranks i codes callers narrow low at (suc d) cs R k w d (omega (arith, k)))

-- ---- the states of a level

-- how an entry of a rule's states is written: rule, codes, callers, chains below, where its states begin below and here, dot, place
abbrev Entry : Type 0
Entry = ℕ → List ℕ → List ℕ → ℕ → ℕ → ℕ → ℕ → ℕ → ℕ

module _ (G : Grammar) (W : WellFormed limits G) (sentence : is_live limits G 0 ≡ true) (m : ℕ) (lefts lengths codes : List ℕ) (count K : ℕ)
    (starts callers below widths ranks : List ℕ) (A : LevelOf G m lefts lengths codes count K starts callers below widths ranks) where
  -- rule 0, which the start calls
  rule-zero : RuleOf G m ranks 0 (limits.nonterminal_base ∷ []) (0 ∷ []) 1 2 2
  unfolding rule rank same_items
  rule-zero = record {
    rule-of = omega arith;
    codes_are = refl;
    callers_are =
        ap (λ c. c ∷ []) (sym (number_first limits G W apart m))
        ∙ sym (ap (map (λ cs. number_of limits G m (caller_of cs))) (one_chain G sentence (suc m)));
    narrow_is = sym (ap length (one_chain G sentence m));
    low_is = sym (begins_two limits G m);
    at_is = sym (begins_two limits G (suc m));
    ranks_are = λ cs w.
        let e : cs ≡ [] = only_one (subst (Mem cs) (one_chain G sentence (suc m)) w) in
        ap (λ cs. get_or ranks (number_of limits G m (caller_of cs)) 0) e ∙ ap (λ c. get_or ranks c 0) (number_first limits G W apart m) ∙ A.start-rank
        ∙ sym (ap (λ cs. rank (take m cs) (chains_of limits G m 0)) e ∙ ap₂ (λ cs l. rank cs l) (take-nil m) (one_chain G sentence m));
  }

  -- a stored rule, from the rows of all rules
  rule-next : (i : ℕ) → i < count
      → RuleOf G m ranks (suc i) (right_at lengths codes i) (callers_of lefts starts widths callers i) (get_or below i 0) (start_of lengths below i) (start_of lengths widths i)
  rule-next i h = record {
    rule-of = omega (arith, h, A.rules_are);
    codes_are = A.codes_are i h;
    callers_are = A.callers_are i h;
    narrow_is = A.below_are i h;
    low_is = start_is G sentence m count lengths below A.lengths_are A.below_are i (omega (arith, h));
    at_is = start_is G sentence (suc m) count lengths widths A.lengths_are A.widths_are i (omega (arith, h));
    ranks_are = A.ranks_are i h;
  }

  -- what holds of the entries as they are written holds of each entry
  entries : (P : Spot → ℕ → Type 0) (front : ℕ → ℕ) (f : Entry) (old new : List ℕ)
      → Row lefts lengths codes K starts callers below widths ranks count front f old new → P first (front 0) → P last (front 1)
      → ((i : ℕ) (codes callers : List ℕ) (narrow low at d : ℕ) (cs : Chain) → RuleOf G m ranks i codes callers narrow low at
      → d ≤ length_of limits G i → Mem cs (chains_of limits G (suc m) i)
      → P (spot i d cs) (f i codes callers narrow low at d (rank cs (chains_of limits G (suc m) i))))
      → (p : ℕ) → p < length (spots limits G (suc m)) → P (get_or (spots limits G (suc m)) p last) (get_or new p 0)
  entries P front f old new X start end item =
      each-state limits G W apart (suc m) (λ p s. P s (get_or new p 0)) (subst (P first) (sym (X.first_two 0 (omega arith))) start)
      (subst (P last) (sym (X.first_two 1 (omega arith))) end) at_item
    where
      at_item : (i d : ℕ) (cs : Chain) → i ≤ length G.rules → d ≤ length_of limits G i → Mem cs (chains_of limits G (suc m) i)
          → P (spot i d cs) (get_or new (begins limits G (suc m) i + d * width limits G (suc m) i + rank cs (chains_of limits G (suc m) i)) 0)
      at_item zero d cs h k w =
          let r = rank cs (chains_of limits G (suc m) 0) in
          let o = one_chain G sentence (suc m) in
          let z : r ≡ 0 = omega (arith, (rank-found w).0, ap length o) in
          let y : begins limits G (suc m) 0 + d * width limits G (suc m) 0 + r ≡ 2 + d = omega (arith, z, begins_two limits G (suc m), ap (λ l. d * length l) o) in
          subst (P (spot 0 d cs))
          (ap (f 0 (limits.nonterminal_base ∷ []) (0 ∷ []) 1 2 2 d) z ∙ sym (ap (λ p. get_or new p 0) y ∙ X.next_two d (omega (arith, k, one_symbol G))))
          (item 0 (limits.nonterminal_base ∷ []) (0 ∷ []) 1 2 2 d cs rule-zero k w)
      at_item (suc i) d cs h k w =
          let l : i < count = omega (arith, h, A.rules_are) in
          let r = rank cs (chains_of limits G (suc m) (suc i)) in
          let R = rule-next i l in
          let wide = A.widths_are i l in
          let y : start_of lengths widths i + d * get_or widths i 0 + r ≡ begins limits G (suc m) (suc i) + d * width limits G (suc m) (suc i) + r =
          omega (arith, R.at_is, ap (λ a. d * a) wide) in
          let z = X.rules i d r l (omega (arith, k, A.lengths_are i l)) (omega (arith, (rank-found w).0, wide)) in
          subst (P (spot (suc i) d cs))
          (ap (λ j. f j (right_at lengths codes i) (callers_of lefts starts widths callers i) (get_or below i 0) (start_of lengths below i) (start_of lengths widths i) d r) (sym (add-one i))
          ∙ sym z ∙ ap (λ p. get_or new p 0) y)
          (item (suc i) (right_at lengths codes i) (callers_of lefts starts widths callers i) (get_or below i 0) (start_of lengths below i) (start_of lengths widths i) d cs R k w)

-- what is written says of each state what it is
pub level_says : (G : Grammar) → WellFormed limits G → is_live limits G 0 ≡ true → (m : ℕ) (lefts lengths codes : List ℕ) (count K : ℕ)
    (first callers below widths ranks : List ℕ) (old new : Six) → LevelOf G m lefts lengths codes count K first callers below widths ranks
    → LevelWritten lefts lengths codes K first callers below widths ranks count old new → Says G m new
unfolding spot_ahead spot_after member_of target_of
level_says G W sentence m lefts lengths codes count K starts callers below widths ranks old new A X =
    let e = entries G W sentence m lefts lengths codes count K starts callers below widths ranks A in
    let n = number_of limits G m in
    let start = number_first limits G W apart m in
    let end = number_last limits G W apart m in
    let k = A.kinds_are in
    record {
      ahead = e (λ s v. v ≡ spot_ahead limits G s) (ends 0 0) (λ i codes callers narrow low at d r. get_or codes d 0) old.ahead new.ahead X.ahead refl refl
          (λ i codes callers narrow low at d cs R l w. code_is G W m ranks i codes callers narrow low at d cs R l w d);
      number = e (λ s v. v ≡ rule_at s) (ends 0 0) (λ i codes callers narrow low at d r. i) old.number new.number X.number refl refl
          (λ i codes callers narrow low at d cs R l w. refl);
      member = e (λ s v. v ≡ member_of limits G m s) (ends K (2 * K))
          (λ i codes callers narrow low at d r.
          member_class (eqb d (length codes)) (get_or codes d 0) K (get_or callers r 0) (low + d * narrow + get_or ranks (get_or callers r 0) 0))
          old.member new.member X.member (omega (arith, k, start)) (omega (arith, k))
          (λ i codes callers narrow low at d cs R l w.
          ap (λ K. member_class (eqb d (length codes)) (get_or codes d 0) K (get_or callers (rank cs (chains_of limits G (suc m) i)) 0)
          (low + d * narrow + get_or ranks (get_or callers (rank cs (chains_of limits G (suc m) i)) 0) 0)) k
          ∙ member_is G W m ranks i codes callers narrow low at d cs R l w);
      target = e (λ s v. v ≡ target_of limits G m s) (ends (2 * K + 1) 0)
          (λ i codes callers narrow low at d r.
          target_class (eqb d 0) (code_before codes d) K (get_or callers r 0) (low_before (low + d * narrow) narrow d + get_or ranks (get_or callers r 0) 0))
          old.target new.target X.target (omega (arith, k)) (sym start)
          (λ i codes callers narrow low at d cs R l w.
          ap (λ K. target_class (eqb d 0) (code_before codes d) K (get_or callers (rank cs (chains_of limits G (suc m) i)) 0)
          (low_before (low + d * narrow) narrow d + get_or ranks (get_or callers (rank cs (chains_of limits G (suc m) i)) 0) 0)) k
          ∙ target_is G W m ranks i codes callers narrow low at d cs R l w);
      after = e (λ s v. 1 ≤ spot_ahead limits G s → v ≡ number_of limits G (suc m) (spot_after limits G s)) (ends 0 0)
          (λ i codes callers narrow low at d r. at + d * length callers + r + length callers)
          old.after new.after X.after (λ h. absurd (omega (arith, h))) (λ h. absurd (omega (arith, h)))
          (λ i codes callers narrow low at d cs R l w h.
          after_is G W m ranks i codes callers narrow low at d cs R l w (shown-inside G W m ranks i codes callers narrow low at d cs R l w h));
      down = e (λ s v. v ≡ n (dropped m s)) (ends 0 1)
          (λ i codes callers narrow low at d r. low + d * narrow + get_or ranks (get_or callers r 0) 0)
          old.down new.down X.down (sym start) (sym end)
          (λ i codes callers narrow low at d cs R l w. down_is G W m ranks i codes callers narrow low at d cs R l w d l);
    }
