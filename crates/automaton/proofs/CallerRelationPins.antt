-- Chains of callers and the moves with m callers pinned as relations: over any grammar what a chain, an opening and a closing say
-- of their callers, and on one grammar a chain of two and closings that fill in a farther caller, written out.
-- An edit of the relations in specs/Callers.antt that changes what they say refuses one of the facts. Assumes nothing.
use Prim.Native.Nat.{ℕ, suc, ◌≤◌}
use mathlib.Core.Path.{◌≡◌, refl, sym, ap}
use mathlib.Core.Bool.{true}
use mathlib.Core.Logic.{◌↔◌}
use mathlib.Core.List.{List, [], ◌∷◌}
use native.Mathlib.Omega.{arith}
use lib.ListN.{length, get_or, take, drop}
use Rattle.grammar.specs.Limits.{Limits, limits}
use Rattle.grammar.specs.Refusal.{done}
use Rattle.grammar.specs.Table.{encode}
use Rattle.grammar.specs.TableCheck.{stored_table}
use Rattle.grammar.specs.Grammar.{Grammar, IsRule, rule}
use Rattle.grammar.specs.Live.{Live, is_live}
use Rattle.grammar.proofs.Answers.{no_bool}
use Rattle.grammar.proofs.WellFormed.{stored-only, room}
use Rattle.grammar.proofs.Live.{is_live_lem}
use Rattle.automaton.specs.Callers.{Spot, spot, Place, Calls, enough, from_start, called}
use Rattle.automaton.specs.Callers.{SpotOpens, spot-opens, SpotCloses, spot-closes}
use Rattle.automaton.proofs.CallerPins.{nested, stray, states_of, check}

module _ (L : Limits) (G : Grammar) where
  -- a caller's rule is live, its dot stands before the left side of the rule it calls, and the others call it
  caller_live : {m i j d : ℕ} {cs : List (ℕ × ℕ)} → Calls L G (suc m) i ((j, d) ∷ cs) → Live L G j
  caller_live (called r p c) = p.live

  caller_before : {m i j d : ℕ} {cs : List (ℕ × ℕ)} → Calls L G (suc m) i ((j, d) ∷ cs) → get_or (rule L G j).right d 0 ≡ (rule L G i).left
  caller_before (called r p c) = p.symbol

  farther-callers : {m i j d : ℕ} {cs : List (ℕ × ℕ)} → Calls L G (suc m) i ((j, d) ∷ cs) → Calls L G m j cs
  farther-callers (called r p c) = c

  -- m callers at most, and fewer only if the chain begins in rule 0
  none_kept : {i : ℕ} {cs : List (ℕ × ℕ)} → Calls L G 0 i cs → cs ≡ []
  none_kept enough = refl

  begins : {m i : ℕ} → Calls L G (suc m) i [] → i ≡ 0
  begins from_start = refl

  nearest-of : {m i k j d e : ℕ} {cs ds : List (ℕ × ℕ)} → SpotOpens L G m i (spot j d cs) (spot k e ds) → ds ≡ take m ((j, d) ∷ cs)
  nearest-of (spot-opens r l p c) = refl

  -- opening makes the item the nearest caller, of as many as are remembered
  nearest-first : {m i j d e : ℕ} {cs ds : List (ℕ × ℕ)} → SpotOpens L G m i (spot j d cs) (spot i e ds) → ds ≡ take m ((j, d) ∷ cs)
  nearest-first o = nearest-of o

  -- closing returns to the nearest caller advanced past its nonterminal, and a farther one of the state stays its caller
  to-nearest : {m i k e j d : ℕ} {cs : List (ℕ × ℕ)} {s : Spot} → SpotCloses L G (suc m) i (spot k e ((j, d) ∷ cs)) s
      → (ds : List (ℕ × ℕ)) × (s ≡ spot j (suc d) ds) × (cs ≡ take m ds)
  to-nearest (spot-closes {cs = ds} r l p c e h) =
      (ds, ap (λ (bs : List (ℕ × ℕ)). spot (nearest bs).0 (suc (nearest bs).1) ds) (sym h), ap (drop 1) h)
    where
      nearest : List (ℕ × ℕ) → ℕ × ℕ
      nearest bs = get_or bs 0 (0, 0)

-- the test of live rules, in a grammar whose table passes
by-test : (G : Grammar) → stored_table limits G.terminals G.nonterminals (encode G.rules) ≡ done G → (i : ℕ) → i ≤ length G.rules
    → (is_live limits G i ≡ true) ↔ Live limits G i
by-test G e = is_live_lem limits G (stored-only limits room G.terminals G.nonterminals (encode G.rules) G e).well_formed (omega arith)

-- ---- S → C; S → A; S → a A; A → B; C → B; B → D; D → b

-- S → ·A and S → a·A call A → B, which calls B → D: all are live
alive : (i : ℕ) → i ≤ 7 → is_live limits nested i ≡ true → Live limits nested i
unfolding encode check
alive i h = (by-test nested refl i h).0

a-rule : IsRule nested 4
a-rule = (omega arith, omega arith)

b-rule : IsRule nested 6
b-rule = (omega arith, omega arith)

a_first : Place limits nested 32769 2 0
unfolding states_of
a_first = record { live = alive 2 (omega arith) refl; rule-of = omega arith; inside = omega arith; symbol = refl }

a_behind : Place limits nested 32769 3 1
unfolding states_of
a_behind = record { live = alive 3 (omega arith) refl; rule-of = omega arith; inside = omega arith; symbol = refl }

b-first : Place limits nested 32770 4 0
unfolding states_of
b-first = record { live = alive 4 (omega arith) refl; rule-of = omega arith; inside = omega arith; symbol = refl }

-- with two callers B → D has A → ·B, and then S → a·A
chain_of_two : Calls limits nested 2 6 ((4, 0) ∷ (3, 1) ∷ [])
unfolding states_of
chain_of_two = called b-rule b-first (called a-rule a_behind enough)

-- with one caller B → D· by A → ·B returns to A → B· by S → ·A, and to A → B· by S → a·A
filled_in : SpotCloses limits nested 1 6 (spot 6 1 ((4, 0) ∷ [])) (spot 4 1 ((2, 0) ∷ []))
    × SpotCloses limits nested 1 6 (spot 6 1 ((4, 0) ∷ [])) (spot 4 1 ((3, 1) ∷ []))
unfolding states_of
filled_in =
    let l = alive 6 (omega arith) refl in
    (spot-closes b-rule l b-first (called a-rule a_first enough) refl refl, spot-closes b-rule l b-first (called a-rule a_behind enough) refl refl)

-- ---- S → A; B → A; A → a; S → A C; C → C

-- B → ·A, which no sentence uses, does not call A → a
dead : ¬ Live limits stray 2
unfolding encode check
dead l = no_bool (sym ((by-test stray refl 2 (omega arith)).1 l))

no_dead_caller : {m : ℕ} {cs : List (ℕ × ℕ)} → ¬ Calls limits stray (suc m) 3 ((2, 0) ∷ cs)
no_dead_caller c = dead (caller_live limits stray c)
