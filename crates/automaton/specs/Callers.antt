-- The position automaton that remembers m callers: a state is an item with its m nearest calling items.
-- Source: document 02, [11], sentence by sentence. With m = 0 it is the position automaton (`zero-opens` and its neighbours in crate
-- triple_laws). A chain of callers is what a stack keeps and document 000's item_0 quotient forgets. Assumes nothing.
use Rattle.std.specs.Prelude.{ℕ, zero, suc, ◌≤◌, ◌<◌, ◌≡◌, Bool, true, false, ◌&&◌, List, [], ◌∷◌, ◌++◌, map, eqb, leb, length, get_or, take}
use Rattle.grammar.specs.Basics.{choose, when, each}
use Rattle.grammar.specs.Limits.{Limits}
use Rattle.grammar.specs.Grammar.{Terminal, Rule, Grammar, IsRule, rule}
use Rattle.grammar.specs.Live.{Live, is_live}
use Rattle.grammar.specs.Refusal.{Answer, done, refuse_unless, and_then, too_many_states, too_many_callers}
use Rattle.grammar.specs.TableCheck.{check_table}
use Rattle.automaton.specs.Automaton.{Automaton}
use Rattle.automaton.specs.Items.{length_of}

-- a state is written as the start, the end, or rule i with the dot at d and its callers, items too, from the nearest on
pub data Spot : Type 0 where
  first last : Spot
  spot : ℕ → ℕ → List (ℕ × ℕ) → Spot

module _ (L : Limits) (G : Grammar) where
  -- rule i, live, has x after the dot at d
  pub record Place (x i d : ℕ) : Type 0 where
    pub live : Live L G i
    pub rule-of : i ≤ length G.rules
    pub inside : d < length_of L G i
    pub symbol : get_or (rule L G i).right d 0 ≡ x

  -- the m nearest calling items of rule i, fewer only if the chain begins in rule 0: a calling item has its dot before the left
  -- side of the rule it calls
  pub data Calls : ℕ → ℕ → List (ℕ × ℕ) → Type 0 where
    enough : {i : ℕ} → Calls 0 i []
    from_start : {m : ℕ} → Calls (suc m) 0 []
    called : {m i j d : ℕ} {cs : List (ℕ × ℕ)} → IsRule G i → Place (rule L G i).left j d → Calls m j cs → Calls (suc m) i ((j, d) ∷ cs)

module _ (L : Limits) (G : Grammar) (m : ℕ) where
  -- opening i: the item becomes the nearest caller, and the farthest is forgotten
  pub data SpotOpens : ℕ → Spot → Spot → Type 0 where
    spot-start : Live L G 0 → SpotOpens 0 first (spot 0 0 [])
    spot-opens : {i j d : ℕ} {cs : List (ℕ × ℕ)} → IsRule G i → Live L G i → Place L G (rule L G i).left j d → Calls L G m j cs
        → SpotOpens i (spot j d cs) (spot i 0 (take m ((j, d) ∷ cs)))

  -- closing i returns to the nearest caller advanced past its nonterminal, with any possible farther caller filled in
  pub data SpotCloses : ℕ → Spot → Spot → Type 0 where
    spot-ends : {e : ℕ} → Live L G 0 → e ≡ 1 → SpotCloses 0 (spot 0 e []) last
    spot-closes : {i j d e : ℕ} {cs ds : List (ℕ × ℕ)} → IsRule G i → Live L G i → Place L G (rule L G i).left j d → Calls L G m j cs
        → e ≡ length_of L G i → ds ≡ take m ((j, d) ∷ cs) → SpotCloses i (spot i e ds) (spot j (suc d) cs)

  -- shift: the dot passes a symbol, the callers stay
  pub data SpotShifts : ℕ → Spot → Spot → Type 0 where
    spot-shifts : {x i d : ℕ} {cs : List (ℕ × ℕ)} → Place L G x i d → Calls L G m i cs → SpotShifts x (spot i d cs) (spot i (suc d) cs)

-- ---- numbers

-- 0 to n
unfoldable pub up_to : ℕ → List ℕ
up_to zero = 0 ∷ []
up_to (suc n) = up_to n ++ (suc n ∷ [])

-- the items of some rules, numbered from i: by rule, then by dot
unfoldable pub items_from : ℕ → List Rule → List (ℕ × ℕ)
items_from i [] = []
items_from i (r ∷ rs) = map (λ d. (i, d)) (up_to (length r.right)) ++ items_from (suc i) rs

unfoldable pub same_items : List (ℕ × ℕ) → List (ℕ × ℕ) → Bool
same_items [] [] = true
same_items [] (c ∷ cs) = false
same_items (b ∷ bs) [] = false
same_items (b ∷ bs) (c ∷ cs) = (eqb b.0 c.0 && eqb b.1 c.1) && same_items bs cs

abbrev pub same_spot : Spot → Spot → Bool
same_spot first first = true
same_spot first last = false
same_spot first (spot j e ds) = false
same_spot last first = false
same_spot last last = true
same_spot last (spot j e ds) = false
same_spot (spot i d cs) first = false
same_spot (spot i d cs) last = false
same_spot (spot i d cs) (spot j e ds) = (eqb i j && eqb d e) && same_items cs ds

-- the place of a state in a list, or the list's length
unfoldable pub place_of : Spot → List Spot → ℕ
place_of s [] = 0
place_of s (t ∷ ts) = choose (same_spot t s) 0 (suc (place_of s ts))

module _ (L : Limits) (G : Grammar) where
  unfoldable pub items : List (ℕ × ℕ)
  items = items_from 0 (rule L G 0 ∷ G.rules)

  -- the code after the dot, or 0; a rule that is not live shows none
  unfoldable pub code_at : ℕ × ℕ → ℕ
  code_at c = choose (is_live L G c.0) (get_or (rule L G c.0).right c.1 0) 0

  -- the live items before x, in order
  unfoldable pub items_before : ℕ → List (ℕ × ℕ) → List (ℕ × ℕ)
  items_before x [] = []
  items_before x (c ∷ cs) = when (eqb (code_at c) x) (c ∷ []) ++ items_before x cs

  -- the chains of m callers of rule i, from the nearest
  unfoldable pub chains : ℕ → ℕ → List (List (ℕ × ℕ))
  chains zero i = [] ∷ []
  chains (suc m) zero = [] ∷ []
  chains (suc m) (suc i) = each (items_before (rule L G (suc i)).left items) (λ c. map (λ cs. c ∷ cs) (chains m c.0))

  -- at m = 0 every item is a state; above it, items of rules that are not live have no states
  abbrev pub chains_of : ℕ → ℕ → List (List (ℕ × ℕ))
  chains_of zero i = [] ∷ []
  chains_of (suc m) i = when (is_live L G i) (chains (suc m) i)

  -- the states: 0, 1, then by item, then by callers from the nearest, a missing one first
  unfoldable pub spots : ℕ → List Spot
  spots m = first ∷ last ∷ each items (λ c. map (spot c.0 c.1) (chains_of m c.0))

  abbrev pub number_of : ℕ → Spot → ℕ
  number_of m s = place_of s (spots m)

  -- the position automaton with m callers
  abbrev pub callers : ℕ → Automaton
  callers m = record {
    State = Spot;
    states = length (spots m);
    number = number_of m;
    first = first;
    last = last;
    Terminal = Terminal G.terminals;
    Opens = SpotOpens L G m;
    Closes = SpotCloses L G m;
    Shifts = SpotShifts L G m;
  }

-- ---- refusals

-- no more callers are remembered
abbrev pub most_callers : ℕ
most_callers = 2

-- 21 at 0 for a greater m, then 8 at 0 for more states with m callers than the limit
unfoldable pub check_callers : Limits → Grammar → ℕ → Answer Grammar
check_callers L G m =
    refuse_unless too_many_callers 0 (leb m most_callers)
    (refuse_unless too_many_states 0 (leb (callers L G m).states L.max_states)
    (done G))

-- t, n, a table and m: the table check first
unfoldable pub check_with : Limits → ℕ → ℕ → List ℕ → ℕ → Answer Grammar
check_with L t n table m = and_then (check_table L t n table) (λ G. check_callers L G m)
