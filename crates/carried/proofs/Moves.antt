-- The moves of a carried grammar are the old ones but for the codes ahead. Assumes nothing.
use Prim.Native.Nat.{ℕ, ◌+◌, ◌-◌, ◌<◌}
use mathlib.Core.Path.{◌≡◌, refl, ap, ap₂, sym, ◌∙◌}
use mathlib.Core.Bool.{Bool, true, false, ◌&&◌}
use mathlib.Core.List.{List, [], ◌∷◌, ◌++◌, map, map-append}
use native.Mathlib.Omega.{arith}
use lib.Dec.{eqb}
use lib.ListN.{length, get_or, replicate, length-map}
use Rattle.grammar.specs.Basics.{choose, when, each}
use Rattle.grammar.specs.Limits.{Limits}
use Rattle.grammar.specs.Grammar.{Rule, Grammar, state_count, rule}
use Rattle.grammar.specs.Live.{is_live}
use Rattle.automaton.specs.Items.{states}
use Rattle.automaton.specs.PositionMoves.{shown, aheads, rules_of, completed, past, ahead_row, ahead, openings, closings, moves_of}
use Rattle.carried.specs.Carried.{moved, moved_rule, distance, carried_grammar, Wider}
use Rattle.carried.proofs.Codes.{moved-low, moved_same, moved-entry}
use Rattle.carried.proofs.Alike.{Alike}
use Rattle.carried.proofs.Live.{start-moved, live_same}

pub states-moved : (b d : ℕ) (rs : List Rule) → state_count (map (moved_rule b d) rs) ≡ state_count rs
unfolding state_count
states-moved b d [] = refl
states-moved b d (r ∷ rs) = ap₂ (λ (x y : ℕ). x + (y + 1)) (states-moved b d rs) (length-map r.right (moved b d))

-- rules taken by two tests that agree
module _ (b d : ℕ) (some : 0 < b) (new old : ℕ → Bool) (same : (i : ℕ) → new i ≡ old i) where
  shown-moved : (i : ℕ) (r : Rule) → shown new i (moved_rule b d r) ≡ map (moved b d) (shown old i r)
  unfolding shown
  shown-moved i r =
      ap (λ (c : Bool). choose c (map (moved b d) r.right) (replicate (length (map (moved b d) r.right)) 0)) (same i)
      ∙ ap (λ (l : List ℕ). choose (old i) (map (moved b d) r.right) l) (none r.right)
      ∙ go (old i)
    where
      none : (α : List ℕ) → ◌≡◌ {A = List ℕ} (replicate (length (map (moved b d) α)) 0) (map (moved b d) (replicate (length α) 0))
      none [] = refl
      none (x ∷ α) = ap₂ (λ (y : ℕ) (l : List ℕ). y ∷ l) (sym (moved-low b d 0 some)) (none α)

      go : (c : Bool) → choose c (map (moved b d) r.right) (map (moved b d) (replicate (length r.right) 0))
          ≡ map (moved b d) (choose c r.right (replicate (length r.right) 0))
      go true = refl
      go false = refl

  aheads-moved : (i : ℕ) (rs : List Rule) → aheads new i (map (moved_rule b d) rs) ≡ map (moved b d) (aheads old i rs)
  unfolding aheads
  aheads-moved i [] = refl
  aheads-moved i (r ∷ rs) =
      ap₂ (λ (u l : List ℕ). u ++ (0 ∷ l)) (shown-moved i r) (aheads-moved (i + 1) rs)
      ∙ ap (λ (x : ℕ). map (moved b d) (shown old i r) ++ (x ∷ map (moved b d) (aheads old (i + 1) rs))) (sym (moved-low b d 0 some))
      ∙ sym (map-append (moved b d) (shown old i r) (0 ∷ aheads old (i + 1) rs))

  rules-moved : (x i p : ℕ) (rs : List Rule) → rules_of new (moved b d x) i p (map (moved_rule b d) rs) ≡ rules_of old x i p rs
  unfolding rules_of
  rules-moved x i p [] = refl
  rules-moved x i p (r ∷ rs) =
      ap₂ (λ (u : List (ℕ × ℕ)) (v : List (ℕ × ℕ)). u ++ v)
      (ap₂ (λ (c e : Bool). when (c && e) ((i, p) ∷ [])) (same i) (moved_same b d r.left x))
      (ap (λ (k : ℕ). rules_of new (moved b d x) (i + 1) (p + k + 1) (map (moved_rule b d) rs)) (length-map r.right (moved b d))
      ∙ rules-moved x (i + 1) (p + length r.right + 1) rs)

  past-moved : (x p : ℕ) (xs : List ℕ) → past (moved b d x) p (map (moved b d) xs) ≡ past x p xs
  unfolding past
  past-moved x p [] = refl
  past-moved x p (y ∷ ys) =
      ap₂ (λ (u : List ℕ) (v : List ℕ). u ++ v) (ap (λ (c : Bool). when c ((p + 1) ∷ [])) (moved_same b d y x)) (past-moved x (p + 1) ys)

  -- what a rule that ends in a state leads to, by what stands past its left side
  abbrev ends : (ℕ → List ℕ) → List (ℕ × ℕ) → List (ℕ × ℕ)
  ends f es = each es (λ c. map (λ q. (c.0, q)) (f c.1))

  closed-one : (i : ℕ) (r : Rule) (us vs : List (ℕ × ℕ)) (f g : ℕ → List ℕ) → ((x : ℕ) → f (moved b d x) ≡ g x) → ends f us ≡ ends g vs
      → (c : Bool) → ends f (when c ((i, moved b d r.left) ∷ []) ++ us) ≡ ends g (when c ((i, r.left) ∷ []) ++ vs)
  unfolding each
  closed-one i r us vs f g h rest true = ap₂ (λ (u : List ℕ) (v : List (ℕ × ℕ)). map (λ (y : ℕ). (i, y)) u ++ v) (h r.left) rest
  closed-one i r us vs f g h rest false = rest

  closed-moved : (e i p : ℕ) (rs : List Rule) (f g : ℕ → List ℕ) → ((x : ℕ) → f (moved b d x) ≡ g x)
      → ends f (completed new e i p (map (moved_rule b d) rs)) ≡ ends g (completed old e i p rs)
  unfolding completed each
  closed-moved e i p [] f g h = refl
  closed-moved e i p (r ∷ rs) f g h =
      ap₂ (λ (c : Bool) (k : ℕ). ends f (when (c && eqb (p + k) e) ((i, moved b d r.left) ∷ []) ++ completed new e (i + 1) (p + k + 1) (map (moved_rule b d) rs)))
      (same i) (length-map r.right (moved b d))
      ∙ closed-one i r (completed new e (i + 1) (p + length r.right + 1) (map (moved_rule b d) rs)) (completed old e (i + 1) (p + length r.right + 1) rs)
      f g h (closed-moved e (i + 1) (p + length r.right + 1) rs f g h) (old i && eqb (p + length r.right) e)

module _ (L M : Limits) (W : Wider L M) (G : Grammar) (t-low : G.terminals < L.nonterminal_base) where
  abbrev b : ℕ
  b = L.nonterminal_base

  abbrev d : ℕ
  d = distance L M

  abbrev G' : Grammar
  G' = carried_grammar L M G

  some : 0 < L.nonterminal_base
  some = omega (arith, W.apart)

  abbrev new : ℕ → Bool
  new = is_live M G'

  abbrev old : ℕ → Bool
  old = is_live L G

  first-moved : rule M G' 0 ≡ moved_rule b d (rule L G 0)
  unfolding rule
  first-moved =
      ap₂ (λ (x y : ℕ). record { left = x; right = y ∷ [] }) (sym (moved-low b d 0 some)) (sym (start-moved L M W))

  row : ahead_row M G' new ≡ map (moved b d) (ahead_row L G old)
  unfolding ahead_row
  row =
      ap (λ (r : Rule). 0 ∷ 0 ∷ aheads new 0 (r ∷ G'.rules)) first-moved
      ∙ ap (λ (l : List ℕ). 0 ∷ 0 ∷ l) (aheads-moved b d some new old (live_same L M W G) 0 (rule L G 0 ∷ G.rules))
      ∙ ap (λ (x : ℕ). x ∷ x ∷ map (moved b d) (aheads old 0 (rule L G 0 ∷ G.rules))) (sym (moved-low b d 0 some))

  ahead-same : (p : ℕ) → ahead M G' new p ≡ moved b d (ahead L G old p)
  ahead-same p = ap (λ (l : List ℕ). get_or l p 0) row ∙ moved-entry b d some (ahead_row L G old) p

  openings-same : (p : ℕ) → openings M G' new p ≡ openings L G old p
  unfolding openings
  openings-same p =
      ap₂ (λ (c : Bool) (u : List (ℕ × ℕ)). when (c && eqb p 0) ((0, 2) ∷ []) ++ u) (live_same L M W G 0)
      (ap (λ (x : ℕ). rules_of new x 1 4 (map (moved_rule b d) G.rules)) (ahead-same p)
      ∙ rules-moved b d some new old (live_same L M W G) (ahead L G old p) 1 4 G.rules)

  closings-same : (p : ℕ) → closings M G' new p ≡ closings L G old p
  unfolding closings
  closings-same p =
      ap₂ (λ (c : Bool) (u : List (ℕ × ℕ)). when (c && eqb p 3) ((0, 1) ∷ []) ++ u) (live_same L M W G 0)
      (closed-moved b d some new old (live_same L M W G) p 1 4 G.rules (λ x. past x 0 (ahead_row M G' new)) (λ x. past x 0 (ahead_row L G old))
      (λ x. ap (λ (l : List ℕ). past (moved b d x) 0 l) row ∙ past-moved b d some new old (live_same L M W G) x 0 (ahead_row L G old)))

  pub moves_alike : Alike b d (moves_of L G) (moves_of M G')
  moves_alike = record {
    low = t-low;
    states = states-moved b d G.rules;
    terminals = refl;
    ahead = ahead-same;
    after = λ p. refl;
    openings = openings-same;
    closings = closings-same;
  }
