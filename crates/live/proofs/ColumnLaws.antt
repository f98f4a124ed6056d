-- The columns of a record hold the rules of its grammar. Assumes nothing.
use Prim.Native.Nat.{ℕ, zero, suc, ◌+◌, ◌-◌, ◌<◌}
use mathlib.Core.Path.{◌≡◌, refl, ap, sym, subst, ◌∙◌}
use mathlib.Core.List.{List, [], ◌∷◌, ◌++◌, append_assoc}
use mathlib.Core.Logic.{⊎_elim}
use native.Mathlib.Omega.{arith}
use lib.ListN.{length, get_or, take, drop, replicate, length-append}
use lib.Seq.{take-append_seam, drop-append-add}
use Rattle.grammar.specs.Basics.{Mem, here, there}
use Rattle.grammar.specs.Limits.{limits}
use Rattle.grammar.specs.Grammar.{Rule, Grammar, WellFormed, rule}
use Rattle.grammar.specs.Record.{padded, lefts, lengths, codes, record_of, IsRecord}
use Rattle.grammar.specs.declared.CheckedGrammar.{CheckedGrammar}
use Rattle.grammar.proofs.Columns.{lefts-length, lengths-length}
use Rattle.grammar.proofs.Derives.{rule-listed}
use Rattle.grammar.proofs.Lists.{mem_either}
use Rattle.grammar.proofs.Lists.{no_element}
use Rattle.live.specs.Marks.{before, left_at, right_at, Columns}
use Rattle.live.specs.Lent.{with_columns, ColumnsOf}

abbrev line : List Rule → ℕ → Rule
line rs i = get_or rs i (record { left = 0; right = [] })

left-at : (rs : List Rule) (l : List ℕ) (i : ℕ) → i < length rs → get_or (lefts rs ++ l) i 0 ≡ (line rs i).left
unfolding lefts
left-at [] l i h = absurd (omega arith)
left-at (r ∷ rs) l zero h = refl
left-at (r ∷ rs) l (suc i) h = left-at rs l i (omega arith)

before_cons : (k : ℕ) (ls : List ℕ) (i : ℕ) → before (k ∷ ls) (suc i) ≡ k + before ls i
unfolding before
before_cons k ls zero = omega arith
before_cons k ls (suc i) = omega (arith, before_cons k ls i)

right-at : (rs : List Rule) (n c : List ℕ) (i : ℕ) → i < length rs → right_at (lengths rs ++ n) (codes rs ++ c) i ≡ (line rs i).right
unfolding lengths codes before
right-at [] n c i h = absurd (omega arith)
right-at (r ∷ rs) n c zero h = ap (take (length r.right)) (append_assoc r.right (codes rs) c) ∙ take-append_seam r.right (codes rs ++ c)
right-at (r ∷ rs) n c (suc i) h =
    let k = get_or (lengths rs ++ n) i 0 in
    ap (λ u. take k (drop u ((r.right ++ codes rs) ++ c))) (before_cons (length r.right) (lengths rs ++ n) i)
    ∙ ap (λ l. take k (drop (length r.right + before (lengths rs ++ n) i) l)) (append_assoc r.right (codes rs) c)
    ∙ ap (take k) (drop-append-add r.right (codes rs ++ c) (before (lengths rs ++ n) i))
    ∙ right-at rs n c i (omega arith)

before-all : (rs : List Rule) (n : List ℕ) → before (lengths rs ++ n) (length rs) ≡ length (codes rs)
unfolding lengths codes before
before-all [] n = refl
before-all (r ∷ rs) n =
    before_cons (length r.right) (lengths rs ++ n) (length rs)
    ∙ omega (arith, before-all rs n, length-append r.right (codes rs))

-- every code is below b
abbrev Below : ℕ → List ℕ → Type 0
Below b l = (x : ℕ) → Mem x l → x < b

below_at : (b : ℕ) (l : List ℕ) → Below b l → (d : ℕ) → d < length l → get_or l d 0 < b
below_at b [] h d k = absurd (omega arith)
below_at b (x ∷ l) h zero k = h x here
below_at b (x ∷ l) h (suc d) k = below_at b l (λ y m. h y (there m)) d (omega arith)

below-codes : (b : ℕ) (rs : List Rule) → ((r : Rule) → Mem r rs → Below b r.right) → Below b (codes rs)
unfolding codes
below-codes b [] h x m = absurd (no_element m)
below-codes b (r ∷ rs) h x m =
    ⊎_elim (λ k. h r here x k) (λ k. below-codes b rs (λ s n. h s (there n)) x k) (mem_either r.right (codes rs) m)

below_zeros : (b n : ℕ) → 0 < b → Below b (replicate n 0)
below_zeros b zero h x m = absurd (no_element m)
below_zeros b (suc n) h x here = h
below_zeros b (suc n) h x (there m) = below_zeros b n h x m

-- what the columns of a record say
pub record Held (g : CheckedGrammar) (G : Grammar) : Type 0 where
  pub count : g.count ≡ length G.rules
  pub used : g.used ≡ before g.lengths g.count
  pub left : (i : ℕ) → i < g.count → left_at g.lefts i ≡ (rule limits G (suc i)).left
  pub right : (i : ℕ) → i < g.count → right_at g.lengths g.codes i ≡ (rule limits G (suc i)).right

pub held : (g : CheckedGrammar) (G : Grammar) → g ≡ record_of G → Held g G
unfolding record_of rule
held g G e = subst (λ g. Held g G) (sym e) (whole G)
  where
    whole : (G : Grammar) → Held (record_of G) G
    whole G = record {
      count = refl;
      used = sym (before-all G.rules (replicate (limits.max_rules - length (lengths G.rules)) 0));
      left = left-at G.rules (replicate (limits.max_rules - length (lefts G.rules)) 0);
      right = right-at G.rules (replicate (limits.max_rules - length (lengths G.rules)) 0) (replicate (limits.max_states - length (codes G.rules)) 0);
    }

pub columns_of : (g : CheckedGrammar) → IsRecord g → Columns g.lefts g.lengths g.codes g.count
unfolding record_of rule
columns_of g r = subst (λ (g : CheckedGrammar). Columns g.lefts g.lengths g.codes g.count) (sym r.same) (whole r.grammar r.well_formed)
  where
    whole : (G : Grammar) → WellFormed limits G
        → Columns (record_of G).lefts (record_of G).lengths (record_of G).codes (record_of G).count
    whole G w = record {
      few = w.count;
      left = omega (arith, lefts-length G.rules, length-append (lefts G.rules) (replicate (limits.max_rules - length (lefts G.rules)) 0));
      size = omega (arith, lengths-length G.rules, length-append (lengths G.rules) (replicate (limits.max_rules - length (lengths G.rules)) 0));
      code = omega (
        arith,
        before-all G.rules (replicate (limits.max_rules - length (lengths G.rules)) 0),
        length-append (codes G.rules) (replicate (limits.max_states - length (codes G.rules)) 0),
      );
      known = λ i h.
          let k = w.lefts (rule limits G (suc i)) (rule-listed limits G (suc i) (omega arith, omega arith)) in
          let e = left-at G.rules (replicate (limits.max_rules - length (lefts G.rules)) 0) i h in
          (omega (arith, k.0, e), omega (arith, k.1, e, w.nonterminals.1));
      small = below_at (limits.nonterminal_base + limits.max_nonterminals) (padded limits.max_states (codes G.rules))
          (λ x m. ⊎_elim
          (λ k. below-codes (limits.nonterminal_base + limits.max_nonterminals) G.rules
          (λ r n y q. ⊎_elim (λ t. omega (arith, t.1, w.terminals)) (λ t. omega (arith, t.1, w.nonterminals.1)) (w.codes r n y q)) x k)
          (λ k. below_zeros (limits.nonterminal_base + limits.max_nonterminals) (limits.max_states - length (codes G.rules)) (omega arith) x k)
          (mem_either (codes G.rules) (replicate (limits.max_states - length (codes G.rules)) 0) m));
    }

-- ---- columns that are lent

-- with them the record is the grammar's
pub lent_record : {G : Grammar} {n q count used : ℕ} {ls ns cs : List ℕ} → ColumnsOf G n q count used ls ns cs → IsRecord (with_columns G n q count used ls ns cs)
lent_record {G = G} C = record { grammar = G; well_formed = C.well_formed; same = C.same }

-- and those of a record are its grammar's
pub lent_of : (g : CheckedGrammar) (G : Grammar) → WellFormed limits G → g ≡ record_of G
    → ColumnsOf G g.nonterminals g.states g.count g.used g.lefts g.lengths g.codes
lent_of g G w e =
    subst (λ (g : CheckedGrammar). ColumnsOf G g.nonterminals g.states g.count g.used g.lefts g.lengths g.codes) (sym e)
    (record { well_formed = w; same = refl })
