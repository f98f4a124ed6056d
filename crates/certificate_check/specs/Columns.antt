-- What is held in rows of a certificate, and which of its triples are closed. The certificate has 2Q rows of Q bits: the row
-- numbered f*Q + a has the triples (f, a, b). Assumes nothing.
use Rattle.std.specs.Prelude.{ℕ, ◌+◌, ◌-◌, ◌*◌, ◌/◌, ◌%◌, ◌^◌, ◌≤◌, ◌<◌, ◌≡◌, true, List, length, get_or}
use Rattle.grammar.specs.Limits.{limits}
use Rattle.triples.specs.Certificate.{bit, is_set}
use Rattle.bits.specs.Windows.{wide_bits}
use Rattle.moves.specs.Tables.{most_kinds}
use Rattle.plans.specs.Plan.{Rows, side_of, layer_after, plan_of}
use Rattle.plans.specs.Clauses.{Has}

-- how many targets class c has, and its k-th one
abbrev pub span_of : List ℕ → ℕ → ℕ
span_of first c = get_or first (c + 1) 0 - get_or first c 0

abbrev pub target_of : List ℕ → List ℕ → ℕ → ℕ → ℕ
target_of first targets c k = get_or targets (get_or first c 0 + k) 0

-- the targets of class c are laid out, and are states
pub record Placed (first targets : List ℕ) (Q c : ℕ) : Type 0 where
  pub class : c ≤ 2 * most_kinds
  pub order : get_or first c 0 ≤ get_or first (c + 1) 0
  pub inside : get_or first (c + 1) 0 ≤ limits.max_states
  pub each : (k : ℕ) → k < span_of first c → target_of first targets c k < Q

-- the first k targets of class c are held in a row
pub record RowTo (first targets : List ℕ) (Q : ℕ) (bytes : List ℕ) (c row k : ℕ) : Type 0 where
  pub each : (h : ℕ) → h < k → is_set bytes (row * Q + target_of first targets c h) ≡ true

-- all are
abbrev pub RowHeld : List ℕ → List ℕ → ℕ → List ℕ → ℕ → ℕ → Type 0
RowHeld first targets Q bytes c row = RowTo first targets Q bytes c row (span_of first c)

-- the first k targets of class d are held in layer 1 in the rows of all targets of class c
pub record PairsTo (first targets : List ℕ) (Q : ℕ) (bytes : List ℕ) (c d k : ℕ) : Type 0 where
  pub each : (g h : ℕ) → g < span_of first c → h < k → is_set bytes ((Q + target_of first targets c g) * Q + target_of first targets d h) ≡ true

abbrev pub PairsHeld : List ℕ → List ℕ → ℕ → List ℕ → ℕ → ℕ → Type 0
PairsHeld first targets Q bytes c d = PairsTo first targets Q bytes c d (span_of first d)

-- of each class, what was found held last: its targets in the row of this number, or past 2Q its pairs with a class
pub record Noting (first targets : List ℕ) (Q : ℕ) (bytes : List ℕ) (d note : ℕ) : Type 0 where
  pub row : note < 2 * Q → RowHeld first targets Q bytes d note
  pub pairs : (c : ℕ) → note ≡ 2 * Q + c → PairsHeld first targets Q bytes c d

-- notes are counted from 1 on: 0 says nothing
pub record Noted (first targets : List ℕ) (Q : ℕ) (bytes seen : List ℕ) : Type 0 where
  pub each : (d note : ℕ) → get_or seen d 0 ≡ note + 1 → Noting first targets Q bytes d note

-- a bit of w that is 1 is held in the row of each of k targets from index `from` on
pub record Met (bytes targets : List ℕ) (Q from k base w : ℕ) : Type 0 where
  pub held : (c h : ℕ) → c < wide_bits → w / 2 ^ c % 2 ≡ 1 → h < k → base + get_or targets (from + h) 0 * Q + c < 8 * length bytes
      → bit bytes (base + get_or targets (from + h) 0 * Q + c) ≡ 1

-- the columns of the targets from number k to before r lie in the window that begins at column `begin`, and w has their bits
pub record ColumnsMet (targets : List ℕ) (w begin from k r : ℕ) : Type 0 where
  pub near : (h : ℕ) → k ≤ h → h < r → (begin ≤ get_or targets (from + h) 0) × (get_or targets (from + h) 0 - begin < wide_bits)
  pub bits : (h : ℕ) → k ≤ h → h < r → w / 2 ^ (get_or targets (from + h) 0 - begin) % 2 ≡ 1

-- column b is held in the rows of all targets of a, in the layer after a's move alone
pub record LeftHeld (R : Rows) (targets : List ℕ) (m Q : ℕ) (bytes : List ℕ) (f a b : ℕ) : Type 0 where
  pub each : (k : ℕ) → k < span_of R.first (get_or R.member a 0)
      → is_set bytes (layer_after m f (side_of R.member R.first a) * (Q * Q) + b + target_of R.first targets (get_or R.member a 0) k * Q) ≡ true

-- all successors of index i are held
pub record ClosedAt (R : Rows) (targets : List ℕ) (t m Q : ℕ) (bytes : List ℕ) (i : ℕ) : Type 0 where
  pub each : (j : ℕ) → Has (plan_of R t m Q i) targets Q j → is_set bytes j ≡ true

-- so are those of what is held of n indices from i on
pub record ClosedFrom (R : Rows) (targets : List ℕ) (t m Q : ℕ) (bytes : List ℕ) (i n : ℕ) : Type 0 where
  pub each : (c : ℕ) → c < n → is_set bytes (i + c) ≡ true → ClosedAt R targets t m Q bytes (i + c)
