-- A queue that is filled first in first out, each place with the place that it was found from: places found later have no earlier
-- parents and, of one parent, greater indices; and each successor of the index at a place stands at place 0, or at a place found
-- from there or from an earlier place. What the contract of the exploration says of it.
-- Assumes nothing.
use Rattle.std.specs.Prelude.{ℕ, ◌≤◌, ◌<◌, ◌≡◌, List, get_or}

-- where a successor of the index at place i stands: at 0, or at a place found from i or from an earlier place
pub record Stands (queue parents : List ℕ) (count i x : ℕ) : Type 0 where
  pub place : ℕ
  pub inside : place < count
  pub entry : get_or queue place 0 ≡ x
  pub early : 0 < place → get_or parents place 0 ≤ i

-- the queue is in order
pub record InOrder (Next : ℕ → ℕ → Type 0) (queue parents : List ℕ) (count : ℕ) : Type 0 where
  pub some : 0 < count
  pub zeroth : get_or queue 0 0 ≡ 0
  pub earlier : (k : ℕ) → 0 < k → k < count → get_or parents k 0 < k
  pub mono : (k l : ℕ) → 0 < k → k < l → l < count → get_or parents k 0 ≤ get_or parents l 0
  pub rising : (k l : ℕ) → 0 < k → k < l → l < count → get_or parents k 0 ≡ get_or parents l 0 → get_or queue k 0 < get_or queue l 0
  pub first : (i x : ℕ) → i < count → Next (get_or queue i 0) x → Stands queue parents count i x
