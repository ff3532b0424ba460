-- What the slices that are lent to the code of the edits must give for each edit to be the defined one: enough that no index is out of range.
-- NeedsLaws shows that a valid tree and its nodes give all of it. Definitions only. Assumes nothing.
use Rattle.std.specs.Prelude.{◌≡◌, ◌≢◌, List, ℕ, ◌+◌, ◌≤◌, ◌<◌, length, get_or}

-- node c stands somewhere: it is the root, or under a node
pub record Stands (pairs parents : List ℕ) (root c : ℕ) : Type 0 where
  pub few : length parents ≤ 4095
  pub twice : length pairs ≡ length parents + length parents
  pub node : c < length parents
  pub under : c ≢ root → get_or parents c 0 < length parents

-- slot x is one that node c can take
pub record Takes (pairs parents : List ℕ) (x c : ℕ) : Type 0 where
  pub few : length parents ≤ 4095
  pub twice : length pairs ≡ length parents + length parents
  pub slot : x ≤ length pairs
  pub node : c < length parents

-- two nodes, and three, that stand somewhere
pub record Exchanges (pairs parents : List ℕ) (root a b : ℕ) : Type 0 where
  pub stands_a : Stands pairs parents root a
  pub stands_b : Stands pairs parents root b

pub record Rotates (pairs parents : List ℕ) (root a b c : ℕ) : Type 0 where
  pub stands_a : Stands pairs parents root a
  pub stands_b : Stands pairs parents root b
  pub stands_c : Stands pairs parents root c
