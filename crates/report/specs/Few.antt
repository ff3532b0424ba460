-- How large the lent slices of a tree may be for its text to be measured. Definitions only. Assumes nothing.
use Rattle.std.specs.Prelude.{List, ℕ, ◌≤◌, length, Float}

-- those of the largest tree
pub record Few (pairs : List ℕ) (heights : List Float) : Type 0 where
  pub nodes : length pairs ≤ 8190
  pub each : length heights ≤ 4095
