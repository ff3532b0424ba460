-- Tests of the first m numbers, 0 to m − 1. Definitions only. Assumes nothing.
use Rattle.std.specs.Prelude.{Bool, true, false, ◌&&◌, ◌||◌, cond, ℕ, zero, suc, ◌+◌}

-- all, or some, of the first m numbers pass the test
unfoldable pub every : (ℕ → Bool) → ℕ → Bool
every test zero = true
every test (suc m) = every test m && test m

unfoldable pub some : (ℕ → Bool) → ℕ → Bool
some test zero = false
some test (suc m) = some test m || test m

-- how many of them do
unfoldable pub count_to : (ℕ → Bool) → ℕ → ℕ
count_to test zero = 0
count_to test (suc m) = count_to test m + cond (test m) 1 0
