-- An age as a natural number. Definitions only. Assumes nothing.
use Rattle.std.specs.Prelude.{ℕ, ◌*◌, ◌/◌, ◌^◌, Float}
use Rattle.std.specs.Float.Ieee.Positive.{num, den}

-- A finite age as a whole number of the smallest f64 above zero, 2 ^ -1074, of which each f64 is a multiple; num x / den x is its size.
unfoldable pub age_of : Float → ℕ
age_of x = num x * 2 ^ 1074 / den x
