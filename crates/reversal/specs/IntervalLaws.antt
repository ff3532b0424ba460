-- A height in an interval, ends included: it is at least the lower end and at most the upper (`within_low`, `within-high`, `within-is`), and is
-- a number where these are (`within-finite`). Assumes nothing.
use Rattle.std.specs.Prelude.{T, Float}
use Rattle.std.specs.Float.Ieee.{le}
use Rattle.std.specs.Float.Ieee.Fits.{and_l, and_r, and_i}
use Rattle.std.specs.Float.Ieee.Scale.{finite}
use Rattle.real.specs.OrderLaws.{between}
use Rattle.rules.specs.Rules.{within}

module _ (lower x upper : Float) where
  -- it is not below the lower end
  pub within_low : T (within lower x upper) → T (le lower x)
  within_low h = and_l (le lower x) (le x upper) h

  -- it is not above the upper end
  pub within-high : T (within lower x upper) → T (le x upper)
  within-high h = and_r (le lower x) (le x upper) h

  -- what is neither is in the interval
  pub within-is : T (le lower x) → T (le x upper) → T (within lower x upper)
  within-is h k = and_i (le lower x) (le x upper) h k

  -- between numbers is a number
  pub within-finite : T (finite lower) → T (finite upper) → T (within lower x upper) → T (finite x)
  within-finite a b h = between lower x upper a b (within_low h) (within-high h)
