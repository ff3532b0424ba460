-- What a uniform was taken for: a factor, or a height in an interval. Definitions only. Assumes nothing.
use Rattle.std.specs.Prelude.{◌≡◌, Float}
use Rattle.random.specs.UniformLaws.{UnitFraction}
use Rattle.calls.specs.Draws.{scaler, interpolated}

-- f is the factor that a uniform gives for the tuning s
pub record Factor (s f : Float) : Type 0 where
  pub uniform : Float
  pub unit : UnitFraction uniform
  pub is : f ≡ scaler s uniform

-- x is the height that a uniform gives from lower to upper
pub record Between (lower upper x : Float) : Type 0 where
  pub uniform : Float
  pub unit : UnitFraction uniform
  pub is : x ≡ interpolated lower upper uniform
