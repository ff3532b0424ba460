-- The way through the test of the rates. Assumes nothing.
use mathlib.Core.Bool.{Bool, true, false}
use mathlib.Core.List.{List}
use mathlib.Core.Path.{◌≡◌, refl, sym}
use lib.ListN.{length, get_or}
use lib.Ieee.{Float, nan}
use Rattle.real.specs.Real.{positive}
use Rattle.tree.specs.Bounded.{every}
use Rattle.tree.specs.BoundedLaws.{every_true, every-at}
use Rattle.rates.specs.Clock.{positive_at}
use Rattle.std.specs.Prelude.{IsTrue, ◌↔◌, EachIndex}

-- r is whether each rate is positive
pub rates-each : (rates : List Float) (r : Bool) → (IsTrue r ↔ EachIndex rates (λ k. IsTrue (positive (get_or rates k nan)))) → r ≡ every (positive_at rates) (length rates)
rates-each rates true h = sym (every_true (positive_at rates) (length rates) (h.0 refl))
rates-each rates false h = go (every (positive_at rates) (length rates)) refl
  where
    go : (b : Bool) → every (positive_at rates) (length rates) ≡ b → false ≡ b
    go true e = h.1 (every-at (positive_at rates) (length rates) e)
    go false e = refl
