-- An age as it is printed: "in whole thousandths, the rest dropped". Definitions only. Assumes nothing.
use Rattle.std.specs.Prelude.{not, ◌&&◌, cond, ℕ, ◌*◌, ◌/◌, T, Float, Option, Some, None}
use Rattle.std.specs.Float.{binary64}
use Rattle.std.specs.Float.Ieee.{of_bits, lt}
use Rattle.std.specs.Float.Ieee.Positive.{num, den}
use Rattle.real.specs.Real.{zero}

-- 2 ^ 43
abbrev pub print_limit : Float
print_limit = of_bits binary64 0x42a0_0000_0000_0000

-- The whole thousandths of x, which is num x / den x, exactly: `num` and `den` are the library's fraction of a finite float's size.
unfoldable pub thousandths_of : Float → ℕ
thousandths_of x = num x * 1000 / den x

-- What is printed: not below zero, as -0.0 is not either, and below 2 ^ 43, as neither a NaN nor infinity is.
unfoldable pub printed_of : Float → Option ℕ
unfolding thousandths_of
printed_of x = cond (not (lt x zero) && lt x print_limit) (Some (thousandths_of x)) None

-- such an x
pub record Printable (x : Float) : Type 0 where
  pub low : T (not (lt x zero))
  pub high : T (lt x print_limit)
