-- The floats that other crates name, the larger and the smaller of two, and two tests of a float. `finite` is the library's
-- (lib.Ieee.Scale). Definitions only. Assumes nothing.
use Rattle.std.specs.Prelude.{Bool, cond, ◌&&◌}
use lib.Ieee.{Float, binary64, of_bits, lt, le}
use Rattle.std.specs.Float.Ieee.Scale.{finite}

-- 0.0
abbrev pub zero : Float
zero = of_bits binary64 0

-- 1.0
abbrev pub one : Float
one = of_bits binary64 0x3ff0_0000_0000_0000

abbrev pub infinity : Float
infinity = of_bits binary64 0x7ff0_0000_0000_0000

-- the larger by value, the first where they are equal
abbrev pub max_of : Float → Float → Float
max_of a b = cond (lt a b) b a

-- the smaller by value, the first where they are equal
abbrev pub min_of : Float → Float → Float
min_of a b = cond (lt b a) b a

-- "finite and positive"
abbrev pub positive : Float → Bool
positive x = lt zero x && finite x

-- "finite, not negative": −0.0 is zero
abbrev pub is_not_negative : Float → Bool
is_not_negative x = le zero x && finite x
