-- A signed number as the code hands it on: what its bits say, which is the number itself since it fits. Assumes nothing.
use lib.IntN.{ℤ}
use mir.Syntax.{w32}
use mir.Val.{to_z, of_z}

abbrev pub read : ℤ → ℤ
read k = to_z w32 (of_z w32 k)
