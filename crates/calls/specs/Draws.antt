-- What several moves draw and work out: a node, a factor, a height in an interval, the lowest node that passes a test, and the limits of a
-- tuning. Definitions only. Assumes nothing.
use Rattle.std.specs.Prelude.{Bool, not, cond, ℕ, zero, suc, ◌+◌, ltb, eqb, Float}
use Rattle.std.specs.Float.{binary64}
use Rattle.std.specs.Float.Ieee.{of_bits, add, sub, mul, div}
use Rattle.random.specs.Draw.{Number, until, map, below, Draw, return, ◌>>=◌, uniform}
use Rattle.tree.specs.Tree.{tips_of}
use Rattle.real.specs.Real.{one}
use Rattle.rules.specs.Rules.{internals, within}
use Rattle.calls.specs.Call.{Reply, makes, outside, Outcome}

-- "a non-root node"
unfoldable pub non_root : ℕ → ℕ → Number
non_root n root = until (λ k. not (eqb k root)) (below n)

-- "an internal node"
unfoldable pub internal : ℕ → Number
internal n = map (λ k. tips_of n + k) (below (internals n))

-- "`scaler` is s + u·(1/s − s) with u a uniform, each operation rounded once in the order written"
unfoldable pub scaler : Float → Float → Float
scaler s u = add binary64 s (mul binary64 u (sub binary64 (div binary64 one s) s))

-- a height in an interval is lower + u·(upper − lower), rounded likewise
unfoldable pub interpolated : Float → Float → Float → Float
interpolated lower upper u = add binary64 lower (mul binary64 u (sub binary64 upper lower))

-- node k takes a height that is drawn from lower to upper; 8 where "a drawn height is outside its interval"
unfoldable pub drawn_height : ℕ → Float → Float → (Float → Outcome) → Draw (Reply Outcome)
drawn_height k lower upper make = do
  u ← uniform
  let x = interpolated lower upper u in return (cond (within lower x upper) (makes (make x)) (outside k))

-- the lowest number below m that passes, or m where none does
unfoldable pub least : (ℕ → Bool) → ℕ → ℕ
least test zero = zero
least test (suc m) = let k = least test m in cond (ltb k m) k (cond (test m) m (suc m))

-- ---- limits

-- 1e-8
abbrev pub least_tuning : Float
least_tuning = of_bits binary64 0x3e45_798e_e230_8c3a

-- "tuning 1e-8 to 1"
abbrev pub tuned : Float → Bool
tuned s = within least_tuning s one
