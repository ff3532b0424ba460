-- The factor of a scale, for a tuning from 1e-8 to 1 and a uniform: it is finite and positive (`factor-positive`, `chosen-positive`), and not below the tuning
-- (`factor-range`). Each step is at most what the ends of the tuning and of the uniform make it. Assumes nothing.
use Rattle.std.specs.Prelude.{◌≡◌, true, ◌^◌, Float}
use Rattle.std.proofs.Math.Dec.{T}
use Rattle.std.specs.Float.{binary64}
use Rattle.std.specs.Float.Ieee.{fits, add, sub, mul, div, lt, le, of_bits}
use Rattle.std.specs.Float.Ieee.Bits.{is_true}
use Rattle.std.specs.Float.Ieee.Fits.{and_i, and_l, and_r}
use Rattle.std.specs.Float.Ieee.Positive.{num, den, own_value, between}
use Rattle.std.specs.Float.Ieee.Scale.{finite}
use denote.Floats.{passes}
use Rattle.random.specs.UniformLaws.{UnitFraction, unit-lt-one}
use Rattle.real.specs.Real.{zero, one, positive}
use Rattle.real.specs.OrderLaws.{lt→le, le_trans, lt-le-trans}
use Rattle.real.specs.MonotoneLaws.{unsigned, unsigned-finite, unsigned-of-value, zero-le, AtMost, add-le, sub-le, mul-le, div-le, le-add}
use Rattle.calls.specs.Draws.{scaler, least_tuning, tuned}
use Rattle.calls.specs.Chosen.{Factor}

-- ---- the largest that each step can be

abbrev most_inverse : Float
most_inverse = div binary64 one least_tuning

abbrev most_length : Float
most_length = sub binary64 most_inverse least_tuning

abbrev most_part : Float
most_part = mul binary64 one most_length

abbrev most_factor : Float
most_factor = add binary64 one most_part

inverse-held : T (unsigned most_inverse)
unfolding div of_bits
inverse-held = tt

length-held : T (unsigned most_length)
unfolding div sub of_bits
length-held = tt

part_held : T (unsigned most_part)
unfolding div sub mul of_bits
part_held = tt

factor-held : T (unsigned most_factor)
unfolding div sub mul add of_bits
factor-held = tt

-- ---- the steps, for the tuning s and the uniform u

module _ (s u : Float) (h : tuned s ≡ true) (f : UnitFraction u) where
  abbrev inverse : Float
  inverse = div binary64 one s

  abbrev length : Float
  length = sub binary64 inverse s

  abbrev part : Float
  part = mul binary64 u length

  least : T (le least_tuning s)
  least = and_l (le least_tuning s) (le s one) (passes _ h)

  most : T (le s one)
  most = and_r (le least_tuning s) (le s one) (passes _ h)

  tuning-unsigned : T (unsigned s)
  unfolding of_bits
  tuning-unsigned = unsigned-of-value s (num s) (den s) (own_value s (between least_tuning s one tt tt least most))

  tuning-positive : T (lt zero s)
  unfolding of_bits lt
  tuning-positive = lt-le-trans zero least_tuning s tt tt (unsigned-finite s tuning-unsigned) tt least

  uniform-unsigned : T (unsigned u)
  uniform-unsigned = unsigned-of-value u f.numerator (2 ^ 53) f.exact

  inverse-at-most : AtMost inverse most_inverse
  unfolding of_bits lt le
  inverse-at-most = div-le one one s least_tuning tt tt tuning-unsigned tt tt least tt inverse-held

  tuning-le-inverse : T (le s inverse)
  unfolding of_bits div le
  tuning-le-inverse =
      let g : T (le one inverse) = (div-le one one one s tt tt tt tuning-unsigned tt most tuning-positive inverse-at-most.held).most in
      le_trans s one inverse (unsigned-finite s tuning-unsigned) tt (unsigned-finite inverse inverse-at-most.held) most g

  length-at-most : AtMost length most_length
  unfolding of_bits
  length-at-most =
      sub-le inverse most_inverse s least_tuning inverse-at-most.held inverse-held tuning-unsigned tt inverse-at-most.most least tuning-le-inverse
      length-held

  part-at-most : AtMost part most_part
  unfolding of_bits
  part-at-most =
      mul-le u one length most_length uniform-unsigned tt length-at-most.held length-held (lt→le u one (passes _ (unit-lt-one u f)))
      length-at-most.most part_held

  factor-at-most : AtMost (scaler s u) most_factor
  unfolding of_bits scaler
  factor-at-most = add-le s one part most_part tuning-unsigned tt part-at-most.held part_held most part-at-most.most factor-held

  least-le-factor : T (le least_tuning (scaler s u))
  unfolding of_bits scaler add le
  least-le-factor =
      (add-le least_tuning s zero part tt tuning-unsigned tt part-at-most.held least (zero-le part part-at-most.held) factor-at-most.held).most

  -- the factor is finite and positive
  pub factor-positive : positive (scaler s u) ≡ true
  unfolding of_bits lt
  factor-positive =
      let F = unsigned-finite (scaler s u) factor-at-most.held in
      is_true (positive (scaler s u))
      (and_i (lt zero (scaler s u)) (finite (scaler s u)) (lt-le-trans zero least_tuning (scaler s u) tt tt F tt least-le-factor) F)

  -- the factor of a tuning that is an f64 is not below the tuning
  pub factor-range : T (fits binary64 s) → le s (scaler s u) ≡ true
  unfolding scaler
  factor-range F = is_true (le s (scaler s u)) (le-add s part F tuning-unsigned part-at-most.held factor-at-most.held)

-- so is one that a uniform gave
pub chosen-positive : (s f : Float) → tuned s ≡ true → Factor s f → positive f ≡ true
chosen-positive s f h c = rw c.is (factor-positive s c.uniform h c.unit)
