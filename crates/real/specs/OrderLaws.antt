-- The order of floats by value, `lt` and `le` of lib.Ieee, where -0.0 equals 0.0.
-- In order: `lt` and `le` of two, three in a row, what lies between, the larger and the smaller of two, and tests of a single float.
-- The floats come first, as explicit arguments. Then come the premises `T (finite x)`, in the order of the floats and only where a law
-- needs them, and then the comparisons. No float has to fit a format. Assumes nothing.
use Rattle.std.specs.Prelude.{◌≡◌, refl, Bool, true, false, not, cond, ℕ, ◌+◌, ◌*◌, ◌≤◌, ◌<◌, T, Float}
use Rattle.std.proofs.Common.{mul-lt-mul_of_pos_right, mul-le-mul_right, lt_of_mul-lt-mul_right, le_of_mul-le-mul_right, arith, T_not}
use Rattle.std.proofs.Math.Dec.{not_T}
use Rattle.std.specs.Float.{nan, inf, fin}
use Rattle.std.specs.Float.Ieee.{lt, le, eq, of_bits}
use Rattle.std.specs.Float.Ieee.Positive.{den_pos}
use Rattle.std.specs.Float.Ieee.Scale.{finite}
use Rattle.real.specs.Real.{zero, infinity, max_of, min_of}
use Rattle.real.specs.CrossLaws.{lt→less, less→lt, le→most, most→le, nlt→most, nle→less, or_l, or_r}

-- ---- two floats

pub lt_irrefl : (x : Float) → T (lt x x) → ⊥
unfolding lt
lt_irrefl nan h = h
lt_irrefl (inf true) h = h
lt_irrefl (inf false) h = h
lt_irrefl (fin s m e) h = let g = lt→less (fin s m e) (fin s m e) tt tt h in omega (arith, g)

pub lt→le : (x y : Float) → T (lt x y) → T (le x y)
unfolding le
lt→le x y h = or_l (lt x y) (eq x y) h

pub eq→le : (x y : Float) → T (eq x y) → T (le x y)
unfolding le
eq→le x y h = or_r (lt x y) (eq x y) h

pub le_refl : (x : Float) → T (finite x) → T (le x x)
le_refl x p = most→le x x p p (omega arith)

pub nlt→le : (x y : Float) → T (finite x) → T (finite y) → T (not (lt x y)) → T (le y x)
nlt→le x y p q h = most→le y x q p (nlt→most x y p q h)

pub nle→lt : (x y : Float) → T (finite x) → T (finite y) → T (not (le x y)) → T (lt y x)
nle→lt x y p q h = less→lt y x q p (nle→less x y p q h)

-- ---- three in a row

-- a - a' over d, b - b' over e and c - c' over f
module _ (a a' d b b' e c c' f : ℕ) (D : 0 < d) (E : 0 < e) (F : 0 < f) where
  less-most : a * e + b' * d < b * d + a' * e → b * f + c' * e ≤ c * e + b' * f → a * f + c' * d < c * d + a' * f
  less-most h k =
      let g : (a * e + b' * d) * f < (b * d + a' * e) * f = mul-lt-mul_of_pos_right h F in
      let l : (b * f + c' * e) * d ≤ (c * e + b' * f) * d = mul-le-mul_right d k in
      lt_of_mul-lt-mul_right e (omega (arith, g, l))

  most-less : a * e + b' * d ≤ b * d + a' * e → b * f + c' * e < c * e + b' * f → a * f + c' * d < c * d + a' * f
  most-less h k =
      let g : (a * e + b' * d) * f ≤ (b * d + a' * e) * f = mul-le-mul_right f h in
      let l : (b * f + c' * e) * d < (c * e + b' * f) * d = mul-lt-mul_of_pos_right k D in
      lt_of_mul-lt-mul_right e (omega (arith, g, l))

  most-most : a * e + b' * d ≤ b * d + a' * e → b * f + c' * e ≤ c * e + b' * f → a * f + c' * d ≤ c * d + a' * f
  most-most h k =
      let g : (a * e + b' * d) * f ≤ (b * d + a' * e) * f = mul-le-mul_right f h in
      let l : (b * f + c' * e) * d ≤ (c * e + b' * f) * d = mul-le-mul_right d k in
      le_of_mul-le-mul_right {k = e} (omega (arith, g, l)) E

module _ (x y z : Float) (X : T (finite x)) (Y : T (finite y)) (Z : T (finite z)) where
  pub lt-le-trans : T (lt x y) → T (le y z) → T (lt x z)
  lt-le-trans h k =
      less→lt x z X Z
      (less-most _ _ _ _ _ _ _ _ _ (den_pos x) (den_pos y) (den_pos z) (lt→less x y X Y h) (le→most y z Y Z k))

  pub le_lt_trans : T (le x y) → T (lt y z) → T (lt x z)
  le_lt_trans h k =
      less→lt x z X Z
      (most-less _ _ _ _ _ _ _ _ _ (den_pos x) (den_pos y) (den_pos z) (le→most x y X Y h) (lt→less y z Y Z k))

  pub le_trans : T (le x y) → T (le y z) → T (le x z)
  le_trans h k =
      most→le x z X Z
      (most-most _ _ _ _ _ _ _ _ _ (den_pos x) (den_pos y) (den_pos z) (le→most x y X Y h) (le→most y z Y Z k))

  pub lt_trans : T (lt x y) → T (lt y z) → T (lt x z)
  lt_trans h k = lt-le-trans h (lt→le y z k)

pub lt-le-absurd : (x y : Float) → T (finite x) → T (finite y) → T (lt x y) → T (le y x) → ⊥
lt-le-absurd x y X Y h k = lt_irrefl x (lt-le-trans x y x X Y X h k)

-- what is at least a float that is not negative is not negative
pub not_negative : (x y : Float) → T (finite x) → T (finite y) → T (not (lt x zero)) → T (le x y) → T (not (lt y zero))
unfolding of_bits
not_negative x y X Y p h = not_T (lt y zero) (λ q. T_not (lt x zero) p (le_lt_trans x y zero X Y tt h q))

-- a float from one finite float to another is finite
pub between : (a x b : Float) → T (finite a) → T (finite b) → T (le a x) → T (le x b) → T (finite x)
unfolding le
between nan x b A B h k = absurd A
between (inf s) x b A B h k = absurd A
between (fin s m e) x nan A B h k = absurd B
between (fin s m e) x (inf t) A B h k = absurd B
between (fin s m e) nan (fin t n d) A B h k = absurd h
between (fin s m e) (inf true) (fin t n d) A B h k = absurd h
between (fin s m e) (inf false) (fin t n d) A B h k = absurd k
between (fin s m e) (fin u l f) (fin t n d) A B h k = tt

-- ---- the larger and the smaller of two

-- a property of a choice, from what the test says of each arm
chosen : (P : Float → Type 0) (test : Bool) (a b : Float) → (T test → P a) → (T (not test) → P b) → P (cond test a b)
chosen P true a b f g = f tt
chosen P false a b f g = g tt

module _ (x y : Float) (X : T (finite x)) (Y : T (finite y)) where
  pub max-finite : T (finite (max_of x y))
  max-finite = chosen (λ z. T (finite z)) (lt x y) y x (λ _. Y) (λ _. X)

  pub min-finite : T (finite (min_of x y))
  min-finite = chosen (λ z. T (finite z)) (lt y x) y x (λ _. Y) (λ _. X)

  pub le_max_left : T (le x (max_of x y))
  le_max_left = chosen (λ z. T (le x z)) (lt x y) y x (lt→le x y) (λ _. le_refl x X)

  pub le_max_right : T (le y (max_of x y))
  le_max_right = chosen (λ z. T (le y z)) (lt x y) y x (λ _. le_refl y Y) (nlt→le x y X Y)

  pub min_le_left : T (le (min_of x y) x)
  min_le_left = chosen (λ z. T (le z x)) (lt y x) y x (lt→le y x) (λ _. le_refl x X)

  pub min_le_right : T (le (min_of x y) y)
  min_le_right = chosen (λ z. T (le z y)) (lt y x) y x (λ _. le_refl y Y) (nlt→le y x Y X)

-- the larger is at most z where both are, and only there
pub max-le : (x y z : Float) → T (le x z) → T (le y z) → T (le (max_of x y) z)
max-le x y z h k = chosen (λ w. T (le w z)) (lt x y) y x (λ _. k) (λ _. h)

pub of-max-le : (x y z : Float) → T (finite x) → T (finite y) → T (finite z) → T (le (max_of x y) z) → T (le x z) × T (le y z)
of-max-le x y z X Y Z h =
    let M = max-finite x y X Y in
    (le_trans x (max_of x y) z X M Z (le_max_left x y X Y) h, le_trans y (max_of x y) z Y M Z (le_max_right x y X Y) h)

-- the smaller is at least z where both are, and only there
pub le-min : (x y z : Float) → T (le z x) → T (le z y) → T (le z (min_of x y))
le-min x y z h k = chosen (λ w. T (le z w)) (lt y x) y x (λ _. k) (λ _. h)

pub of-le-min : (x y z : Float) → T (finite x) → T (finite y) → T (finite z) → T (le z (min_of x y)) → T (le z x) × T (le z y)
of-le-min x y z X Y Z h =
    let M = min-finite x y X Y in
    (le_trans z (min_of x y) x Z M X h (min_le_left x y X Y), le_trans z (min_of x y) y Z M Y h (min_le_right x y X Y))

-- ---- a single float

-- where a number is not below zero, to be below infinity is to be finite
pub finite-test : (x : Float) → lt x zero ≡ false → lt x infinity ≡ finite x
unfolding lt of_bits
finite-test nan h = refl
finite-test (inf false) h = refl
finite-test (inf true) h = h
finite-test (fin s m e) h = refl

pub le-nan : (x : Float) → le x nan ≡ false
unfolding le
le-nan nan = refl
le-nan (inf s) = refl
le-nan (fin s m e) = refl
