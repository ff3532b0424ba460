-- What tests say that passed or failed, in the form `≡ false` in which a move is not declined. In order: a test and its proof; two tests joined
-- by `||` that both fail; and comparisons of finite floats that fail, which hold the other way round.
-- The library has a test's value from its proof (`is_true`, `is_false` of lib.Ieee.Bits) and naturals compared (borrow.Author.Tests: `eqb-false`,
-- `ne_eqb`). Assumes nothing.
use Rattle.std.specs.Prelude.{◌≡◌, refl, Bool, true, false, not, ◌||◌, T}
use Rattle.std.proofs.Common.{sym, subst}
use Rattle.std.proofs.Math.Dec.{not_T}
use lib.Ieee.{Float, lt, le}
use Rattle.std.specs.Float.Ieee.Bits.{is_false}
use Rattle.std.specs.Float.Ieee.Scale.{finite}
use Rattle.real.specs.OrderLaws.{lt-le-absurd, nlt→le, nle→lt}

-- ---- one test

-- a test that is true has passed
pub passed : (b : Bool) → b ≡ true → T b
passed b e = subst T (sym e) tt

-- a test that is false has failed
pub failed : (b : Bool) → b ≡ false → T (not b)
failed b e = subst (λ (c : Bool). T (not c)) (sym e) tt

-- a test that cannot pass is false
never : (b : Bool) → (T b → ⊥) → b ≡ false
never b h = is_false b (not_T b h)

-- ---- joined tests

-- where none of two tests passes the first does not
pub or-first : (p q : Bool) → (p || q) ≡ false → p ≡ false
or-first true q e = e
or-first false q e = refl

-- nor does the second
pub or-second : (p q : Bool) → (p || q) ≡ false → q ≡ false
or-second true q e = absurd (subst T e tt)
or-second false q e = e

-- ---- comparisons

module _ (x y : Float) (X : T (finite x)) (Y : T (finite y)) where
  -- x is not at most y: y is less
  pub le-false : le x y ≡ false → T (lt y x)
  le-false e = nle→lt x y X Y (failed (le x y) e)

  -- y is less: x is not at most y
  pub lt-nle : T (lt y x) → le x y ≡ false
  lt-nle h = never (le x y) (lt-le-absurd y x Y X h)

  -- x is not less than y: y is at most x
  pub lt-false : lt x y ≡ false → T (le y x)
  lt-false e = nlt→le x y X Y (failed (lt x y) e)

  -- y is at most x: x is not less than y
  pub le-nlt : T (le y x) → lt x y ≡ false
  le-nlt h = never (lt x y) (λ k. lt-le-absurd x y X Y k h)
