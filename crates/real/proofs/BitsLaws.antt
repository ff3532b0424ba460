-- The ways through `of_bits` and `to_bits`. Assumes nothing.
use mathlib.Core.Path.{◌≡◌, refl, sym, ◌∙◌}
use mathlib.Core.Bool.{true, false, not, true≢false}
use Prim.Native.Nat.{ℕ, ◌%◌, ◌^◌, ◌≤◌, ◌<◌}
use lib.Dec.{T}
use lib.Ieee.{Float, nan, inf, fin, binary64, ne, of_bits, to_bits, nan_bits, is_nan}
use lib.Ieee.Bits.{nan_bits_is, nan_bits_above}
use lib.Ieee.Compare.{differs_from_itself, nan_differs}
use borrow.Author.Tests.{lt-ltb, le-ltb}

is-nan : (x : Float) → is_nan x ≡ true → nan ≡ x
unfolding is_nan
is-nan nan h = refl
is-nan (inf s) h = absurd (true≢false (sym h))
is-nan (fin s m e) h = absurd (true≢false (sym h))

-- the pattern of infinity is none of a NaN
pub infinity-read : T (not (nan_bits binary64 0x7ff0_0000_0000_0000))
unfolding nan_bits
infinity-read = tt

module _ (n : ℕ) where
  pub nan_pattern : 0x7ff0_0000_0000_0000 < n % 2 ^ 63 → nan ≡ of_bits binary64 n
  nan_pattern h = is-nan (of_bits binary64 n) (sym (nan_bits_is binary64 n) ∙ nan_bits_above binary64 n ∙ lt-ltb _ _ h)

  pub readable : n % 2 ^ 63 ≤ 0x7ff0_0000_0000_0000 → T (not (nan_bits binary64 n))
  readable h = rw (nan_bits_above binary64 n ∙ le-ltb _ _ h) tt

pub nan-written : (x : Float) → ne x x ≡ true → 0x7ff8_0000_0000_0000 ≡ to_bits binary64 x
unfolding to_bits
nan-written x h = let e : x ≡ nan = differs_from_itself x (rw h tt) in rw e

pub writable : (x : Float) → ne x x ≡ false → T (not (is_nan x))
unfolding is_nan
writable nan h = absurd (true≢false (sym nan_differs ∙ h))
writable (inf s) h = tt
writable (fin s m e) h = tt

pub ruleset bits_laws = (infinity-read, nan_pattern, readable, nan-written, writable)
