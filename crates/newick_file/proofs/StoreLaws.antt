-- The ways through the code that stores into a slice. Assumes nothing.
use mathlib.Core.Path.{◌≡◌, sym, ap}
use mathlib.Core.List.{List}
use Prim.Native.Nat.{ℕ, suc, ◌+◌, ◌-◌, ◌/◌, ◌≤◌}
use native.Mathlib.Numerals.{add-one}
use native.Mathlib.Omega.{arith}
use lib.ListN.{length, set}
use lib.Seq.{set_out}

-- ---- past the end there is nothing is stored

pub store-past : {A : Type 0} (l : List A) (k : ℕ) (x : A) → length l ≤ k → l ≡ set l k x
store-past l k x h = sym (set_out l k x h)

module _ (l : List ℕ) (k x : ℕ) where
  pub first_past : length l - length l / 2 ≤ k → l ≡ set l (k + k) x
  first_past h = sym (set_out l (k + k) x (omega arith))

  pub second_past : length l / 2 ≤ k → l ≡ set l (suc (k + k)) x
  second_past h = sym (set_out l (suc (k + k)) x (omega arith))

  pub second-in : set l (k + k + 1) x ≡ set l (suc (k + k)) x
  second-in = ap (λ (i : ℕ). set l i x) (add-one (k + k))

pub ruleset store_laws = (store-past, first_past, second_past, second-in)
