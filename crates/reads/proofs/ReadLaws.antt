-- The ways through the reads of a slice: a place inside it, or one past its end. Assumes nothing.
use mathlib.Core.Path.{◌≡◌, sym, ◌∙◌}
use mathlib.Core.List.{List}
use Prim.Native.Nat.{ℕ, ◌+◌, ◌-◌, ◌/◌, ◌≤◌}
use native.Mathlib.Omega.{arith}
use native.Mathlib.Decide.{dec_le}
use lib.Dec.{ltb}
use lib.ListN.{length, get_or, get_or-eq_default}
use borrow.Author.Tests.{lt-ltb, le-ltb, eq-eqb, ne_eqb}
use Rattle.tree.specs.Tree.{inner, first_in, second_in, other_in}
use Rattle.tree.specs.PlaceLaws.{wide16, next_place}

-- ---- tips

pub inner-half : (n k : ℕ) → ltb (n / 2) k ≡ inner n k
inner-half n k = go (dec_le k (n / 2))
  where
    go : Dec (k ≤ n / 2) → ltb (n / 2) k ≡ inner n k
    go (yes h) = le-ltb (n / 2) k h ∙ sym (le-ltb n (k + k) (omega arith))
    go (no h) = lt-ltb (n / 2) k (omega arith) ∙ sym (lt-ltb n (k + k) (omega arith))

-- ---- children

module _ (pairs : List ℕ) (k : ℕ) where
  pub first_past : length pairs - length pairs / 2 ≤ k → 0 ≡ first_in pairs k
  first_past h = sym (get_or-eq_default pairs 0 (omega arith))

  pub second_past : length pairs / 2 ≤ k → 0 ≡ second_in pairs k
  second_past h = sym (get_or-eq_default pairs 0 (omega arith))

  pub second_is : get_or pairs (k + k + 1) 0 ≡ second_in pairs k
  second_is = next_place pairs k

  module _ (c : ℕ) where
    pub other-second : (a : ℕ) → a ≡ first_in pairs k → (b : ℕ) → b ≡ second_in pairs k → a ≡ c → b ≡ other_in pairs k c
    other-second a ea b eb h = rw (← ea, eq-eqb a c h) eb

    pub other-first : (a : ℕ) → a ≡ first_in pairs k → (a ≡ c → ⊥) → a ≡ other_in pairs k c
    other-first a ea h = rw (← ea, ne_eqb a c h)

pub ruleset read_laws = (wide16, inner-half, first_past, second_past, second_is, other-second, other-first)
