-- The lowest number at which a test holds, refused. In order: what is said of the first m numbers (`lowest-says`), and so that none is refused exactly where the
-- test fails at each (`lowest-fine`, `fine-lowest`); the numbers looked at one by one, for loops (`lowest_laws`); and that the lowest at which the test holds is
-- the one that is refused (`lowest-is`). Assumes nothing.
use Rattle.std.specs.Prelude.{◌≡◌, Bool, Result, Ok, Err}
use Rattle.std.proofs.Math.Path.{refl, sym}
use Rattle.std.proofs.Common.{ap, ◌∙◌, add-one}
use Rattle.std.proofs.Math.Bool.{true, false}
use Prim.Native.Nat.{ℕ, zero, suc, ◌+◌, ◌-◌, ◌≤◌, ◌<◌}
use native.Mathlib.Omega.{arith}
use Rattle.std.proofs.Math.Decide.{ℕ_discrete}
use Rattle.answer.specs.declared.Refusal.{Refusal}
use Rattle.tree.specs.New.{or_refused, lowest}

-- what a verdict on the first m numbers says: that the test fails at each, or the refusal of the lowest at which it holds
pub data Lowest (test : ℕ → Bool) (why : ℕ → Refusal) (m : ℕ) : Result (Unit {0}) Refusal → Type 0 where
  none : ((k : ℕ) → k < m → test k ≡ false) → Lowest test why m (Ok tt)
  first : (k : ℕ) → k < m → test k ≡ true → ((j : ℕ) → j < k → test j ≡ false) → Lowest test why m (Err (why k))

module _ (test : ℕ → Bool) (why : ℕ → Refusal) where
  pub lowest-says : (m : ℕ) → Lowest test why m (lowest test why m)
  unfolding lowest
  lowest-says zero = none (λ k K. absurd (omega arith))
  lowest-says (suc m) = next (lowest test why m) (lowest-says m) (test m) refl
    where
      next : (v : Result (Unit {0}) Refusal) → Lowest test why m v → (b : Bool) → test m ≡ b → Lowest test why (suc m) (or_refused v b (why m))
      next _ (first k K e below) b f = first k (omega arith) e below
      next _ (none fails) true f = first m (omega arith) f fails
      next _ (none fails) false f = none (λ k K. elim (ℕ_discrete k m) [ yes q ↦ rw q f | no d ↦ fails k (omega arith) ])

  -- where none of the first m numbers is refused, the test fails at each
  pub lowest-fine : (m : ℕ) → lowest test why m ≡ (Ok tt) → (k : ℕ) → k < m → test k ≡ false
  lowest-fine m = fine (lowest test why m) (lowest-says m)
    where
      fine : (v : Result (Unit {0}) Refusal) → Lowest test why m v → v ≡ (Ok tt) → (k : ℕ) → k < m → test k ≡ false
      fine _ (none fails) e = fails
      fine _ (first k K h below) e = let z : ◌≡◌ {A = ℕ} 0 1 = cc in absurd (omega arith)

  -- where the test fails at each of the first m numbers, none is refused
  pub fine-lowest : (m : ℕ) → ((k : ℕ) → k < m → test k ≡ false) → lowest test why m ≡ (Ok tt)
  unfolding lowest
  fine-lowest zero fails = refl
  fine-lowest (suc m) fails = rw (fine-lowest m (λ k K. fails k (omega arith)), fails m (omega arith))

  -- more numbers change nothing of a refusal
  lowest-keeps : (m d : ℕ) (w : Refusal) → lowest test why m ≡ Err w → lowest test why (d + m) ≡ Err w
  unfolding lowest
  lowest-keeps m zero w e = let z : zero + m ≡ m = omega arith in rw z e
  lowest-keeps m (suc d) w e = let z : suc d + m ≡ suc (d + m) = omega arith in rw (z, lowest-keeps m d w e)

  -- ---- one by one

  pub lowest_start : lowest test why 0 ≡ (Ok tt)
  unfolding lowest
  lowest_start = refl

  -- none of the first m is refused
  module _ (n m : ℕ) (i : lowest test why m ≡ (Ok tt)) where
    pub lowest-end : n ≤ m → m ≤ n → (Ok tt) ≡ lowest test why n
    lowest-end a c = let z : n ≡ m = omega arith in rw z (sym i)

    -- b is whether the test holds at m
    module _ (b : Bool) (e : b ≡ test m) where
      pub lowest_step : b ≡ false → lowest test why (m + 1) ≡ (Ok tt)
      unfolding lowest
      lowest_step y = rw (add-one, i, ← e, y)

      pub lowest-stop : (w : Refusal) → m < n → b ≡ true → w ≡ why m → Err w ≡ lowest test why n
      unfolding lowest
      lowest-stop w h y q =
          let d = n - suc m in
          let z : n ≡ d + suc m = omega arith in
          sym (ap (lowest test why) z ∙ lowest-keeps (suc m) d w (rw (i, ← e, y, q)))

  -- the lowest of n numbers at which the test holds is the one that is refused
  pub lowest-is : (n k : ℕ) → k < n → test k ≡ true → ((j : ℕ) → j < k → test j ≡ false) → lowest test why n ≡ Err (why k)
  lowest-is n k K e below = sym (lowest-stop n k (fine-lowest k below) (test k) refl (why k) K e refl)

pub ruleset lowest_laws = (lowest_start, lowest_step, lowest-stop, lowest-end)
