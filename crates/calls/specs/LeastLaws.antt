-- The lowest number that passes a test: the first m numbers looked at one by one (`least_step`, `least-stop`), for loops; whether there is one
-- (`least-none`, `least-some`); and that it passes while none below it does (`least-holds`, `least-below`). Assumes nothing.
use Rattle.std.specs.Prelude.{◌≡◌, Bool, true, false}
use Rattle.std.proofs.Math.Path.{refl}
use Prim.Native.Nat.{ℕ, zero, suc, ◌+◌, ◌-◌, ◌≤◌, ◌<◌}
use native.Mathlib.Omega.{arith}
use Rattle.std.proofs.Common.{add-one}
use Rattle.std.proofs.Math.Decide.{ℕ_discrete, dec_le}
use borrow.Author.Tests.{lt-ltb, le-ltb}
use Rattle.calls.specs.Draws.{least}

module _ (test : ℕ → Bool) where
  -- it is m where none of the first m passes
  pub least-none : (m : ℕ) → ((k : ℕ) → k < m → test k ≡ false) → least test m ≡ m
  unfolding least
  least-none zero h = refl
  least-none (suc m) h = rw (least-none m (λ k l. h k (omega arith)), le-ltb m m (omega arith), h m (omega arith))

  -- one that is found stays
  least-keeps : (m d j : ℕ) → least test m ≡ j → j < m → least test (d + m) ≡ j
  unfolding least
  least-keeps m zero j e h = let z : zero + m ≡ m = omega arith in rw z e
  least-keeps m (suc d) j e h = let z : suc d + m ≡ suc (d + m) = omega arith in rw (z, least-keeps m d j e h, lt-ltb j (d + m) (omega arith))

  -- none of the first m passes
  module _ (m : ℕ) (i : least test m ≡ m) where
    -- nor does m
    pub least_step : test m ≡ false → least test (m + 1) ≡ m + 1
    unfolding least
    least_step h = rw (add-one, i, le-ltb m m (omega arith), h)

    -- but m does, and it is the lowest of any more
    pub least-stop : (n : ℕ) → m < n → test m ≡ true → least test n ≡ m
    unfolding least
    least-stop n h t =
        let d = n - suc m in
        let z : n ≡ d + suc m = omega arith in
        rw z (least-keeps (suc m) d m (rw (i, le-ltb m m (omega arith), t)) (omega arith))

  -- there is one where one passes
  pub least-some : (n k : ℕ) → k < n → test k ≡ true → least test n < n
  unfolding least
  least-some zero k h t = absurd (omega arith)
  least-some (suc n) k h t = elim (dec_le n (least test n)) [
    | yes l ↦ elim (ℕ_discrete k n) [
      | yes e ↦ rw (le-ltb (least test n) n l, ← e, t) (omega arith)
      | no d ↦ let z = least-some n k (omega arith) t in absurd (omega arith)
    ]
    | no l ↦ rw (lt-ltb (least test n) n (omega arith)) (omega arith)
  ]

  -- ---- what it is

  least-next : (m : ℕ) → (least test m < m → least test (suc m) ≡ least test m)
      × (m ≤ least test m → (test m ≡ true → least test (suc m) ≡ m) × (test m ≡ false → least test (suc m) ≡ suc m))
  unfolding least
  least-next m = (λ h. rw (lt-ltb (least test m) m h), λ h. ((λ e. rw (le-ltb (least test m) m h, e)), λ e. rw (le-ltb (least test m) m h, e)))

  -- it passes
  pub least-holds : (m : ℕ) → least test m < m → test (least test m) ≡ true
  least-holds zero h = absurd (omega arith)
  least-holds (suc m) h = go (dec_le m (least test m)) (test m) refl (least-holds m)
    where
      go : Dec (m ≤ least test m) → (b : Bool) → test m ≡ b → (least test m < m → test (least test m) ≡ true) → test (least test (suc m)) ≡ true
      go (no k) b e rest = rw ((least-next m).0 (omega arith)) (rest (omega arith))
      go (yes k) true e rest = rw (((least-next m).1 k).0 e) e
      go (yes k) false e rest = let z = ((least-next m).1 k).1 e in absurd (omega arith)

  -- none below it does
  pub least-below : (m j : ℕ) → j < m → j < least test m → test j ≡ false
  least-below zero j h k = absurd (omega arith)
  least-below (suc m) j h k = go (dec_le m (least test m)) (test m) refl (least-below m j)
    where
      go : Dec (m ≤ least test m) → (b : Bool) → test m ≡ b → (j < m → j < least test m → test j ≡ false) → test j ≡ false
      go (no l) b e rest = let z = (least-next m).0 (omega arith) in rest (omega arith) (omega arith)
      go (yes l) true e rest = let z = ((least-next m).1 l).0 e in rest (omega arith) (omega arith)
      go (yes l) false e rest = last (ℕ_discrete j m) e rest
        where
          last : Dec (j ≡ m) → test m ≡ false → (j < m → j < least test m → test j ≡ false) → test j ≡ false
          last (yes q) e rest = rw q e
          last (no q) e rest = rest (omega arith) (omega arith)
