-- Induction over the numbers below n by a strict order of them: what is true of a number where it is of all that come before, is true of each
-- (`by_order`), since fewer numbers come before those. Assumes nothing.
use Rattle.std.specs.Prelude.{◌≡◌, Bool, true, false, not, cond}
use Prim.Native.Nat.{ℕ, zero, suc, ◌≤◌, ◌<◌}
use native.Mathlib.Omega.{arith}
use Rattle.std.proofs.Math.Decide.{ℕ_discrete}
use Rattle.std.proofs.Math.Dec.{T}
use Rattle.tree.specs.Bounded.{count_to}

-- ---- how many of the first m numbers pass a test

one-le : (a b : Bool) → (T a → T b) → cond a 1 0 ≤ cond b 1 0
one-le true true h = omega arith
one-le true false h = absurd (h tt)
one-le false b h = omega arith

one-lt : (a b : Bool) → T (not a) → T b → cond a 1 0 < cond b 1 0
one-lt false true h k = omega arith
one-lt true b h k = absurd h
one-lt false false h k = absurd k

module _ (f g : ℕ → Bool) where
  -- a test that is passed wherever another is, is passed as often
  count-le : (m : ℕ) → ((i : ℕ) → i < m → T (f i) → T (g i)) → count_to f m ≤ count_to g m
  unfolding count_to
  count-le zero also = omega arith
  count-le (suc m) also = omega (arith, count-le m (λ i I. also i (omega arith)), one-le (f m) (g m) (also m (omega arith)))

  -- and more often, where it is passed once more
  count-lt : (m : ℕ) → ((i : ℕ) → i < m → T (f i) → T (g i)) → (j : ℕ) → j < m → T (not (f j)) → T (g j) → count_to f m < count_to g m
  unfolding count_to
  count-lt zero also j J h k = absurd (omega arith)
  count-lt (suc m) also j J h k = pick (ℕ_discrete j m) (count-lt m (λ i I. also i (omega arith)) j)
    where
      pick : Dec (j ≡ m) → (j < m → T (not (f j)) → T (g j) → count_to f m < count_to g m) → count_to f (suc m) < count_to g (suc m)
      pick (yes e) rest = omega (arith, count-le m (λ i I. also i (omega arith)), one-lt (f m) (g m) (rw (← e) h) (rw (← e) k))
      pick (no d) rest = omega (arith, rest (omega arith) h k, one-le (f m) (g m) (also m (omega arith)))

-- ---- the induction

module _
    (n : ℕ)
    (before : ℕ → ℕ → Bool)
    (irreflexive : (k : ℕ) → k < n → T (not (before k k)))
    (transitive : (i j k : ℕ) → i < n → j < n → k < n → T (before i j) → T (before j k) → T (before i k))
    (P : ℕ → Type 0)
    (step : (k : ℕ) → k < n → ((j : ℕ) → j < n → T (before j k) → P j) → P k)
  where
    -- how many come before k
    rank : ℕ → ℕ
    rank k = count_to (λ i. before i k) n

    rank_lt : (j k : ℕ) → j < n → k < n → T (before j k) → rank j < rank k
    unfolding rank
    rank_lt j k J K h = count-lt (λ i. before i j) (λ i. before i k) n (λ i I g. transitive i j k I J K g h) j J (irreflexive j J) h

    under : (d k : ℕ) → k < n → rank k < d → P k
    under zero k K h = absurd (omega arith)
    under (suc d) k K h = step k K (λ j J g. under d j J (omega (arith, rank_lt j k J K g)))

    pub by_order : (k : ℕ) → k < n → P k
    by_order k K = under (suc (rank k)) k K (omega arith)
