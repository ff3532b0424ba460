-- Tips that are numbered: where there are m of them and each number below m occurs, each occurs once and none other does (`all_named`), by counting.
-- Assumes nothing.
use Rattle.std.specs.Prelude.{◌≡◌, refl, ℕ, zero, suc, ◌+◌, ◌-◌, ◌≤◌, ◌<◌}
use Rattle.std.proofs.Common.{ap, le_refl, arith}
use Rattle.std.proofs.Math.Decide.{ℕ_discrete, dec_le, dec_lt}
use Rattle.newick.specs.Newick.{Newick, tip, join}
use Rattle.newick.specs.Numbering.{joins, times}
use Rattle.newick.specs.NumberingLaws.{times-own, times-other, Named}

-- ---- how many tips have a number below m

sum_to : ℕ → Newick → ℕ
sum_to zero t = 0
sum_to (suc m) t = sum_to m t + times m t

sum-join : (m : ℕ) (a : Newick) (x : ℕ) (b : Newick) (y : ℕ) → sum_to m (join a x b y) ≡ sum_to m a + sum_to m b
unfolding sum_to times
sum-join zero a x b y = refl
sum-join (suc m) a x b y = let h = sum-join m a x b y in omega arith

-- of a single tip
sum-before : (m k : ℕ) → m ≤ k → sum_to m (tip k) ≡ 0
unfolding sum_to
sum-before zero k h = refl
sum-before (suc m) k h = let p = sum-before m k (omega arith) in let q = times-other m k (λ e. omega arith) in omega arith

sum-tip : (m k : ℕ) → sum_to m (tip k) ≤ 1
unfolding sum_to
sum-tip zero k = omega arith
sum-tip (suc m) k = elim (ℕ_discrete m k) [
  | yes e ↦ let p = sum-before m k (omega arith) in let q = times-own m k e in omega arith
  | no d ↦ let p = sum-tip m k in let q = times-other m k d in omega arith
]

-- there are no more than all tips
sum-most : (m : ℕ) (t : Newick) → sum_to m t ≤ suc (joins t)
unfolding joins
sum-most m (tip k) = sum-tip m k
sum-most m (join a x b y) = let e = sum-join m a x b y in let p = sum-most m a in let q = sum-most m b in omega arith

-- where each number occurs, there are m at least, and more where one occurs more than once
sum-least : (m : ℕ) (t : Newick) → ((j : ℕ) → j < m → 1 ≤ times j t) → m ≤ sum_to m t
unfolding sum_to
sum-least zero t h = omega arith
sum-least (suc m) t h = let p = sum-least m t (λ j J. h j (omega arith)) in let q = h m (omega arith) in omega arith

sum_more : (m : ℕ) (t : Newick) → ((j : ℕ) → j < m → 1 ≤ times j t) → (j : ℕ) → j < m → times j t + m ≤ suc (sum_to m t)
unfolding sum_to
sum_more zero t h j J = absurd (omega arith)
sum_more (suc m) t h j J = elim (ℕ_discrete j m) [
  | yes e ↦ let z : times j t ≡ times m t = ap (λ (i : ℕ). times i t) e in let p = sum-least m t (λ i I. h i (omega arith)) in omega arith
  | no d ↦ let p = sum_more m t (λ i I. h i (omega arith)) j (omega arith) in let q = h m (omega arith) in omega arith
]

-- a number from m on adds to those below m
sum_past : (m d : ℕ) (t : Newick) → sum_to m t + times (m + d) t ≤ sum_to (suc (m + d)) t
unfolding sum_to
sum_past m d t = let p = grows m d in omega arith
  where
    grows : (m d : ℕ) → sum_to m t ≤ sum_to (m + d) t
    grows m zero = let e : m + 0 ≡ m = omega arith in rw e (le_refl _)
    grows m (suc d) = let e : m + suc d ≡ suc (m + d) = omega arith in let p = grows m d in rw e (omega arith)

-- ---- the theorem

pub all_named : (m : ℕ) (t : Newick) → suc (joins t) ≡ m → ((j : ℕ) → j < m → 1 ≤ times j t) → Named m t
all_named m t e h = record { known = known; once = once }
  where
    known : (j : ℕ) → 1 ≤ times j t → j < m
    known j p = elim (dec_lt j m) [
      | yes q ↦ q
      | no q ↦
          let least = sum-least m t h in
          let past = sum_past m (j - m) t in
          let most = sum-most (suc (m + (j - m))) t in
          let j-is : m + (j - m) ≡ j = omega arith in
          let own : times (m + (j - m)) t ≡ times j t = ap (λ (i : ℕ). times i t) j-is in
          absurd (omega arith)
    ]

    once : (j : ℕ) → times j t ≤ 1
    once j = elim (dec_lt j m) [
      | yes q ↦ let more = sum_more m t h j q in let most = sum-most m t in omega arith
      | no q ↦ elim (dec_le 1 (times j t)) [ yes p ↦ let z = known j p in absurd (omega arith) | no p ↦ omega arith ]
    ]
