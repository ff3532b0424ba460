-- What all or some of the first numbers pass: from each of them (`every_true`, `some-true`, `some-false`), to one of them (`every-at`, `some_at`, `some-none`),
-- and by one number more in a loop over them (`every-step`, `every-stop`). Assumes nothing.
use Rattle.std.specs.Prelude.{◌≡◌, refl, Bool, true, false, ◌&&◌, ◌||◌, ℕ, zero, suc, ◌+◌, ◌<◌}
use Rattle.std.proofs.Common.{sym, ◌∙◌, true≢false, arith, add-one}
use Rattle.std.proofs.Math.Decide.{ℕ_discrete}
use Rattle.tree.specs.Bounded.{every, some}

-- all pass
pub every_true : (test : ℕ → Bool) (m : ℕ) → ((i : ℕ) → i < m → test i ≡ true) → every test m ≡ true
unfolding every
every_true test zero all = refl
every_true test (suc m) all = rw (every_true test m (λ i I. all i (omega arith)), all m (omega arith))

-- where all pass, each does
pub every-at : (test : ℕ → Bool) (m : ℕ) → every test m ≡ true → (i : ℕ) → i < m → test i ≡ true
unfolding every
every-at test zero h i I = absurd (omega arith)
every-at test (suc m) h i I = split (every test m) (test m) refl refl h (every-at test m)
  where
    split : (a b : Bool) → every test m ≡ a → test m ≡ b → (a && b) ≡ true → (every test m ≡ true → (i : ℕ) → i < m → test i ≡ true) → test i ≡ true
    split true true e f h rest = elim (ℕ_discrete i m) [ yes z ↦ rw z f | no z ↦ rest e i (omega arith) ]
    split true false e f h rest = absurd (true≢false (sym h))
    split false b e f h rest = absurd (true≢false (sym h))

-- one passes
pub some-true : (test : ℕ → Bool) (m c : ℕ) → c < m → test c ≡ true → some test m ≡ true
unfolding some
some-true test zero c C h = absurd (omega arith)
some-true test (suc m) c C h = pick (ℕ_discrete c m) (some-true test m c)
  where
    pick : Dec (c ≡ m) → (c < m → test c ≡ true → some test m ≡ true) → (some test m || test m) ≡ true
    pick (yes e) rest = rw (← e, h) (last (some test c))
      where
        last : (b : Bool) → (b || true) ≡ true
        last true = refl
        last false = refl
    pick (no d) rest = rw (rest (omega arith) h)

-- none passes
pub some-false : (test : ℕ → Bool) (m : ℕ) → ((c : ℕ) → c < m → test c ≡ false) → some test m ≡ false
unfolding some
some-false test zero none = refl
some-false test (suc m) none = rw (some-false test m (λ c C. none c (omega arith)), none m (omega arith))

-- where some pass, one does
pub some_at : (test : ℕ → Bool) (m : ℕ) → some test m ≡ true → (c : ℕ) × (c < m) × (test c ≡ true)
unfolding some
some_at test zero h = absurd (true≢false (sym h))
some_at test (suc m) h = split (some test m) (test m) refl refl h (some_at test m)
  where
    split : (a b : Bool) → some test m ≡ a → test m ≡ b → (a || b) ≡ true → (some test m ≡ true → (c : ℕ) × (c < m) × (test c ≡ true))
        → (c : ℕ) × (c < suc m) × (test c ≡ true)
    split true b e f h rest = let r = rest e in (r.0, (let q = r.1 in omega arith), r.2)
    split false true e f h rest = (m, omega arith, f)
    split false false e f h rest = absurd (true≢false (sym h))

-- where none of the first m numbers passes, each does not
pub some-none : (test : ℕ → Bool) (m : ℕ) → some test m ≡ false → (k : ℕ) → k < m → test k ≡ false
some-none test m i k K = go (test k) refl
  where
    go : (b : Bool) → test k ≡ b → b ≡ false
    go true e = absurd (true≢false (sym (some-true test m k K e) ∙ i))
    go false e = refl

-- ---- a loop over the first numbers

module _ (test : ℕ → Bool) (k : ℕ) (i : every test k ≡ true) where
  -- one more passes
  pub every-step : test k ≡ true → every test (k + 1) ≡ true
  unfolding every
  every-step h = rw (add-one, i, h)

  -- one does not, of m numbers or more
  pub every-stop : (m : ℕ) → k < m → test k ≡ false → every test m ≡ false
  every-stop m l h = go (every test m) refl
    where
      go : (b : Bool) → every test m ≡ b → b ≡ false
      go true e = absurd (true≢false (sym (every-at test m e k l) ∙ h))
      go false e = refl
