-- Laws of numbers as texts: the next of the hexadecimal digits that are left (`hex-next`), a decimal by its last digit (`decimal-one`,
-- `decimal-more`), and how many digits there are (`hex-length`, `digits-one`, `digits_more`, `digits-few`). Assumes nothing.
use Rattle.std.specs.Prelude.{◌≡◌, refl, Bool, true, false, cond, List, [], ◌∷◌, ◌++◌, ℕ, zero, suc, ◌+◌, ◌-◌, ◌*◌, ◌/◌, ◌%◌, ◌^◌, ◌≤◌, ◌<◌, ltb, length}
use Rattle.std.proofs.Common.{sym, ap, ◌∙◌, pow-suc, div-lt_iff_lt-mul, arith, lit<, pow-add, length-append, lt-ltb, le-ltb}
use Rattle.text.specs.Text.{digit, hex_text, decimal_in, decimal_text}

-- ---- hexadecimal

sixteens : (k : ℕ) → 2 ^ (4 * k) ≡ 16 ^ k
sixteens zero = refl
sixteens (suc k) =
    let e : 4 * suc k ≡ 4 * k + 4 = omega arith in
    rw (e, pow-add 2 (4 * k) 4, sixteens k) (sym (pow-suc 16 k))

-- the highest of k digits, and the rest
pub hex-next : (k w : ℕ) → 0 < k → hex_text k w ≡ digit (w / 2 ^ (4 * (k - 1)) % 16) ∷ hex_text (k - 1) w
unfolding hex_text
hex-next zero w h = absurd (omega arith)
hex-next (suc k) w h = let e : suc k - 1 ≡ k = omega arith in rw (e, sixteens k)

pub hex-length : (k w : ℕ) → length (hex_text k w) ≡ k
unfolding hex_text
hex-length zero w = refl
hex-length (suc k) w = ap suc (hex-length k w)

-- ---- decimal

-- more digits than there are change nothing
decimal-enough : (k n : ℕ) → n < 10 ^ suc k → decimal_in (suc k) n ≡ decimal_in (suc (suc k)) n
unfolding decimal_in
decimal-enough zero n h = let e : n < 10 = h in rw (lt-ltb _ _ e)
decimal-enough (suc k) n h =
    let e : n < 10 ^ suc k * 10 = rw (pow-suc 10 (suc k)) at h in
    ap (λ (t : List ℕ). cond (ltb n 10) [] t ++ (digit (n % 10) ∷ [])) (decimal-enough k (n / 10) ((div-lt_iff_lt-mul (lit< tt)).1 e))

pub decimal-one : (n : ℕ) → n < 10 → decimal_text n ≡ digit n ∷ []
unfolding decimal_in
decimal-one n h = let e : n % 10 ≡ n = omega arith in rw (lt-ltb _ _ h, e)

pub decimal-more : (n : ℕ) → 10 ≤ n → n < 2 ^ 64 → decimal_text n ≡ decimal_text (n / 10) ++ (digit (n % 10) ∷ [])
unfolding decimal_in
decimal-more n h f = rw (le-ltb _ _ h, decimal-enough 18 (n / 10) (omega arith))

pub digits-one : (n : ℕ) → n < 10 → length (decimal_text n) ≡ 1
digits-one n h = ap length (decimal-one n h)

pub digits_more : (n : ℕ) → 10 ≤ n → n < 2 ^ 64 → length (decimal_text n) ≡ length (decimal_text (n / 10)) + 1
digits_more n h f = ap length (decimal-more n h f) ∙ length-append (decimal_text (n / 10)) (digit (n % 10) ∷ [])

digits_in : (k n : ℕ) → length (decimal_in k n) ≤ k
unfolding decimal_in
digits_in zero n = omega arith
digits_in (suc k) n = go (ltb n 10) (digits_in k (n / 10))
  where
    go : (b : Bool) → length (decimal_in k (n / 10)) ≤ k → length (cond b [] (decimal_in k (n / 10)) ++ (digit (n % 10) ∷ [])) ≤ suc k
    go true h = omega arith
    go false h = let e = length-append (decimal_in k (n / 10)) (digit (n % 10) ∷ []) in omega arith

pub digits-few : (n : ℕ) → length (decimal_text n) ≤ 20
digits-few n = digits_in 20 n
