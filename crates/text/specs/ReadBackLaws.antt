-- What is printed reads back: a fixed text, a word, a decimal number. Assumes nothing.
use Rattle.std.specs.Prelude.{◌≡◌, refl, true, false, cond, List, [], ◌∷◌, ◌++◌, ℕ, zero, suc, ◌+◌, ◌*◌, ◌/◌, ◌%◌, ◌^◌, ◌≤◌, ◌<◌, ltb}
use Rattle.std.proofs.Common.{sym, ap, ◌∙◌, subst, append_assoc, mod-lt, div-lt_iff_lt-mul, pow-suc, mul_comm, mul_assoc, add_assoc, add-mul, arith, lit<, lt-ltb, le-ltb, le-leb, eq-eqb, ne_eqb}
use Rattle.std.proofs.Math.Nat.{one-le-pow}
use Rattle.std.proofs.Math.Decide.{dec_lt, ℕ_discrete}
use Rattle.std.proofs.Math.Arith.{mod-mul}
use Rattle.text.specs.Text.{digit, hex_text, word_text, decimal_in, decimal_text}
use Rattle.text.specs.Rules.{parsed, literal, is_decimal, hex_after, word, decimal_after, decimal, starts_decimal}
use Rattle.text.specs.DigitLaws.{decimal-is, digit_low, value-digit}

-- ---- a fixed text

pub literal-reads : (k rest : List ℕ) → literal k (k ++ rest) ≡ parsed tt rest
unfolding literal
literal-reads [] rest = refl
literal-reads (b ∷ k) rest = rw (eq-eqb b b refl) (literal-reads k rest)

-- ---- a word

-- one digit more
join : (n d k w : ℕ) → d ≡ w / 16 ^ k % 16 → (n * 16 + d) * 16 ^ k + w % 16 ^ k ≡ n * 16 ^ suc k + w % 16 ^ suc k
join n d k w e =
    let p : 16 ^ suc k ≡ 16 * 16 ^ k = pow-suc 16 k ∙ mul_comm (16 ^ k) 16 in
    let m : w % (16 * 16 ^ k) ≡ w / 16 ^ k % 16 * 16 ^ k + w % 16 ^ k = mod-mul w (lit< tt) (one-le-pow k 16 (lit< tt)) in
    let a : (n * 16 + d) * 16 ^ k ≡ n * (16 * 16 ^ k) + d * 16 ^ k = add-mul (n * 16) d (16 ^ k) ∙ ap (λ (x : ℕ). x + d * 16 ^ k) (mul_assoc n 16 (16 ^ k)) in
    rw (p, m, a, e) (add_assoc (n * (16 * 16 ^ k)) (w / 16 ^ k % 16 * 16 ^ k) (w % 16 ^ k))

hex-reads : (k n w : ℕ) (rest : List ℕ) → hex_after k n (hex_text k w ++ rest) ≡ parsed (n * 16 ^ k + w % 16 ^ k) rest
unfolding hex_after hex_text
hex-reads zero n w rest = let e : n ≡ n * 16 ^ 0 + w % 16 ^ 0 = omega arith in ap (λ (x : ℕ). parsed x rest) e
hex-reads (suc k) n w rest =
    let d = w / 16 ^ k % 16 in
    let l : d < 16 = mod-lt (w / 16 ^ k) (lit< tt) in
    rw (value-digit d l, lt-ltb d 16 l) (hex-reads k (n * 16 + d) w rest ∙ ap (λ (x : ℕ). parsed x rest) (join n d k w refl))

pub word-reads : (w : ℕ) (rest : List ℕ) → w < 2 ^ 64 → word (word_text w ++ rest) ≡ parsed w rest
word-reads w rest h = let e : 0 * 16 ^ 16 + w % 16 ^ 16 ≡ w = omega arith in hex-reads 16 0 w rest ∙ ap (λ (x : ℕ). parsed x rest) e

-- ---- a decimal number

pub shorter : (k n : ℕ) → n < 10 ^ suc k → n / 10 < 10 ^ k
shorter k n h = (div-lt_iff_lt-mul (lit< tt)).1 (subst (λ (x : ℕ). n < x) (pow-suc 10 k) h)

digits_step : (limit n d : ℕ) (rest : List ℕ) → d < 10 → n * 10 + d ≤ limit → decimal_after limit n (digit d ∷ rest) ≡ decimal_after limit (n * 10 + d) rest
unfolding decimal_after
digits_step limit n d rest h l =
    let e = digit_low d h in
    let t : is_decimal (digit d) ≡ true = decimal-is (digit d) (omega arith) (omega arith) in
    rw (t, value-digit d (omega arith), le-leb (n * 10 + d) limit l)

-- the digits of n, and then the rest
digits-read : (k n limit : ℕ) (rest : List ℕ) → n < 10 ^ k → n ≤ limit → decimal_after limit 0 (decimal_in k n ++ rest) ≡ decimal_after limit n rest
unfolding decimal_in
digits-read zero n limit rest h l = let e : 0 ≡ n = omega arith in ap (λ (x : ℕ). decimal_after limit x rest) e
digits-read (suc k) n limit rest h l =
    rw append_assoc
    (before (dec_lt n 10) (digits-read k (n / 10) limit (digit (n % 10) ∷ rest) (shorter k n h) (omega arith))
    ∙ digits_step limit (n / 10) (n % 10) rest (mod-lt n (lit< tt)) (omega arith)
    ∙ whole)
  where
    whole : decimal_after limit (n / 10 * 10 + n % 10) rest ≡ decimal_after limit n rest
    whole = let e : n / 10 * 10 + n % 10 ≡ n = omega arith in ap (λ (x : ℕ). decimal_after limit x rest) e

    before : Dec (n < 10) → decimal_after limit 0 (decimal_in k (n / 10) ++ digit (n % 10) ∷ rest) ≡ decimal_after limit (n / 10) (digit (n % 10) ∷ rest)
        → decimal_after limit 0 (cond (ltb n 10) [] (decimal_in k (n / 10)) ++ digit (n % 10) ∷ rest) ≡ decimal_after limit (n / 10) (digit (n % 10) ∷ rest)
    before (yes s) r = let e : 0 ≡ n / 10 = omega arith in rw (lt-ltb n 10 s) (ap (λ (x : ℕ). decimal_after limit x (digit (n % 10) ∷ rest)) e)
    before (no s) r = rw (le-ltb n 10 (omega arith)) r

-- the first digit of a number above 0 is not 0
record Leads (l : List ℕ) : Type 0 where
  first : ℕ
  others : List ℕ
  is : l ≡ digit first ∷ others
  some : 0 < first
  low : first < 10

leads : (k n : ℕ) → 0 < n → n < 10 ^ k → Leads (decimal_in k n)
unfolding decimal_in
leads zero n p h = absurd (omega arith)
leads (suc k) n p h = go (dec_lt n 10) (λ q. leads k (n / 10) q (shorter k n h))
  where
    go : Dec (n < 10) → (0 < n / 10 → Leads (decimal_in k (n / 10))) → Leads (cond (ltb n 10) [] (decimal_in k (n / 10)) ++ digit (n % 10) ∷ [])
    go (yes s) r = record { first = n % 10; others = []; is = rw (lt-ltb n 10 s); some = omega arith; low = mod-lt n (lit< tt) }
    go (no s) r =
        let l = r (omega arith) in
        record { first = l.first; others = l.others ++ digit (n % 10) ∷ []; is = rw (le-ltb n 10 (omega arith), l.is); some = l.some; low = l.low }

decimal-led : (limit b : ℕ) (s : List ℕ) → 0 < b → b < 10 → decimal limit (digit b ∷ s) ≡ decimal_after limit 0 (digit b ∷ s)
unfolding decimal
decimal-led limit b s p h =
    let e = digit_low b h in
    let t : is_decimal (digit b) ≡ true = decimal-is (digit b) (omega arith) (omega arith) in
    let z : digit b ≡ 48 → ⊥ = λ (q : digit b ≡ 48). omega arith in
    simp (ne_eqb (digit b) 48 z, t)

digits-end : (limit n : ℕ) (rest : List ℕ) → starts_decimal rest ≡ false → decimal_after limit n rest ≡ parsed n rest
unfolding decimal_after
digits-end limit n [] e = refl
digits-end limit n (b ∷ s) e = rw e

decimal-none : (limit : ℕ) (rest : List ℕ) → decimal limit (decimal_text 0 ++ rest) ≡ parsed 0 rest
unfolding decimal decimal_in digit
decimal-none limit rest = refl

pub decimal-reads : (n limit : ℕ) (rest : List ℕ) → n ≤ limit → limit < 2 ^ 64 → starts_decimal rest ≡ false → decimal limit (decimal_text n ++ rest) ≡ parsed n rest
decimal-reads n limit rest h l e = go (ℕ_discrete n 0)
  where
    go : Dec (n ≡ 0) → decimal limit (decimal_text n ++ rest) ≡ parsed n rest
    go (yes z) = subst (λ (x : ℕ). decimal limit (decimal_text x ++ rest) ≡ parsed x rest) (sym z) (decimal-none limit rest)
    go (no z) =
        let few : n < 10 ^ 20 = omega arith in
        let d = leads 20 n (omega arith) few in
        ap (λ (x : List ℕ). decimal limit (x ++ rest)) d.is ∙ decimal-led limit d.first (d.others ++ rest) d.some d.low
        ∙ ap (λ (x : List ℕ). decimal_after limit 0 (x ++ rest)) (sym d.is)
        ∙ digits-read 20 n limit rest few h
        ∙ digits-end limit n rest e
