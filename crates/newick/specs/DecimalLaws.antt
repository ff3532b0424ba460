-- Laws of numbers of any size in decimal: by their last digit (`number-one`, `number-snoc`, `number_more`), and by their first (`number-headed`); for a 64-bit
-- number it is the text that print writes (`number-text`). And of a digit's byte (`digit-is`, `digit-back`, `digit-byte`). Assumes nothing.
use Rattle.std.specs.Prelude.{◌≡◌, refl, Bool, true, false, cond, List, [], ◌∷◌, ◌++◌, ℕ, zero, suc, ◌+◌, ◌-◌, ◌*◌, ◌/◌, ◌%◌, ◌^◌, ◌≤◌, ◌<◌, ltb}
use Rattle.std.proofs.Common.{sym, ap, ◌∙◌, le_refl, lt_of_lt_of_le, pow-suc, div-lt_iff_lt-mul, arith, lit<, lit≤, lt-ltb, le-ltb, ltb-false}
use Rattle.std.proofs.Math.Decide.{dec_lt}
use Rattle.text.specs.Text.{digit, decimal_in, decimal_text}
use Rattle.text.specs.Rules.{is_decimal}
use Rattle.text.specs.DigitLaws.{decimal-is, decimal-within, digit_low}
use Rattle.newick.specs.Newick.{number_text}

-- ---- digits

pub digit-is : (d : ℕ) → d < 10 → is_decimal (48 + d) ≡ true
digit-is d h = decimal-is (48 + d) (omega arith) (omega arith)

pub digit-back : (d : ℕ) → 48 + d - 48 ≡ d
digit-back d = omega arith

pub digit-byte : (b : ℕ) → is_decimal b ≡ true → (b - 48 < 10) × (b ≡ 48 + (b - 48))
digit-byte b e = let w = decimal-within b e in let l = w.0 in let u = w.1 in (omega arith, omega arith)

-- ---- numbers

-- room for more digits than there are changes nothing
decimal-room : (k j n : ℕ) → n < k → n < j → decimal_in k n ≡ decimal_in j n
unfolding decimal_in
decimal-room zero j n h g = absurd (omega arith)
decimal-room (suc k) zero n h g = absurd (omega arith)
decimal-room (suc k) (suc j) n h g = go (ltb n 10) (ltb-false n 10) (decimal-room k j (n / 10))
  where
    go : (t : Bool) → (t ≡ false → 10 ≤ n) → (n / 10 < k → n / 10 < j → decimal_in k (n / 10) ≡ decimal_in j (n / 10))
        → cond t [] (decimal_in k (n / 10)) ++ (digit (n % 10) ∷ []) ≡ cond t [] (decimal_in j (n / 10)) ++ (digit (n % 10) ∷ [])
    go true f r = refl
    go false f r = let z : 10 ≤ n = f refl in ap (λ (l : List ℕ). l ++ (digit (n % 10) ∷ [])) (r (omega arith) (omega arith))

pub number-one : (n : ℕ) → n < 10 → number_text n ≡ (48 + n) ∷ []
unfolding number_text decimal_in
number-one n h = let e : n % 10 ≡ n = omega arith in rw (lt-ltb n 10 h, e, digit_low n h)

pub number-snoc : (n : ℕ) → 10 ≤ n → number_text n ≡ number_text (n / 10) ++ ((48 + n % 10) ∷ [])
unfolding number_text
number-snoc n h = last n h ∙ ap (λ (l : List ℕ). l ++ ((48 + n % 10) ∷ [])) (decimal-room n (suc (n / 10)) (n / 10) (omega arith) (omega arith))
  where
    last : (n : ℕ) → 10 ≤ n → decimal_in (suc n) n ≡ decimal_in n (n / 10) ++ ((48 + n % 10) ∷ [])
    last n h = (unfold decimal_in in rw (le-ltb n 10 h, digit_low (n % 10) (omega arith)))

-- one digit more behind a number that is not 0
pub number_more : (v d : ℕ) → 1 ≤ v → d < 10 → number_text (v * 10 + d) ≡ number_text v ++ ((48 + d) ∷ [])
number_more v d p h =
    let a : (v * 10 + d) / 10 ≡ v = omega arith in
    let b : (v * 10 + d) % 10 ≡ d = omega arith in
    number-snoc (v * 10 + d) (omega arith)
    ∙ ap (λ (x : ℕ). number_text x ++ ((48 + (v * 10 + d) % 10) ∷ [])) a
    ∙ ap (λ (x : ℕ). number_text v ++ ((48 + x) ∷ [])) b

-- a text that begins with a digit
abbrev pub Headed : List ℕ → Type 0
Headed l = (d : ℕ) × (rest : List ℕ) × (d < 10) × (l ≡ (48 + d) ∷ rest)

headed-in : (k n : ℕ) → n < k → Headed (number_text n)
headed-in zero n h = absurd (omega arith)
headed-in (suc k) n h = go (dec_lt n 10) (headed-in k (n / 10))
  where
    go : Dec (n < 10) → (n / 10 < k → Headed (number_text (n / 10))) → Headed (number_text n)
    go (yes p) before = (n, [], p, number-one n p)
    go (no p) before =
        let r = before (omega arith) in
        (r.0, r.1 ++ ((48 + n % 10) ∷ []), r.2, number-snoc n (omega arith) ∙ ap (λ (l : List ℕ). l ++ ((48 + n % 10) ∷ [])) r.3)

pub number-headed : (n : ℕ) → Headed (number_text n)
number-headed n = headed-in (suc n) n (le_refl _)

-- a number of at most k + 1 digits
decimal-enough : (k j n : ℕ) → n < 10 ^ suc k → n < j → decimal_in (suc k) n ≡ decimal_in j n
unfolding decimal_in
decimal-enough k zero n h g = absurd (omega arith)
decimal-enough zero (suc j) n h g = let e : n < 10 = h in rw (lt-ltb n 10 e)
decimal-enough (suc k) (suc j) n h g = go (ltb n 10) (ltb-false n 10) (decimal-enough k j (n / 10))
  where
    e : n < 10 ^ suc k * 10
    e = rw (pow-suc 10 (suc k)) at h

    go : (t : Bool) → (t ≡ false → 10 ≤ n) → (n / 10 < 10 ^ suc k → n / 10 < j → decimal_in (suc k) (n / 10) ≡ decimal_in j (n / 10))
        → cond t [] (decimal_in (suc k) (n / 10)) ++ (digit (n % 10) ∷ []) ≡ cond t [] (decimal_in j (n / 10)) ++ (digit (n % 10) ∷ [])
    go true f r = refl
    go false f r = let z : 10 ≤ n = f refl in ap (λ (l : List ℕ). l ++ (digit (n % 10) ∷ [])) (r ((div-lt_iff_lt-mul (lit< tt)).1 e) (omega arith))

pub number-text : (n : ℕ) → n < 2 ^ 64 → number_text n ≡ decimal_text n
unfolding number_text
number-text n h = sym (decimal-enough 19 (suc n) n (lt_of_lt_of_le h (lit≤ tt)) (le_refl _))
