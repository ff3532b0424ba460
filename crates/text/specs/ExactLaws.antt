-- What reads was printed so, which makes the form of each the only one: a fixed text, a word, a decimal number; and what is read is within its
-- bounds. Assumes nothing.
use Rattle.std.specs.Prelude.{◌≡◌, Bool, ℕ, zero, suc, ◌+◌, ◌*◌, ◌/◌, ◌%◌, ◌^◌, ◌≤◌, ◌<◌, ltb, leb, eqb}
use Rattle.std.proofs.Math.Path.{refl}
use Rattle.std.proofs.Common.{sym, ap, ◌∙◌, pow-suc, mod-eq_of_lt, arith}
use Rattle.std.proofs.Math.Bool.{true, false, cond}
use mathlib.Core.List.{List, [], ◌∷◌, ◌++◌, append_assoc}
use Rattle.std.proofs.Math.Nat.{div-div-eq-div-mul}
use Rattle.std.proofs.Math.Decide.{dec_lt}
use Rattle.std.proofs.Math.Arith.{digits_div, digits_mod}
use borrow.Author.Tests.{lt-ltb, le-ltb, ltb-true, leb-true, eqb-true, eqb-false}
use Rattle.text.specs.Text.{digit, hex_text, word_text, decimal_in, decimal_text}
use Rattle.text.specs.Rules.{Parsed, malformed, parsed, literal, is_decimal, value_of, hex_after, word, decimal_after, decimal}
use Rattle.text.specs.DigitLaws.{value-decimal, digit_low, digit_value, decimal-within}
use Rattle.text.specs.ReadBackLaws.{shorter}

-- two answers told apart, and what equal ones hold
module _ {A : Type 0} where
  pub unread : {a : A} {rest : List ℕ} → malformed ≡ parsed a rest → ⊥
  unread e = let z : ◌≡◌ {A = ℕ} 0 1 = cc in omega arith

  pub same-value : {a b : A} {s rest : List ℕ} → parsed a s ≡ parsed b rest → a ≡ b
  same-value e = cc

  pub same_rest : {a b : A} {s rest : List ℕ} → parsed a s ≡ parsed b rest → s ≡ rest
  same_rest e = cc

-- a test that was passed
passed : {A : Type 0} (t : Bool) {p : Parsed A} {a : A} {rest : List ℕ} → cond t p malformed ≡ parsed a rest → (t ≡ true) × (p ≡ parsed a rest)
passed true e = (refl, e)
passed false e = absurd (unread e)

-- ---- a fixed text

pub literal-exact : (k s rest : List ℕ) → literal k s ≡ parsed tt rest → s ≡ k ++ rest
unfolding literal
literal-exact [] s rest e = same_rest e
literal-exact (b ∷ k) [] rest e = absurd (unread e)
literal-exact (b ∷ k) (c ∷ s) rest e =
    let h = passed (eqb c b) e in
    λ i. eqb-true c b h.0 i ∷ literal-exact k s rest h.1 i

-- ---- a word

record Hexed (k n w : ℕ) (s rest : List ℕ) : Type 0 where
  high : w / 16 ^ k ≡ n
  text : s ≡ hex_text k w ++ rest

hex-exact : (k n w : ℕ) (s rest : List ℕ) → hex_after k n s ≡ parsed w rest → Hexed k n w s rest
unfolding hex_after hex_text
hex-exact zero n w s rest e = let q : n ≡ w = same-value e in record { high = omega arith; text = same_rest e }
hex-exact (suc k) n w [] rest e = absurd (unread e)
hex-exact (suc k) n w (b ∷ s) rest e =
    let h = passed (ltb (value_of b) 16) e in
    let v : value_of b < 16 = ltb-true (value_of b) 16 h.0 in
    more v (hex-exact k (n * 16 + value_of b) w s rest h.1)
  where
    more : value_of b < 16 → Hexed k (n * 16 + value_of b) w s rest → Hexed (suc k) n w (b ∷ s) rest
    more v x =
        let low : w / 16 ^ k % 16 ≡ value_of b = rw x.high (digits_mod n v) in
        let b-is : b ≡ digit (w / 16 ^ k % 16) = rw low (sym (digit_value b v)) in
        record {
          high = rw (pow-suc 16 k, ← div-div-eq-div-mul w (16 ^ k) 16, x.high) (digits_div n v);
          text = λ i. b-is i ∷ x.text i;
        }

pub word-exact : (w : ℕ) (s rest : List ℕ) → word s ≡ parsed w rest → s ≡ word_text w ++ rest
word-exact w s rest e = (hex-exact 16 0 w s rest e).text

pub word_small : (w : ℕ) (s rest : List ℕ) → word s ≡ parsed w rest → w < 2 ^ 64
word_small w s rest e = let h = (hex-exact 16 0 w s rest e).high in omega arith

-- ---- a decimal number

-- enough digits are enough
decimal-more : (k n : ℕ) → n < 10 ^ suc k → decimal_in (suc (suc k)) n ≡ decimal_in (suc k) n
unfolding decimal_in
decimal-more zero n h = rw (lt-ltb n 10 h)
decimal-more (suc k) n h = go (dec_lt n 10) (decimal-more k (n / 10) (shorter (suc k) n h))
  where
    go : Dec (n < 10) → decimal_in (suc (suc k)) (n / 10) ≡ decimal_in (suc k) (n / 10) → decimal_in (suc (suc (suc k))) n ≡ decimal_in (suc (suc k)) n
    go (yes l) r = rw (lt-ltb n 10 l)
    go (no l) r = rw (le-ltb n 10 (omega arith)) (ap (λ (x : List ℕ). x ++ digit (n % 10) ∷ []) r)

-- one digit more
decimal-last : (k n d : ℕ) → 0 < n → d < 10 → decimal_in (suc k) (n * 10 + d) ≡ decimal_in k n ++ digit d ∷ []
unfolding decimal_in
decimal-last k n d p l = rw (le-ltb (n * 10 + d) 10 (omega arith), digits_div n l, digits_mod n l)

decimal-snoc : (k n d : ℕ) → 0 < n → d < 10 → n < 10 ^ suc k → decimal_in (suc (suc k)) (n * 10 + d) ≡ decimal_in (suc (suc k)) n ++ digit d ∷ []
decimal-snoc k n d p l h = decimal-last (suc k) n d p l ∙ ap (λ (x : List ℕ). x ++ digit d ∷ []) (sym (decimal-more k n h))

record Counted (k limit n m : ℕ) (s rest : List ℕ) : Type 0 where
  few : m ≤ limit
  text : decimal_in (suc (suc k)) n ++ s ≡ decimal_in (suc (suc k)) m ++ rest

module _ (k limit m : ℕ) (rest : List ℕ) (large : limit < 10 ^ suc (suc k)) where
  -- no digit more
  counted : {n : ℕ} {s : List ℕ} → n ≤ limit → n ≡ m → s ≡ rest → Counted k limit n m s rest
  counted l q r = record { few = omega arith; text = λ i. decimal_in (suc (suc k)) (q i) ++ r i }

  -- one digit more
  more : (n b : ℕ) (s : List ℕ) → 0 < n → is_decimal b ≡ true → n * 10 + value_of b ≤ limit → Counted k limit (n * 10 + value_of b) m s rest → Counted k limit n m (b ∷ s) rest
  more n b s p d o c =
      let w = decimal-within b d in
      let v = value-decimal b w.0 w.1 in
      let q = pow-suc 10 (suc k) in
      let small : value_of b < 10 = omega (arith, w.0, w.1) in
      let few : n < 10 ^ suc k = omega arith in
      let e : decimal_in (suc (suc k)) (n * 10 + value_of b) ≡ decimal_in (suc (suc k)) n ++ b ∷ [] = decimal-snoc k n (value_of b) p small few ∙ ap (λ (x : ℕ). decimal_in (suc (suc k)) n ++ x ∷ []) (digit_value b (omega arith)) in
      record { few = c.few; text = sym (append_assoc (decimal_in (suc (suc k)) n) (b ∷ []) s) ∙ ap (λ (x : List ℕ). x ++ s) (sym e) ∙ c.text }

  digits-exact : (n : ℕ) (s : List ℕ) → 0 < n → n ≤ limit → decimal_after limit n s ≡ parsed m rest → Counted k limit n m s rest
  unfolding decimal_after
  digits-exact n [] p l e = counted l (same-value e) (same_rest e)
  digits-exact n (b ∷ s) p l e = go (is_decimal b) refl e (λ o. digits-exact (n * 10 + value_of b) s (omega arith) o)
    where
      go : (t : Bool) → is_decimal b ≡ t
          → cond t (cond (leb (n * 10 + value_of b) limit) (decimal_after limit (n * 10 + value_of b) s) malformed) (parsed n (b ∷ s)) ≡ parsed m rest
          → (n * 10 + value_of b ≤ limit → decimal_after limit (n * 10 + value_of b) s ≡ parsed m rest → Counted k limit (n * 10 + value_of b) m s rest)
          → Counted k limit n m (b ∷ s) rest
      go true d e r =
          let h = passed (leb (n * 10 + value_of b) limit) e in
          let o = leb-true (n * 10 + value_of b) limit h.0 in
          more n b s p d o (r o h.1)
      go false d e r = counted l (same-value e) (same_rest e)

decimal-one : (k n : ℕ) → n < 10 → decimal_in (suc k) n ≡ digit n ∷ []
unfolding decimal_in
decimal-one k n h = rw (lt-ltb n 10 h, mod-eq_of_lt h)

record Exact (limit n : ℕ) (s rest : List ℕ) : Type 0 where
  few : n ≤ limit
  text : s ≡ decimal_text n ++ rest

digits-first : (limit b : ℕ) (s : List ℕ) → is_decimal b ≡ true
    → decimal_after limit 0 (b ∷ s) ≡ cond (leb (0 * 10 + value_of b) limit) (decimal_after limit (0 * 10 + value_of b) s) malformed
unfolding decimal_after
digits-first limit b s d = rw d

-- digits of which the first is not 0
from-digit : (limit n b : ℕ) (s rest : List ℕ) → limit < 2 ^ 64 → is_decimal b ≡ true → (b ≡ 48 → ⊥) → decimal_after limit 0 (b ∷ s) ≡ parsed n rest → Exact limit n (b ∷ s) rest
from-digit limit n b s rest small d z e =
    let h = passed (leb (0 * 10 + value_of b) limit) (sym (digits-first limit b s d) ∙ e) in
    let o = leb-true (0 * 10 + value_of b) limit h.0 in
    let w = decimal-within b d in
    let v = value-decimal b w.0 w.1 in
    let some : 0 < 0 * 10 + value_of b = omega (arith, w.0, z) in
    let low : 0 * 10 + value_of b < 10 = omega (arith, w.0, w.1) in
    let q : 0 * 10 + value_of b ≡ value_of b = omega arith in
    let one : decimal_text (0 * 10 + value_of b) ≡ b ∷ [] = decimal-one 19 (0 * 10 + value_of b) low ∙ ap (λ (x : ℕ). x ∷ []) (ap digit q ∙ digit_value b (omega arith)) in
    let c = digits-exact 18 limit n rest (omega arith) (0 * 10 + value_of b) s some o h.1 in
    record { few = c.few; text = sym (ap (λ (x : List ℕ). x ++ s) one) ∙ c.text }

exactly : (limit n : ℕ) (s rest : List ℕ) → limit < 2 ^ 64 → decimal limit s ≡ parsed n rest → Exact limit n s rest
unfolding decimal
exactly limit n [] rest small e = absurd (unread e)
exactly limit n (b ∷ s) rest small e = go (eqb b 48) refl e
  where
    go : (t : Bool) → eqb b 48 ≡ t → cond t (parsed 0 s) (cond (is_decimal b) (decimal_after limit 0 (b ∷ s)) malformed) ≡ parsed n rest → Exact limit n (b ∷ s) rest
    go true z e =
        let q : 0 ≡ n = same-value e in
        let r : s ≡ rest = same_rest e in
        let c : b ≡ 48 = eqb-true b 48 z in
        let low : n < 10 = omega arith in
        let d : digit n ≡ 48 = digit_low n low ∙ omega arith in
        record { few = omega arith; text = (λ i. c i ∷ r i) ∙ sym (ap (λ (x : List ℕ). x ++ rest) (decimal-one 19 n low ∙ ap (λ (x : ℕ). x ∷ []) d)) }
    go false z e = let h = passed (is_decimal b) e in from-digit limit n b s rest small h.0 (eqb-false b 48 z) h.1

pub decimal-exact : (limit n : ℕ) (s rest : List ℕ) → limit < 2 ^ 64 → decimal limit s ≡ parsed n rest → s ≡ decimal_text n ++ rest
decimal-exact limit n s rest small e = (exactly limit n s rest small e).text

pub decimal-small : (limit n : ℕ) (s rest : List ℕ) → limit < 2 ^ 64 → decimal limit s ≡ parsed n rest → n ≤ limit
decimal-small limit n s rest small e = (exactly limit n s rest small e).few
