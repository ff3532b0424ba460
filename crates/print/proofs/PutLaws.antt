-- The ways through the code that writes. Assumes nothing.
use mathlib.Core.Path.{◌≡◌, sym, ap, ◌∙◌}
use mathlib.Core.List.{List, [], ◌∷◌, ◌++◌, append-nil}
use Prim.Native.Nat.{ℕ, zero, suc, ◌+◌, ◌-◌, ◌*◌, ◌/◌, ◌%◌, ◌^◌, ◌≤◌, ◌<◌}
use native.Mathlib.Nat.{add-zero, zero-add}
use native.Mathlib.Numerals.{add-one}
use native.Mathlib.Omega.{arith}
use lib.Dec.{lit≤}
use lib.ListN.{length, get_or, drop, set, drop_of_length-le}
use lib.Seq.{drop-cons}
use borrow.Author.Tests.{lt-ltb}
use mir.Syntax.{w64}
use mir.Val.{Fits}
use Rattle.text.specs.Text.{bytes, digit, hex_text, word_text, decimal_text}
use Rattle.print.specs.Writing.{Written, written, write_byte, write}
use Rattle.print.specs.WritingLaws.{byte_inside, byte_past, byte-then, write-fits}
use Rattle.print.specs.NumberLaws.{hex-next, hex-length, decimal-one, decimal-more, digits-one, digits_more, digits-few}

-- ---- a byte

pub ruleset byte_laws = (byte_inside, byte_past)

-- ---- a text, of which the bytes from i on are left

-- d is the slice and p the place before a byte, o and r afterwards; w is what the whole text leaves
module _ (text d : List ℕ) (p i : ℕ) (w : Written) (inv : write (written d p) (drop i text) ≡ w) where
  pub text-next : i < length text → (o : List ℕ) (r : ℕ) → written o r ≡ write_byte (written d p) (get_or text i 0) → write (written o r) (drop (i + 1) text) ≡ w
  unfolding write
  text-next h o r e = rw (e, add-one i) (rw (drop-cons text i 0 h) at inv)

  pub text-end : length text ≤ i → written d p ≡ w
  unfolding write
  text-end h = rw (drop_of_length-le text h) at inv

pub ruleset text_laws = (text-next, text-end)

-- ---- a word, of which so many digits are left

-- what f gives at k numbers from i on, in a list, and at the place j of that list
from : (ℕ → ℕ) → ℕ → ℕ → List ℕ
from f i zero = []
from f i (suc k) = f i ∷ from f (suc i) k

from_at : (f : ℕ → ℕ) (i k j : ℕ) → j < k → get_or (from f i k) j 0 ≡ f (i + j)
unfolding from
from_at f i zero j h = absurd (omega arith)
from_at f i (suc k) zero h = ap f (omega arith)
from_at f i (suc k) (suc j) h = let e : suc i + j ≡ i + suc j = omega arith in rw (← e) (from_at f (suc i) k j (omega arith))

-- the table has the byte of each digit
pub table_at : (d : ℕ) → d < 16 → get_or (bytes "0123456789abcdef") d 0 ≡ digit d
unfolding digit from
table_at d h = from_at digit 0 16 d h ∙ ap digit (zero-add d)

-- d is the slice before digit k, which goes to at + k, and the 16 digits from `at` on fit into d₀, the slice at first; w is what the whole word leaves
module _ (n : ℕ) (d : List ℕ) (at k : ℕ) (w : Written) (inv : write (written d (at + k)) (hex_text (16 - k) n) ≡ w)
    (d₀ : List ℕ) (fit : at + 16 ≤ length d₀) (long : length d ≡ length d₀) where
  pub word_next : k < 16 → write (written (set d (at + k) (get_or (bytes "0123456789abcdef") (n / 2 ^ (4 * (15 - k)) % 16) 0)) (at + (k + 1))) (hex_text (16 - (k + 1)) n) ≡ w
  unfolding write
  word_next h =
      let b = n / 2 ^ (4 * (15 - k)) % 16 in
      let some : 0 < 16 - k = omega arith in
      let less : 16 - k - 1 ≡ 15 - k = omega arith in
      let same : 16 - (k + 1) ≡ 15 - k = omega arith in
      let place : at + (k + 1) ≡ at + k + 1 = omega arith in
      rw (table_at b (omega arith), place, byte_inside d (at + k) (digit b) (omega arith), same) (rw (hex-next (16 - k) n some, less) at inv)

  pub word_end : 16 ≤ k → k ≤ 16 → written d (at + 16) ≡ w
  unfolding write hex_text
  word_end h l =
      let e : k ≡ 16 = omega arith in
      rw e at inv

pub word-start : (n : ℕ) (d : List ℕ) (at : ℕ) → write (written d (at + 0)) (hex_text (16 - 0) n) ≡ write (written d at) (hex_text 16 n)
word-start n d at = rw add-zero

-- a word that was stored in a text of its own
pub word-own : (n : ℕ) (d text : List ℕ) → length d ≡ 16 → written text 16 ≡ write (written d 0) (word_text n) → (w v : Written) → v ≡ write w text → v ≡ write w (word_text n)
word-own n d text l e w v ev =
    let h = hex-length 16 n in
    let none : drop (0 + length (word_text n)) d ≡ [] = drop_of_length-le d {i = 0 + length (word_text n)} (omega arith) in
    let whole : written text 16 ≡ written (word_text n ++ drop (0 + length (word_text n)) d) (0 + length (word_text n)) = e ∙ write-fits d 0 (word_text n) (omega arith) in
    rw (← append-nil (word_text n), ← none, ← ap (λ (x : Written). x.bytes) whole) ev

pub ruleset word_laws = (word-start, word_next, word_end, word-own)

-- ---- a number

pub digit-put : (d : ℕ) → d < 10 → (w v : Written) → v ≡ write_byte w (48 + d) → v ≡ write_byte w (digit d)
unfolding digit
digit-put d h w v e = rw (lt-ltb _ _ h) e

-- n by its last digit: d and p are what the others leave, v what the last one leaves
module _ (w : Written) (n : ℕ) where
  pub decimal_digit : n < 10 → (v : Written) → v ≡ write_byte w (digit n) → v ≡ write w (decimal_text n)
  unfolding write
  decimal_digit h v e = rw (decimal-one n h) e

  -- n has two digits or more, since it is at least some number that has
  pub decimal-last : (least : ℕ) → least ≤ n → 10 ≤ least → n < 2 ^ 64 → (d : List ℕ) (p : ℕ) → written d p ≡ write w (decimal_text (n / 10)) → (v : Written)
      → v ≡ write_byte (written d p) (digit (n % 10)) → v ≡ write w (decimal_text n)
  decimal-last least h l f d p a v e = rw (decimal-more n (omega arith) f) (byte-then w (written d p) v (decimal_text (n / 10)) (digit (n % 10)) a e)

pub decimal-two : (w : Written) (n : ℕ) → 10 ≤ n → n < 100 → (d : List ℕ) (p : ℕ) → written d p ≡ write_byte w (digit (n / 10)) → (v : Written)
    → v ≡ write_byte (written d p) (digit (n % 10)) → v ≡ write w (decimal_text n)
decimal-two w n h k d p a v e = decimal-last w n 10 h (lit≤ tt) (omega arith) d p (decimal_digit w (n / 10) (omega arith) (written d p) a) v e

pub ruleset decimal_laws = (digit-put, decimal_digit, decimal-last, decimal-two, lit≤)

-- ---- how many digits

module _ (n : ℕ) where
  pub count-one : n < 10 → 1 ≡ length (decimal_text n)
  count-one h = sym (digits-one n h)

  pub count-two : 10 ≤ n → n < 100 → 2 ≡ length (decimal_text n)
  count-two h k = let a = digits_more n h (omega arith) in let b = digits-one (n / 10) (omega arith) in omega arith

pub count-three : (n : ℕ) → 100 ≤ n → n < 1000 → 3 ≡ length (decimal_text n)
count-three n h k = let a = digits_more n (omega arith) (omega arith) in let b = count-two (n / 10) (omega arith) (omega arith) in omega arith

pub count-four : (n : ℕ) → 1000 ≤ n → n < 10000 → 4 ≡ length (decimal_text n)
count-four n h k = let a = digits_more n (omega arith) (omega arith) in let b = count-three (n / 10) (omega arith) (omega arith) in omega arith

-- so many digits of n are counted, and those of the rest are left
pub record Counting (n rest count : ℕ) : Type 0 where
  pub small : rest < 2 ^ 64
  pub left : count + length (decimal_text rest) ≡ length (decimal_text n) + 1

pub counting-none : (n : ℕ) → n < 2 ^ 64 → Counting n n 1
counting-none n h = record { small = h; left = omega arith }

module _ (n rest count : ℕ) (c : Counting n rest count) where
  pub counting-next : 10 ≤ rest → Counting n (rest / 10) (count + 1)
  counting-next h =
      let s = c.small in
      let l = c.left in
      let m = digits_more rest h s in
      record { small = omega arith; left = omega arith }

  pub counting-fits : Fits w64 (count + 1)
  counting-fits = let l = c.left in let f = digits-few n in record { fits = omega arith }

  pub counting-end : rest < 10 → count ≡ length (decimal_text n)
  counting-end h = let l = c.left in let o = digits-one rest h in omega arith

pub ruleset count_laws = (count-one, count-two, count-three, count-four, counting-none, counting-next, counting-fits, counting-end)
