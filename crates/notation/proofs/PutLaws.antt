-- The ways through the code that writes values and lines. w is what was written before, v what is written in the end. Assumes nothing.
use mathlib.Core.Path.{◌≡◌, ap, ◌∙◌}
use mathlib.Core.Bool.{Bool, true, false}
use mathlib.Core.List.{List}
use Prim.Native.Nat.{ℕ, ◌+◌, ◌-◌, ◌/◌, ◌≤◌, ◌<◌}
use native.Mathlib.Numerals.{add-one}
use native.Mathlib.Omega.{arith}
use lib.IntN.{ℤ, nat_abs}
use mir.Syntax.{w32}
use mir.Val.{SFits}
use mir.ValLaws.{to_z-of_z}
use lib.ListN.{length, get_or, drop, drop_of_length-le}
use lib.Seq.{drop-cons}
use lib.Ieee.{Float, nan, binary64, to_bits}
use Rattle.answer.specs.declared.Ratio.{Ratio}
use Rattle.answer.specs.declared.Ratio.TheVariants as Ratios
use Rattle.text.specs.Text.{bytes, word_text, decimal_text}
use Rattle.print.specs.Writing.{Written, write_byte, write}
use Rattle.print.specs.WritingLaws.{write-append, write_then}
use Rattle.notation.specs.Notation.{comma, bits_text, negative, signed_text, state_text, ratio_text, pair_line, pair_lines, pairs_text, height_line, heights_text}
use Rattle.notation.specs.NotationLaws.{write-comma, comma-put, line-put, next-pair}
use Rattle.notation.proofs.SignLaws.{read}

-- ---- values

module _ (w a b v : Written) where
  pub state-put : (s : List ℕ) → a ≡ write w (comma (word_text (get_or s 0 0)) (word_text (get_or s 1 0))) → b ≡ write_byte a 44
      → v ≡ write b (comma (word_text (get_or s 2 0)) (word_text (get_or s 3 0))) → v ≡ write w (state_text s)
  unfolding state_text
  state-put s ea eb ev =
      let x = word_text (get_or s 0 0) in
      let y = word_text (get_or s 1 0) in
      let z = comma (word_text (get_or s 2 0)) (word_text (get_or s 3 0)) in
      rw (write-comma w x (comma y z), write-comma (write_byte (write w x) 44) y z, ← write-comma w x y, ← ea, ← eb) ev

  module _ (f : Float) (n : ℕ) (en : n ≡ to_bits binary64 f) where
    pub power-put : (k : ℤ) → SFits w32 k → a ≡ write w (word_text n) → b ≡ write_byte a 44 → v ≡ write b (signed_text (read k))
        → v ≡ write w (comma (bits_text f) (signed_text k))
    power-put k s ea eb ev = rw (← en) (comma-put w a b v (word_text n) (signed_text k) ea eb (rw (to_z-of_z w32 k s) at ev))

    pub height-put : a ≡ write w (bytes "height=") → b ≡ write a (word_text n) → v ≡ write_byte b 10 → v ≡ write w (height_line f)
    height-put ea eb ev = rw (← en) (line-put w a b v (bytes "height=") (word_text n) ea eb ev)

pub ruleset value_laws = (comma-put, line-put, state-put, power-put, height-put)

-- ---- a signed number, of which n is how far it is from 0

module _ (w v : Written) (k : ℤ) (s : SFits w32 k) (below : Bool) (eb : below ≡ negative (read k)) (n : ℕ) (en : n ≡ nat_abs (read k)) where
  sign : below ≡ negative k
  sign = eb ∙ ap negative (to_z-of_z w32 k s)

  size : n ≡ nat_abs k
  size = en ∙ ap nat_abs (to_z-of_z w32 k s)

  pub signed_below : below ≡ true → (a : Written) → a ≡ write_byte w 45 → v ≡ write a (decimal_text n) → v ≡ write w (signed_text k)
  unfolding signed_text write
  signed_below h a ea ev = rw (← sign, h, ← size) (write_then w a v (bytes "-") (decimal_text n) ea ev)

  pub signed_above : below ≡ false → v ≡ write w (decimal_text n) → v ≡ write w (signed_text k)
  unfolding signed_text
  signed_above h ev = rw (← sign, h, ← size) ev

pub ruleset signed_laws = (signed_below, signed_above)

-- ---- a ratio

module _ (w a v : Written) (r : Ratio) where
  pub ratio-even : r ≡ Ratios.Even → v ≡ write w (bytes "even") → v ≡ write w (ratio_text r)
  unfolding ratio_text
  ratio-even e ev = rw e ev

  pub ratio-counts : (m n : ℕ) → r ≡ Ratios.Counts m n → a ≡ write w (bytes "counts,") → v ≡ write a (comma (decimal_text m) (decimal_text n)) → v ≡ write w (ratio_text r)
  unfolding ratio_text comma
  ratio-counts m n e ea ev = rw e (write_then w a v (bytes "counts,") (comma (decimal_text m) (decimal_text n)) ea ev)

  pub ratio-lengths : (x y : Float) → r ≡ Ratios.Lengths x y → a ≡ write w (bytes "lengths,") → (m : ℕ) → m ≡ to_bits binary64 x → (n : ℕ) → n ≡ to_bits binary64 y
      → v ≡ write a (comma (word_text m) (word_text n)) → v ≡ write w (ratio_text r)
  unfolding ratio_text comma
  ratio-lengths x y e ea m em n en ev = rw (e, ← em, ← en) (write_then w a v (bytes "lengths,") (comma (word_text m) (word_text n)) ea ev)

  pub ratio-power : (f : Float) (k : ℤ) → r ≡ Ratios.Power f k → a ≡ write w (bytes "power,") → v ≡ write a (comma (bits_text f) (signed_text k)) → v ≡ write w (ratio_text r)
  unfolding ratio_text comma
  ratio-power f k e ea ev = rw e (write_then w a v (bytes "power,") (comma (bits_text f) (signed_text k)) ea ev)

pub ruleset ratio_laws = (ratio-even, ratio-counts, ratio-lengths, ratio-power)

-- ---- the pairs, of which those from node k on are left

pub pairs_start : (pairs : List ℕ) (w : Written)
    → write w (pair_lines (length pairs / 2 - (length pairs / 2 - length pairs / 2 / 2)) (length pairs / 2 - length pairs / 2 / 2) pairs) ≡ write w (pairs_text pairs)
unfolding pairs_text
pairs_start pairs w =
    let n = length pairs / 2 in
    let e : n - n / 2 ≡ (n + 1) / 2 = omega arith in
    rw e

module _ (pairs : List ℕ) (n k : ℕ) (a w : Written) (inv : write a (pair_lines (n - k) k pairs) ≡ w) where
  pub pairs_next : k < n → (v : Written) → v ≡ write a (pair_line (get_or pairs (k + k) 0) (get_or pairs (k + k + 1) 0)) → write v (pair_lines (n - (k + 1)) (k + 1) pairs) ≡ w
  pairs_next h v e = rw (e, write-append a _ _, ← next-pair n k pairs h) inv

  pub pairs_end : n ≤ k → a ≡ w
  unfolding pair_lines write
  pairs_end h = let e : n - k ≡ 0 = omega arith in rw e at inv

pub ruleset pairs_laws = (pairs_start, pairs_next, pairs_end)

-- ---- the heights, of which those from place k on are left

module _ (heights : List Float) (k : ℕ) (a w : Written) (inv : write a (heights_text (drop k heights)) ≡ w) where
  pub heights-next : k < length heights → (v : Written) → v ≡ write a (height_line (get_or heights k nan)) → write v (heights_text (drop (k + 1) heights)) ≡ w
  unfolding heights_text
  heights-next h v e = rw (e, write-append a _ _, add-one k) (rw (drop-cons heights k nan h) at inv)

  pub heights-end : length heights ≤ k → a ≡ w
  unfolding heights_text write
  heights-end h = rw (drop_of_length-le heights h) at inv

pub ruleset heights_laws = (heights-next, heights-end)
