-- The ways through the code that says how long a text is. Assumes nothing.
use mathlib.Core.Path.{◌≡◌, refl, sym, ap, ◌∙◌}
use mathlib.Core.Bool.{Bool, true, false}
use mathlib.Core.List.{List}
use Prim.Native.Nat.{ℕ, ◌+◌, ◌-◌, ◌/◌, ◌^◌, ◌≤◌, ◌<◌}
use native.Mathlib.Omega.{arith}
use lib.Dec.{lit<}
use lib.IntN.{ℤ, nat_abs}
use lib.Signed.{mag}
use lib.ListN.{length, get_or, length-append}
use lib.Ieee.{Float}
use mir.Syntax.{w32, w64}
use mir.Val.{Fits, SFits}
use mir.ValLaws.{to_z-of_z}
use Rattle.answer.specs.declared.Ratio.{Ratio}
use Rattle.answer.specs.declared.Ratio.TheVariants as Ratios
use Rattle.text.specs.Text.{decimal_text}
use Rattle.print.specs.NumberLaws.{digits-few}
use Rattle.notation.specs.Notation.{negative, signed_text, ratio_text, pair_line, pair_lines, pairs_text}
use Rattle.notation.specs.NotationLaws.{next-pair}
use Rattle.notation.specs.LengthLaws.{length-signed, signed-few, length-counts, length-lengths, length-power, length-pair, pairs-text-few}
use Rattle.notation.proofs.SignLaws.{read}

-- ---- sums fit

module _ (n r : ℕ) (e : r ≡ length (decimal_text n)) where
  pub one-fits : Fits w64 (r + 1)
  one-fits = let f = digits-few n in record { fits = omega arith }

  module _ (c : ℕ) (small : c < 100) where
    pub digits-fit : Fits w64 (c + r)
    digits-fit = let f = digits-few n in record { fits = omega arith }

    pub both-fit : (m s : ℕ) → s ≡ length (decimal_text m) → Fits w64 (c + r + s)
    both-fit m s d = let f = digits-few n in let g = digits-few m in record { fits = omega arith }

pub signed-fits : (k : ℤ) (r : ℕ) → r ≡ length (signed_text k) → Fits w64 (23 + r)
signed-fits k r e = let f = signed-few k in record { fits = omega arith }

-- ---- values

module _ (k : ℤ) (s : SFits w32 k) (below : Bool) (eb : below ≡ negative (read k)) (n : ℕ) (en : n ≡ nat_abs (read k)) (r : ℕ) (er : r ≡ length (decimal_text n)) where
  sign : negative k ≡ below
  sign = sym (eb ∙ ap negative (to_z-of_z w32 k s))

  digits : length (decimal_text (nat_abs k)) ≡ r
  digits = sym (er ∙ ap (λ (m : ℕ). length (decimal_text m)) (en ∙ ap nat_abs (to_z-of_z w32 k s)))

  pub signed-minus : below ≡ true → r + 1 ≡ length (signed_text k)
  signed-minus h = rw (length-signed k, sign, h, digits) (omega arith)

  pub signed-plain : below ≡ false → r ≡ length (signed_text k)
  signed-plain h = rw (length-signed k, sign, h, digits) (omega arith)

module _ (ratio : Ratio) where
  pub even-len : ratio ≡ Ratios.Even → 4 ≡ length (ratio_text ratio)
  unfolding ratio_text
  even-len e = rw e

  pub counts-len : (a b : ℕ) → ratio ≡ Ratios.Counts a b → (r : ℕ) → r ≡ length (decimal_text a) → (s : ℕ) → s ≡ length (decimal_text b) → 8 + r + s ≡ length (ratio_text ratio)
  counts-len a b e r er s es = rw (e, er, es) (sym (length-counts a b))

  pub lengths-len : (a b : Float) → ratio ≡ Ratios.Lengths a b → 41 ≡ length (ratio_text ratio)
  lengths-len a b e = rw e (sym (length-lengths a b))

  pub power-len : (f : Float) (k : ℤ) → ratio ≡ Ratios.Power f k → mag k < 2 ^ 31 → (r : ℕ) → r ≡ length (signed_text (read k)) → 23 + r ≡ length (ratio_text ratio)
  power-len f k e s r er = rw (e, er, to_z-of_z w32 k (record { sfits = s })) (sym (length-power f k))

pub pair-len : (a b r s : ℕ) → r ≡ length (decimal_text a) → s ≡ length (decimal_text b) → 7 + r + s ≡ length (pair_line a b)
pair-len a b r s er es = rw (er, es) (sym (length-pair a b))

pub ruleset len_laws = (one-fits, digits-fit, both-fit, signed-fits, signed-minus, signed-plain, even-len, counts-len, lengths-len, power-len, pair-len, lit<)

-- ---- the pairs, of which those before node k are counted

pub record Summed (pairs : List ℕ) (n k sum : ℕ) : Type 0 where
  pub few : length pairs ≤ 8190
  pub nodes : n ≡ length pairs / 2
  pub here : k ≤ n
  pub left : sum + length (pair_lines (n - k) k pairs) ≡ length (pairs_text pairs)

pub summed-none : (pairs : List ℕ) → length pairs ≤ 8190 → Summed pairs (length pairs / 2) (length pairs / 2 - length pairs / 2 / 2) 0
unfolding pairs_text
summed-none pairs f =
    let n = length pairs / 2 in
    let e : n - n / 2 ≡ (n + 1) / 2 = omega arith in
    record { few = f; nodes = refl; here = omega arith; left = rw e (omega arith) }

module _ (pairs : List ℕ) (n k sum : ℕ) (c : Summed pairs n k sum) where
  module _ (h : k < n) where
    pub summed-place : k + k + 1 < length pairs
    summed-place = let e = c.nodes in omega arith

    module _ (r : ℕ) (er : r ≡ length (pair_line (get_or pairs (k + k) 0) (get_or pairs (k + k + 1) 0))) where
      rest : sum + r + length (pair_lines (n - (k + 1)) (k + 1) pairs) ≡ length (pairs_text pairs)
      rest =
          let l = c.left in
          let p = ap length (next-pair n k pairs h) ∙ length-append (pair_line (get_or pairs (k + k) 0) (get_or pairs (k + k + 1) 0)) (pair_lines (n - (k + 1)) (k + 1) pairs) in
          omega arith

      pub summed-fits : Fits w64 (sum + r)
      summed-fits = let l = rest in let f = pairs-text-few pairs c.few in record { fits = omega arith }

      pub summed-next : Summed pairs n (k + 1) (sum + r)
      summed-next = record { few = c.few; nodes = c.nodes; here = omega arith; left = rest }

  pub summed-all : n ≤ k → sum ≡ length (pairs_text pairs)
  unfolding pair_lines
  summed-all h = let e : n - k ≡ 0 = omega arith in let l : sum + 0 ≡ length (pairs_text pairs) = rw e at c.left in omega arith

pub ruleset sum_laws = (summed-none, summed-place, summed-fits, summed-next, summed-all)
