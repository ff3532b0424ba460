-- How long the texts of values and lines are, and that the pairs' are not too long (`pairs-few`). Assumes nothing.
use Rattle.std.specs.Prelude.{◌≡◌, refl, Bool, true, false, cond, List, [], ◌∷◌, ℕ, zero, suc, ◌+◌, ◌-◌, ◌*◌, ◌≤◌, ℤ, nat_abs, length, Float}
use Rattle.std.proofs.Common.{ap, ◌∙◌, arith, length-append}
use Rattle.std.specs.Float.{binary64}
use Rattle.std.specs.Float.Ieee.{to_bits}
use Rattle.answer.specs.declared.Ratio.{Ratio}
use Rattle.answer.specs.declared.Ratio.TheVariants as Ratios
use Rattle.text.specs.Text.{bytes, word_text, decimal_text}
use Rattle.print.specs.NumberLaws.{hex-length, digits-few}
use Rattle.tree.specs.Tree.{nodes_of, tips_of, first_in, second_in}
use Rattle.notation.specs.Notation.{line, comma, bits_text, negative, signed_text, state_text, ratio_text, pair_line, pair_lines, pairs_text, height_line, heights_text}

pub length-comma : (a b : List ℕ) → length (comma a b) ≡ length a + 1 + length b
unfolding comma
length-comma a b = simp length-append

pub length-line : (key value : List ℕ) → length (line key value) ≡ length key + length value + 1
unfolding line
length-line key value = simp length-append

pub length-word : (n : ℕ) → length (word_text n) ≡ 16
length-word n = hex-length 16 n

pub length-state : (s : List ℕ) → length (state_text s) ≡ 67
unfolding state_text
length-state s = simp (length-comma, length-word)

pub length-signed : (k : ℤ) → length (signed_text k) ≡ cond (negative k) 1 0 + length (decimal_text (nat_abs k))
unfolding signed_text
length-signed k = length-append (cond (negative k) (bytes "-") []) (decimal_text (nat_abs k)) ∙ ap (λ (n : ℕ). n + length (decimal_text (nat_abs k))) (sign (negative k))
  where
    sign : (b : Bool) → length (cond b (bytes "-") []) ≡ cond b 1 0
    sign true = refl
    sign false = refl

pub signed-few : (k : ℤ) → length (signed_text k) ≤ 21
signed-few k = rw (length-signed k) (sign (negative k) (digits-few (nat_abs k)))
  where
    sign : (b : Bool) → length (decimal_text (nat_abs k)) ≤ 20 → cond b 1 0 + length (decimal_text (nat_abs k)) ≤ 21
    sign true h = omega arith
    sign false h = omega arith

pub length-counts : (a b : ℕ) → length (ratio_text (Ratios.Counts a b)) ≡ 8 + length (decimal_text a) + length (decimal_text b)
unfolding ratio_text
length-counts a b = simp (length-comma, length-comma) (omega arith)

pub length-lengths : (a b : Float) → length (ratio_text (Ratios.Lengths a b)) ≡ 41
unfolding ratio_text
length-lengths a b = simp (length-comma, length-word)

pub length-power : (f : Float) (k : ℤ) → length (ratio_text (Ratios.Power f k)) ≡ 23 + length (signed_text k)
unfolding ratio_text
length-power f k = simp (length-comma, length-word) (omega arith)

pub ratio-few : (r : Ratio) → length (ratio_text r) ≤ 48
unfolding ratio_text
ratio-few Ratios.Even = omega arith
ratio-few (Ratios.Counts a b) = let e = length-counts a b in let f = digits-few a in let g = digits-few b in omega arith
ratio-few (Ratios.Lengths a b) = let e = length-lengths a b in omega arith
ratio-few (Ratios.Power f k) = let e = length-power f k in let g = signed-few k in omega arith

-- ---- the tree

pub length-pair : (a b : ℕ) → length (pair_line a b) ≡ 7 + length (decimal_text a) + length (decimal_text b)
length-pair a b =
    let l = length-line (bytes "pair=") (comma (decimal_text a) (decimal_text b)) in
    let m = length-comma (decimal_text a) (decimal_text b) in
    omega arith

pub pairs-few : (count k : ℕ) (pairs : List ℕ) → length (pair_lines count k pairs) ≤ 47 * count
unfolding pair_lines
pairs-few zero k pairs = omega arith
pairs-few (suc count) k pairs =
    let a = first_in pairs k in
    let b = second_in pairs k in
    let e = length-append (pair_line a b) (pair_lines count (suc k) pairs) in
    let p = length-pair a b in
    let da = digits-few a in
    let db = digits-few b in
    let r = pairs-few count (suc k) pairs in
    omega arith

pub pairs-text-few : (pairs : List ℕ) → length pairs ≤ 8190 → length (pairs_text pairs) ≤ 192465
unfolding pairs_text
pairs-text-few pairs h = let n = nodes_of pairs in let f = pairs-few (n - tips_of n) (tips_of n) pairs in omega arith

pub length-heights : (xs : List Float) → length (heights_text xs) ≡ 24 * length xs
unfolding heights_text
length-heights [] = refl
length-heights (x ∷ xs) =
    let e = length-append (height_line x) (heights_text xs) in
    let l = length-line (bytes "height=") (bits_text x) in
    let w = length-word (to_bits binary64 x) in
    let r = length-heights xs in
    omega arith
