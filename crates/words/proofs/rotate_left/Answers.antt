-- `words::rotate_left` meets its contract. Assumes nothing.
use Rattle.std.proofs.Common.{◌≡◌, ℕ, zero, suc, ◌-◌, ◌*◌, ◌/◌, ◌%◌, ◌^◌, ◌<◌, ◌∙◌, sym, arith}
use Rattle.std.specs.Int.Bits.{bit_or, or_self, or_zero_r}
use Rattle.words.specs.Words.{rotl}
use Rattle.words.proofs.rotate_left.Goals as goal

-- std shifts to the right by 64 - k modulo 64, which is no shift where k is 0
rotated : (x k : ℕ) → x < 2 ^ 64 → k < 64 → bit_or (x * 2 ^ k % 2 ^ 64) (x / 2 ^ ((64 - k) % 64)) ≡ rotl x k
unfolding rotl
rotated x zero h l =
    let whole : x * 1 % 2 ^ 64 ≡ x = omega arith in
    let same : x / 1 ≡ x = omega arith in
    let none : x / 2 ^ 64 ≡ 0 = omega arith in
    rw (whole, same, none) (or_self x ∙ sym (or_zero_r x))
rotated x (suc k) h l = let e : (64 - suc k) % 64 ≡ 64 - suc k = omega arith in rw e

pub returns : goal.returns
returns c = c.rotate_left.ensures ∙ rotated c.args.x (c.args.n % 64) (omega arith) (omega arith)
