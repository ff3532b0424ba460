-- Rotation of a 64-bit word, and a number cut into two words. Definitions only. Assumes nothing.
use Rattle.std.specs.Prelude.{ℕ, ◌-◌, ◌*◌, ◌/◌, ◌%◌, ◌^◌}
use Rattle.std.specs.Int.Bits.{bit_or}
use Rattle.words.specs.declared.Wide.{Wide}

-- `rotl` of the reference xoshiro256plusplus.c: (x << k) | (x >> (64 - k)), for a word x and a k from 0 to 63
unfoldable pub rotl : ℕ → ℕ → ℕ
rotl x k = bit_or (x * 2 ^ k % 2 ^ 64) (x / 2 ^ (64 - k))

-- a number below 2 ^ 128 as its high and its low word
abbrev pub two_words : ℕ → Wide
two_words t = record { high = t / 2 ^ 64; low = t % 2 ^ 64 }
