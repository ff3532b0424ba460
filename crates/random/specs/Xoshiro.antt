-- xoshiro256++, from the public reference xoshiro256plusplus.c (Blackman and Vigna, 2019), on a list s of four numbers below 2 ^ 64.
-- Definitions only. Assumes nothing.
use Rattle.std.specs.Prelude.{ℕ, ◌+◌, ◌*◌, ◌%◌, ◌^◌, List, [], ◌∷◌, bit_xor, slice_index}
use Rattle.words.specs.Words.{rotl}

-- the output at s: rotl(s[0] + s[3], 23) + s[0]
unfoldable pub output : List ℕ → ℕ
output s = (rotl ((slice_index s 0 + slice_index s 3) % 2 ^ 64) 23 + slice_index s 0) % 2 ^ 64

-- the state after s, by its words: t = s[1] << 17; s[2] ^= s[0]; s[3] ^= s[1]; s[1] ^= s[2]; s[0] ^= s[3]; s[2] ^= t; s[3] = rotl(s[3], 45)
unfoldable pub stepped : ℕ → ℕ → ℕ → ℕ → List ℕ
stepped s0 s1 s2 s3 =
    let t = s1 * 2 ^ 17 % 2 ^ 64 in
    let u2 = bit_xor s2 s0 in
    let u3 = bit_xor s3 s1 in
    bit_xor s0 u3 ∷ bit_xor s1 u2 ∷ bit_xor u2 t ∷ rotl u3 45 ∷ []

unfoldable pub step : List ℕ → List ℕ
unfolding stepped
step s = stepped (slice_index s 0) (slice_index s 1) (slice_index s 2) (slice_index s 3)
