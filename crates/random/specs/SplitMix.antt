-- SplitMix64, from the public reference splitmix64.c (Vigna, 2015), on numbers below 2 ^ 64. Definitions only. Assumes nothing.
use Rattle.std.specs.Prelude.{ℕ, zero, suc, ◌+◌, ◌*◌, ◌/◌, ◌%◌, ◌^◌, List, [], ◌∷◌, bit_xor}

-- x += 0x9e3779b97f4a7c15
unfoldable pub advance : ℕ → ℕ
advance x = (x + 0x9e37_79b9_7f4a_7c15) % 2 ^ 64

-- z ^ (z >> k)
unfoldable pub xor_shift : ℕ → ℕ → ℕ
xor_shift k z = bit_xor z (z / 2 ^ k)

-- the output at a state z: (z ^ (z >> 30)) * 0xbf58476d1ce4e5b9, (z ^ (z >> 27)) * 0x94d049bb133111eb and z ^ (z >> 31), one after the other
unfoldable pub mix : ℕ → ℕ
mix z =
    let y = xor_shift 30 z * 0xbf58_476d_1ce4_e5b9 % 2 ^ 64 in
    let x = xor_shift 27 y * 0x94d0_49bb_1331_11eb % 2 ^ 64 in
    xor_shift 31 x

-- the first k outputs from a seed: the state is advanced before each
unfoldable pub outputs : ℕ → ℕ → List ℕ
outputs zero x = []
outputs (suc k) x = mix (advance x) ∷ outputs k (advance x)
