-- The way through the code that makes one draw. Assumes nothing.
use Rattle.std.proofs.Common.{◌≡◌, ℕ, ◌+◌, ◌*◌, ◌%◌, ◌^◌, [], ◌∷◌, get_or}
use lib.Bits.{bit_xor}
use Rattle.words.specs.Words.{rotl}
use Rattle.random.specs.Xoshiro.{output, step, stepped}
use Rattle.random.specs.Generator.{from_state, word_of, next, drawn_word}
use Rattle.random.specs.declared.Random.{Random}

abbrev at : Random → ℕ → ℕ
at g i = get_or g.state i 0

-- sum, turned and value lead to the output; last is the last word of the next state
pub drawn-word : (g : Random) (sum turned value last : ℕ)
    → sum ≡ (at g 0 + at g 3) % 2 ^ 64 → turned ≡ rotl sum 23 → value ≡ (turned + at g 0) % 2 ^ 64 → last ≡ rotl (bit_xor (at g 3) (at g 1)) 45
    → (
      value,
      from_state (
          bit_xor (at g 0) (bit_xor (at g 3) (at g 1)) ∷ bit_xor (at g 1) (bit_xor (at g 2) (at g 0))
          ∷ bit_xor (bit_xor (at g 2) (at g 0)) (at g 1 * 2 ^ 17 % 2 ^ 64) ∷ last ∷ []),
    ) ≡ drawn_word g
unfolding word_of next output step stepped
drawn-word g sum turned value last a b c d = rw (c, b, a, d)

pub ruleset step_laws = (drawn-word)
