-- The generator: made from a seed or from four words, its draws, and what a draw is taken for. Definitions and laws on what is drawn use the
-- generator through these and not through its words. Definitions only. Assumes nothing.
use Rattle.std.specs.Prelude.{ℕ, zero, suc, ◌/◌, ◌^◌, Bool, false, List, ◌==◌, Float}
use Rattle.std.specs.Float.{binary64}
use Rattle.std.specs.Float.Ieee.{round}
use Rattle.random.specs.SplitMix.{outputs}
use Rattle.random.specs.Xoshiro.{output, step}
use Rattle.random.specs.declared.Random.{Random}

-- ---- the generator and its steps

-- the four words of a generator, and the generator of four words
abbrev pub state_of : Random → List ℕ
state_of g = g.state

abbrev pub from_state : List ℕ → Random
from_state s = record { state = s }

-- "Seeding is SplitMix64": the words are its first four outputs
unfoldable pub seeded : ℕ → Random
seeded seed = from_state (outputs 4 seed)

-- a draw is "one 64-bit output of the generator": the next one, and the generator after it
unfoldable pub word_of : Random → ℕ
word_of g = output (state_of g)

unfoldable pub next : Random → Random
next g = from_state (step (state_of g))

-- the generator after k draws
unfoldable pub after : ℕ → Random → Random
after zero g = g
after (suc k) g = after k (next g)

-- ---- what a draw is taken for

-- "the draw's top 53 bits over 2^53, exact": the float nearest to that fraction, which UniformLaws shows to be the fraction itself
unfoldable pub uniform_of : ℕ → Float
uniform_of w = round binary64 false (w / 2 ^ 11) (2 ^ 53)

-- "the top bit, 1 taking the first side"
unfoldable pub first_side : ℕ → Bool
first_side w = w / 2 ^ 63 == 1

-- ---- a draw with the generator after it

abbrev pub drawn_word : Random → ℕ × Random
drawn_word g = (word_of g, next g)

abbrev pub drawn_uniform : Random → Float × Random
drawn_uniform g = (uniform_of (word_of g), next g)

abbrev pub drawn_coin : Random → Bool × Random
drawn_coin g = (first_side (word_of g), next g)
