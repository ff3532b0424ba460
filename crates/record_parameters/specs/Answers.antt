-- What the answers of the calls that ask about a clock, a density or a clade leave in a record. No draw is made. Definitions only. Assumes nothing.
use Rattle.std.specs.Prelude.{Bool, false, cond, List, ℕ, Result, Ok, Err, Float}
use Rattle.std.specs.Float.{binary64}
use Rattle.std.specs.Float.Ieee.{to_bits}
use Rattle.answer.specs.declared.Refusal.{Refusal}
use Rattle.rates.specs.declared.SigmaSet.{SigmaSet}
use Rattle.record.specs.Record.{Written, replied, given_reply, declined_reply, refused_reply}
use Rattle.record_parameters.specs.Parameters.{with_real}
use Rattle.speciation.specs.declared.Density.TheVariants as Densities
use Rattle.speciation.specs.declared.Density.{Density}

-- ---- done, with the first of the two values; or refused

abbrev pub value_left : ℕ → List ℕ → Written
value_left first words = replied (given_reply 0 first 0) words

abbrev pub refusal_left : Refusal → List ℕ → Written
refusal_left why words = replied (refused_reply why) words

abbrev pub asked_left : Result ℕ Refusal → List ℕ → Written
asked_left (Ok word) words = value_left word words
asked_left (Err why) words = refusal_left why words

abbrev pub flag_word : Bool → ℕ
flag_word b = cond b 1 0

-- ---- the clock

unfoldable pub rate_left : Result Float Refusal → List ℕ → Written
rate_left (Ok x) words = value_left (to_bits binary64 x) words
rate_left (Err why) words = refusal_left why words

unfoldable pub stored_left : Result Bool Refusal → List ℕ → Written
stored_left (Ok b) words = value_left (flag_word b) words
stored_left (Err why) words = refusal_left why words

abbrev pub is_stored : Result Bool Refusal → Bool
is_stored (Ok b) = b
is_stored (Err why) = false

-- a sigma that was stored stands in word 14
unfoldable pub sigma_left : SigmaSet → List ℕ → Written
sigma_left s words = stored_left s.stored (cond (is_stored s.stored) (with_real 14 s.sigma words) words)

-- ---- the density: minus infinity is code 1; of the terms the last two stand in words 14 and 15

unfoldable pub density_left : Result Density Refusal → List ℕ → Written
density_left (Ok Densities.MinusInfinity) words = replied (declined_reply 0) words
density_left (Ok (Densities.Terms count rate product)) words = value_left count (with_real 15 product (with_real 14 rate words))
density_left (Err why) words = refusal_left why words

-- ---- clades

unfoldable pub monophyly_left : Result Bool Refusal → List ℕ → Written
monophyly_left (Ok b) words = value_left (flag_word b) words
monophyly_left (Err why) words = refusal_left why words

unfoldable pub age_left : Result ℕ Refusal → List ℕ → Written
age_left (Ok count) words = value_left count words
age_left (Err why) words = refusal_left why words
