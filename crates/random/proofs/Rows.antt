-- The starred rows on the generator hold. Assumes nothing.
use Rattle.std.specs.Prelude.{◌≡◌, ℕ, zero, suc, ◌-◌, ◌≤◌, true, nat_le, refl, Ok}
use Rattle.std.proofs.Math.Bool.{and-eq-true_iff}
use Rattle.std.proofs.Common.{arith, le-leb}
use Rattle.std.specs.Int.Count.{count_trailing_zeros}
use Rattle.std.specs.Float.Ieee.{round, units, odd, size, span, climb}
use Rattle.words.specs.Words.{rotl}
use Rattle.answer.specs.declared.Refusal.TheVariants.{Allowance}
use Rattle.random.specs.Xoshiro.{output, step, stepped}
use Rattle.random.specs.Generator.{word_of, next, uniform_of}
use Rattle.random.specs.Draw.{word, fair, below, spent, got, onward, word_from, until_from, pick, allowed, supply_of}
use Rattle.random.specs.BelowCall.{below_call}
use Rattle.random.specs.Rows.{zeros, RefusedWith, GeneratorRows}

allowed-true : (allowance : ℕ) → 1 ≤ allowance → allowance ≤ 65535 → allowed allowance ≡ true
allowed-true a h k = (and-eq-true_iff (nat_le 1 a) (nat_le a 65535)).1 (le-leb 1 a h, le-leb a 65535 k)

-- every draw is 0, and 2 ^ 64 mod 3 is 1
never-fair : (tries left : ℕ) → until_from tries (fair 3) (pick word) (supply_of zeros left) ≡ spent
unfolding until_from onward pick word_from word_of next fair output rotl step stepped
never-fair zero left = refl
never-fair (suc tries) zero = refl
never-fair (suc tries) (suc left) = never-fair tries left

never-below-3 : (allowance : ℕ) → pick (below 3) (supply_of zeros allowance) ≡ spent
unfolding pick below onward
never-below-3 allowance = rw (never-fair allowance allowance)

first-below-4 : (left : ℕ) → pick (below 4) (supply_of zeros (suc left)) ≡ got 0 (supply_of zeros left)
unfolding pick below onward until_from word_from word_of next fair output rotl step stepped
first-below-4 left = refl

drawn-4 : (allowance : ℕ) → 1 ≤ allowance → allowance ≤ 65535 → below_call zeros 4 allowance ≡ (Ok (0, 1), zeros)
unfolding below_call
drawn-4 zero h k = absurd (omega arith)
drawn-4 (suc left) h k =
    let one : suc left - left ≡ 1 = omega arith in
    rw (allowed-true (suc left) h k, first-below-4 left, one)

refused-3 : (allowance : ℕ) → 1 ≤ allowance → allowance ≤ 65535 → RefusedWith 6 allowance zeros 3 allowance
unfolding below_call
refused-3 allowance h k = record {
  why = Allowance allowance;
  answer = rw (allowed-true allowance h k, never-below-3 allowance);
  numbered = refl;
  detailed = refl;
}

pub generator-rows : GeneratorRows
unfolding word_of next output rotl step stepped uniform_of round units odd size span climb count_trailing_zeros
generator-rows = record {
  first_draw = refl;
  second_draw = refl;
  first_uniform = refl;
  below_4 = drawn-4;
  below_3 = refused-3;
}
