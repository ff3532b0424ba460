-- One draw from a supply, and one that is taken for a value. Assumes nothing.
use Rattle.std.specs.Prelude.{◌≡◌, ℕ, suc, ◌-◌, ◌<◌, ◌≤◌}
use native.Mathlib.Omega.{arith}
use Rattle.random.specs.Generator.{word_of, next}
use Rattle.random.specs.Draw.{word, return, draws, spent, got, onward, word_from, pick, run, supply_of}
use Rattle.random.specs.declared.Random.{Random}

-- ---- one draw

module _ (g : Random) (left : ℕ) where
  pub word_none : left ≤ 0 → pick word (supply_of g left) ≡ spent
  unfolding pick word_from
  word_none h = let z : left ≡ 0 = omega arith in rw z

  pub word-one : 0 < left → pick word (supply_of g left) ≡ got (word_of g) (supply_of (next g) (left - 1))
  unfolding pick word_from
  word-one h = let z : left ≡ suc (left - 1) = omega arith in rw z (let y : suc (left - 1) - 1 ≡ left - 1 = omega arith in rw y)

-- a draw that is taken for a value
module _ {A : Type 0} (f : ℕ → A) (g : Random) (left : ℕ) where
  pub taken_none : left ≤ 0 → run (draws word (λ w. return (f w))) (supply_of g left) ≡ spent
  unfolding run onward
  taken_none h = rw (word_none g left h)

  pub taken-one : 0 < left → run (draws word (λ w. return (f w))) (supply_of g left) ≡ got (f (word_of g)) (supply_of (next g) (left - 1))
  unfolding run onward
  taken-one h = rw (word-one g left h)
