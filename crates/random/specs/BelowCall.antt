-- What `Random::below` answers. Definitions only. Assumes nothing.
use Rattle.std.specs.Prelude.{ℕ, ◌-◌, cond, ◌&&◌, Result, Ok, Err}
use Rattle.answer.specs.declared.Refusal.{Refusal}
use Rattle.answer.specs.declared.Refusal.TheVariants.{Parameter, Allowance}
use Rattle.random.specs.Draw.{Drawn, spent, got, below, pick, countable, allowed, supply_of}
use Rattle.random.specs.declared.Random.{Random}

-- a refused call hands the generator back as it came
abbrev pub turned_back : Random → Refusal → Result (ℕ × ℕ) Refusal × Random
turned_back g why = (Err why, g)

-- refusal 6 where "the Rust would make more draws than allowed"; else the number and the draws made
abbrev pub ended : Random → ℕ → Drawn ℕ → Result (ℕ × ℕ) Refusal × Random
ended g allowance spent = turned_back g (Allowance allowance)
ended g allowance (got k s) = (Ok (k, allowance - s.left), s.random)

-- refusal 5 for "a parameter outside its limits", before any draw
unfoldable pub below_call : Random → (n allowance : ℕ) → Result (ℕ × ℕ) Refusal × Random
below_call g n allowance =
    cond (countable n && allowed allowance) (ended g allowance (pick (below n) (supply_of g allowance))) (turned_back g (Parameter 0))
