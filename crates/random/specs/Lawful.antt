-- What the laws say of a run from a supply: of a number (`pick d`) or of a program (`run d`). Definitions only. Assumes nothing.
use Rattle.std.specs.Prelude.{◌≡◌, ℕ, ◌+◌, ◌-◌, ◌<◌, ◌≤◌}
use Rattle.random.specs.Generator.{after}
use Rattle.random.specs.Draw.{Drawn, got}
use Rattle.random.specs.declared.Supply.{Supply}

-- a supply with k more draws
abbrev pub more : ℕ → Supply → Supply
more k s = record { random = s.random; left = s.left + k }

-- from the supply s to the supply u: the generator is stepped as often as draws were made
pub record Stepped (s u : Supply) : Type 0 where
  pub fewer : u.left ≤ s.left
  pub moved : u.random ≡ after (s.left - u.left) s.random

-- steps: the generator after a value is the generator before it, stepped as often as draws were made;
-- allowance: with k draws more the value is the same and k draws more are left, so that a larger allowance changes nothing but a spent one;
-- spare: k draws that would be left over are not needed, so that an allowance that is just enough is not spent
pub record Lawful {A : Type 0} (d : Supply → Drawn A) : Type 0 where
  pub steps : (s : Supply) (a : A) (u : Supply) → d s ≡ got a u → Stepped s u
  pub allowance : (k : ℕ) (s : Supply) (a : A) (u : Supply) → d s ≡ got a u → d (more k s) ≡ got a (more k u)
  pub spare : (k : ℕ) (s : Supply) (a : A) (u : Supply) → d (more k s) ≡ got a (more k u) → d s ≡ got a u

-- a value takes a draw or more
abbrev pub Taking : {A : Type 0} → (Supply → Drawn A) → Type 0
Taking {A} d = (s : Supply) (a : A) (u : Supply) → d s ≡ got a u → u.left < s.left

-- a value satisfies P
abbrev pub Yields : {A : Type 0} → (A → Type 0) → (Supply → Drawn A) → Type 0
Yields {A} P d = (s : Supply) (a : A) (u : Supply) → d s ≡ got a u → P a
