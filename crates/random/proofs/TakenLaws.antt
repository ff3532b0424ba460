-- The ways through the code that takes one draw from a supply for a value: none is left, or one is taken. Assumes nothing.
use Rattle.std.proofs.Common.{◌≡◌, ◌-◌, ◌<◌, ◌≤◌, sym, ap, arith}
use Rattle.random.specs.Generator.{word_of, next, uniform_of, first_side}
use Rattle.random.specs.Draw.{uniform, coin, run, supply_of, drawn}
use Rattle.random.proofs.WordLaws.{taken_none, taken-one}
use Rattle.random.specs.declared.Supply.{Supply}
use Rattle.std.specs.Prelude.{Some, None}

module _ (s : Supply) where
  pub uniform-none : s.left < 1 → None ≡ drawn (run uniform s)
  unfolding uniform
  uniform-none h = sym (ap drawn (taken_none uniform_of s.random s.left (omega arith)))

  pub uniform-one : 1 ≤ s.left → Some (uniform_of (word_of s.random), supply_of (next s.random) (s.left - 1)) ≡ drawn (run uniform s)
  unfolding uniform
  uniform-one h = sym (ap drawn (taken-one uniform_of s.random s.left (omega arith)))

  pub coin-none : s.left < 1 → None ≡ drawn (run coin s)
  unfolding coin
  coin-none h = sym (ap drawn (taken_none first_side s.random s.left (omega arith)))

  pub coin-one : 1 ≤ s.left → Some (first_side (word_of s.random), supply_of (next s.random) (s.left - 1)) ≡ drawn (run coin s)
  unfolding coin
  coin-one h = sym (ap drawn (taken-one first_side s.random s.left (omega arith)))

pub ruleset taken_laws = (uniform-none, uniform-one, coin-none, coin-one)
