-- What a caller finds of the generator that it lent to `below`: after a number, the generator advanced by as many draws as were made; after a
-- refusal, the generator as it was lent. Assumes nothing.
use Rattle.std.proofs.Math.Path.{◌≡◌, ap}
use Rattle.std.proofs.Common.{sym, arith}
use Rattle.std.specs.Prelude.{Bool, ◌&&◌, ℕ, Result, Ok, Err}
use Rattle.std.proofs.Math.Bool.{true, false, cond}
use Rattle.answer.specs.declared.Refusal.{Refusal}
use Rattle.answer.specs.declared.Refusal.TheVariants.{Parameter}
use Rattle.random.specs.Generator.{after}
use Rattle.random.specs.Draw.{Drawn, spent, got, below, pick, countable, allowed, supply_of}
use Rattle.random.specs.BelowCall.{turned_back, ended, below_call}
use Rattle.random.proofs.BelowCallLaws.{below-drawn}
use Rattle.random.specs.declared.Random.{Random}

module _ (g : Random) (n allowance : ℕ) (h : Random) where
  pub below-advanced : (k draws : ℕ) → (Ok (k, draws), h) ≡ below_call g n allowance → h ≡ after draws g
  below-advanced k draws e = (below-drawn g n allowance k draws h (sym e)).moved

  pub below-as-lent : (why : Refusal) → (Err why, h) ≡ below_call g n allowance → h ≡ g
  unfolding below_call
  below-as-lent why = go (countable n && allowed allowance) (pick (below n) (supply_of g allowance))
    where
      go : (b : Bool) (x : Drawn ℕ) → (Err why, h) ≡ cond b (ended g allowance x) (turned_back g (Parameter 0)) → h ≡ g
      go true (got k s) e = let answers = ap (λ (r : Result (ℕ × ℕ) Refusal × Random). r.0) e in let z : ◌≡◌ {A = ℕ} 0 1 = cc in absurd (omega arith)
      go true spent e = ap (λ (r : Result (ℕ × ℕ) Refusal × Random). r.1) e
      go false x e = ap (λ (r : Result (ℕ × ℕ) Refusal × Random). r.1) e
