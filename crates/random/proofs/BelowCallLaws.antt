-- What a number that `Random::below` gave says: it is below n, and the generator was stepped as often as draws were made (`below-drawn`); and that a larger
-- allowance changes nothing but a 6 (`below-larger`). Assumes nothing.
use Rattle.std.specs.Prelude.{◌≡◌, ℕ, ◌-◌, ◌<◌, ◌≤◌, Bool, true, false, cond, ◌&&◌, ◌≢◌, refl, Result, Ok, Err}
use Rattle.std.proofs.Common.{sym, ap, ◌∙◌, arith}
use Rattle.answer.specs.declared.Refusal.{Refusal}
use Rattle.answer.specs.declared.Refusal.TheVariants.{Parameter, Allowance}
use Rattle.random.specs.Generator.{after}
use Rattle.random.specs.Draw.{Drawn, spent, got, below, pick, countable, allowed, supply_of}
use Rattle.random.specs.BelowCall.{turned_back, ended, below_call}
use Rattle.random.proofs.DrawLaws.{pick-lawful, pick-taking, lawful-larger, lawful-made, below-yields, allows}
use Rattle.random.specs.declared.Random.{Random}

pub record BelowDrawn (g : Random) (n allowance k draws : ℕ) (h : Random) : Type 0 where
  pub small : k < n
  pub some : 1 ≤ draws
  pub within : draws ≤ allowance
  pub moved : h ≡ after draws g

pub below-drawn : (g : Random) (n allowance k draws : ℕ) (h : Random)
    → below_call g n allowance ≡ (Ok (k, draws), h) → BelowDrawn g n allowance k draws h
unfolding below_call
below-drawn g n allowance k draws h = go (countable n && allowed allowance) refl (pick (below n) (supply_of g allowance)) refl
  where
    go : (b : Bool) → countable n && allowed allowance ≡ b → (x : Drawn ℕ) → pick (below n) (supply_of g allowance) ≡ x
        → cond b (ended g allowance x) (turned_back g (Parameter 0)) ≡ (Ok (k, draws), h)
        → BelowDrawn g n allowance k draws h
    go true t (got v s) p e =
        let answers = ap (λ (r : Result (ℕ × ℕ) Refusal × Random). r.0) e in
        let pair : ◌≡◌ {A = ℕ × ℕ} (v, allowance - s.left) (k, draws) = cc in
        let ek : v ≡ k = ap (λ (x : ℕ × ℕ). x.0) pair in
        let ed : allowance - s.left ≡ draws = ap (λ (x : ℕ × ℕ). x.1) pair in
        let eh : s.random ≡ h = ap (λ (r : Result (ℕ × ℕ) Refusal × Random). r.1) e in
        let stepped = (pick-lawful (below n)).steps (supply_of g allowance) v s p in
        let taken = pick-taking (below n) (supply_of g allowance) v s p in
        record {
          small = rw (← ek) (below-yields n (supply_of g allowance) v s p);
          some = omega arith;
          within = omega arith;
          moved = sym eh ∙ stepped.moved ∙ ap (λ (j : ℕ). after j g) ed;
        }
    go true t spent p e = let answers = ap (λ (r : Result (ℕ × ℕ) Refusal × Random). r.0) e in let z : ◌≡◌ {A = ℕ} 0 1 = cc in absurd (omega arith)
    go false t x p e = let answers = ap (λ (r : Result (ℕ × ℕ) Refusal × Random). r.0) e in let z : ◌≡◌ {A = ℕ} 0 1 = cc in absurd (omega arith)

-- what was answered with an allowance is answered with a larger one, unless it was a 6
pub below-larger : (g : Random) (n a b : ℕ) → 1 ≤ a → a ≤ b → b ≤ 65535 → ((below_call g n a).0 ≢ Err (Allowance a)) → below_call g n b ≡ below_call g n a
unfolding below_call
below-larger g n a b h o k = go (countable n)
  where
    drawn : (x : Drawn ℕ) → pick (below n) (supply_of g a) ≡ x → ((ended g a x).0 ≢ Err (Allowance a))
        → ended g b (pick (below n) (supply_of g b)) ≡ ended g a x
    drawn spent e m = absurd (m refl)
    drawn (got v s) e m =
        let made = lawful-made (pick (below n)) (pick-lawful (below n)) g a b o v s e in
        rw (lawful-larger (pick (below n)) (pick-lawful (below n)) g a b o v s e) (λ i. (Ok (v, made i), s.random))

    answer : Bool → ℕ → Result (ℕ × ℕ) Refusal × Random
    answer c m = cond (c && allowed m) (ended g m (pick (below n) (supply_of g m))) (turned_back g (Parameter 0))

    go : (c : Bool) → ((answer c a).0 ≢ Err (Allowance a)) → answer c b ≡ answer c a
    go false m = refl
    go true m =
        let x = allows a h (omega arith) in
        rw (x, allows b (omega arith) k) (drawn (pick (below n) (supply_of g a)) refl (rw x at m))
