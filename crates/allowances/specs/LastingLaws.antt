-- The sentences of request S-5 as they follow of a call that is `Lasting`: "refused with 7 or 8 it stays so" (`refused-stays`), and "Only a 6 may turn into
-- something else" (`only-six`). That a call which moved or declined, whose number is 0, gives the same is the statement itself. Assumes nothing.
use Rattle.std.specs.Prelude.{◌≡◌, refl, ◌≢◌, Bool, true, false, ℕ, ◌≤◌, eqb}
use Rattle.std.proofs.Common.{arith, eqb-true}
use Rattle.std.proofs.lemmas.Bool.{eqb-false}
use Rattle.allowances.specs.Lasting.{Lasting}

module _ {C : Type 0} (number : C → ℕ) (call : ℕ → C) (lasting : Lasting number call) (a b : ℕ) (h : 1 ≤ a) (o : a ≤ b) (k : b ≤ 65535) where
  -- with the same number, and all else that it leaves
  pub refused-stays : 7 ≤ number (call a) → call b ≡ call a
  refused-stays m = lasting a b h o k (λ e. absurd (omega arith))

  pub only-six : call b ≢ call a → number (call a) ≡ 6
  only-six n = go (eqb (number (call a)) 6) (eqb-true (number (call a)) 6) (eqb-false (number (call a)) 6)
    where
      go : (s : Bool) → (s ≡ true → number (call a) ≡ 6) → (s ≡ false → number (call a) ≡ 6 → ⊥) → number (call a) ≡ 6
      go true p q = p refl
      go false p q = absurd (n (lasting a b h o k (q refl)))
