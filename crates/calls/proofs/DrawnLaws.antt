-- The ways through the draws that several moves make: a node other than the root (`non_root_laws`), and an internal node (`internal_laws`).
-- Assumes nothing.
use mathlib.Core.Path.{◌≡◌, sym, ap, ◌∙◌}
use Prim.Native.Nat.{ℕ, ◌+◌, ◌-◌, ◌/◌, ◌^◌, ◌<◌}
use native.Mathlib.Omega.{arith}
use lib.Dec.{eqb}
use mir.Val.{Fits}
use mir.Syntax.{w64}
use Rattle.random.specs.declared.Supply.{Supply}
use Rattle.random.specs.Draw.{Drawn, below, below_other, onward, pick, drawn}
use Rattle.random.proofs.DrawLaws.{other-plain, below-yields}
use Rattle.random.specs.SupplyLaws.{drawn-got, drawn-spent}
use Rattle.tree.specs.Tree.{tips_of}
use Rattle.rules.specs.Rules.{internals, one_internal}
use Rattle.calls.specs.Draws.{non_root, internal}
use Rattle.std.specs.Prelude.{Option, Some, None}

-- ---- a node other than the root

module _ (n root : ℕ) where
  pub non-root-fits : Fits w64 n → 0 + n < 2 ^ 64
  non-root-fits h = let z = h.fits in omega arith

  pub non-root-is : (s : Supply) (r : Option (ℕ × Supply)) → r ≡ drawn (pick (below_other n 0 root) s) → r ≡ drawn (pick (non_root n root) s)
  unfolding non_root
  non-root-is s r e = e ∙ ap (λ (x : Drawn ℕ). drawn x) (other-plain n root s)

pub ruleset non_root_laws = (non-root-fits, non-root-is)

-- ---- an internal node

-- half of n nodes are internal, rounded down, and the rest are tips
tips-rest : (n : ℕ) → tips_of n ≡ n - n / 2
tips-rest n = omega arith

internals-half : (n : ℕ) → internals n ≡ n / 2
internals-half n = omega arith

pub one-half : (n : ℕ) → eqb (n / 2) 1 ≡ one_internal n
one-half n = ap (λ (m : ℕ). eqb m 1) (sym (internals-half n))

module _ (n : ℕ) (s : Supply) where
  pub internal-spent : None ≡ drawn (pick (below (n / 2)) s) → None ≡ drawn (pick (internal n) s)
  unfolding internal pick onward
  internal-spent e = rw (internals-half n, drawn-spent (pick (below (n / 2)) s) e)

  -- k is what was drawn, and u the supply after it
  module _ (k : ℕ) (u : Supply) (e : Some (k, u) ≡ drawn (pick (below (n / 2)) s)) where
    pub internal-drawn : Some (n - n / 2 + k, u) ≡ drawn (pick (internal n) s)
    unfolding internal pick onward
    internal-drawn = rw (internals-half n, drawn-got (pick (below (n / 2)) s) k u e, tips-rest n)

    pub internal-fits : Fits w64 n → Fits w64 (n - n / 2 + k)
    internal-fits h =
        let b : k < n / 2 = below-yields (n / 2) s k u (drawn-got (pick (below (n / 2)) s) k u e) in
        let c = h.fits in
        record { fits = omega arith }

pub ruleset internal_laws = (one-half, internal-drawn, internal-spent, internal-fits)
