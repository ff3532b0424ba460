-- The ways through the code that climbs. Assumes nothing.
use mathlib.Core.Path.{◌≡◌, refl, ap, ◌∙◌}
use mathlib.Core.Bool.{true, false}
use mathlib.Core.List.{List}
use Prim.Native.Nat.{ℕ, suc, ◌+◌, ◌-◌, ◌≤◌, ◌<◌}
use native.Mathlib.Omega.{arith}
use borrow.Author.Tests.{eq-eqb, ne_eqb}
use lib.ListN.{get_or}
use lib.Ieee.{Float, lt, nan}
use Rattle.tree.specs.Tree.{parent, height}
use Rattle.tree.specs.Given.{dates_in}
use Rattle.rules.specs.Rules.{climb}

module _ (ps : List ℕ) (hs : List Float) (root : ℕ) (x : Float) (k n at i : ℕ)
    (inv : climb n (dates_in ps hs root) x k ≡ climb (n - i) (dates_in ps hs root) x at) where
  pub climb-spent : n ≤ i → at ≡ climb n (dates_in ps hs root) x k
  climb-spent h = let z : n - i ≡ 0 = omega arith in rw (inv, z) (unfold climb in refl)

  module _ (L : i < n) where
    left : n - i ≡ suc (n - (i + 1))
    left = omega arith

    pub climb-root : at ≡ root → at ≡ climb n (dates_in ps hs root) x k
    unfolding climb
    climb-root e = rw (inv, left, eq-eqb at root e)

    module _ (e : at ≡ root → ⊥) (p : ℕ) (f : p ≡ get_or ps at 0) (h : Float) (g : h ≡ get_or hs p nan) where
      pub climb-goes : lt h x ≡ true → climb n (dates_in ps hs root) x k ≡ climb (n - (i + 1)) (dates_in ps hs root) x p
      unfolding climb parent height
      climb-goes y = inv ∙ ap (λ (m : ℕ). climb m (dates_in ps hs root) x at) left ∙ rw (ne_eqb at root e, ← f, ← g, y)

      pub climb-stops : lt h x ≡ false → at ≡ climb n (dates_in ps hs root) x k
      unfolding climb parent height
      climb-stops y = rw (inv, left, ne_eqb at root e, ← f, ← g, y)

pub ruleset climb_laws = (climb-spent, climb-root, climb-goes, climb-stops)
