-- The ways through the loop that adds up the branches. Assumes nothing.
use mathlib.Core.Path.{◌≡◌, refl, sym, ap, ◌∙◌}
use mathlib.Core.List.{List}
use Prim.Native.Nat.{ℕ, zero, suc, ◌+◌, ◌-◌, ◌≤◌, ◌<◌}
use native.Mathlib.Omega.{arith}
use native.Mathlib.Numerals.{add-one}
use lib.ListN.{length}
use lib.Ieee.{Float, binary64, add, of_bits}
use borrow.Author.Tests.{eq-eqb, ne_eqb}
use Rattle.answer.specs.declared.Refusal.{Refusal}
use Rattle.answer.specs.declared.Refusal.TheVariants.{Size}
use Rattle.nodes.specs.Nodes.{branch_length, length_to, tree_length}
use Rattle.std.specs.Prelude.{Result, Ok, Err}

length-keeps : (ps : List ℕ) (hs : List Float) (m d : ℕ) (why : Refusal) → length_to ps hs m ≡ Err why → length_to ps hs (d + m) ≡ Err why
unfolding length_to
length-keeps ps hs m zero why e = let z : zero + m ≡ m = omega arith in rw z e
length-keeps ps hs m (suc d) why e = let z : suc d + m ≡ suc (d + m) = omega arith in rw (z, length-keeps ps hs m d why e)

module _ (ps : List ℕ) (hs : List Float) where
  pub length-size : (length hs ≡ length ps → ⊥) → Err (Size (length ps)) ≡ tree_length ps hs
  unfolding tree_length
  length-size a = rw (ne_eqb _ _ a)

  pub length-start : length_to ps hs 0 ≡ Ok (of_bits binary64 0)
  unfolding length_to
  length-start = refl

  module _ (m : ℕ) (x : Float) (i : length_to ps hs m ≡ Ok x) where
    pub length-end : length hs ≡ length ps → length ps ≤ m → m ≤ length ps → Ok x ≡ tree_length ps hs
    unfolding tree_length
    length-end a b c = let z : length ps ≡ m = omega arith in rw (eq-eqb _ _ a) (sym (ap (length_to ps hs) z ∙ i))

    module _ (q : Result Float Refusal) (e : q ≡ branch_length ps hs m) where
      pub length-step : (y : Float) → q ≡ Ok y → length_to ps hs (m + 1) ≡ Ok (add binary64 x y)
      unfolding length_to
      length-step y f = rw (add-one, i, ← e, f)

      pub length-stop : (why : Refusal) → length hs ≡ length ps → m < length ps → q ≡ Err why → Err why ≡ tree_length ps hs
      unfolding tree_length length_to
      length-stop why a h f =
          let d = length ps - suc m in
          let z : length ps ≡ d + suc m = omega arith in
          rw (eq-eqb _ _ a) (sym (ap (length_to ps hs) z ∙ length-keeps ps hs (suc m) d why (rw (i, ← e, f))))

pub ruleset length_laws = (length-size, length-start, length-end, length-step, length-stop)
