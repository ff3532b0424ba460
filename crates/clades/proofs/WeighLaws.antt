-- How many marks a set has (`counted`), and the ways through the code that weighs a node (`weigh_laws`). Assumes nothing.
use mathlib.Core.Path.{◌≡◌, refl, sym, ap, ◌∙◌}
use mathlib.Core.Bool.{Bool, true, false, cond}
use mathlib.Core.List.{List}
use Prim.Native.Nat.{ℕ, zero, suc, ◌+◌, ◌≤◌, ◌<◌}
use native.Mathlib.Omega.{arith}
use lib.ListN.{length, get_or, take}
use mir.Val.{Fits}
use mir.Syntax.{w32}
use borrow.Author.Tests.{lt-ltb, le-ltb}
use Rattle.tree.specs.Bounded.{count_to}
use Rattle.tree.specs.PlaceLaws.{wide16, next_place}
use Rattle.clades.specs.Clades.{marked, size_of}
use Rattle.clades.specs.Counting.{weight, weighed, heaviest, Weighs}
use Rattle.std.specs.List.{count_by}
use Rattle.std.proofs.lemmas.List.Sums.{count_by_more_yes, count_by_more_no}
use lib.Seq.{take_all}

-- ---- a set

-- of the first m marks
counted-to : (members : List Bool) (m : ℕ) → m ≤ length members → count_by (λ (b : Bool). b) (take m members) ≡ count_to (marked members) m
unfolding count_to
counted-to members zero h = refl
counted-to members (suc m) h = go (get_or members m false) refl (counted-to members m (omega arith))
  where
    go : (b : Bool) → get_or members m false ≡ b → count_by (λ (b : Bool). b) (take m members) ≡ count_to (marked members) m
        → count_by (λ (b : Bool). b) (take (suc m) members) ≡ count_to (marked members) m + cond (get_or members m false) 1 0
    go true e k = let z : suc m ≡ m + 1 = omega arith in rw (e, ← k, z) (count_by_more_yes (λ (b : Bool). b) members m false (omega arith) e)
    go false e k =
        let z : suc m ≡ m + 1 = omega arith in
        let g = count_by_more_no (λ (b : Bool). b) members m false (omega arith) e in
        rw (e, z) (omega arith)

pub counted : (members : List Bool) → count_by (λ (b : Bool). b) members ≡ size_of members
unfolding size_of
counted members = ap (count_by (λ (b : Bool). b)) (sym (take_all (length members) members (omega arith))) ∙ counted-to members (length members) (omega arith)

-- ---- a node

module _ (pairs : List ℕ) (members : List Bool) (weights : List ℕ) (others k : ℕ) where
  pub weigh-tip : (b : ℕ) → k < length members → b ≡ weight members others k → b ≡ weighed pairs members weights others k
  unfolding weighed
  weigh-tip b h e = rw (lt-ltb k (length members) h) e

  pub weigh-inner : length members ≤ k → get_or weights (get_or pairs (k + k) 0) 0 + get_or weights (get_or pairs (k + k + 1) 0) 0 ≡ weighed pairs members weights others k
  unfolding weighed
  weigh-inner h = rw (le-ltb k (length members) h, next_place pairs k)

  module _ (w : Weighs pairs members weights k) (h : length members ≤ k) where
    pub weigh-first : get_or pairs (k + k) 0 < length weights
    weigh-first = w.one h

    pub weigh-second : get_or pairs (k + k + 1) 0 < length weights
    weigh-second = rw (next_place pairs k) (w.two h)

    pub weigh-first-light : get_or weights (get_or pairs (k + k) 0) 0 ≤ heaviest
    weigh-first-light = w.one_light h

    pub weigh-second-light : get_or weights (get_or pairs (k + k + 1) 0) 0 ≤ heaviest
    weigh-second-light = rw (next_place pairs k) (w.two_light h)

pub weigh-sum : (x y : ℕ) → x ≤ heaviest → y ≤ heaviest → Fits w32 (x + y)
weigh-sum x y a b = record { fits = omega arith }

pub ruleset weigh_laws = (
  weigh-tip,
  weigh-inner,
  weigh-first,
  weigh-second,
  weigh-first-light,
  weigh-second-light,
  weigh-sum,
  wide16,
)
