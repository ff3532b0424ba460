-- The ways through a loop that tests the first numbers, and joins the tests (`join_laws`) or stops at one that fails (`each_laws`), and through the
-- test of a node and its children (`family_laws`). Assumes nothing.
use mathlib.Core.Path.{◌≡◌, refl, sym, ◌∙◌}
use mathlib.Core.Bool.{Bool, true, false, not, ◌&&◌}
use mathlib.Core.List.{List}
use Prim.Native.Nat.{ℕ, ◌+◌, ◌/◌, ◌≤◌, ◌<◌}
use native.Mathlib.Omega.{arith}
use native.Mathlib.Numerals.{add-one}
use lib.Dec.{eqb}
use lib.ListN.{length, get_or, take}
use lib.Ieee.{Float, nan, lt, le, binary64, of_bits}
use Rattle.std.proofs.lemmas.List.{get_or-take, length-take}
use borrow.Author.Tests.{lt-ltb, le-ltb}
use Rattle.tree.specs.PlaceLaws.{next_place}
use Rattle.tree.specs.Bounded.{every}
use Rattle.tree.specs.BoundedLaws.{every-step, every-stop}
use Rattle.quick.specs.Quick.{is_mark, is_age, family, Lent, Reads}

-- ---- a loop over the first numbers

-- all is whether the first m pass, of which there are count
module _ (all : Bool) (m count : ℕ) where
  pub join_mark : (pairs : List ℕ) → all ≡ every (is_mark pairs) m → m < length (take count pairs) → all && eqb (get_or (take count pairs) m 0) 65535 ≡ every (is_mark pairs) (m + 1)
  unfolding every
  join_mark pairs i h = let g = length-take count pairs in rw (add-one, i, get_or-take count pairs m 0 (omega arith))

  pub join_age : (hs : List Float) → all ≡ every (is_age hs) m → m < length (take count hs) → all && le (of_bits binary64 0) (get_or (take count hs) m nan) ≡ every (is_age hs) (m + 1)
  unfolding every
  join_age hs i h = let g = length-take count hs in rw (add-one, i, get_or-take count hs m nan (omega arith))

module _ (test : ℕ → Bool) where
  pub join-start : true ≡ every test 0
  unfolding every
  join-start = refl

  pub each_start : every test 0 ≡ true
  unfolding every
  each_start = refl

  -- the first m pass
  module _ (m count : ℕ) (i : every test m ≡ true) where
    -- b is whether m does
    module _ (b : Bool) (e : b ≡ test m) where
      pub each_step : b ≡ true → every test (m + 1) ≡ true
      each_step h = every-step test m i (sym e ∙ h)

      pub each-stop : m < count → b ≡ false → false ≡ every test count
      each-stop l h = sym (every-stop test m i count l (sym e ∙ h))

    pub each-end : m ≤ count → count ≤ m → true ≡ every test count
    each-end h k = let z : m ≡ count = omega arith in rw (← z, i)

pub ruleset join_laws = (join-start, join_mark, join_age)

pub ruleset each_laws = (each_start, each_step, each-stop, each-end)

-- ---- a node and its children

module _ (pairs ps : List ℕ) (hs : List Float) (k : ℕ) where
  pub family-first-out : length hs ≤ get_or pairs (k + k) 0 → false ≡ family (length hs) pairs ps hs k
  unfolding family
  family-first-out a = rw (le-ltb _ _ a)

  module _ (a : get_or pairs (k + k) 0 < length hs) where
    pub family-second-out : length hs ≤ get_or pairs (k + k + 1) 0 → false ≡ family (length hs) pairs ps hs k
    unfolding family
    family-second-out b = rw (lt-ltb _ _ a, ← next_place pairs k, le-ltb _ _ b)

    pub family-both : get_or pairs (k + k + 1) 0 < length hs
        → not (eqb (get_or pairs (k + k) 0) (get_or pairs (k + k + 1) 0)) && eqb (get_or ps (get_or pairs (k + k) 0) 0) k && eqb (get_or ps (get_or pairs (k + k + 1) 0) 0) k && lt (get_or hs (get_or pairs (k + k) 0) nan) (get_or hs k nan) && lt (get_or hs (get_or pairs (k + k + 1) 0) nan) (get_or hs k nan) ≡ family (length hs) pairs ps hs k
    unfolding family
    family-both b = rw (lt-ltb _ _ a, ← next_place pairs k, lt-ltb _ _ b)

-- an internal node is a node
pub family-reads : (pairs ps : List ℕ) (hs : List Float) (j : ℕ) → Lent pairs ps hs → j < length hs / 2 → Reads pairs ps hs ((length hs + 1) / 2 + j)
family-reads pairs ps hs j z h = record { lent = z; node = omega arith }

pub ruleset family_laws = (family-first-out, family-second-out, family-both)
