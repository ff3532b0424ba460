-- The tests of what is in range: what one that passed shows, for the reads that it guards (`kin_laws`), and that a valid tree passes them
-- (`valid-children`, `valid-kin`). Assumes nothing.
use mathlib.Core.Path.{◌≡◌}
use mathlib.Core.Bool.{Bool, true, ◌&&◌}
use mathlib.Core.List.{List}
use Prim.Native.Nat.{ℕ, ◌+◌, ◌/◌, ◌<◌}
use native.Mathlib.Omega.{arith}
use lib.Dec.{T, ltb, ltb→lt}
use lib.ListN.{length, get_or}
use lib.Ieee.{Float}
use lib.Ieee.Fits.{and_l, and_r}
use borrow.Author.Tests.{lt-ltb}
use Rattle.tree.specs.Tree.{nodes_of, first_in, second_in, parent}
use Rattle.tree.specs.Valid.{Valid}
use Rattle.tree.specs.Given.{tree_of}
use Rattle.tree.specs.PlaceLaws.{wide16, next_place}
use Rattle.accepted.specs.RootLaws.{root-inner}
use Rattle.heights.specs.Given.{has_children, has_kin}

-- ---- what they show

-- b is what a test gave
module _ (p b : Bool) (e : b ≡ p) where
  pub passed : b ≡ true → T p
  passed h = rw (← e, h) tt

module _ (pairs : List ℕ) (heights : List Float) (k : ℕ) (h : T (has_children pairs heights k)) where
  abbrev n : ℕ
  n = length heights

  three : T (ltb k n && ltb k (nodes_of pairs) && ltb (first_in pairs k) n)
  unfolding has_children
  three = and_l (ltb k n && ltb k (nodes_of pairs) && ltb (first_in pairs k) n) (ltb (second_in pairs k) n) h

  two : T (ltb k n && ltb k (nodes_of pairs))
  two = and_l (ltb k n && ltb k (nodes_of pairs)) (ltb (first_in pairs k) n) three

  pub own_in : k < length heights
  own_in = ltb→lt k n (and_l (ltb k n) (ltb k (nodes_of pairs)) two)

  pub paired : k < length pairs / 2
  paired = ltb→lt k (nodes_of pairs) (and_r (ltb k n) (ltb k (nodes_of pairs)) two)

  pub first-place : k + k < length pairs
  first-place = let z = paired in omega arith

  pub second-place : k + k + 1 < length pairs
  second-place = let z = paired in omega arith

  pub first-in : get_or pairs (k + k) 0 < length heights
  first-in = ltb→lt (first_in pairs k) n (and_r (ltb k n && ltb k (nodes_of pairs)) (ltb (first_in pairs k) n) three)

  pub second-in : get_or pairs (k + k + 1) 0 < length heights
  unfolding has_children
  second-in = rw (next_place pairs k) (ltb→lt (second_in pairs k) n (and_r (ltb k n && ltb k (nodes_of pairs) && ltb (first_in pairs k) n) (ltb (second_in pairs k) n) h))

-- the same of a test's result
pub tested-in : (pairs : List ℕ) (heights : List Float) (k : ℕ) (b : Bool) → b ≡ has_children pairs heights k → b ≡ true → k < length heights
tested-in pairs heights k b e h = own_in pairs heights k (passed (has_children pairs heights k) b e h)

module _ (pairs parents : List ℕ) (heights : List Float) (k : ℕ) (h : T (has_kin pairs parents heights k)) where
  both : T (has_children pairs heights k && ltb k (length parents))
  unfolding has_kin
  both = and_l (has_children pairs heights k && ltb k (length parents)) (ltb (get_or parents k 0) (length heights)) h

  pub kin-children : T (has_children pairs heights k)
  kin-children = and_l (has_children pairs heights k) (ltb k (length parents)) both

  pub kin-in : k < length heights
  kin-in = own_in pairs heights k kin-children

  pub parent_place : k < length parents
  parent_place = ltb→lt k (length parents) (and_r (has_children pairs heights k) (ltb k (length parents)) both)

  pub parent_in : get_or parents k 0 < length heights
  unfolding has_kin
  parent_in = ltb→lt (get_or parents k 0) (length heights) (and_r (has_children pairs heights k && ltb k (length parents)) (ltb (get_or parents k 0) (length heights)) h)

pub ruleset kin_laws = (wide16, passed, own_in, tested-in, first-place, second-place, first-in, second-in, kin-children, kin-in, parent_place, parent_in)

-- ---- a valid tree passes them

module _ (pairs parents : List ℕ) (heights : List Float) (root : ℕ) (v : Valid (nodes_of pairs) (tree_of pairs parents heights root)) where
  abbrev m : ℕ
  m = nodes_of pairs

  long : length heights ≡ m
  long = v.sized.heights

  pub valid-children : (k : ℕ) → k < m → m < k + k → has_children pairs heights k ≡ true
  unfolding has_children
  valid-children k h i =
      let c = v.inner k h i in
      rw (long, lt-ltb k m h, lt-ltb (first_in pairs k) m c.first_node, lt-ltb (second_in pairs k) m c.second_node)

  pub valid-kin : (k : ℕ) → k < m → m < k + k → (k ≡ root → ⊥) → has_kin pairs parents heights k ≡ true
  unfolding has_kin
  valid-kin k h i d =
      let b = v.below k h d in
      let p : get_or parents k 0 < m = unfold parent in b.parent_node in
      rw (valid-children k h i, v.sized.parents, lt-ltb k m h, long, lt-ltb (get_or parents k 0) m p)

  pub valid-root : has_children pairs heights root ≡ true
  valid-root = valid-children root v.root_node (root-inner v)
