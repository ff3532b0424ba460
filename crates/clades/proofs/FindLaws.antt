-- The search through postorder for a node of the set's weight (`find_laws`). Assumes nothing.
use mathlib.Core.Path.{◌≡◌, refl, sym, ◌∙◌, subst}
use mathlib.Core.Bool.{Bool}
use mathlib.Core.List.{List, [], ◌∷◌}
use Prim.Native.Nat.{ℕ, suc, ◌+◌, ◌-◌, ◌≤◌, ◌<◌}
use native.Mathlib.Omega.{arith}
use native.Mathlib.Numerals.{add-one}
use native.Mathlib.Decide.{ℕ_discrete, dec_lt}
use lib.ListN.{length, get_or, set, drop, length-set}
use lib.Seq.{drop-cons, drop-length, drop-nil, drop-drop, get_or-set_same, get_or-set_other}
use borrow.Author.Tests.{lt-ltb, le-ltb, eq-eqb, ne_eqb}
use Rattle.tree.specs.Tree.{Tree, first_in, second_in, postorder}
use Rattle.tree.specs.Valid.{Valid}
use Rattle.tree.specs.Given.{tree_of}
use Rattle.tree.specs.PlaceLaws.{wide16}
use Rattle.tree.specs.ListLaws.{Before, Distinct}
use Rattle.accepted.specs.WayLaws.{valid-nodes}
use Rattle.accepted.specs.SubtreeLaws.{postorder-nodes, postorder-before, postorder-distinct}
use Rattle.clades.specs.Clades.{size_of}
use Rattle.clades.specs.Counting.{weight_below, weighs, weighed, first_or, Seeks, Finds, Weighs}
use Rattle.clades.specs.WeightLaws.{weight-inner, weight-tip, weight-few}

-- nothing is left of a list after its end
drop_all : (l : List ℕ) (m : ℕ) → length l ≤ m → drop m l ≡ []
drop_all l m h = let z : m ≡ length l + (m - length l) = omega arith in rw (z, ← drop-drop (m - length l) (length l) l, drop-length l, drop-nil (m - length l))

-- the nodes before place `at` have their weights, and none of them is found
pub record Finding (pairs : List ℕ) (members : List Bool) (order weights : List ℕ) (others size at : ℕ) : Type 0 where
  pub finds : Finds pairs members order weights others size
  pub filled : (j : ℕ) → j < at → get_or weights (get_or order j 0) 0 ≡ weight_below (length order) pairs members others (get_or order j 0)
  pub passed : first_or (length order) (weighs (length order) pairs members others) order ≡ first_or (length order) (weighs (length order) pairs members others) (drop at order)

module _ (pairs : List ℕ) (members : List Bool) (order weights : List ℕ) (others size : ℕ) where
  module _ (f : Finds pairs members order weights others size) where
    abbrev seeks : Seeks pairs f.root members others size (length order)
    seeks = f.places.seeks

    abbrev t : Tree
    t = tree_of pairs seeks.fills.parents seeks.fills.heights f.root

    valid : Valid (length order) t
    valid = seeks.fills.valid

    is-postorder : postorder t ≡ order
    is-postorder = rw (valid-nodes valid) (sym f.placed)

    node : (at : ℕ) → at < length order → get_or order at 0 < length order
    node at h = postorder-nodes (length order) t valid (get_or order at 0) (rw is-postorder (at, h, refl))

    before : (at : ℕ) → at < length order → length order < get_or order at 0 + get_or order at 0
        → Before order at (first_in pairs (get_or order at 0)) × Before order at (second_in pairs (get_or order at 0))
    before at h i = subst (λ (l : List ℕ). Before l at (first_in pairs (get_or order at 0)) × Before l at (second_in pairs (get_or order at 0))) is-postorder
        (postorder-before (length order) t valid at (get_or order at 0) (rw is-postorder h) (rw is-postorder refl) i)

    distinct : Distinct order
    distinct = subst Distinct is-postorder (postorder-distinct (length order) t valid)

    pub find-start : Finding pairs members order weights others size 0
    find-start = record { finds = f; filled = λ j h. absurd (omega arith); passed = refl }

  module _ (at : ℕ) (g : Finding pairs members order weights others size at) where
    module _ (h : at < length order) where
      abbrev f : Finds pairs members order weights others size
      f = g.finds

      abbrev k : ℕ
      k = get_or order at 0

      -- tips come first
      tip-node : k < length members → k + k ≤ length order
      tip-node b = let m = (seeks f).marks in omega arith

      inner-node : length members ≤ k → length order < k + k
      inner-node b = let m = (seeks f).marks in let o = (valid f).sized.odd in omega arith

      -- a child that comes before has its weight
      child : {c : ℕ} → Before order at c → get_or weights c 0 ≡ weight_below (length order) pairs members others c
      child b = subst (λ (c : ℕ). get_or weights c 0 ≡ weight_below (length order) pairs members others c) b.2 (g.filled b.0 b.1)

      inner-sum : length members ≤ k → get_or weights (first_in pairs k) 0 + get_or weights (second_in pairs k) 0 ≡ weight_below (length order) pairs members others k
      inner-sum b =
          let i = inner-node b in
          let c = before f at h i in
          let x = child c.0 in
          let y = child c.1 in
          let z = weight-inner (length order) (t f) (valid f) members (seeks f).marks others k (node f at h) i in
          omega arith

      -- the weight that the code gives the next node is its own
      weighed-is : weighed pairs members weights others k ≡ weight_below (length order) pairs members others k
      unfolding weighed
      weighed-is = elim (dec_lt k (length members)) [
        | yes b ↦ rw (lt-ltb k (length members) b) (sym (weight-tip (length order) (t f) (valid f) members (seeks f).marks others k (node f at h) (tip-node b)))
        | no b ↦ let c : length members ≤ k = omega arith in rw (le-ltb k (length members) c) (inner-sum c)
      ]

      pub find-weighs : Weighs pairs members weights (get_or order at 0)
      find-weighs =
          let few = (valid f).sized.few in
          let twice = (valid f).sized.pairs in
          let long = f.places.long in
          let K = node f at h in
          let most = weight-few (length order) (t f) (valid f) members (seeks f).marks others k (seeks f).light K in
          record {
            few = omega arith;
            twice = omega arith;
            node = omega arith;
            one = λ b. let x = ((valid f).inner k K (inner-node b)).first_node in omega arith;
            two = λ b. let x = ((valid f).inner k K (inner-node b)).second_node in omega arith;
            one_light = λ b. let e = inner-sum b in let w = most in omega arith;
            two_light = λ b. let e = inner-sum b in let w = most in omega arith;
          }

      pub find-node : get_or order at 0 < length weights
      find-node = find-weighs.node

      module _ (b : ℕ) (e : b ≡ weighed pairs members weights others (get_or order at 0)) where
        rest : drop at order ≡ k ∷ drop (suc at) order
        rest = drop-cons order at 0 h

        pub find-found : b ≡ size → get_or order at 0 ≡ first_or (length order) (weighs (length order) pairs members others) order
        unfolding first_or weighs
        find-found q = sym (g.passed ∙ rw (rest, eq-eqb (weight_below (length order) pairs members others k) (size_of members) (sym (e ∙ weighed-is) ∙ q ∙ (seeks f).counted)))

        pub find-next : (b ≡ size → ⊥) → Finding pairs members order (set weights (get_or order at 0) b) others size (at + 1)
        unfolding first_or weighs
        find-next d = record {
          finds = record {
            root = f.root;
            places = record { seeks = seeks f; long = length-set weights k b ∙ f.places.long };
            placed = f.placed;
          };
          filled = λ j J. elim (ℕ_discrete j at) [
            | yes q ↦ rw q (get_or-set_same weights k b 0 find-node ∙ e ∙ weighed-is)
            | no q ↦
                let apart : get_or order j 0 ≡ k → ⊥ = λ z. q (distinct f j at (omega arith) h z) in
                get_or-set_other weights k (get_or order j 0) b 0 apart ∙ g.filled j (omega arith)
          ];
          passed = g.passed ∙ rw (rest, add-one at, ne_eqb (weight_below (length order) pairs members others k) (size_of members) (λ q. d (e ∙ weighed-is ∙ q ∙ sym (seeks f).counted)));
        }

    pub find-end : length order ≤ at → length order ≡ first_or (length order) (weighs (length order) pairs members others) order
    unfolding first_or
    find-end h = sym (g.passed ∙ rw (drop_all order at h))

pub ruleset find_laws = (find-start, find-weighs, find-node, find-found, find-next, find-end, wide16)
