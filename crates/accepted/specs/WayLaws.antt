-- How far a node is from the root. In order: a valid tree is linked (`valid-linked`) and has as many nodes as pairs (`valid-nodes`); a child is
-- not the root, and is one step further from it (`under_root`, `first_way`, `second_way`); a node that reaches the root has a way to it, only
-- one, and one of fewer steps than there are nodes (`way`, `way-only`, `way-short`); the nodes under a node, and their ways (`under_parent`,
-- `under-way`, `under_same`), that the nodes under the root are those that reach it (`under-reach`, `reach-under`), and that nothing above a node is under it
-- (`not-under`). Assumes nothing.
use Rattle.std.specs.Prelude.{◌≡◌, refl, ◌≢◌}
use Rattle.std.proofs.Common.{sym, ap, ◌∙◌}
use Prim.Native.Nat.{ℕ, zero, suc, ◌+◌, ◌-◌, ◌≤◌, ◌<◌}
use native.Mathlib.Omega.{arith}
use Rattle.tree.specs.Tree.{Tree, no_node, nodes_of, first, second, parent}
use Rattle.tree.specs.Valid.{Reach, here, up, Valid}
use Rattle.tree.specs.ListLaws.{pigeon}
use Rattle.accepted.specs.Ways.{Linked, Way, arrived, climbs, Under, itself, through}

-- ---- valid trees are linked

-- a valid tree is linked
pub valid-linked : {n : ℕ} {t : Tree} → Valid n t → Linked n t
valid-linked v = record { few = v.sized.few; inner = v.inner; root_node = v.root_node; root_parent = v.root_parent; below = v.below }

-- a valid tree of n nodes has n pairs
pub valid-nodes : {n : ℕ} {t : Tree} → Valid n t → nodes_of t.pairs ≡ n
valid-nodes v = omega (arith, v.sized.pairs)

-- ---- children are not the root

module _ (n : ℕ) (t : Tree) (l : Linked n t) (k : ℕ) (K : k < n) where
  -- a node whose parent is a node is not the root
  pub under_root : (c : ℕ) → parent t c ≡ k → c ≢ t.root
  under_root c e f = let z : k ≡ no_node = sym e ∙ ap (parent t) f ∙ l.root_parent in omega (arith, l.few)

  -- the first child of an inner node is one step further from the root
  pub first_way : n < k + k → {d : ℕ} → Way t d k → Way t (suc d) (first t k)
  first_way i {d} w = let x = l.inner k K i in climbs {d = d} (under_root (first t k) x.first_parent) (rw x.first_parent w)

  -- so is the second
  pub second_way : n < k + k → {d : ℕ} → Way t d k → Way t (suc d) (second t k)
  second_way i {d} w = let x = l.inner k K i in climbs {d = d} (under_root (second t k) x.second_parent) (rw x.second_parent w)

-- ---- ways to the root

-- a node from which the parents lead to the root has a way there
pub way : {t : Tree} {k : ℕ} → Reach t k → (d : ℕ) × Way t d k
way (here e) = (0, arrived e)
way (up d r) = let w = way r in (suc w.0, climbs d w.1)

-- a node has only one way to the root
pub way-only : {t : Tree} {d e k : ℕ} → Way t d k → Way t e k → d ≡ e
way-only (arrived p) (arrived q) = refl
way-only (arrived p) (climbs q w) = absurd (q p)
way-only (climbs p w) (arrived q) = absurd (p q)
way-only (climbs p w) (climbs q u) = ap suc (way-only w u)

-- the node to which e steps lead
ancestor : Tree → ℕ → ℕ → ℕ
ancestor t k zero = k
ancestor t k (suc e) = ancestor t (parent t k) e

module _ (n : ℕ) (t : Tree) (l : Linked n t) where
  ancestor-way : {d k : ℕ} → Way t d k → k < n → (e : ℕ) → e ≤ d → (ancestor t k e < n) × Way t (d - e) (ancestor t k e)
  unfolding ancestor
  ancestor-way {d} w K zero h = let z : d - 0 ≡ d = omega arith in (K, rw z w)
  ancestor-way (arrived p) K (suc e) h = absurd (omega arith)
  ancestor-way (climbs {d} {k} p w) K (suc e) h =
      let z : suc d - suc e ≡ d - e = omega arith in
      rw z (ancestor-way {d = d} {k = parent t k} w (l.below k K p).parent_node e (omega arith))

  -- a way to the root has fewer steps than there are nodes, since it meets no node twice
  pub way-short : {d k : ℕ} → Way t d k → k < n → d < n
  way-short {d} {k} w K = let h : suc d ≤ n = pigeon n (suc d) (ancestor t k) (λ e E. (ancestor-way w K e (omega arith)).0) different in omega arith
    where
      different : (a b : ℕ) → a < suc d → b < suc d → ancestor t k a ≡ ancestor t k b → a ≡ b
      different a b A B e =
          let q : d - a ≡ d - b = way-only (ancestor-way w K a (omega arith)).1 (rw e (ancestor-way w K b (omega arith)).1) in
          omega arith

-- ---- ways of the nodes under a node

-- the parent of k has under it what is under k
pub under_parent : {n : ℕ} {t : Tree} {c k : ℕ} → Under n t c k → k < n → k ≢ t.root → Under n t c (parent t k)
under_parent itself K r = through K r itself
under_parent (through C d u) K r = through C d (under_parent u K r)

-- a node under k is at least as far from the root as k
pub under-way : {n : ℕ} {t : Tree} {c k e : ℕ} → Under n t c k → Way t e k → (d : ℕ) × (e ≤ d) × Way t d c
under-way {e} itself w = (e, omega arith, w)
under-way (through C r u) w = let q = under-way u w in (suc q.0, omega arith, climbs r q.2)

-- two nodes that have one node under both, and are as far from the root, are one
pub under_same : {n : ℕ} {t : Tree} {c a b e : ℕ} → Under n t c a → Under n t c b → Way t e a → Way t e b → a ≡ b
under_same itself itself x y = refl
under_same {e} itself (through C r u) x y = let q = under-way u y in let z : e ≡ suc q.0 = way-only x (climbs r q.2) in absurd (omega arith)
under_same {e} (through C r u) itself x y = let q = under-way u x in let z : e ≡ suc q.0 = way-only y (climbs r q.2) in absurd (omega arith)
under_same (through C r u) (through C' r' u') x y = under_same u u' x y

-- what is under a node that reaches the root reaches it too
pub under-reach : {n : ℕ} {t : Tree} {c k : ℕ} → Under n t c k → Reach t k → Reach t c
under-reach itself r = r
under-reach (through C d u) r = up d (under-reach u r)

-- a node that reaches the root is under it
pub reach-under : (n : ℕ) (t : Tree) → Linked n t → {c : ℕ} → c < n → Reach t c → Under n t c t.root
reach-under n t l C (here e) = rw e itself
reach-under n t l C (up {k} d r) = through C d (reach-under n t l (l.below k C d).parent_node r)

-- neither a node's parent nor what that is under is under the node
pub not-under : {n : ℕ} {t : Tree} → Valid n t → (c : ℕ) → c < n → c ≢ t.root → {k : ℕ} → Under n t (parent t c) k → Under n t k c → ⊥
not-under v c C r a b =
    let w = way (v.joined c C) in
    let p = under-way b w.1 in
    let q = under-way a p.2 in
    let z : w.0 ≡ suc q.0 = way-only w.1 (climbs r q.2) in
    omega arith
