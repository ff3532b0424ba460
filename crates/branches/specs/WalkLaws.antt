-- The walk over branches. In order: what it does at one node (`walk-done` to `walk-tip`); that on a valid tree it meets the branches that rules/Rules
-- lists, each at its number (`counted_is`, `picked-is`, `picked-branch`); and that the code needs only the fields of a tree that it is
-- lent (`counted-bare`, `picked-bare`, `climb-bare`). Assumes nothing.
use Rattle.std.specs.Prelude.{◌≡◌, Bool, true, false, List, [], ◌∷◌, ◌++◌, T, length, get_or, Float}
use Rattle.std.proofs.Math.Path.{refl, ap}
use Rattle.std.proofs.Common.{sym, ◌∙◌, arith, eq-eqb, ne_eqb, lt-ltb, le-ltb, length-append}
use Prim.Native.Nat.{ℕ, zero, suc, ◌+◌, ◌-◌, ◌≤◌, ◌<◌}
use Rattle.std.proofs.Math.Decide.{ℕ_discrete, dec_le}
use Rattle.std.proofs.Math.ListN.{get_or-append}
use Rattle.std.specs.Float.Ieee.{lt}
use Rattle.std.specs.Float.Ieee.Scale.{finite}
use Rattle.tree.specs.Tree.{Tree, no_node, nodes_of, inner, first, second, parent, height, subtree}
use Rattle.tree.specs.Given.{tree_of, dates_in}
use Rattle.tree.specs.Valid.{Inner, Valid}
use Rattle.tree.specs.ListLaws.{get_d-right, distinct-few}
use Rattle.accepted.specs.Ways.{Linked, Way}
use Rattle.accepted.specs.WayLaws.{valid-linked, first_way, second_way, way, way-short}
use Rattle.accepted.specs.SubtreeLaws.{subtree-some, subtree-inner, subtree-sound, subtree-distinct}
use Rattle.rules.specs.Rules.{climb, crossing, branches}
use Rattle.reversal.specs.BranchLaws.{Branch, on_side, branches-sound, branches-inner}
use Rattle.branches.specs.Walk.{Walk, walk_of, outset, meet, walk, counted, picked}

-- ---- one node

-- a node is looked at
abbrev pub look : Walk → Walk
look w = walk_of w.found w.met (w.left - 1)

-- a walk that may look at no more nodes stays as it is, however deep it goes
pub walk-done : (d n : ℕ) (t : Tree) (x : Float) (index k : ℕ) (w : Walk) → w.left ≡ 0 → walk d n t x index k w ≡ w
unfolding walk
walk-done zero n t x index k w h = refl
walk-done (suc d) n t x index k w h = rw (eq-eqb w.left 0 h)

module _ (n : ℕ) (t : Tree) (x : Float) (index k d : ℕ) (w : Walk) (b : w.left ≡ 0 → ⊥) where
  -- another meets the branch over a node that is below the height
  pub walk-met : lt (height t k) x ≡ true → walk (suc d) n t x index k w ≡ meet index k (look w)
  unfolding walk
  walk-met h = rw (ne_eqb w.left 0 b, h)

  module _ (h : lt (height t k) x ≡ false) where
    -- goes on, under an inner node that is not, to the first child and then to the second
    pub walk-inner : inner n k ≡ true → walk (suc d) n t x index k w ≡ walk d n t x index (second t k) (walk d n t x index (first t k) (look w))
    unfolding walk
    walk-inner i = rw (ne_eqb w.left 0 b, h, i)

    -- and meets nothing at a tip that is not
    pub walk-tip : inner n k ≡ false → walk (suc d) n t x index k w ≡ look w
    unfolding walk
    walk-tip i = rw (ne_eqb w.left 0 b, h, i)

-- ---- on a valid tree

-- what is met and what is left
abbrev sum : Walk → ℕ
sum w = w.met + w.left

-- how a walk w goes on over a list to u: past it, having looked at so many nodes at most, or to the one with its number
data Met (index : ℕ) (l : List ℕ) (size : ℕ) (w u : Walk) : Type 0 where
  passes : w.met + length l ≤ index → u.met ≡ w.met + length l → w.left ≤ u.left + size → sum u ≤ sum w → Met index l size w u
  stops : index < w.met + length l → index < sum w → u.found ≡ get_or l (index - w.met) 0 → u.left ≡ 0 → Met index l size w u

-- a branch alone
met-one : (index k size : ℕ) (w : Walk) → w.met ≤ index → 1 ≤ size → 1 ≤ w.left → Met index (k ∷ []) size w (meet index k (look w))
met-one index k size w m s a = go (ℕ_discrete w.met index)
  where
    go : Dec (w.met ≡ index) → Met index (k ∷ []) size w (meet index k (look w))
    go (yes e) = let z : index - w.met ≡ 0 = omega arith in rw (eq-eqb w.met index e) (stops (omega arith) (omega arith) (rw z) refl)
    go (no e) = rw (ne_eqb w.met index e) (passes (omega arith) (omega arith) (omega arith) (omega arith))

-- two lists, the second if the walk goes past the first
met-both : (index : ℕ) (l m : List ℕ) (a b : ℕ) (w u r : Walk) → w.met ≤ index → Met index l a (look w) u
    → (u.left ≡ 0 → r ≡ u) → (u.met ≤ index → w.left ≤ suc (u.left + a) → Met index m b u r)
    → Met index (l ++ m) (suc (a + b)) w r
met-both index l m a b w u r h (stops i c f e) done on =
    rw (done e) (stops (omega (arith, length-append l m)) (omega arith) (f ∙ sym (get_or-append l m 0 (index - w.met) (omega arith))) e)
met-both index l m a b w u r h (passes i e s c) done on = go (on (omega arith) (omega arith))
  where
    go : Met index m b u r → Met index (l ++ m) (suc (a + b)) w r
    go (passes i' e' s' c') = passes (omega (arith, length-append l m)) (omega (arith, length-append l m)) (omega arith) (omega arith)
    go (stops i' c' f' e') =
        let z : index - u.met ≡ (index - w.met) - length l = omega arith in
        stops (omega (arith, length-append l m)) (omega arith)
        (f' ∙ ap (λ (j : ℕ). get_or m j 0) z ∙ sym (get_d-right l m (index - w.met) (omega arith))) e'

-- no branch is listed under a tip
branches-tip : (f n : ℕ) (t : Tree) (x : Float) (k : ℕ) → k + k ≤ n → crossing f n t x k ≡ []
unfolding crossing
branches-tip zero n t x k i = refl
branches-tip (suc f) n t x k i = rw (le-ltb n (k + k) i)

module _ {n : ℕ} {t : Tree} (v : Valid n t) (x : Float) (X : T (finite x)) (index : ℕ) where
  linked : Linked n t
  linked = valid-linked v

  -- how many nodes k's subtree has
  size : ℕ → ℕ
  size k = length (subtree n n t.pairs k)

  -- where the way to the root and the depth are n together, a walk that may look at a subtree's nodes meets what is listed on its side
  meets : (f k d : ℕ) → k < n → Way t d k → n ≤ d + f → (w : Walk) → w.met ≤ index → size k ≤ w.left
      → Met index (on_side n t x k) (size k) w (walk f n t x index k w)
  meets zero k d K y h w M S = let z : d < n = way-short n t linked y K in absurd (omega arith)
  meets (suc f) k d K y h w M S = go (lt (height t k) x) refl (λ c C z. meets f c (suc d) C z (omega arith))
    where
      some : 1 ≤ size k
      some = unfold size in (subtree-some n t.pairs k K)

      left : w.left ≡ 0 → ⊥
      left e = omega (arith, some)

      Goal : Type 0
      Goal = Met index (on_side n t x k) (size k) w (walk (suc f) n t x index k w)

      Rest : Type 0
      Rest = (c : ℕ) → c < n → Way t (suc d) c → (w : Walk) → w.met ≤ index → size c ≤ w.left
          → Met index (on_side n t x c) (size c) w (walk f n t x index c w)

      under : lt (height t k) x ≡ false → Dec (k + k ≤ n) → Rest → Goal
      under e (yes i) rest =
          rw (walk-tip n t x index k f w left e (le-ltb n (k + k) i), e, branches-tip n n t x k i)
          (passes (omega arith) (omega arith) (omega (arith, some)) (omega arith))
      under e (no i) rest =
          rw (walk-inner n t x index k f w left e (lt-ltb n (k + k) j), e, branches-inner v x K j X (rw e tt), both)
          (met-both index (on_side n t x a) (on_side n t x b) (size a) (size b) w u (walk f n t x index b u) M
          (rest a q.first_node (first_way n t linked k K j y) (look w) M (omega (arith, both)))
          (walk-done f n t x index b u)
          (λ m s. rest b q.second_node (second_way n t linked k K j y) u m (omega (arith, both))))
        where
          j : n < k + k
          j = omega arith

          q : Inner n t k
          q = v.inner k K j

          a : ℕ
          a = first t k

          b : ℕ
          b = second t k

          u : Walk
          u = walk f n t x index a (look w)

          both : size k ≡ suc (size a + size b)
          both = unfold size in (rw (subtree-inner n t v k K j) (simp (length-append, length-append) (omega arith)))

      go : (b : Bool) → lt (height t k) x ≡ b → Rest → Goal
      go true e rest = rw (walk-met n t x index k f w left e, e) (met-one index k (size k) w M some (omega (arith, some)))
      go false e rest = under e (dec_le (k + k) n) rest

  -- a subtree has no more nodes than the tree
  size_few : (k : ℕ) → k < n → size k ≤ n
  size_few k K = unfold size in (distinct-few n (subtree n n t.pairs k) (subtree-distinct n t v k K) (λ c h. (subtree-sound n t v k c K h).0))

  -- the walk of `counted` and `picked` meets what is listed under a node that is not below the height
  meets-all : (k : ℕ) → k < n → lt (height t k) x ≡ false → Met index (branches n t x k) (size k) (outset n) (walk n n t x index k (outset n))
  meets-all k K e =
      let y = way (v.joined k K) in
      let s : on_side n t x k ≡ branches n t x k = rw e in
      rw s at (meets n k y.0 K y.1 (omega arith) (outset n) (omega arith) (size_few k K))

module _ {n : ℕ} {t : Tree} (v : Valid n t) (x : Float) {k : ℕ} (K : k < n) (X : T (finite x)) (e : lt (height t k) x ≡ false) where
  -- the walk that looks for none of them counts them
  walk-counts : (walk n n t x no_node k (outset n)).met ≡ length (branches n t x k)
  walk-counts = go (meets-all v x X no_node k K e)
    where
      go : {s : ℕ} → Met no_node (branches n t x k) s (outset n) (walk n n t x no_node k (outset n))
          → (walk n n t x no_node k (outset n)).met ≡ length (branches n t x k)
      go (passes i m s c) = omega arith
      go (stops i c f m) = absurd (omega (arith, v.sized.few))

  -- one that looks for a number among theirs finds the branch that is listed there
  walk-finds : (index : ℕ) → index < length (branches n t x k) → (walk n n t x index k (outset n)).found ≡ get_or (branches n t x k) index 0
  walk-finds index I = go (meets-all v x X index k K e)
    where
      go : {s : ℕ} → Met index (branches n t x k) s (outset n) (walk n n t x index k (outset n))
          → (walk n n t x index k (outset n)).found ≡ get_or (branches n t x k) index 0
      go (passes i m s c) = absurd (omega arith)
      go (stops i c f m) = let z : index - 0 ≡ index = omega arith in f ∙ ap (λ (j : ℕ). get_or (branches n t x k) j 0) z

module _ {t : Tree} (v : Valid (nodes_of t.pairs) t) (x : Float) {k : ℕ} (K : k < nodes_of t.pairs) (X : T (finite x))
    (e : lt (height t k) x ≡ false) where
  -- what is counted is what is listed
  pub counted_is : counted t x k ≡ length (branches (nodes_of t.pairs) t x k)
  unfolding counted
  counted_is = walk-counts v x K X e

  module _ (index : ℕ) (I : index < length (branches (nodes_of t.pairs) t x k)) where
    -- what is picked is what is listed at that number
    pub picked-is : picked t x k index ≡ get_or (branches (nodes_of t.pairs) t x k) index 0
    unfolding picked
    picked-is = walk-finds v x K X e index I

    -- so that it is a branch under the node that spans the height
    pub picked-branch : Branch (nodes_of t.pairs) t x k (picked t x k index)
    picked-branch = branches-sound v x K (index, I, sym picked-is)

-- ---- what is read of a tree

module _ (t : Tree) (x : Float) where
  walk-bare : (d n index k : ℕ) (w : Walk) → walk d n (tree_of t.pairs [] t.heights 0) x index k w ≡ walk d n t x index k w
  unfolding walk height
  walk-bare zero n index k w = refl
  walk-bare (suc d) n index k w = rw (walk-bare d n index (first t k) (look w), walk-bare d n index (second t k) (walk d n t x index (first t k) (look w)))

  -- branches are counted and picked by the pairs and heights alone
  pub counted-bare : (k : ℕ) → counted (tree_of t.pairs [] t.heights 0) x k ≡ counted t x k
  unfolding counted
  counted-bare k = let n = nodes_of t.pairs in ap (λ (w : Walk). w.met) (walk-bare n n no_node k (outset n))

  -- nor does the branch that is picked
  pub picked-bare : (k index : ℕ) → picked (tree_of t.pairs [] t.heights 0) x k index ≡ picked t x k index
  unfolding picked
  picked-bare k index = let n = nodes_of t.pairs in ap (λ (w : Walk). w.found) (walk-bare n n index k (outset n))

  -- a climb goes by the parents, heights and root
  pub climb-bare : (n k : ℕ) → climb n (dates_in t.parents t.heights t.root) x k ≡ climb n t x k
  unfolding climb parent height
  climb-bare zero k = refl
  climb-bare (suc n) k = rw (climb-bare n (parent t k))
