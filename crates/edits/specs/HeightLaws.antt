-- Other heights. A tree with another list of heights has the shape and the ways up to the root (`redated-shaped`, `redated-reach`), and is valid where
-- its heights are in order (`redated-valid`). A node's new height: the shape, the parents, the root and the ways up to it stay (`set-shaped` to
-- `set-reach`), the node has the height and the others keep theirs (`height-same`, `height-other`), and the old height put back gives the old tree
-- (`set_back`). Assumes nothing.
use Rattle.std.specs.Prelude.{◌≡◌, ◌≢◌, List, ℕ, ◌<◌, length, set, Float}
use Rattle.std.proofs.Math.Path.{refl}
use Rattle.std.proofs.Common.{◌∙◌, length-set, set-set}
use Rattle.std.proofs.Math.Seq.{get_or-set_same, get_or-set_other, set-get_or}
use Rattle.std.specs.Float.Ieee.{nan}
use Rattle.tree.specs.Tree.{Tree, parent, height}
use Rattle.tree.specs.Given.{tree_of}
use Rattle.tree.specs.Valid.{Reach, here, up, Dated, Valid}
use Rattle.edits.specs.Slots.{content, set_height}
use Rattle.edits.specs.SlotLaws.{Shaped, valid-shaped, shaped-valid}

-- ---- another list of heights

module _ (t : Tree) (hs : List Float) where
  -- every node stands where it stood
  pub redated-shaped : {n : ℕ} {σ : ℕ → ℕ} → length hs ≡ n → Shaped n t σ → Shaped n (tree_of t.pairs t.parents hs t.root) σ
  unfolding content parent
  redated-shaped l s = record {
    sized = record { some = s.sized.some; few = s.sized.few; odd = s.sized.odd; pairs = s.sized.pairs; parents = s.sized.parents; heights = l };
    tip = s.tip;
    slot = s.slot;
    holds = s.holds;
    above = s.above;
    node = s.node;
    stands = s.stands;
  }

  -- a way up to the root is one still
  pub redated-reach : {c : ℕ} → Reach t c → Reach (tree_of t.pairs t.parents hs t.root) c
  unfolding parent
  redated-reach (here e) = here e
  redated-reach (up d r) = up d (redated-reach r)

  -- so a valid tree stays one where the new heights are in order
  pub redated-valid : {n : ℕ} → Valid n t → length hs ≡ n → Dated n (tree_of t.pairs t.parents hs t.root)
      → Valid n (tree_of t.pairs t.parents hs t.root)
  redated-valid v l = shaped-valid (redated-shaped l (valid-shaped v)) (λ c C. redated-reach (v.joined c C))

-- ---- one new height

module _ (t : Tree) (k : ℕ) (x : Float) where
  -- every node stands where it stood
  pub set-shaped : {n : ℕ} {σ : ℕ → ℕ} → Shaped n t σ → Shaped n (set_height t k x) σ
  unfolding set_height
  set-shaped s = redated-shaped t (set t.heights k x) (length-set t.heights k x ∙ s.sized.heights) s

  -- every node keeps its parent
  pub set-parent : (c : ℕ) → parent (set_height t k x) c ≡ parent t c
  unfolding set_height parent
  set-parent c = refl

  -- the root stays the root
  pub set-root : (set_height t k x).root ≡ t.root
  unfolding set_height
  set-root = refl

  -- a way up to the root is one still
  pub set-reach : {c : ℕ} → Reach t c → Reach (set_height t k x) c
  unfolding set_height
  set-reach = redated-reach t (set t.heights k x)

  -- the node has the new height
  pub height-same : k < length t.heights → height (set_height t k x) k ≡ x
  unfolding set_height height
  height-same h = get_or-set_same t.heights k x nan h

  -- the others have theirs
  pub height-other : (c : ℕ) → c ≢ k → height (set_height t k x) c ≡ height t c
  unfolding set_height height
  height-other c d = get_or-set_other t.heights k c x nan d

  -- the old height put back gives the old tree
  pub set_back : set_height (set_height t k x) k (height t k) ≡ t
  unfolding set_height height
  set_back = λ i. record {
    pairs = t.pairs;
    parents = t.parents;
    heights = (set-set t.heights k x (height t k) ∙ set-get_or t.heights k nan) i;
    root = t.root;
  }
