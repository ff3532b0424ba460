-- A slide of i's parent P to the height x. In order: what is given (`Sliding`), and the nodes around P and their heights; and the ways on which
-- only the height changes, up or down, which the returning slide undoes likewise (`height-returns`). Assumes nothing.
use Rattle.std.specs.Prelude.{◌≡◌, refl, ◌≢◌, ◌⊎◌, Bool, true, false, not, ℕ, ◌<◌, T, Float}
use Rattle.std.proofs.Common.{sym, ◌∙◌, inl, inr}
use Rattle.std.proofs.Math.Decide.{ℕ_discrete}
use Rattle.std.specs.Float.Ieee.{lt, le}
use Rattle.std.specs.Float.Ieee.Scale.{finite}
use Rattle.answer.specs.declared.Ratio.TheVariants.{Even}
use Rattle.real.specs.OrderLaws.{lt→le}
use Rattle.tree.specs.Tree.{Tree, parent, height, sibling}
use Rattle.tree.specs.Valid.{Valid, Strict}
use Rattle.accepted.specs.WayLaws.{valid-linked}
use Rattle.edits.specs.Slots.{set_height}
use Rattle.edits.specs.SlotLaws.{not-own-parent}
use Rattle.edits.specs.HeightLaws.{set-parent, set-root, set_back, height-other}
use Rattle.reversal.specs.Reversed.{even}
use Rattle.reversal.specs.FailedLaws.{failed, le-nlt}
use Rattle.reversal.specs.FamilyLaws.{Sibling, sibling-is, sibling-below, differ}
use Rattle.reversal.specs.DatedLaws.{height-at}
use Rattle.reversal.specs.BranchLaws.{stops}
use Rattle.reversal.specs.SlideValidLaws.{own-valid}
use Rattle.reversal.specs.SlideWayLaws.{Slides, up, level, slid-only, ratio-only, back_index, back_none, Returns}

-- ---- around P

-- i is a node with a parent in a strictly dated tree, and x a number
pub record Sliding (n : ℕ) (t : Tree) (i : ℕ) (x : Float) : Type 0 where
  pub valid : Valid n t
  pub strict : Strict n t
  pub node : i < n
  pub under : i ≢ t.root
  pub number : T (finite x)

module _ {n : ℕ} {t : Tree} {i : ℕ} {x : Float} (g : Sliding n t i x) where
  -- P is a node
  pub parent_node : parent t i < n
  parent_node = (g.valid.below i g.node g.under).parent_node

  -- the sibling is P's other child
  pub sibling-kin : Sibling n t i (sibling t i)
  sibling-kin = sibling-is (valid-linked g.valid) i g.node g.under

  -- P's parent is a node
  pub grand-node : parent t i ≢ t.root → parent t (parent t i) < n
  grand-node d = (g.valid.below (parent t i) parent_node d).parent_node

  -- i's height is a number
  pub number-node : T (finite (height t i))
  number-node = g.valid.dated.number i g.node

  -- P's height is a number
  pub number-parent : T (finite (height t (parent t i)))
  number-parent = g.valid.dated.number (parent t i) parent_node

  -- the sibling's height is a number
  pub number-sibling : T (finite (height t (sibling t i)))
  number-sibling = g.valid.dated.number (sibling t i) sibling-kin.node

  -- the height of P's parent is a number
  pub number-grand : parent t i ≢ t.root → T (finite (height t (parent t (parent t i))))
  number-grand d = g.valid.dated.number (parent t (parent t i)) (grand-node d)

  -- i is below P
  pub node-low : T (lt (height t i) (height t (parent t i)))
  node-low = g.strict i g.node g.under

  -- the sibling is below P
  pub sibling-low : T (lt (height t (sibling t i)) (height t (parent t i)))
  sibling-low = sibling-below g.valid g.strict i g.node g.under

  -- P is below its parent
  pub parent-low : parent t i ≢ t.root → T (lt (height t (parent t i)) (height t (parent t (parent t i))))
  parent-low d = g.strict (parent t i) parent_node d

  -- so i is not P
  pub node-apart : i ≢ parent t i
  node-apart e = differ t i (parent t i) node-low (sym e)

  -- nor is the sibling
  pub sibling-apart : sibling t i ≢ parent t i
  sibling-apart e = differ t (sibling t i) (parent t i) sibling-low (sym e)

  -- nor is P's parent
  pub grand-apart : parent t i ≢ t.root → parent t (parent t i) ≢ parent t i
  grand-apart d = not-own-parent g.valid (parent t i) parent_node d

  -- P's old height is not below i
  pub old-over-node : lt (height t (parent t i)) (height t i) ≡ false
  old-over-node =
      let P = height t (parent t i) in
      let I = height t i in
      le-nlt P I number-parent number-node (lt→le I P node-low)

  -- nor below the sibling
  old-over-sibling : lt (height t (parent t i)) (height t (sibling t i)) ≡ false
  old-over-sibling =
      let P = height t (parent t i) in
      let S = height t (sibling t i) in
      le-nlt P S number-parent number-sibling (lt→le S P sibling-low)

  -- and P's parent is not below it
  pub old-under-grand : (d : parent t i ≢ t.root) → T (not (lt (height t (parent t (parent t i))) (height t (parent t i))))
  old-under-grand d =
      let G = height t (parent t (parent t i)) in
      let P = height t (parent t i) in
      failed (lt G P) (le-nlt G P (number-grand d) number-parent (lt→le P G (parent-low d)))

-- ---- only the height changes

-- the siblings stay siblings
set-sibling : (t : Tree) (k : ℕ) (x : Float) (i : ℕ) → sibling (set_height t k x) i ≡ sibling t i
unfolding sibling parent set_height
set-sibling t k x i = refl

abbrev only : Tree → ℕ → Float → Tree
only t i x = set_height t (parent t i) x

module _ {n : ℕ} {t : Tree} {i : ℕ} {x : Float} (g : Sliding n t i x) (a : T (le (height t i) x)) (b : T (le (height t (sibling t i)) x))
    (h : parent t i ≢ t.root → T (le x (height t (parent t (parent t i))))) where
  only-valid : Valid n (only t i x)
  only-valid = own-valid g.valid g.node g.under x g.number a b h

  at-parent : height (only t i x) (parent (only t i x) i) ≡ x
  at-parent = rw (set-parent t (parent t i) x i) (height-at n t g.valid.sized.heights (parent t i) (parent_node g) x)

  elsewhere : (c : ℕ) → c ≢ parent t i → height (only t i x) c ≡ height t c
  elsewhere = height-other t (parent t i) x

  -- the slide back up goes no further than P
  no-further : (parent t i ≡ (only t i x).root) ⊎ T (not (lt (height (only t i x) (parent (only t i x) (parent t i))) (height t (parent t i))))
  no-further = elim (ℕ_discrete (parent t i) t.root) [
    | yes e ↦ inl (e ∙ sym (set-root t (parent t i) x))
    | no d ↦ inr (rw (set-parent t (parent t i) x (parent t i), elsewhere (parent t (parent t i)) (grand-apart g d)) (old-under-grand g d))
  ]

  only-way : (k : ℕ) → Slides n (only t i x) i (height t (parent t i)) k (parent (only t i x) i)
  only-way k = test (lt x (height t (parent t i))) refl
    where
      test : (s : Bool) → lt x (height t (parent t i)) ≡ s → Slides n (only t i x) i (height t (parent t i)) k (parent (only t i x) i)
      test true e = up {j = parent (only t i x) i} (rw at-parent e) (rw (set-parent t (parent t i) x i) (stops no-further))
      test false e = level (rw at-parent e) (rw (elsewhere i (node-apart g)) (old-over-node g))
          (rw (set-sibling t (parent t i) x i, elsewhere (sibling t i) (sibling-apart g)) (old-over-sibling g))

  -- between its children and its parent P can go back to its old height
  pub height-returns : Returns n t i (set_height t (parent t i) x) Even
  height-returns = record {
    under = λ e. g.under (e ∙ set-root t (parent t i) x);
    to = parent (only t i x) i;
    way = only-way (back_index n t (only t i x) i);
    tree = slid-only only-valid P (only-way (back_index n t (only t i x) i)) refl ∙ rw (set-parent t (parent t i) x i) (set_back t (parent t i) x);
    ratio = rw (ratio-only only-valid P (only-way (back_index n t (only t i x) i)) refl) even;
    unused = λ _. back_none only-valid t i (rw same (sibling-kin g).node) (number-parent g) (rw (same, elsewhere (sibling t i) (sibling-apart g)) (sibling-low g));
  }
    where
      same : sibling (only t i x) i ≡ sibling t i
      same = set-sibling t (parent t i) x i

      P : parent (only t i x) i < n
      P = rw (set-parent t (parent t i) x i) (parent_node g)
