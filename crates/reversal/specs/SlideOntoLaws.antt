-- A slide of i's parent P onto the branch over j, up or down. In order: P's height in the tree made (`onto-height`), and that a slide there back onto
-- the old sibling's branch returns: one down for a slide up (`returns-down`), one up for a slide down (`returns-up`). Assumes nothing.
use Rattle.std.specs.Prelude.{◌≡◌, ◌≢◌, true, false, ℕ, ◌<◌, T, length, Float}
use Rattle.std.proofs.Common.{sym, ◌∙◌, subst}
use Rattle.std.specs.Float.Ieee.{lt}
use Rattle.std.specs.Float.Ieee.Bits.{is_true}
use Rattle.answer.specs.declared.Ratio.{Ratio}
use Rattle.answer.specs.declared.Ratio.TheVariants.{Counts}
use Rattle.tree.specs.Tree.{Tree, parent, height, sibling}
use Rattle.tree.specs.Valid.{Valid}
use Rattle.rules.specs.Rules.{regraft, lowers, branches, slid, slide_ratio}
use Rattle.reversal.specs.Reversed.{Turned, counts}
use Rattle.reversal.specs.GraftLaws.{Grafts, graft-node, graft-height, graft-at, graft-sibling, graft-under, graft-back}
use Rattle.reversal.specs.SlideWayLaws.{Slides, slid-onto, ratio-up, ratio-down, back_index, back_none, Returns}
use Rattle.reversal.specs.SlideHeightLaws.{Sliding, parent_node, sibling-kin, number-parent, node-apart, sibling-apart}

module _ {n : ℕ} {t : Tree} {i : ℕ} {x : Float} (g : Sliding n t i x) {j : ℕ} (a : Grafts n t i j) where
  node : parent (regraft n t i j x) i < n
  node = rw (graft-node g.valid a x) (parent_node g)

  apart : sibling t i ≢ parent (regraft n t i j x) i
  apart = rw (graft-node g.valid a x) (sibling-apart g)

  -- P has the new height
  pub onto-height : height (regraft n t i j x) (parent (regraft n t i j x) i) ≡ x
  onto-height = rw (graft-node g.valid a x) (graft-at g.valid a x)

  module _ (v : Valid n (regraft n t i j x))
      (s : Slides n (regraft n t i j x) i (height t (parent t i)) (back_index n t (regraft n t i j x) i) (sibling t i)) where
    tree : slid n (regraft n t i j x) i (height t (parent t i)) (back_index n t (regraft n t i j x) i) ≡ t
    tree = slid-onto v node s apart ∙ graft-back g.valid a x

    returns : {r : Ratio} → Turned r (slide_ratio n (regraft n t i j x) i (height t (parent t i)) (back_index n t (regraft n t i j x) i))
        → (lowers (regraft n t i j x) i (height t (parent t i)) ≡ false → back_index n t (regraft n t i j x) i ≡ 0)
        → Returns n t i (regraft n t i j x) r
    returns q z = record {
      under = graft-under g.valid a x i g.under (λ e. (sibling-kin g).apart (sym e)) (node-apart g);
      to = sibling t i;
      way = s;
      tree = tree;
      ratio = q;
      unused = z;
    }

    -- where the new height is not below the old, and j is above it, it returns downwards and picks a branch
    pub returns-down : lt x (height t (parent t i)) ≡ false → T (lt (height t (parent t i)) (height t j))
        → Returns n t i (regraft n t i j x)
        (Counts 1 (length (branches n (regraft n t i j x) (height t (parent t i)) (sibling (regraft n t i j x) i))))
    returns-down h low = returns (rw (ratio-down v node s apart (rw onto-height h)) counts) (λ e. absurd (subst T (sym picks ∙ e) tt))
      where
        picks : lowers (regraft n t i j x) i (height t (parent t i)) ≡ true
        picks = rw (onto-height, h, graft-sibling g.valid a x, graft-height g.valid a x j a.not_parent, is_true (lt (height t (parent t i)) (height t j)) low)

    -- where it is below the old, and so is j, it returns upwards and picks none
    pub returns-up : lt x (height t (parent t i)) ≡ true → T (lt (height t j) (height t (parent t i)))
        → Returns n t i (regraft n t i j x) (Counts (length (branches n t x (sibling t i))) 1)
    returns-up h low = returns (rw (ratio-up v node s apart (rw onto-height h) tree, onto-height) counts) (λ _. back_none v t i new (number-parent g) below)
      where
        new : sibling (regraft n t i j x) i < n
        new = rw (graft-sibling g.valid a x) a.node_j

        below : T (lt (height (regraft n t i j x) (sibling (regraft n t i j x) i)) (height t (parent t i)))
        below = rw (graft-sibling g.valid a x, graft-height g.valid a x j a.not_parent) low
