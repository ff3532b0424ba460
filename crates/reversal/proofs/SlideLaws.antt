-- SubtreeSlide is undone by SubtreeSlide: on each of its ways the returning choice gives the tree back (`slide-reverses`), with the index 0 where
-- it picks no branch (`index-unused`). Assumes nothing.
use Rattle.std.specs.Prelude.{◌≡◌, ◌≢◌, true, false, ℕ, Float}
use Rattle.std.proofs.Math.Path.{refl}
use Rattle.std.proofs.Math.Dec.{T}
use Rattle.std.specs.Float.Ieee.{lt, le}
use Rattle.real.specs.OrderLaws.{lt→le, le_trans}
use Rattle.tree.specs.Tree.{Tree, parent, height, sibling}
use Rattle.tree.specs.Valid.{Valid, Strict}
use Rattle.rules.specs.Rules.{rises, lowers, slid, slide_ratio}
use Rattle.rules.specs.Moves.{SubtreeSlide, Choice, Listed, declines, made, ratio_of}
use Rattle.reversal.specs.Reversed.{returning_in}
use Rattle.reversal.specs.Back.{Reverses}
use Rattle.reversal.specs.FailedLaws.{passed, lt-false}
use Rattle.reversal.specs.BranchLaws.{Climb, stops, goes, branches-sound}
use Rattle.reversal.specs.SlideWayLaws.{Slides, up, level, down, slides, slid-only, ratio-only, slid-onto, ratio-up, ratio-down, Returns, returns-back}
use Rattle.reversal.specs.SlideValidLaws.{down-apart, up-over, up-within, slide-keeps}
use Rattle.reversal.specs.SlideHeightLaws.{Sliding, parent_node, sibling-kin, number-node, number-parent, number-sibling, number-grand, node-low, sibling-low, height-returns}
use Rattle.reversal.proofs.SlideUpLaws.{up-away, up-returns}
use Rattle.reversal.proofs.SlideDownLaws.{down-returns}

module _ {n : ℕ} {t : Tree} {i : ℕ} {x : Float} (g : Sliding n t i x) (index : ℕ) where
  Returned : Type 0
  Returned = Returns n t i (slid n t i x index) (slide_ratio n t i x index)

  -- only the height changes
  by_height : {j : ℕ} → Slides n t i x index j → j ≡ parent t i → T (le (height t i) x) → T (le (height t (sibling t i)) x)
      → (parent t i ≢ t.root → T (le x (height t (parent t (parent t i))))) → Returned
  unfolding Returned
  by_height s e a b h =
      let P = parent_node g in
      rw (slid-only g.valid P s e, ratio-only g.valid P s e) (height-returns g a b h)

  -- upwards
  rising : {j : ℕ} → rises t i x ≡ true → Climb t x (parent t i) j → Returned
  unfolding Returned
  rising r (stops e) =
      let p = passed (rises t i x) r in
      let over = up-over g.valid g.node g.under g.number p (stops e) in
      by_height (up r (stops e)) refl (over i g.node (lt→le (height t i) (height t (parent t i)) (node-low g)))
      (over (sibling t i) (sibling-kin g).node (lt→le (height t (sibling t i)) (height t (parent t i)) (sibling-low g)))
      (up-within g.valid g.node g.under g.number p (stops e))
  rising {j} r (goes d q c) =
      let P = parent_node g in
      let s : Slides n t i x index j = up r (goes d q c) in
      let a = up-away g d q c in
      rw (slid-onto g.valid P s a, ratio-up g.valid P s a r (slid-onto g.valid P s a)) (up-returns g d q c)

  -- each way
  returned : {j : ℕ} → Slides n t i x index j → Returned
  unfolding Returned
  returned (up r c) = rising r c
  returned (level r a b) = by_height (level r a b) refl (lt-false x (height t i) g.number (number-node g) a)
      (lt-false x (height t (sibling t i)) g.number (number-sibling g) b)
      (λ d. le_trans _ _ _ g.number (number-parent g) (number-grand g d) (lt-false (height t (parent t i)) x (number-parent g) g.number r)
      (g.valid.dated.ordered (parent t i) (parent_node g) d))
  returned {j} (down r a b k e) =
      let P = parent_node g in
      let s : Slides n t i x index j = down r a b k e in
      let low : T (le (height t i) x) = lt-false x (height t i) g.number (number-node g) a in
      let q : T (lt x (height t (sibling t i))) = passed _ b in
      let y = branches-sound g.valid x (sibling-kin g).node (index, k, e) in
      let d = down-apart g.valid g.node g.under y in
      rw (slid-onto g.valid P s d, ratio-down g.valid P s d r) (down-returns g low q y)

module _ {n : ℕ} {t : Tree} (v : Valid n t) (st : Strict n t) (c : Choice SubtreeSlide) (l : Listed n SubtreeSlide t c)
    (f : declines n SubtreeSlide t c ≡ false) where
  admitted : Returns n t c.node (made n SubtreeSlide t c) (ratio_of n SubtreeSlide t c)
  unfolding Returned
  admitted =
      let g : Sliding n t c.node c.height = record { valid = v; strict = st; node = l.node; under = l.under; number = l.number } in
      returned g c.index (slides v l f)

  -- the returning slide's index is 0 where it picks no branch
  pub index-unused : lowers (made n SubtreeSlide t c) c.node (height t (parent t c.node)) ≡ false → (returning_in n SubtreeSlide t c).index ≡ 0
  index-unused = admitted.unused

-- an admitted slide is undone by the returning one
pub slide-reverses : Reverses SubtreeSlide
slide-reverses n t v st c l f = returns-back v l.node l.under (slide-keeps n t v c l f) (admitted v st c l f)
