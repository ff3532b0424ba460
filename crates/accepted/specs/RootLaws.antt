-- The root of a valid tree is an internal node (`root-inner`), and no height is above its own (`root-highest`). Assumes nothing.
use Rattle.std.specs.Prelude.{◌≢◌, ℕ, ◌+◌, ◌<◌, T}
use Rattle.std.proofs.Common.{arith}
use Rattle.std.proofs.Math.Decide.{ℕ_discrete}
use Rattle.std.specs.Float.Ieee.{le}
use Rattle.real.specs.OrderLaws.{le_refl, le_trans}
use Rattle.tree.specs.Tree.{Tree, parent, height}
use Rattle.tree.specs.Valid.{Valid, Reach, here, up}

module _ {n : ℕ} {t : Tree} (v : Valid n t) where
  -- a way up to the root from another node ends with a child of the root
  topped : {c : ℕ} → Reach t c → c ≢ t.root → c < n → n < t.root + t.root
  topped (here e) d C = absurd (d e)
  topped {c} (up e r) d C =
      let b = v.below c C d in
      elim (ℕ_discrete (parent t c) t.root) [ yes p ↦ rw p at b.parent_inner | no q ↦ topped r q b.parent_node ]

  -- there are three nodes or more, so one of the first two is not the root
  pub root-inner : n < t.root + t.root
  root-inner =
      let some = v.sized.some in
      elim (ℕ_discrete 0 t.root) [ yes p ↦ topped (v.joined 1 (omega arith)) (λ q. omega arith) (omega arith) | no d ↦ topped (v.joined 0 (omega arith)) d (omega arith) ]

  -- heights do not fall on the way up to the root
  rising : {c : ℕ} → Reach t c → c < n → T (le (height t c) (height t t.root))
  rising (here e) C = rw e (le_refl (height t t.root) (v.dated.number t.root v.root_node))
  rising {c} (up d r) C =
      let p = (v.below c C d).parent_node in
      le_trans (height t c) (height t (parent t c)) (height t t.root) (v.dated.number c C) (v.dated.number (parent t c) p)
      (v.dated.number t.root v.root_node) (v.dated.ordered c C d) (rising r p)

  -- no height is above the root's
  pub root-highest : (c : ℕ) → c < n → T (le (height t c) (height t t.root))
  root-highest c C = rising (v.joined c C) C
