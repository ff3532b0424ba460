-- NodeHeight keeps a tree valid (`node-height-keeps`) and is taken back by the node's old height (`node-height-reverses`): the new height lies between
-- those of the children and of the parent, and these keep theirs, between which the old one lay. Assumes nothing.
use Rattle.std.specs.Prelude.{◌≡◌, ◌≢◌, ℕ, ◌+◌, ◌<◌, T, Float}
use Rattle.std.proofs.Common.{sym, ap, ◌∙◌, subst, arith}
use Rattle.std.specs.Float.Ieee.{le}
use Rattle.std.specs.Float.Ieee.Scale.{finite}
use Rattle.real.specs.OrderLaws.{max-finite, max-le, of-max-le}
use Rattle.tree.specs.Tree.{Tree, first, second, parent, height}
use Rattle.tree.specs.Valid.{Inner, Valid}
use Rattle.edits.specs.Slots.{set_height}
use Rattle.edits.specs.SlotLaws.{not_root, not-own-parent}
use Rattle.edits.specs.HeightLaws.{set-parent, height-other, set_back}
use Rattle.rules.specs.Rules.{floor, NodeHeightListed}
use Rattle.rules.specs.Moves.{NodeHeight}
use Rattle.reversal.specs.IntervalLaws.{within_low, within-high, within-is, within-finite}
use Rattle.reversal.specs.Reversed.{even}
use Rattle.reversal.specs.Back.{Keeps, Reverses}
use Rattle.reversal.specs.DatedLaws.{set-valid}

module _ {n : ℕ} {t : Tree} (v : Valid n t) (k : ℕ) (x : Float) (l : NodeHeightListed n t k x) where
  kids : Inner n t k
  kids = v.inner k l.node l.internal

  A : T (finite (height t (first t k)))
  A = v.dated.number (first t k) kids.first_node

  B : T (finite (height t (second t k)))
  B = v.dated.number (second t k) kids.second_node

  number : T (finite x)
  number =
      let H = v.dated.number (parent t k) (v.below k l.node l.under).parent_node in
      within-finite (floor t k) x (height t (parent t k)) (max-finite (height t (first t k)) (height t (second t k)) A B) H l.interval

  -- the tree made is valid
  valid : Valid n (set_height t k x)
  valid =
      let m = of-max-le (height t (first t k)) (height t (second t k)) x A B number (within_low (floor t k) x (height t (parent t k)) l.interval) in
      set-valid v k l.node l.internal x number m.0 m.1 (λ d. within-high (floor t k) x (height t (parent t k)) l.interval)

  own : parent t k ≢ k
  own = not-own-parent v k l.node l.under

  -- a child keeps its height, which was not above the old one
  kid-low : (c : ℕ) → c < n → parent t c ≡ k → T (le (height (set_height t k x) c) (height t k))
  kid-low c C e = rw (height-other t k x c apart)
      (subst (λ (m : ℕ). T (le (height t c) (height t m))) e (v.dated.ordered c C (not_root v c k l.node e)))
    where
      apart : c ≢ k
      apart f = own (sym (ap (parent t) f) ∙ e)

  -- the old height is listed in the tree made
  listed : NodeHeightListed n (set_height t k x) k (height t k)
  unfolding set_height
  listed =
      let a = kid-low (first t k) kids.first_node kids.first_parent in
      let b = kid-low (second t k) kids.second_node kids.second_parent in
      record {
        node = l.node;
        internal = l.internal;
        under = l.under;
        interval = within-is (floor (set_height t k x) k) (height t k) (height (set_height t k x) (parent (set_height t k x) k))
            (max-le _ _ (height t k) a b)
            (rw (set-parent t k x k, height-other t k x (parent t k) own) (v.dated.ordered k l.node l.under));
      }

-- the tree made is valid, with the tips' ages
pub node-height-keeps : Keeps NodeHeight
node-height-keeps n t v c l free = record {
  valid = valid v c.node c.height l;
  tips = λ k h. height-other t c.node c.height k (let i : n < c.node + c.node = l.internal in omega arith);
}

-- NodeHeight with the old height takes it back
pub node-height-reverses : Reverses NodeHeight
node-height-reverses n t v st c l free = record {
  kept = node-height-keeps n t v c l free;
  listed = listed v c.node c.height l;
  free = free;
  tree = set_back t c.node c.height;
  ratio = even;
}
