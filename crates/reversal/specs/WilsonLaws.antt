-- WilsonBalding keeps a tree valid (`wilson-keeps`) and, where every child is strictly younger than its parent, is taken back by the old sibling
-- and the old height (`wilson-reverses`). In order: what is known where it does not decline (`Free`); the tree made is valid, and the two ranges have
-- changed places; and the choice that takes it back. Assumes nothing.
use Rattle.std.specs.Prelude.{◌≡◌, ◌≢◌, false, ◌||◌, ℕ, ◌<◌, T, Float}
use Rattle.std.proofs.Common.{sym, ap, ◌∙◌}
use Rattle.std.proofs.Math.Bool.{or-true}
use borrow.Author.Tests.{eqb-false, ne_eqb}
use Rattle.std.proofs.Math.Dec.{eqb}
use Rattle.std.specs.Float.Ieee.{lt, le, eq}
use Rattle.std.specs.Float.Ieee.Bits.{is_true}
use Rattle.std.specs.Float.Ieee.Scale.{finite}
use Rattle.real.specs.Real as Real
use Rattle.real.specs.Real.{max_of}
use Rattle.real.specs.OrderLaws.{lt→le, lt_trans, max-finite, max-le, of-max-le}
use Rattle.tree.specs.Tree.{Tree, parent, height, sibling}
use Rattle.tree.specs.Valid.{Valid, Strict}
use Rattle.accepted.specs.WayLaws.{valid-linked}
use Rattle.edits.specs.SlotLaws.{not-own-parent}
use Rattle.rules.specs.Rules.{WilsonListed, regraft, new_range, old_range, wilson_declines}
use Rattle.rules.specs.Moves.{WilsonBalding}
use Rattle.reversal.specs.IntervalLaws.{within_low, within-high, within-is, within-finite}
use Rattle.reversal.specs.Reversed.{lengths}
use Rattle.reversal.specs.Back.{Keeps, Reverses}
use Rattle.reversal.specs.FamilyLaws.{tip-apart, Sibling, sibling-is, not-over, differ, sibling-below}
use Rattle.reversal.specs.FailedLaws.{or-first, or-second}
use Rattle.reversal.specs.GraftLaws.{Grafts, graft-parent-node, graft-child, graft-three, graft-node, graft-old-sibling, graft-parent, graft-height, graft-sibling, graft-root-same, graft-back}
use Rattle.reversal.specs.GraftValidLaws.{graft-valid}

-- ---- not declined

-- what is known of i and j where the move does not decline
record Free (t : Tree) (i j : ℕ) : Type 0 where
  under_j : j ≢ t.root
  under_parent : parent t i ≢ t.root
  not_sisters : parent t j ≢ parent t i
  not_parent : j ≢ parent t i
  not_child : parent t j ≢ i
  new : eq (new_range t i j) Real.zero ≡ false
  old : eq (old_range t i) Real.zero ≡ false

module _ (t : Tree) (i j : ℕ) where
  -- where the seven tests fail the nodes are free
  freed : wilson_declines t i j ≡ false → Free t i j
  unfolding wilson_declines
  freed e =
      let b1 = eqb j t.root in
      let b2 = eqb (parent t i) t.root in
      let b3 = eqb (parent t j) (parent t i) in
      let b4 = eqb j (parent t i) in
      let b5 = eqb (parent t j) i in
      let b6 = eq (new_range t i j) Real.zero in
      let b7 = eq (old_range t i) Real.zero in
      let e6 = or-first (b1 || b2 || b3 || b4 || b5 || b6) b7 e in
      let e5 = or-first (b1 || b2 || b3 || b4 || b5) b6 e6 in
      let e4 = or-first (b1 || b2 || b3 || b4) b5 e5 in
      let e3 = or-first (b1 || b2 || b3) b4 e4 in
      let e2 = or-first (b1 || b2) b3 e3 in
      record {
        under_j = eqb-false j t.root (or-first b1 b2 e2);
        under_parent = eqb-false (parent t i) t.root (or-second b1 b2 e2);
        not_sisters = eqb-false (parent t j) (parent t i) (or-second (b1 || b2) b3 e3);
        not_parent = eqb-false j (parent t i) (or-second (b1 || b2 || b3) b4 e4);
        not_child = eqb-false (parent t j) i (or-second (b1 || b2 || b3 || b4) b5 e5);
        new = or-second (b1 || b2 || b3 || b4 || b5) b6 e6;
        old = or-second (b1 || b2 || b3 || b4 || b5 || b6) b7 e;
      }

  -- where the nodes are free the seven tests fail
  undeclined : Free t i j → wilson_declines t i j ≡ false
  unfolding wilson_declines
  undeclined f = rw (
    ne_eqb j t.root f.under_j,
    ne_eqb (parent t i) t.root f.under_parent,
    ne_eqb (parent t j) (parent t i) f.not_sisters,
    ne_eqb j (parent t i) f.not_parent,
    ne_eqb (parent t j) i f.not_child,
    f.new,
    f.old,
  )

-- ---- the tree made

module _ {n : ℕ} {t : Tree} (v : Valid n t) {i j : ℕ} {x : Float} (l : WilsonListed n t i j x) (f : Free t i j) where
  abbrev after : Tree
  after = regraft n t i j x

  abbrev grand : ℕ
  grand = parent t (parent t i)

  kin : Sibling n t i (sibling t i)
  kin = sibling-is (valid-linked v) i l.node_i l.under_i

  grafts : Grafts n t i j
  grafts = record {
    node_i = l.node_i;
    under_i = l.under_i;
    node_j = l.node_j;
    not_i = l.apart;
    not_parent = f.not_parent;
    not_sibling = λ e. f.not_sisters (ap (parent t) e ∙ kin.same_parent);
  }

  P : parent t i < n
  P = graft-parent-node v grafts

  Q : parent t j < n
  Q = (v.below j l.node_j f.under_j).parent_node

  -- j is not the root, so its parent is above i
  taller : T (lt (height t i) (height t (parent t j)))
  taller = rw (ne_eqb j t.root f.under_j) at l.host

  -- a height in the interval is finite, and no lower than i and j
  valid : Valid n after
  valid = graft-valid v grafts x X low.0 low.1 (λ d. within-high lower x upper (l.interval d)) (λ d. not-over v i (parent t j) l.node_i Q taller)
    where
      lower : Float
      lower = max_of (height t i) (height t j)

      upper : Float
      upper = height t (parent t j)

      I : T (finite (height t i))
      I = v.dated.number i l.node_i

      J : T (finite (height t j))
      J = v.dated.number j l.node_j

      X : T (finite x)
      X = within-finite lower x upper (max-finite (height t i) (height t j) I J)
          (v.dated.number (parent t j) Q) (l.interval f.under_j)

      low : T (le (height t i) x) × T (le (height t j) x)
      low = of-max-le (height t i) (height t j) x I J X (within_low lower x upper (l.interval f.under_j))

  -- ---- the two ranges

  kept : (c : ℕ) → c ≢ parent t i → height after c ≡ height t c
  kept = graft-height v grafts x

  kept-node : height after i ≡ height t i
  kept-node = kept i (graft-child v grafts)

  kept-sibling : height after (sibling t i) ≡ height t (sibling t i)
  kept-sibling = kept (sibling t i) (graft-three v grafts).ab

  -- the old sibling's new parent has kept its height
  kept-grand : height after (parent after (sibling t i)) ≡ height t grand
  kept-grand = ap (height after) (graft-old-sibling v grafts x) ∙ kept grand (not-own-parent v (parent t i) P f.under_parent)

  -- the new range is the old one
  new-range : new_range after i (sibling t i) ≡ old_range t i
  unfolding new_range old_range
  new-range = rw (kept-grand, kept-node, kept-sibling)

  -- and the old range is the new one
  old-range : old_range after i ≡ new_range t i j
  unfolding new_range old_range
  old-range = rw (graft-sibling v grafts x, graft-node v grafts x, graft-parent v grafts x, kept (parent t j) f.not_sisters)
      (rw (kept-node, kept j f.not_parent))

  -- ---- taken back

  root-same : after.root ≡ t.root
  root-same = graft-root-same v grafts x f.under_parent f.under_j

  -- ---- the way back, where every child is strictly younger than its parent

  module _ (st : Strict n t) where
    below-grand : T (lt (height t i) (height t grand))
    below-grand =
        let G : T (finite (height t grand)) = v.dated.number grand (v.below (parent t i) P f.under_parent).parent_node in
        lt_trans (height t i) (height t (parent t i)) (height t grand) (v.dated.number i l.node_i) (v.dated.number (parent t i) P) G
        (st i l.node_i l.under_i) (st (parent t i) P f.under_parent)

    -- the old sibling and the old height are in the lists
    wilson_listed : WilsonListed n after i (sibling t i) (height t (parent t i))
    wilson_listed = record {
      node_i = l.node_i;
      node_j = kin.node;
      under_i = λ e. l.under_i (e ∙ root-same);
      apart = kin.apart;
      host = rw (kept-grand, kept-node, is_true (lt (height t i) (height t grand)) below-grand, or-true (eqb (sibling t i) after.root)) tt;
      interval = λ _. rw (kept-node, kept-sibling, kept-grand)
          (within-is (max_of (height t i) (height t (sibling t i))) (height t (parent t i)) (height t grand)
          (max-le (height t i) (height t (sibling t i)) (height t (parent t i)) (v.dated.ordered i l.node_i l.under_i)
          (lt→le (height t (sibling t i)) (height t (parent t i)) (sibling-below v st i l.node_i l.under_i)))
          (v.dated.ordered (parent t i) P f.under_parent));
    }

    -- nothing declines them
    wilson-free : Free after i (sibling t i)
    wilson-free = record {
      under_j = λ e. kin.under (e ∙ root-same);
      under_parent = λ e. f.under_parent (sym (graft-node v grafts x) ∙ e ∙ root-same);
      not_sisters = λ e. not-own-parent v (parent t i) P f.under_parent (sym (graft-old-sibling v grafts x) ∙ e ∙ graft-node v grafts x);
      not_parent = λ e. (graft-three v grafts).ab (e ∙ graft-node v grafts x);
      not_child = λ e. differ t i grand below-grand (sym (graft-old-sibling v grafts x) ∙ e);
      new = rw new-range f.old;
      old = rw old-range f.new;
    }

-- the tree made is valid, with the tips' ages
pub wilson-keeps : Keeps WilsonBalding
wilson-keeps n t v c l e = record {
  valid = valid v l (freed t c.i c.j e);
  tips = λ k h. kept v l (freed t c.i c.j e) k (tip-apart (valid-linked v) c.i l.node_i l.under_i k h);
}

-- the old sibling and the old height take WilsonBalding back
pub wilson-reverses : Reverses WilsonBalding
wilson-reverses n t v st c l e = record {
  kept = wilson-keeps n t v c l e;
  listed = wilson_listed v l f st;
  free = undeclined (regraft n t c.i c.j c.height) c.i (sibling t c.i) (wilson-free v l f st);
  tree = graft-back v (grafts v l f) c.height;
  ratio = rw (new-range v l f, old-range v l f) lengths;
}
  where
    f : Free t c.i c.j
    f = freed t c.i c.j e
