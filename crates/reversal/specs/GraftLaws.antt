-- A node's parent that goes onto another branch (`regraft` of rules/Rules). In order: what is asked of the node and the branch (`Grafts`); the
-- three nodes that move; the shape after (`graft-shaped`); the parents and the heights; which node is the root, and which are not; the new
-- sibling; and how it is undone (`graft-back`). That the tree stays valid is in GraftValidLaws. Assumes nothing.
use Rattle.std.specs.Prelude.{◌≡◌, refl, ◌≢◌, ℕ, ◌<◌, Float}
use Rattle.std.proofs.Common.{sym, ap, ◌∙◌}
use Rattle.std.proofs.Math.Decide.{ℕ_discrete}
use Rattle.tree.specs.Tree.{Tree, parent, height, sibling}
use Rattle.tree.specs.Valid.{Valid}
use Rattle.accepted.specs.WayLaws.{valid-linked}
use Rattle.edits.specs.Slots.{slot_of, put, rotate, set_height}
use Rattle.edits.specs.SlotLaws.{Shaped, valid-shaped, not-own-parent}
use Rattle.edits.specs.TurnLaws.{Three, around, turn3, turn3-a, turn3-b, turn3-c, turn3-other, rotate-shaped, parent-rotate, root-rotate, height-rotate, rotate-back}
use Rattle.edits.specs.HeightLaws.{set-shaped, set-parent, set-root, set_back, height-other}
use Rattle.rules.specs.Rules.{regraft}
use Rattle.reversal.specs.FamilyLaws.{shaped-linked, Sibling, sibling-is, sibling-only}
use Rattle.reversal.specs.DatedLaws.{height-at}

-- what is asked of i and of the branch over j onto which i's parent goes
pub record Grafts (n : ℕ) (t : Tree) (i j : ℕ) : Type 0 where
  pub node_i : i < n
  pub under_i : i ≢ t.root
  pub node_j : j < n
  pub not_i : j ≢ i
  pub not_parent : j ≢ parent t i
  pub not_sibling : j ≢ sibling t i

-- ---- the three nodes that move

module _ {n : ℕ} {t : Tree} (v : Valid n t) {i j : ℕ} (g : Grafts n t i j) where
  -- the sibling is the other child of i's parent
  pub graft-kin : Sibling n t i (sibling t i)
  graft-kin = sibling-is (valid-linked v) i g.node_i g.under_i

  -- i's parent is a node
  pub graft-parent-node : parent t i < n
  graft-parent-node = (v.below i g.node_i g.under_i).parent_node

  -- i is not its parent
  pub graft-child : i ≢ parent t i
  graft-child e = not-own-parent v i g.node_i g.under_i (sym e)

  -- the sibling, the parent and j are three
  pub graft-three : Three n (sibling t i) (parent t i) j
  graft-three = record {
    node_a = graft-kin.node;
    node_b = graft-parent-node;
    node_c = g.node_j;
    ab = λ e. not-own-parent v (sibling t i) graft-kin.node graft-kin.under (graft-kin.same_parent ∙ sym e);
    bc = λ e. g.not_parent (sym e);
    ca = g.not_sibling;
  }

-- ---- the tree after

-- a height has no part in where the nodes stand
rotate-set : (n : ℕ) (t : Tree) (k : ℕ) (x : Float) (a b c : ℕ) → rotate n (set_height t k x) a b c ≡ set_height (rotate n t a b c) k x
unfolding rotate put slot_of parent set_height
rotate-set n t k x a b c = refl

-- what `regraft` is, as one step
regraft-is : (n : ℕ) (t : Tree) (i j : ℕ) (x : Float) → regraft n t i j x ≡ set_height (rotate n t (sibling t i) (parent t i) j) (parent t i) x
unfolding regraft
regraft-is n t i j x = refl

module _ {n : ℕ} {t : Tree} (v : Valid n t) {i j : ℕ} (g : Grafts n t i j) (x : Float) where
  -- the tree before the parent has its height
  abbrev moved : Tree
  moved = rotate n t (sibling t i) (parent t i) j

  three : Three n (sibling t i) (parent t i) j
  three = graft-three v g

  -- the sibling stands in the parent's slot, the parent in j's and j in the sibling's
  pub graft-shaped : Shaped n (regraft n t i j x) (λ c. slot_of n t (turn3 (sibling t i) (parent t i) j c))
  unfolding regraft
  graft-shaped = set-shaped moved (parent t i) x (rotate-shaped (valid-shaped v) three)

  -- ---- the parents

  turned : (c : ℕ) → c < n → parent (regraft n t i j x) c ≡ parent t (turn3 (sibling t i) (parent t i) j c)
  unfolding regraft
  turned c C = set-parent moved (parent t i) x c ∙ parent-rotate (valid-shaped v) three c C

  -- j is under i's parent
  pub graft-lower : parent (regraft n t i j x) j ≡ parent t i
  graft-lower = turned j g.node_j ∙ ap (parent t) (turn3-c three) ∙ (graft-kin v g).same_parent

  -- the old sibling is under what was above the parent
  pub graft-old-sibling : parent (regraft n t i j x) (sibling t i) ≡ parent t (parent t i)
  graft-old-sibling = turned (sibling t i) (graft-kin v g).node ∙ ap (parent t) (turn3-a three)

  -- the parent is under what was above j
  pub graft-parent : parent (regraft n t i j x) (parent t i) ≡ parent t j
  graft-parent = turned (parent t i) (graft-parent-node v g) ∙ ap (parent t) (turn3-b three)

  -- the others keep their parents
  pub graft-other : (c : ℕ) → c < n → c ≢ sibling t i → c ≢ parent t i → c ≢ j → parent (regraft n t i j x) c ≡ parent t c
  graft-other c C a b d = turned c C ∙ ap (parent t) (turn3-other three c a b d)

  -- so does i
  pub graft-node : parent (regraft n t i j x) i ≡ parent t i
  graft-node = graft-other i g.node_i (λ e. (graft-kin v g).apart (sym e)) (graft-child v g) (λ e. g.not_i (sym e))

  -- ---- the heights

  -- all but the parent keep their heights
  pub graft-height : (c : ℕ) → c ≢ parent t i → height (regraft n t i j x) c ≡ height t c
  unfolding regraft
  graft-height c d = height-other moved (parent t i) x c d ∙ height-rotate n t (sibling t i) (parent t i) j c

  -- the parent has the chosen one
  pub graft-at : height (regraft n t i j x) (parent t i) ≡ x
  unfolding regraft
  graft-at = height-at n moved (rotate-shaped (valid-shaped v) three).sized.heights (parent t i) (graft-parent-node v g) x

  -- ---- the root

  root-turned : (regraft n t i j x).root ≡ turn3 j (parent t i) (sibling t i) t.root
  unfolding regraft
  root-turned = set-root moved (parent t i) x ∙ root-rotate (valid-shaped v) three

  -- the root stays where neither the parent nor j is the root
  pub graft-root-same : parent t i ≢ t.root → j ≢ t.root → (regraft n t i j x).root ≡ t.root
  graft-root-same a b = root-turned ∙ turn3-other (around three) t.root (λ e. b (sym e)) (λ e. a (sym e)) (λ e. (graft-kin v g).under (sym e))

  -- where the parent was the root, the old sibling is
  pub graft-root-sibling : parent t i ≡ t.root → (regraft n t i j x).root ≡ sibling t i
  graft-root-sibling e = root-turned ∙ ap (turn3 j (parent t i) (sibling t i)) (sym e) ∙ turn3-b (around three)

  -- where j was the root, the parent is
  pub graft-root-parent : j ≡ t.root → (regraft n t i j x).root ≡ parent t i
  graft-root-parent e = root-turned ∙ ap (turn3 j (parent t i) (sibling t i)) (sym e) ∙ turn3-a (around three)

  -- a node other than the sibling and the parent is the root only if it was
  pub graft-under : (k : ℕ) → k ≢ t.root → k ≢ sibling t i → k ≢ parent t i → k ≢ (regraft n t i j x).root
  graft-under k d a b e = elim (ℕ_discrete (parent t i) t.root) [
    | yes f ↦ a (e ∙ graft-root-sibling f)
    | no f ↦ elim (ℕ_discrete j t.root) [ yes h ↦ b (e ∙ graft-root-parent h) | no h ↦ d (e ∙ graft-root-same f h) ]
  ]

  -- the old sibling is the root only if the parent was
  pub graft-sibling-under : parent t i ≢ t.root → sibling t i ≢ (regraft n t i j x).root
  graft-sibling-under d e = elim (ℕ_discrete j t.root) [
    | yes f ↦ three.ab (e ∙ graft-root-parent f)
    | no f ↦ (graft-kin v g).under (e ∙ graft-root-same d f)
  ]

  -- the parent is the root only if j was
  pub graft-parent-under : j ≢ t.root → parent t i ≢ (regraft n t i j x).root
  graft-parent-under d e = elim (ℕ_discrete (parent t i) t.root) [
    | yes f ↦ three.ab (sym (e ∙ graft-root-sibling f))
    | no f ↦ f (e ∙ graft-root-same f d)
  ]

  -- ---- the new sibling

  -- j is i's sibling
  pub graft-sibling : sibling (regraft n t i j x) i ≡ j
  graft-sibling = sym (sibling-only (shaped-linked graft-shaped) i g.node_i
      (graft-under i g.under_i (λ e. (graft-kin v g).apart (sym e)) (graft-child v g)) j g.node_j (graft-lower ∙ sym graft-node) g.not_i)

  -- ---- undone

  -- the parent goes back onto the branch over the old sibling, at its old height
  pub graft-back : regraft n (regraft n t i j x) i (sibling t i) (height t (parent t i)) ≡ t
  graft-back = regraft-is n (regraft n t i j x) i (sibling t i) (height t (parent t i)) ∙ rw (graft-sibling, graft-node) again
    where
      again : set_height (rotate n (regraft n t i j x) j (parent t i) (sibling t i)) (parent t i) (height t (parent t i)) ≡ t
      again = rw (regraft-is n t i j x, rotate-set n moved (parent t i) x j (parent t i) (sibling t i), rotate-back (valid-shaped v) three)
          (set_back t (parent t i) x)
