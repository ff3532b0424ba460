-- A tree in which a node's parent went onto another branch is valid, whatever the heights of children, if the branch's upper end is not under the
-- node (`graft-valid`). In order: the ways up to the root from the three nodes that moved, and with them from all; the ways from nodes that are not
-- under the node; the heights, which do not fall on these ways. Assumes nothing.
use Rattle.std.specs.Prelude.{◌≡◌, refl, ◌≢◌, not, ℕ, ◌<◌, T, Float}
use Rattle.std.proofs.Common.{sym, ◌∙◌, subst}
use Rattle.std.proofs.Math.Decide.{ℕ_discrete}
use Rattle.std.specs.Float.Ieee.{lt, le}
use Rattle.std.specs.Float.Ieee.Scale.{finite}
use Rattle.real.specs.Real as Real
use Rattle.real.specs.OrderLaws.{le_trans, not_negative}
use Rattle.tree.specs.Tree.{Tree, parent, height, sibling}
use Rattle.tree.specs.Valid.{Reach, here, up, Dated, Valid}
use Rattle.accepted.specs.Ways.{Under, itself, through}
use Rattle.accepted.specs.WayLaws.{valid-linked, not-under}
use Rattle.edits.specs.SlotLaws.{shaped-valid, not-own-parent}
use Rattle.edits.specs.TurnLaws.{Among3, is_a, is_b, is_c, other, among3}
use Rattle.rules.specs.Rules.{regraft}
use Rattle.reversal.specs.FamilyLaws.{sibling-only}
use Rattle.reversal.specs.GraftLaws.{Grafts, graft-kin, graft-parent-node, graft-three, graft-shaped, graft-lower, graft-old-sibling, graft-parent, graft-other, graft-height, graft-at, graft-root-same, graft-root-sibling, graft-root-parent, graft-under, graft-sibling-under, graft-parent-under}

module _ {n : ℕ} {t : Tree} (v : Valid n t) {i j : ℕ} (g : Grafts n t i j) (x : Float) where
  -- the tree after, and which of the three that moved a node is
  abbrev after : Tree
  after = regraft n t i j x

  abbrev Moved : ℕ → Type 0
  Moved k = Among3 (sibling t i) (parent t i) j k

  moved : (k : ℕ) → Moved k
  moved k = among3 (sibling t i) (parent t i) j k

  -- the parent's children were i and the sibling alone, so that j was not one of them
  not_child : (k : ℕ) → k < n → k ≢ i → k ≢ sibling t i → parent t k ≢ parent t i
  not_child k K a b e = b (sibling-only (valid-linked v) i g.node_i g.under_i k K e a)

  not_sisters : parent t j ≢ parent t i
  not_sisters = not_child j g.node_j g.not_i g.not_sibling

  -- ---- the three that moved, and all

  -- the old root is the root, if it is neither the parent nor j
  still-root : (k : ℕ) → k ≡ t.root → k ≢ parent t i → k ≢ j → k ≡ after.root
  still-root k e a b = e ∙ sym (graft-root-same v g x (λ f. a (e ∙ sym f)) (λ f. b (e ∙ sym f)))

  -- j is not the root
  lower-under : j ≢ after.root
  lower-under e = elim (ℕ_discrete j t.root) [
    | yes f ↦ g.not_parent (e ∙ graft-root-parent v g x f)
    | no f ↦ graft-under v g x j f g.not_sibling g.not_parent e
  ]

  -- from j the way goes on through the parent
  from-lower : Reach after (parent t i) → Reach after j
  from-lower w = up lower-under (rw (graft-lower v g x) w)

  -- from the parent it goes on to what was above j, or has come to its end
  from-parent : (j ≢ t.root → Reach after (parent t j)) → Reach after (parent t i)
  from-parent f = elim (ℕ_discrete j t.root) [
    | yes e ↦ here (sym (graft-root-parent v g x e))
    | no d ↦ up (graft-parent-under v g x d) (rw (graft-parent v g x) (f d))
  ]

  -- where the three reach the root, all do
  module _ (a : Reach after (sibling t i)) (b : Reach after (parent t i)) (c : Reach after j) where
    one_of : {k : ℕ} → Moved k → (k ≢ sibling t i → k ≢ parent t i → k ≢ j → Reach after k) → Reach after k
    one_of is_a f = a
    one_of is_b f = b
    one_of is_c f = c
    one_of (other p q r) f = f p q r

    from_all : {k : ℕ} → Reach t k → k < n → Reach after k
    from_all (here {k} e) K = one_of (moved k) (λ p q r. here (still-root k e q r))
    from_all (up {k} d w) K =
        let u = from_all w (v.below k K d).parent_node in
        one_of (moved k) (λ p q r. up (graft-under v g x k d p q) (rw (graft-other v g x k K p q r) u))

  -- ---- nodes that are not under i

  abbrev Outside : ℕ → Type 0
  Outside k = Under n t k i → ⊥

  -- the way up from k, or from the old sibling where k is the parent that left
  record Ways (k : ℕ) : Type 0 where
    from_sibling : k ≡ parent t i → Reach after (sibling t i)
    from_it : k ≢ parent t i → Reach after k

  ways : {k : ℕ} → Reach t k → k < n → Outside k → Ways k
  ways (here {k} e) K o = record { from_sibling = λ f. here (sym (graft-root-sibling v g x (sym f ∙ e))); from_it = last (ℕ_discrete k j) }
    where
      last : Dec (k ≡ j) → k ≢ parent t i → Reach after k
      last (yes h) f = subst (Reach after) (sym h) (from-lower (from-parent (λ d. absurd (d (sym h ∙ e)))))
      last (no h) f = here (still-root k e f h)
  ways (up {k} d r) K o =
      let w = ways r (v.below k K d).parent_node (λ u. o (through K d u)) in
      record { from_sibling = past w; from_it = step (moved k) K d (λ e. o (subst (Under n t k) e itself)) w }
    where
      past : Ways (parent t k) → k ≡ parent t i → Reach after (sibling t i)
      past w f =
          let u : Reach after (parent t k) = w.from_it (λ e. not-own-parent v k K d (e ∙ sym f)) in
          up (graft-sibling-under v g x (λ e. d (f ∙ e))) (rw (graft-old-sibling v g x, ← f) u)

      step : {k : ℕ} → Moved k → k < n → k ≢ t.root → k ≢ i → Ways (parent t k) → k ≢ parent t i → Reach after k
      step is_a K d a w f = w.from_sibling (graft-kin v g).same_parent
      step is_b K d a w f = absurd (f refl)
      step is_c K d a w f = from-lower (from-parent (λ e. w.from_it not_sisters))
      step (other {u = k} p q s) K d a w f = up (graft-under v g x k d p q) (rw (graft-other v g x k K p q s) (w.from_it (not_child k K a p)))

  -- ---- the new height

  module _ (X : T (finite x)) (low_i : T (le (height t i) x)) (low_j : T (le (height t j) x))
      (high : j ≢ t.root → T (le x (height t (parent t j)))) (out : j ≢ t.root → Under n t (parent t j) i → ⊥) where
    P : parent t i < n
    P = graft-parent-node v g

    Q : j ≢ t.root → parent t j < n
    Q d = (v.below j g.node_j d).parent_node

    -- every node reaches the root
    joined : (c : ℕ) → c < n → Reach after c
    joined c C = from_all old-sibling taken (from-lower taken) (v.joined c C) C
      where
        old-sibling : Reach after (sibling t i)
        old-sibling = (ways (v.joined (parent t i) P) P (λ u. not-under v i g.node_i g.under_i itself u)).from_sibling refl

        taken : Reach after (parent t i)
        taken = from-parent (λ d. (ways (v.joined (parent t j) (Q d)) (Q d) (out d)).from_it not_sisters)

    number : (c : ℕ) → c < n → Dec (c ≡ parent t i) → T (finite (height after c))
    number c C (yes e) = rw (e, graft-at v g x) X
    number c C (no d) = rw (graft-height v g x c d) (v.dated.number c C)

    positive : (c : ℕ) → c < n → Dec (c ≡ parent t i) → T (not (lt (height after c) Real.zero))
    positive c C (no d) = rw (graft-height v g x c d) (v.dated.positive c C)
    positive c C (yes e) =
        rw (e, graft-at v g x) (not_negative (height t i) x (v.dated.number i g.node_i) X (v.dated.positive i g.node_i) low_i)

    -- a node that keeps its parent is no higher, whether that is i's parent or not
    same_branch : (c : ℕ) → c < n → c ≢ t.root → c ≢ sibling t i → Dec (parent t c ≡ parent t i) → T (le (height t c) (height after (parent t c)))
    same_branch c C d p (no e) = rw (graft-height v g x (parent t c) e) (v.dated.ordered c C d)
    same_branch c C d p (yes e) = rw (e, graft-at v g x) (below (ℕ_discrete c i))
      where
        below : Dec (c ≡ i) → T (le (height t c) x)
        below (yes f) = rw f low_i
        below (no f) = absurd (not_child c C f p e)

    -- nor is the old sibling under what was above the parent
    old-branch : parent t i ≢ t.root → T (le (height t (sibling t i)) (height after (parent t (parent t i))))
    old-branch d =
        let k = graft-kin v g in
        let S : T (finite (height t (sibling t i))) = v.dated.number (sibling t i) k.node in
        let G : T (finite (height t (parent t (parent t i)))) = v.dated.number (parent t (parent t i)) (v.below (parent t i) P d).parent_node in
        let s : T (le (height t (sibling t i)) (height t (parent t i))) = rw k.same_parent at (v.dated.ordered (sibling t i) k.node k.under) in
        rw (graft-height v g x (parent t (parent t i)) (not-own-parent v (parent t i) P d))
        (le_trans (height t (sibling t i)) (height t (parent t i)) (height t (parent t (parent t i))) S (v.dated.number (parent t i) P) G
        s (v.dated.ordered (parent t i) P d))

    ordered : {c : ℕ} → Moved c → c < n → c ≢ after.root → T (le (height after c) (height after (parent after c)))
    ordered is_a C d =
        let b = old-branch (λ e. d (sym (graft-root-sibling v g x e))) in
        rw (graft-old-sibling v g x, graft-height v g x (sibling t i) (graft-three v g).ab) b
    ordered is_b C d =
        rw (graft-parent v g x, graft-at v g x, graft-height v g x (parent t j) not_sisters) (high (λ e. d (sym (graft-root-parent v g x e))))
    ordered is_c C d = rw (graft-lower v g x, graft-at v g x, graft-height v g x j g.not_parent) low_j
    ordered (other {u = c} p q s) C d =
        let b = same_branch c C (λ e. d (still-root c e q s)) p (ℕ_discrete (parent t c) (parent t i)) in
        rw (graft-other v g x c C p q s, graft-height v g x c q) b

    dated : Dated n after
    dated = record {
      number = λ c C. number c C (ℕ_discrete c (parent t i));
      positive = λ c C. positive c C (ℕ_discrete c (parent t i));
      ordered = λ c C d. ordered (moved c) C d;
    }

    -- the parent may go to a finite height no lower than i and j and no higher than the branch's upper end, which is not under i, where there is
    -- one
    pub graft-valid : Valid n (regraft n t i j x)
    graft-valid = shaped-valid (graft-shaped v g x) joined dated
