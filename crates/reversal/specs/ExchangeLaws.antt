-- Two nodes of a valid tree that change places, neither having the other's parent under it nor being higher than that (`Exchangeable`). In order: the
-- root stays, and the two have each other's parents (`root_kept`, `parent-i`, `parent-j`); the tree made is valid, whatever the heights of children
-- (`swap-valid`). A way up from either parent meets neither node, so it is the old one. Assumes nothing.
use Rattle.std.specs.Prelude.{◌≡◌, ◌≢◌, ℕ, ◌<◌, T}
use Rattle.std.proofs.Common.{sym, ap, ◌∙◌, subst}
use Rattle.std.specs.Float.Ieee.{le}
use Rattle.tree.specs.Tree.{Tree, parent, height}
use Rattle.tree.specs.Valid.{Reach, here, up, Dated, Valid}
use Rattle.accepted.specs.Ways.{Under, itself, through}
use Rattle.accepted.specs.WayLaws.{not-under}
use Rattle.edits.specs.Slots.{swap}
use Rattle.edits.specs.SlotLaws.{valid-shaped, shaped-valid}
use Rattle.edits.specs.TurnLaws.{Among2, is_a, is_b, other, among2, turn2-a, turn2-b, turn2-other, swap-shaped, parent-swap, root-swap, height-swap}

-- i and j are nodes with parents; neither has the other's parent under it, nor is higher than that
pub record Exchangeable (n : ℕ) (t : Tree) (i j : ℕ) : Type 0 where
  pub node_i : i < n
  pub node_j : j < n
  pub under_i : i ≢ t.root
  pub under_j : j ≢ t.root
  pub free_i : Under n t (parent t i) j → ⊥
  pub free_j : Under n t (parent t j) i → ⊥
  pub low_i : T (le (height t i) (height t (parent t j)))
  pub low_j : T (le (height t j) (height t (parent t i)))

-- ---- root and parents

module _ {n : ℕ} {t : Tree} (v : Valid n t) (i j : ℕ) (I : i < n) (J : j < n) where
  -- the root stays the root
  pub root_kept : i ≢ t.root → j ≢ t.root → (swap n t i j).root ≡ t.root
  root_kept a b = root-swap (valid-shaped v) i j I J ∙ turn2-other i j t.root (λ e. a (sym e)) (λ e. b (sym e))

  -- i has the parent of j
  pub parent-i : parent (swap n t i j) i ≡ parent t j
  parent-i = parent-swap (valid-shaped v) i j I J i I ∙ ap (parent t) (turn2-a i j)

  -- j has the parent of i
  pub parent-j : parent (swap n t i j) j ≡ parent t i
  parent-j = parent-swap (valid-shaped v) i j I J j J ∙ ap (parent t) (turn2-b i j)

  -- any other keeps its own
  parent-kept : (c : ℕ) → c < n → c ≢ i → c ≢ j → parent (swap n t i j) c ≡ parent t c
  parent-kept c C a b = parent-swap (valid-shaped v) i j I J c C ∙ ap (parent t) (turn2-other i j c a b)

-- ---- the tree made is valid

module _ {n : ℕ} {t : Tree} (v : Valid n t) (i j : ℕ) (x : Exchangeable n t i j) where
  I : i < n
  I = x.node_i

  J : j < n
  J = x.node_j

  P : parent t i < n
  P = (v.below i I x.under_i).parent_node

  Q : parent t j < n
  Q = (v.below j J x.under_j).parent_node

  root : (swap n t i j).root ≡ t.root
  root = root_kept v i j I J x.under_i x.under_j

  -- k is under neither of the two
  record Beside (k : ℕ) : Type 0 where
    node : k < n
    out_i : Under n t k i → ⊥
    out_j : Under n t k j → ⊥

  beside-parent : (k : ℕ) → Beside k → k ≢ t.root → Beside (parent t k)
  beside-parent k o d = record {
    node = (v.below k o.node d).parent_node;
    out_i = λ u. o.out_i (through o.node d u);
    out_j = λ u. o.out_j (through o.node d u);
  }

  -- a way that starts beside both is the same way
  high : {k : ℕ} → Reach t k → Beside k → Reach (swap n t i j) k
  high (here e) o = here (e ∙ sym root)
  high (up {k} d r) o =
      let a : k ≢ i = λ e. o.out_i (subst (Under n t k) e itself) in
      let b : k ≢ j = λ e. o.out_j (subst (Under n t k) e itself) in
      up (λ e. d (e ∙ root)) (rw (parent-kept v i j I J k o.node a b) (high r (beside-parent k o d)))

  -- the two new parents are beside both
  beside-P : Beside (parent t i)
  beside-P = record { node = P; out_i = not-under v i I x.under_i itself; out_j = x.free_i }

  beside-Q : Beside (parent t j)
  beside-Q = record { node = Q; out_i = x.free_j; out_j = not-under v j J x.under_j itself }

  -- every node has a way up
  ways : {k : ℕ} → Reach t k → k < n → Reach (swap n t i j) k
  ways (here e) K = here (e ∙ sym root)
  ways (up {k} d r) K = step (among2 i j k) K d (ways r (v.below k K d).parent_node)
    where
      step : {k : ℕ} → Among2 i j k → k < n → k ≢ t.root → Reach (swap n t i j) (parent t k) → Reach (swap n t i j) k
      step is_a K d w = up (λ e. d (e ∙ root)) (rw (parent-i v i j I J) (high (v.joined (parent t j) Q) beside-Q))
      step (is_b z) K d w = up (λ e. d (e ∙ root)) (rw (parent-j v i j I J) (high (v.joined (parent t i) P) beside-P))
      step (other {u = k} a b) K d w = up (λ e. d (e ∙ root)) (rw (parent-kept v i j I J k K a b) w)

  -- no node is above the parent that it has now
  order : {c : ℕ} → Among2 i j c → c < n → c ≢ t.root → T (le (height t c) (height t (parent (swap n t i j) c)))
  order is_a C d = rw (parent-i v i j I J) x.low_i
  order (is_b z) C d = rw (parent-j v i j I J) x.low_j
  order (other {u = c} a b) C d = rw (parent-kept v i j I J c C a b) (v.dated.ordered c C d)

  dates : Dated n (swap n t i j)
  dates = record {
    number = λ c C. rw (height-swap n t i j c) (v.dated.number c C);
    positive = λ c C. rw (height-swap n t i j c) (v.dated.positive c C);
    ordered = λ c C d. rw (height-swap n t i j c, height-swap n t i j (parent (swap n t i j) c)) (order (among2 i j c) C (λ e. d (e ∙ sym root)));
  }

  -- the tree in which the two have changed places is valid
  pub swap-valid : Valid n (swap n t i j)
  swap-valid = shaped-valid (swap-shaped (valid-shaped v) i j I J) (λ c C. ways (v.joined c C) C) dates
