-- WideExchange keeps a tree valid (`wide-keeps`) and, where every child is strictly younger than its parent, is taken back by itself
-- (`wide-reverses`). In order: what it means that the move is not declined (`Free`), from the tests and to them; the tree made, in which the two
-- nodes are free again, since each was strictly below its old parent. Assumes nothing.
use Rattle.std.specs.Prelude.{◌≡◌, ◌≢◌, false, ◌||◌, ℕ, T}
use Rattle.std.proofs.Common.{sym, ◌∙◌}
use borrow.Author.Tests.{eqb-false, ne_eqb}
use Rattle.std.proofs.Math.Dec.{eqb}
use Rattle.std.specs.Float.Ieee.{lt, le}
use Rattle.std.specs.Float.Ieee.Scale.{finite}
use Rattle.real.specs.OrderLaws.{lt→le}
use Rattle.tree.specs.Tree.{Tree, parent, height}
use Rattle.tree.specs.Valid.{Valid, Strict}
use Rattle.edits.specs.Slots.{swap}
use Rattle.edits.specs.SlotLaws.{valid-shaped, not-own-parent}
use Rattle.edits.specs.TurnLaws.{height-swap, swap-back}
use Rattle.rules.specs.Rules.{WideListed, wide_declines}
use Rattle.rules.specs.Moves.{WideExchange}
use Rattle.reversal.specs.Reversed.{even}
use Rattle.reversal.specs.Back.{Keeps, Reverses}
use Rattle.reversal.specs.FamilyLaws.{not-over}
use Rattle.reversal.specs.FailedLaws.{or-first, or-second, le-false, lt-nle}
use Rattle.reversal.specs.ExchangeLaws.{Exchangeable, root_kept, parent-i, parent-j, swap-valid}

-- ---- not declined

-- i and j have different parents, neither is the other's parent, and each is below the other's parent
record Free (t : Tree) (i j : ℕ) : Type 0 where
  parents : parent t i ≢ parent t j
  free_j : i ≢ parent t j
  free_i : j ≢ parent t i
  low_j : T (lt (height t j) (height t (parent t i)))
  low_i : T (lt (height t i) (height t (parent t j)))

-- the four heights are numbers
record Numbers (t : Tree) (i j : ℕ) : Type 0 where
  of_i : T (finite (height t i))
  of_j : T (finite (height t j))
  of_p : T (finite (height t (parent t i)))
  of_q : T (finite (height t (parent t j)))

module _ (t : Tree) (i j : ℕ) (m : Numbers t i j) where
  -- where the five tests fail the nodes are free
  freed : wide_declines t i j ≡ false → Free t i j
  unfolding wide_declines
  freed e =
      let p = parent t i in
      let q = parent t j in
      let a = eqb p q in
      let b = eqb i q in
      let c = eqb j p in
      let d = le (height t p) (height t j) in
      let f = le (height t q) (height t i) in
      let e4 = or-first (a || b || c || d) f e in
      let e3 = or-first (a || b || c) d e4 in
      let e2 = or-first (a || b) c e3 in
      record {
        parents = eqb-false p q (or-first a b e2);
        free_j = eqb-false i q (or-second a b e2);
        free_i = eqb-false j p (or-second (a || b) c e3);
        low_j = le-false (height t p) (height t j) m.of_p m.of_j (or-second (a || b || c) d e4);
        low_i = le-false (height t q) (height t i) m.of_q m.of_i (or-second (a || b || c || d) f e);
      }

  -- where the nodes are free the five tests fail
  undeclined : Free t i j → wide_declines t i j ≡ false
  unfolding wide_declines
  undeclined f =
      let p = parent t i in
      let q = parent t j in
      rw (
        ne_eqb p q f.parents,
        ne_eqb i q f.free_j,
        ne_eqb j p f.free_i,
        lt-nle (height t p) (height t j) m.of_p m.of_j f.low_j,
        lt-nle (height t q) (height t i) m.of_q m.of_i f.low_i,
      )

-- the heights of a valid tree
numbers : {n : ℕ} {t : Tree} → Valid n t → (i j : ℕ) → WideListed n t i j → Numbers t i j
numbers {n} {t} v i j l = record {
  of_i = v.dated.number i l.node_i;
  of_j = v.dated.number j l.node_j;
  of_p = v.dated.number (parent t i) (v.below i l.node_i l.under_i).parent_node;
  of_q = v.dated.number (parent t j) (v.below j l.node_j l.under_j).parent_node;
}

-- ---- the tree made

module _ {n : ℕ} {t : Tree} (v : Valid n t) (i j : ℕ) (l : WideListed n t i j) where
  -- the two may change places, neither being as high as the other's parent
  exchangeable : Free t i j → Exchangeable n t i j
  exchangeable f = record {
    node_i = l.node_i;
    node_j = l.node_j;
    under_i = l.under_i;
    under_j = l.under_j;
    free_i = not-over v j (parent t i) l.node_j (v.below i l.node_i l.under_i).parent_node f.low_j;
    free_j = not-over v i (parent t j) l.node_i (v.below j l.node_j l.under_j).parent_node f.low_i;
    low_i = lt→le (height t i) (height t (parent t j)) f.low_i;
    low_j = lt→le (height t j) (height t (parent t i)) f.low_j;
  }

  -- the two are listed in the tree made
  listed : WideListed n (swap n t i j) i j
  listed = let e = root_kept v i j l.node_i l.node_j l.under_i l.under_j in record {
    node_i = l.node_i;
    node_j = l.node_j;
    under_i = λ f. l.under_i (f ∙ e);
    under_j = λ f. l.under_j (f ∙ e);
    apart = l.apart;
  }

  -- each is below the other's parent there, which was its own
  free-again : Strict n t → Free t i j → Free (swap n t i j) i j
  free-again st f =
      let p : parent (swap n t i j) i ≡ parent t j = parent-i v i j l.node_i l.node_j in
      let q : parent (swap n t i j) j ≡ parent t i = parent-j v i j l.node_i l.node_j in
      record {
        parents = λ e. f.parents (sym (sym p ∙ e ∙ q));
        free_j = λ e. not-own-parent v i l.node_i l.under_i (sym (e ∙ q));
        free_i = λ e. not-own-parent v j l.node_j l.under_j (sym (e ∙ p));
        low_j = rw (p, height-swap n t i j j, height-swap n t i j (parent t j)) (st j l.node_j l.under_j);
        low_i = rw (q, height-swap n t i j i, height-swap n t i j (parent t i)) (st i l.node_i l.under_i);
      }

-- the tree made is valid, with the tips' ages
pub wide-keeps : Keeps WideExchange
wide-keeps n t v c l free = record {
  valid = swap-valid v c.i c.j (exchangeable v c.i c.j l (freed t c.i c.j (numbers v c.i c.j l) free));
  tips = λ k h. height-swap n t c.i c.j k;
}

-- WideExchange of the same two takes it back
pub wide-reverses : Reverses WideExchange
wide-reverses n t v st c l free =
    let i = c.i in
    let j = c.j in
    let f = freed t i j (numbers v i j l) free in
    let w = wide-keeps n t v c l free in
    record {
      kept = w;
      listed = listed v i j l;
      free = undeclined (swap n t i j) i j (numbers w.valid i j (listed v i j l)) (free-again v i j l st f);
      tree = swap-back (valid-shaped v) i j l.node_i l.node_j;
      ratio = even;
    }
