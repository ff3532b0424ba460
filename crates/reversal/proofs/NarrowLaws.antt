-- NarrowExchange keeps a tree valid (`narrow_keeps`) and, where every child is strictly younger than its parent, is taken back by the same
-- grandparent and side (`narrow-reverses`). In order: which of a node's two children is the taller (`Seated`, `told`); a grandparent, its two
-- children and a child of the taller (`Nest`), where that child and the uncle may change places; the tree made, where the taller child is the
-- same node, the uncle is the child that went up, since it is strictly below its parent, and the old uncle is on the side where that child was; and
-- the whole. Assumes nothing.
use Rattle.std.specs.Prelude.{◌≡◌, refl, ◌≢◌, Bool, true, false, not, ◌||◌, cond, ℕ, ◌+◌, ◌<◌, T}
use Rattle.std.proofs.Common.{sym, ap, ◌∙◌, subst, ltb→lt}
use Rattle.std.proofs.Math.Bool.{or-true}
use borrow.Author.Tests.{ltb-true, lt-ltb, not-false}
use Rattle.std.specs.Float.Ieee.{lt, le}
use Rattle.std.specs.Float.Ieee.Bits.{is_true}
use Rattle.std.specs.Float.Ieee.Fits.{and_l}
use Rattle.std.specs.Float.Ieee.Scale.{finite}
use Rattle.real.specs.OrderLaws.{lt→le, le_trans}
use Rattle.tree.specs.Tree.{Tree, inner, first, second, parent, height}
use Rattle.tree.specs.Valid.{Inner, Valid, Strict}
use Rattle.accepted.specs.Ways.{Under, itself, through}
use Rattle.accepted.specs.WayLaws.{not-under}
use Rattle.edits.specs.Slots.{swap}
use Rattle.edits.specs.SlotLaws.{valid-shaped, not_root}
use Rattle.edits.specs.TurnLaws.{turn2, turn2-a, turn2-b, turn2-other, height-swap, first-swap, second-swap, swap-back, swap-comm}
use Rattle.rules.specs.Rules.{one_internal, grand, taller, uncle, side_of, NarrowListed, narrow_declines, narrowed, narrow_ratio}
use Rattle.rules.specs.Moves.{NarrowExchange}
use Rattle.reversal.specs.Reversed.{Turned, counts}
use Rattle.reversal.specs.Back.{Keeps, Reverses}
use Rattle.reversal.specs.FamilyLaws.{differ}
use Rattle.reversal.specs.FailedLaws.{passed, or-first, or-second, lt-false, le-nlt}
use Rattle.reversal.specs.ExchangeLaws.{Exchangeable, swap-valid}

-- ---- the taller child

-- P and w are the two children of g, on either side
data Seated (t : Tree) (g P w : ℕ) : Type 0 where
  first_seat : first t g ≡ P → second t g ≡ w → Seated t g P w
  second_seat : first t g ≡ w → second t g ≡ P → Seated t g P w

-- they have what a node's children have
record Kids (n : ℕ) (t : Tree) (g P w : ℕ) : Type 0 where
  node_P : P < n
  node_w : w < n
  parent_P : parent t P ≡ g
  parent_w : parent t w ≡ g
  apart : P ≢ w

kids : {n : ℕ} {t : Tree} {g P w : ℕ} → Inner n t g → Seated t g P w → Kids n t g P w
kids i (first_seat p q) = rw (← p, ← q) record {
  node_P = i.first_node;
  node_w = i.second_node;
  parent_P = i.first_parent;
  parent_w = i.second_parent;
  apart = i.two;
}
kids i (second_seat p q) = rw (← p, ← q) record {
  node_P = i.second_node;
  node_w = i.first_node;
  parent_P = i.second_parent;
  parent_w = i.first_parent;
  apart = λ e. i.two (sym e);
}

module _ (t : Tree) (g : ℕ) where
  -- the taller child and the uncle
  seated : Seated t g (taller t g) (uncle t g)
  seated = go (lt (height t (first t g)) (height t (second t g)))
    where
      go : (b : Bool) → Seated t g (cond b (second t g) (first t g)) (cond b (first t g) (second t g))
      go true = second_seat refl refl
      go false = first_seat refl refl

  -- the uncle is not above the taller
  level : T (finite (height t (first t g))) → T (finite (height t (second t g))) → T (le (height t (uncle t g)) (height t (taller t g)))
  level A B = go (lt (height t (first t g)) (height t (second t g))) refl
    where
      a : ℕ
      a = first t g

      b : ℕ
      b = second t g

      go : (r : Bool) → lt (height t a) (height t b) ≡ r → T (le (height t (cond r a b)) (height t (cond r b a)))
      go true e = lt→le (height t a) (height t b) (passed (lt (height t a) (height t b)) e)
      go false e = lt-false (height t a) (height t b) A B e

  -- of two children the one strictly above the other is the taller, and the other the uncle
  told : (P w : ℕ) → Seated t g P w → T (finite (height t P)) → T (finite (height t w)) → T (lt (height t w) (height t P))
      → (taller t g ≡ P) × (uncle t g ≡ w)
  told P w (first_seat p q) X Y h =
      let e : lt (height t P) (height t w) ≡ false = le-nlt (height t P) (height t w) X Y (lt→le (height t w) (height t P) h) in
      (rw (p, q, e), rw (p, q, e))
  told P w (second_seat p q) X Y h =
      let e : lt (height t w) (height t P) ≡ true = is_true (lt (height t w) (height t P)) h in
      (rw (p, q, e), rw (p, q, e))

-- a child on either side
side-child : {n : ℕ} {t : Tree} {P : ℕ} → Inner n t P → (coin : Bool) → (side_of t coin P < n) × (parent t (side_of t coin P) ≡ P)
side-child i true = (i.first_node, i.first_parent)
side-child i false = (i.second_node, i.second_parent)

-- a node with an inner child is a grandparent
is-grand : {n : ℕ} {t : Tree} {g P w : ℕ} → n < g + g → n < P + P → Seated t g P w → T (grand n t g)
unfolding grand
is-grand {n} {t} {g} {P} {w} G i (first_seat p q) = rw (p, lt-ltb n (g + g) G, lt-ltb n (P + P) i) tt
is-grand {n} {t} {g} {P} {w} G i (second_seat p q) = rw (p, q, lt-ltb n (g + g) G, lt-ltb n (P + P) i, or-true (inner n w)) tt

-- ---- a grandparent and its family

-- the inner node g has the children P and w, of which w is not above P, and the inner node P has the child c
record Nest (n : ℕ) (t : Tree) (g P w c : ℕ) : Type 0 where
  node_g : g < n
  inner_g : n < g + g
  inner_P : n < P + P
  seats : Seated t g P w
  below_P : T (le (height t w) (height t P))
  node_c : c < n
  parent_c : parent t c ≡ P

-- so it is where NarrowExchange is listed and not declined
nest : {n : ℕ} {t : Tree} → Valid n t → (g : ℕ) (coin : Bool) → NarrowListed n t g → narrow_declines n t g ≡ false
    → Nest n t g (taller t g) (uncle t g) (side_of t coin (taller t g))
unfolding grand narrow_declines
nest {n} {t} v g coin l e = record {
  node_g = l.node;
  inner_g = G;
  inner_P = P;
  seats = seated t g;
  below_P = level t g (v.dated.number (first t g) i.first_node) (v.dated.number (second t g) i.second_node);
  node_c = c.0;
  parent_c = c.1;
}
  where
    G : n < g + g
    G = ltb→lt n (g + g) (and_l (inner n g) (inner n (first t g) || inner n (second t g)) l.grandparent)

    i : Inner n t g
    i = v.inner g l.node G

    P : n < taller t g + taller t g
    P = ltb-true n (taller t g + taller t g) (not-false (inner n (taller t g)) (or-second (one_internal n) (not (inner n (taller t g))) e))

    c : (side_of t coin (taller t g) < n) × (parent t (side_of t coin (taller t g)) ≡ taller t g)
    c = side-child (v.inner (taller t g) (kids i (seated t g)).node_P P) coin

module _ {n : ℕ} {t : Tree} (v : Valid n t) {g P w c : ℕ} (x : Nest n t g P w c) where
  -- P and w as children of g
  k : Kids n t g P w
  k = kids (v.inner g x.node_g x.inner_g) x.seats

  N : (a : ℕ) → a < n → T (finite (height t a))
  N = v.dated.number

  under-c : c ≢ t.root
  under-c = not_root v c P k.node_P x.parent_c

  under-P : P ≢ t.root
  under-P = not_root v P g x.node_g k.parent_P

  under-w : w ≢ t.root
  under-w = not_root v w g x.node_g k.parent_w

  -- g is above P
  P-under-g : Under n t P g
  P-under-g = through {k = g} k.node_P under-P (rw k.parent_P itself)

  -- P is another child of g than w, so it is not under that
  beside-w : {m : ℕ} → Under n t m w → m ≡ P → ⊥
  beside-w itself e = k.apart (sym e)
  beside-w (through C d u) e =
      not-under v w k.node_w under-w (rw k.parent_w itself) (subst (λ (m : ℕ). Under n t m w) (ap (parent t) e ∙ k.parent_P) u)

  -- a node that has a parent is not above it
  under : (a b : ℕ) → a < n → b < n → parent t a ≡ b → T (le (height t a) (height t b))
  under a b A B e = subst (λ (m : ℕ). T (le (height t a) (height t m))) e (v.dated.ordered a A (not_root v a b B e))

  c-low : T (le (height t c) (height t g))
  c-low = le_trans (height t c) (height t P) (height t g) (N c x.node_c) (N P k.node_P) (N g x.node_g)
      (under c P x.node_c k.node_P x.parent_c) (under P g k.node_P x.node_g k.parent_P)

  -- the child and the uncle may change places
  exchangeable : Exchangeable n t c w
  exchangeable = record {
    node_i = x.node_c;
    node_j = k.node_w;
    under_i = under-c;
    under_j = under-w;
    free_i = λ u. beside-w u x.parent_c;
    free_j = λ u. not-under v c x.node_c under-c (rw x.parent_c P-under-g) (rw k.parent_w at u);
    low_i = rw k.parent_w c-low;
    low_j = rw x.parent_c x.below_P;
  }

  valid : Valid n (swap n t c w)
  valid = swap-valid v c w exchangeable

  -- ---- the tree made, where every child is strictly younger than its parent

  module _ (st : Strict n t) where
    c-under-P : T (lt (height t c) (height t P))
    c-under-P = subst (λ (m : ℕ). T (lt (height t c) (height t m))) x.parent_c (st c x.node_c under-c)

    abbrev u : Tree
    u = swap n t c w

    -- P stays on its side of g, and c takes the uncle's
    seats-after : Seated u g P c
    seats-after = go x.seats
      where
        f : first u g ≡ turn2 c w (first t g)
        f = first-swap (valid-shaped v) c w x.node_c k.node_w g x.node_g x.inner_g

        s : second u g ≡ turn2 c w (second t g)
        s = second-swap (valid-shaped v) c w x.node_c k.node_w g x.node_g x.inner_g

        stays : turn2 c w P ≡ P
        stays = turn2-other c w P (differ t c P c-under-P) k.apart

        go : Seated t g P w → Seated u g P c
        go (first_seat p q) = first_seat (f ∙ ap (turn2 c w) p ∙ stays) (s ∙ ap (turn2 c w) q ∙ turn2-b c w)
        go (second_seat p q) = second_seat (f ∙ ap (turn2 c w) p ∙ turn2-b c w) (s ∙ ap (turn2 c w) q ∙ stays)

    -- P is the taller child still, and c the uncle
    told-after : (taller u g ≡ P) × (uncle u g ≡ c)
    told-after = told u g P c seats-after (valid.dated.number P k.node_P) (valid.dated.number c x.node_c)
        (rw (height-swap n t c w c, height-swap n t c w P) c-under-P)

    -- the old uncle is on the side where c was
    side_after : (coin : Bool) → side_of t coin P ≡ c → side_of u coin P ≡ w
    side_after true e = first-swap (valid-shaped v) c w x.node_c k.node_w P k.node_P x.inner_P ∙ ap (turn2 c w) e ∙ turn2-a c w
    side_after false e = second-swap (valid-shaped v) c w x.node_c k.node_w P k.node_P x.inner_P ∙ ap (turn2 c w) e ∙ turn2-a c w

    -- g is listed still
    listed : NarrowListed n u g
    listed = record { node = x.node_g; grandparent = is-grand x.inner_g x.inner_P seats-after }

    -- and the move is not declined
    free : one_internal n ≡ false → narrow_declines n u g ≡ false
    unfolding narrow_declines
    free e = rw (e, told-after.0, lt-ltb n (P + P) x.inner_P)

    -- the two change places again
    undone : (coin : Bool) → side_of t coin P ≡ c → narrowed n u g coin ≡ t
    unfolding narrowed
    undone coin e = rw (told-after.0, told-after.1, side_after coin e)
        (swap-comm (valid-shaped valid) c w x.node_c k.node_w ∙ swap-back (valid-shaped v) c w x.node_c k.node_w)

-- ---- the whole

-- the grandparents are counted in the same two trees
turned : (n : ℕ) (t : Tree) (g : ℕ) (coin : Bool) → narrowed n (narrowed n t g coin) g coin ≡ t
    → Turned (narrow_ratio n t g coin) (narrow_ratio n (narrowed n t g coin) g coin)
unfolding narrow_ratio
turned n t g coin e = rw e counts

-- the tree made is valid, with the tips' ages
pub narrow_keeps : Keeps NarrowExchange
unfolding narrowed
narrow_keeps n t v c l e = record { valid = valid v (nest v c.node c.coin l e); tips = λ k h. height-swap n t _ _ k }

-- NarrowExchange of the same grandparent, on the same side, takes it back
pub narrow-reverses : Reverses NarrowExchange
unfolding narrowed narrow_declines
narrow-reverses n t v st c l e =
    let x = nest v c.node c.coin l e in
    let back = undone v x st c.coin refl in
    record {
      kept = narrow_keeps n t v c l e;
      listed = listed v x st;
      free = free v x st (or-first (one_internal n) (not (inner n (taller t c.node))) e);
      tree = back;
      ratio = turned n t c.node c.coin back;
    }
