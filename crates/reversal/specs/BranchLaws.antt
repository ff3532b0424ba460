-- The branches that SubtreeSlide looks for, in a valid tree. In order: going up while the next node is below a height (`Climb`), which is what
-- `climb` does (`climb-is`, `climb-only`); the branches under a node that span a height (`Branch`), and that `branches` lists them and no others
-- (`branches-sound`, `branches-complete`); and where one need not look further down (`branches-none`, `branches-inner`). Assumes nothing.
use Rattle.std.specs.Prelude.{◌≡◌, refl, ◌≢◌, ◌⊎◌, Bool, true, not, ◌&&◌, cond, List, [], ◌∷◌, ◌++◌, ℕ, zero, suc, ◌+◌, ◌≤◌, ◌<◌, T, Float}
use Rattle.std.proofs.Common.{sym, ◌∙◌, subst, inl, inr, eq-eqb, ne_eqb, lt-ltb, le-ltb, T_not}
use Rattle.std.proofs.Math.Bool.{false, and-false}
use native.Mathlib.Omega.{arith}
use Rattle.std.proofs.Math.Decide.{dec_le}
use Rattle.std.specs.Float.Ieee.{lt}
use Rattle.std.specs.Float.Ieee.Bits.{is_true, is_false}
use Rattle.std.specs.Float.Ieee.Scale.{finite}
use Rattle.real.specs.OrderLaws.{le_lt_trans}
use Rattle.tree.specs.Tree.{Tree, first, second, parent, height}
use Rattle.tree.specs.Valid.{Inner, Below, Valid}
use Rattle.tree.specs.ListLaws.{Has, has-none, has_one, has_left, has_right, has-cases}
use Rattle.accepted.specs.Ways.{Linked, Way, arrived, climbs, Under, itself, through}
use Rattle.accepted.specs.WayLaws.{valid-linked, under_root, first_way, second_way, way, way-short, under_parent}
use Rattle.rules.specs.Rules.{climb, spanning, crossing, branches}
use Rattle.reversal.specs.FailedLaws.{passed}
use Rattle.reversal.specs.FamilyLaws.{under-le}

-- ---- going up

-- from k up while the parent is below x, to j: the first that is the root, or whose parent is not below x
pub data Climb (t : Tree) (x : Float) : ℕ → ℕ → Type 0 where
  stops : {k : ℕ} → (k ≡ t.root) ⊎ T (not (lt (height t (parent t k)) x)) → Climb t x k k
  goes : {k j : ℕ} → k ≢ t.root → T (lt (height t (parent t k)) x) → Climb t x (parent t k) j → Climb t x k j

-- the depth is enough where the way to the root is no longer
climb-finds : {t : Tree} {x : Float} {k j d : ℕ} → Climb t x k j → Way t d k → (f : ℕ) → d ≤ f → climb f t x k ≡ j
unfolding climb
climb-finds (stops e) w zero h = refl
climb-finds {t} {x} (stops {k} (inl e)) w (suc f) h = rw (eq-eqb k t.root e)
climb-finds {t} {x} (stops {k} (inr q)) w (suc f) h = rw (is_false (lt (height t (parent t k)) x) q, and-false)
climb-finds (goes d l c) (arrived e) f h = absurd (d e)
climb-finds (goes d l c) (climbs e w) zero h = absurd (omega arith)
climb-finds {t} {x} (goes {k} d l c) (climbs e w) (suc f) h =
    rw (ne_eqb k t.root d, is_true (lt (height t (parent t k)) x) l) (climb-finds c w f (omega arith))

climb-goes : {t : Tree} {d k : ℕ} → Way t d k → (x : Float) → (j : ℕ) × Climb t x k j
climb-goes (arrived e) x = (_, stops (inl e))
climb-goes {t} (climbs {k} e w) x = pick (lt (height t (parent t k)) x) (λ q. q) (λ q. q) (climb-goes w x)
  where
    pick : (b : Bool) → (T b → T (lt (height t (parent t k)) x)) → (T (not b) → T (not (lt (height t (parent t k)) x)))
        → ((j : ℕ) × Climb t x (parent t k) j) → (j : ℕ) × Climb t x k j
    pick true y z c = (c.0, goes e (y tt) c.1)
    pick false y z c = (k, stops (inr (z tt)))

module _ {n : ℕ} {t : Tree} (v : Valid n t) (x : Float) {k : ℕ} (K : k < n) where
  -- where going up ends, `climb` ends
  pub climb-only : {j : ℕ} → Climb t x k j → climb n t x k ≡ j
  climb-only c =
      let w = way (v.joined k K) in
      let b : w.0 < n = way-short n t (valid-linked v) w.1 K in
      climb-finds c w.1 n (omega arith)

  -- `climb` goes up so
  pub climb-is : Climb t x k (climb n t x k)
  climb-is = let c = climb-goes (way (v.joined k K)).1 x in rw (climb-only c.1) c.1

-- ---- branches that span a height

-- the branch over node j is under k, and spans x
pub record Branch (n : ℕ) (t : Tree) (x : Float) (k j : ℕ) : Type 0 where
  pub node : j < n
  pub under_root : j ≢ t.root
  pub lower : T (lt (height t j) x)
  pub upper : T (not (lt (height t (parent t j)) x))
  pub under : Under n t (parent t j) k

module _ (t : Tree) (x : Float) (k c : ℕ) where
  -- the branch from k to c is listed if it spans x
  spans : T (lt (height t c) x) → T (not (lt (height t k) x)) → Has (spanning t x k c) c
  spans a b = rw (is_true (lt (height t c) x) a, is_false (lt (height t k) x) b) (0, omega arith, refl)

  -- and only then
  spanned : (j : ℕ) → Has (spanning t x k c) j → (j ≡ c) × T (lt (height t c) x) × T (not (lt (height t k) x))
  spanned j h = pick (lt (height t c) x) (λ q. q) (lt (height t k) x) (λ q. q) h
    where
      pick : (a : Bool) → (T a → T (lt (height t c) x)) → (b : Bool) → (T (not b) → T (not (lt (height t k) x)))
          → Has (cond (a && not b) (c ∷ []) []) j → (j ≡ c) × T (lt (height t c) x) × T (not (lt (height t k) x))
      pick true y true z h = absurd (has-none h)
      pick true y false z h = (has_one h, y tt, z tt)
      pick false y b z h = absurd (has-none h)

module _ (n : ℕ) (t : Tree) (x : Float) where
  -- the branch from k to its child c, if it spans x, and those under c
  side : ℕ → ℕ → ℕ → List ℕ
  side f k c = spanning t x k c ++ crossing f n t x c

  level-inner : (k : ℕ) → n < k + k → (f : ℕ) → crossing (suc f) n t x k ≡ side f k (first t k) ++ side f k (second t k)
  unfolding crossing side
  level-inner k i f = rw (lt-ltb n (k + k) i)

  level-tip : (k : ℕ) → k + k ≤ n → (f : ℕ) → crossing (suc f) n t x k ≡ []
  unfolding crossing
  level-tip k i f = rw (le-ltb n (k + k) i)

-- from a node that is not below x down to its child c and on: the branch to c, or those under c
abbrev pub on_side : ℕ → Tree → Float → ℕ → List ℕ
on_side n t x c = cond (lt (height t c) x) (c ∷ []) (branches n t x c)

module _ {n : ℕ} {t : Tree} (v : Valid n t) (x : Float) where
  linked : Linked n t
  linked = valid-linked v

  -- ---- what is listed is one

  -- of a child c of k
  side-sound : (f k c : ℕ) → c < n → k < n → parent t c ≡ k → ((j : ℕ) → Has (crossing f n t x c) j → Branch n t x c j)
      → (j : ℕ) → Has (side n t x f k c) j → Branch n t x k j
  unfolding side
  side-sound f k c C K e rest j h = pick (has-cases (spanning t x k c) (crossing f n t x c) h)
    where
      r : c ≢ t.root
      r = under_root n t linked k K c e

      pick : Has (spanning t x k c) j ⊎ Has (crossing f n t x c) j → Branch n t x k j
      pick (inl a) =
          let s = spanned t x k c j a in
          subst (Branch n t x k) (sym s.0) (record { node = C; under_root = r; lower = s.1; upper = rw e s.2; under = rw e itself })
      pick (inr a) =
          let b = rest j a in
          record {
            node = b.node;
            under_root = b.under_root;
            lower = b.lower;
            upper = b.upper;
            under = subst (Under n t (parent t j)) e (under_parent b.under C r);
          }

  crossing-sound : (f k j : ℕ) → k < n → Has (crossing f n t x k) j → Branch n t x k j
  crossing-sound zero k j K h = absurd (has-none {c = j} (unfold crossing in h))
  crossing-sound (suc f) k j K h = pick (dec_le (k + k) n) (λ c C j. crossing-sound f c j C)
    where
      pick : Dec (k + k ≤ n) → ((c : ℕ) → c < n → (j : ℕ) → Has (crossing f n t x c) j → Branch n t x c j) → Branch n t x k j
      pick (yes i) rest = absurd (has-none (rw (level-tip n t x k i f) at h))
      pick (no i) rest = sides (has-cases (side n t x f k (first t k)) (side n t x f k (second t k)) (rw (level-inner n t x k (omega arith) f) at h))
        where
          y : Inner n t k
          y = v.inner k K (omega arith)

          sides : Has (side n t x f k (first t k)) j ⊎ Has (side n t x f k (second t k)) j → Branch n t x k j
          sides (inl a) = side-sound f k (first t k) y.first_node K y.first_parent (rest (first t k) y.first_node) j a
          sides (inr a) = side-sound f k (second t k) y.second_node K y.second_parent (rest (second t k) y.second_node) j a

  -- what is listed under a node is a branch under it that spans the height
  pub branches-sound : {k j : ℕ} → k < n → Has (branches n t x k) j → Branch n t x k j
  branches-sound {k} {j} K h = crossing-sound n k j K h

  -- ---- each one is listed

  -- where the way to the root and the depth are n together, more depth changes nothing
  deep-enough : (f k d : ℕ) → k < n → Way t d k → n ≤ d + f → crossing f n t x k ≡ crossing (suc f) n t x k
  deep-enough zero k d K w h = let z : d < n = way-short n t linked w K in absurd (omega arith)
  deep-enough (suc f) k d K w h = pick (dec_le (k + k) n) (λ m M y. deep-enough f m (suc d) M y (omega arith))
    where
      pick : Dec (k + k ≤ n) → ((m : ℕ) → m < n → Way t (suc d) m → crossing f n t x m ≡ crossing (suc f) n t x m)
          → crossing (suc f) n t x k ≡ crossing (suc (suc f)) n t x k
      pick (yes i) rest = level-tip n t x k i f ∙ sym (level-tip n t x k i (suc f))
      pick (no i) rest = level-inner n t x k j f ∙ unfold side in (rw (a, b) (sym (level-inner n t x k j (suc f))))
        where
          j : n < k + k
          j = omega arith

          y : Inner n t k
          y = v.inner k K j

          a : crossing f n t x (first t k) ≡ crossing (suc f) n t x (first t k)
          a = rest (first t k) y.first_node (first_way n t linked k K j w)

          b : crossing f n t x (second t k) ≡ crossing (suc f) n t x (second t k)
          b = rest (second t k) y.second_node (second_way n t linked k K j w)

  -- what is listed on a child's side is listed under its parent
  listed_above : (c j : ℕ) → c < n → c ≢ t.root → Has (side n t x n (parent t c) c) j → Has (branches n t x (parent t c)) j
  listed_above c j C r h = rw (deeper ∙ level-inner n t x p y.parent_inner n) (sides y.side)
    where
      p : ℕ
      p = parent t c

      y : Below n t c
      y = v.below c C r

      deeper : crossing n n t x p ≡ crossing (suc n) n t x p
      deeper = let w = way (v.joined p y.parent_node) in deep-enough n p w.0 y.parent_node w.1 (omega arith)

      sides : (c ≡ first t p) ⊎ (c ≡ second t p) → Has (side n t x n p (first t p) ++ side n t x n p (second t p)) j
      sides (inl e) = has_left (side n t x n p (first t p)) (side n t x n p (second t p)) (subst (λ (m : ℕ). Has (side n t x n p m) j) e h)
      sides (inr e) = has_right (side n t x n p (first t p)) (side n t x n p (second t p)) (subst (λ (m : ℕ). Has (side n t x n p m) j) e h)

  -- and under every node that this is under
  listed-up : {c k : ℕ} → Under n t c k → (j : ℕ) → Has (branches n t x c) j → Has (branches n t x k) j
  listed-up itself j h = h
  listed-up (through {c} C r u) j h =
      listed-up u j (listed_above c j C r (unfold side in (has_right (spanning t x (parent t c) c) (crossing n n t x c) h)))

  -- a branch under a node that spans the height is listed under it
  pub branches-complete : {k j : ℕ} → Branch n t x k j → Has (branches n t x k) j
  unfolding side
  branches-complete {k} {j} b = listed-up b.under j (listed_above j j b.node b.under_root
      (has_left (spanning t x (parent t j) j) (crossing n n t x j) (spans t x (parent t j) j b.lower b.upper)))

  -- ---- where the heights are in order

  -- no branch under a node that is below the height spans it
  pub branches-none : {k : ℕ} → k < n → T (finite x) → T (lt (height t k) x) → branches n t x k ≡ []
  branches-none {k} K X h = empty (branches n t x k) (λ j e. none (branches-sound K e))
    where
      none : {j : ℕ} → Branch n t x k j → ⊥
      none {j} b =
          let P : parent t j < n = (v.below j b.node b.under_root).parent_node in
          T_not (lt (height t (parent t j)) x) b.upper
          (le_lt_trans _ _ _ (v.dated.number (parent t j) P) (v.dated.number k K) X (under-le v b.under P).1 h)

      empty : (l : List ℕ) → ((j : ℕ) → Has l j → ⊥) → l ≡ []
      empty [] f = refl
      empty (j ∷ l) f = absurd (f j (0, omega arith, refl))

  -- and under a node that is not below it, the branch to a child that is below it is the only one on that side
  pub branches-inner : {k : ℕ} → k < n → n < k + k → T (finite x) → T (not (lt (height t k) x))
      → branches n t x k ≡ on_side n t x (first t k) ++ on_side n t x (second t k)
  branches-inner {k} K I X h = deeper ∙ level-inner n t x k I n ∙ unfold side in (rw (one (first t k) y.first_node, one (second t k) y.second_node))
    where
      y : Inner n t k
      y = v.inner k K I

      deeper : crossing n n t x k ≡ crossing (suc n) n t x k
      deeper = let w = way (v.joined k K) in deep-enough n k w.0 K w.1 (omega arith)

      one : (c : ℕ) → c < n → side n t x n k c ≡ on_side n t x c
      one c C = go (lt (height t c) x) refl
        where
          go : (b : Bool) → lt (height t c) x ≡ b → side n t x n k c ≡ on_side n t x c
          go true e = unfold side in (rw (e, is_false (lt (height t k) x) h, branches-none C X (passed (lt (height t c) x) e)))
          go false e = unfold side in (rw e)
