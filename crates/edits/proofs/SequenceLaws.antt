-- The way through `exchange` and `rotate`: slots are read, and then one node after the other is put into one. A node's slot is in bounds,
-- and a node that is put somewhere keeps the slices' lengths. Assumes nothing.
use mathlib.Core.Path.{◌≡◌, refl, ap, ◌∙◌}
use mathlib.Core.List.{List}
use Prim.Native.Nat.{ℕ, ◌+◌, ◌/◌, ◌≤◌, ◌<◌}
use native.Mathlib.Decide.{ℕ_discrete}
use native.Mathlib.Omega.{arith}
use lib.ListN.{length, get_or}
use Rattle.tree.specs.Tree.{Tree, nodes_of, parent}
use Rattle.edits.specs.Slots.{slot_of, put, swap, rotate, bare}
use Rattle.edits.specs.SlotLaws.{slot-root, slot-first, slot-second, put-pairs}
use Rattle.edits.specs.Needs.{Stands, Takes, Exchanges, Rotates}

-- ---- one node

-- x is where c stands
abbrev At : List ℕ → List ℕ → ℕ → ℕ → ℕ → Type 0
At pairs parents root c x = x ≡ slot_of (nodes_of pairs) (bare pairs parents root) c

within : (pairs parents : List ℕ) (root c : ℕ) → Stands pairs parents root c → slot_of (nodes_of pairs) (bare pairs parents root) c ≤ length pairs
unfolding parent
within pairs parents root c s = elim (ℕ_discrete c root) [
  | yes e ↦ rw (slot-root (nodes_of pairs) (bare pairs parents root) c e) (omega arith)
  | no d ↦ let p : get_or parents c 0 < length parents = s.under d in elim (ℕ_discrete (get_or pairs (get_or parents c 0 + get_or parents c 0) 0) c) [
    | yes e ↦ rw (slot-first (nodes_of pairs) (bare pairs parents root) c d e) (omega arith)
    | no f ↦ rw (slot-second (nodes_of pairs) (bare pairs parents root) c d f) (omega arith)
  ]
]

-- in slices of the same lengths, every node may take the slot in which c stood
takes : (pairs parents p q : List ℕ) (root c x k : ℕ) → Stands pairs parents root c → At pairs parents root c x
    → length p ≡ length pairs → length q ≡ length parents → k < length parents → Takes p q x k
takes pairs parents p q root c x k s e l m K =
    let w : slot_of (nodes_of pairs) (bare pairs parents root) c ≤ length pairs = within pairs parents root c s in
    record { few = omega arith; twice = omega arith; slot = omega arith; node = omega arith }

-- after a node was put somewhere, there are as many nodes
as_many : (pairs parents p q : List ℕ) (n root r x c : ℕ) → bare p q r ≡ put n (bare pairs parents root) x c → nodes_of p ≡ nodes_of pairs
as_many pairs parents p q n root r x c e = ap (λ (t : Tree). nodes_of t.pairs) e ∙ ap (λ (m : ℕ). m / 2) (put-pairs n (bare pairs parents root) x c)

-- ---- two nodes

-- x and y are the slots of a and b; p and q are the slices after the first put
pub exchanged : (pairs parents p q : List ℕ) (root r a b x y : ℕ) (u : Tree) → Exchanges pairs parents root a b
    → (Stands pairs parents root a → At pairs parents root a x) → (Stands pairs parents root b → At pairs parents root b y)
    → (Takes pairs parents x b → bare p q r ≡ put (nodes_of pairs) (bare pairs parents root) x b) → length p ≡ length pairs → length q ≡ length parents
    → (Takes p q y a → u ≡ put (nodes_of p) (bare p q r) y a)
    → u ≡ swap (nodes_of pairs) (bare pairs parents root) a b
unfolding swap
exchanged pairs parents p q root r a b x y u s fx fy first l m second =
    let sa = s.stands_a in
    let sb = s.stands_b in
    let ex = fx sa in
    let ey = fy sb in
    let one = first (takes pairs parents pairs parents root a x b sa ex refl refl sb.node) in
    let two = second (takes pairs parents p q root b y a sb ey l m sa.node) in
    two ∙ rw (as_many pairs parents p q (nodes_of pairs) root r x b one, one, ex, ey)

-- ---- three nodes

-- x, y and z are the slots of a, b and c; p and q are the slices after the first put, p' and q' after the second
pub rotated : (pairs parents p q p' q' : List ℕ) (root r r' a b c x y z : ℕ) (u : Tree) → Rotates pairs parents root a b c
    → (Stands pairs parents root a → At pairs parents root a x) → (Stands pairs parents root b → At pairs parents root b y)
    → (Stands pairs parents root c → At pairs parents root c z)
    → (Takes pairs parents y a → bare p q r ≡ put (nodes_of pairs) (bare pairs parents root) y a) → length p ≡ length pairs → length q ≡ length parents
    → (Takes p q z b → bare p' q' r' ≡ put (nodes_of p) (bare p q r) z b) → length p' ≡ length p → length q' ≡ length q
    → (Takes p' q' x c → u ≡ put (nodes_of p') (bare p' q' r') x c)
    → u ≡ rotate (nodes_of pairs) (bare pairs parents root) a b c
unfolding rotate
rotated pairs parents p q p' q' root r r' a b c x y z u s fx fy fz first l m second l' m' third =
    let sa = s.stands_a in
    let sb = s.stands_b in
    let sc = s.stands_c in
    let ex = fx sa in
    let ey = fy sb in
    let ez = fz sc in
    let one = first (takes pairs parents pairs parents root b y a sb ey refl refl sa.node) in
    let two = second (takes pairs parents p q root c z b sc ez l m sb.node) in
    let three = third (takes pairs parents p' q' root a x c sa ex (l' ∙ l) (m' ∙ m) sc.node) in
    let many : nodes_of p ≡ nodes_of pairs = as_many pairs parents p q (nodes_of pairs) root r y a one in
    let still : nodes_of p' ≡ nodes_of p = as_many p q p' q' (nodes_of p) r r' z b two in
    three ∙ rw (still, two, many, one, ex, ey, ez)
