-- The places in which the nodes of a tree stand, and the edits of a tree: one node takes a place, two change places, three move round, a
-- node takes a height. Slot 2k + s is side s of the inner node k, and slot 2n the root's register. Definitions only. Assumes nothing.
use Rattle.std.specs.Prelude.{cond, List, [], ℕ, suc, ◌+◌, ◌/◌, eqb, get_or, set, Float}
use Rattle.tree.specs.Tree.{Tree, no_node, first, parent}

-- ---- slots

-- the root's register, of n nodes
abbrev pub top : ℕ → ℕ
top n = n + n

-- the node that a slot holds
unfoldable pub content : ℕ → Tree → ℕ → ℕ
content n t x = cond (eqb x (top n)) t.root (get_or t.pairs x 0)

-- the node that has the slot for one of its sides: none has the root's register
unfoldable pub owner : ℕ → ℕ → ℕ
owner n x = cond (eqb x (top n)) no_node (x / 2)

-- the slot in which a node stands
unfoldable pub slot_of : ℕ → Tree → ℕ → ℕ
slot_of n t c = let p = parent t c in cond (eqb c t.root) (top n) (cond (eqb (first t p) c) (p + p) (suc (p + p)))

-- ---- edits

-- node c takes slot x: it "takes the side" there, "or becomes root"
unfoldable pub put : ℕ → Tree → ℕ → ℕ → Tree
put n t x c =
    record {
      pairs = cond (eqb x (top n)) t.pairs (set t.pairs x c);
      parents = set t.parents c (owner n x);
      heights = t.heights;
      root = cond (eqb x (top n)) c t.root;
    }

-- a and b "change places, each onto the other's side"
unfoldable pub swap : ℕ → Tree → ℕ → ℕ → Tree
swap n t a b = put n (put n t (slot_of n t a) b) (slot_of n t b) a

-- a takes b's place, b takes c's and c takes a's. With the sibling, P and a branch's lower node, P "goes onto another branch": "the sibling
-- first takes P's side under P's old parent, or becomes root; then P takes the side of the branch's lower node, or becomes root, and that
-- node the sibling's side in P"
unfoldable pub rotate : ℕ → Tree → ℕ → ℕ → ℕ → Tree
rotate n t a b c = put n (put n (put n t (slot_of n t b) a) (slot_of n t c) b) (slot_of n t a) c

-- "The chosen height goes to the node"
unfoldable pub set_height : Tree → ℕ → Float → Tree
set_height t k x = record { pairs = t.pairs; parents = t.parents; heights = set t.heights k x; root = t.root }

-- ---- a tree whose heights are not looked at

-- the edits of slots neither read nor change the heights, which their code is not lent
abbrev pub bare : List ℕ → List ℕ → ℕ → Tree
bare pairs parents root = record { pairs = pairs; parents = parents; heights = []; root = root }
