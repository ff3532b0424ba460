-- The ways through `put`: a side of an inner node, the root's register, and one that no node of the tree goes; and that a number below 65,536
-- is stored as it is. Assumes nothing.
use mathlib.Core.Path.{◌≡◌}
use mathlib.Core.List.{List}
use Prim.Native.Nat.{ℕ, ◌+◌, ◌/◌, ◌%◌, ◌≤◌, ◌<◌}
use native.Mathlib.Omega.{arith}
use borrow.Author.Tests.{eq-eqb, ne_eqb}
use lib.ListN.{length, set}
use Rattle.tree.specs.Tree.{nodes_of}
use Rattle.edits.specs.Slots.{owner, put, bare}
use Rattle.edits.specs.Needs.{Takes}

-- a number that fits is lent as it is
as_lent : (x : ℕ) → x < 65536 → x % 65536 ≡ x
as_lent x h = omega arith

module _ (pairs parents : List ℕ) (root x c : ℕ) (s : Takes pairs parents x c) where
  -- a is the node as it is lent, and b the node over the slot
  pub put-side : x < length pairs → (a b : ℕ) → a ≡ c % 65536 → b ≡ x / 2 % 65536
      → bare (set pairs x a) (set parents c b) root ≡ put (nodes_of pairs) (bare pairs parents root) x c
  unfolding put owner
  put-side h a b ea eb = rw (ne_eqb x (nodes_of pairs + nodes_of pairs) (omega arith), ea, eb, as_lent c (omega arith), as_lent (x / 2) (omega arith))

  pub put-top : length pairs ≤ x → bare pairs (set parents c 65535) c ≡ put (nodes_of pairs) (bare pairs parents root) x c
  unfolding put owner
  put-top h = rw (eq-eqb x (nodes_of pairs + nodes_of pairs) (omega arith))

  pub put-nowhere : length parents ≤ c → bare pairs parents root ≡ put (nodes_of pairs) (bare pairs parents root) x c
  put-nowhere h = absurd (omega arith)

pub ruleset put_laws = (put-side, put-top, put-nowhere)
