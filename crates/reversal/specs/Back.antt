-- What is asked of one choice that a move admits, on a valid tree of n nodes: that what it makes is a valid tree with the same tips (`Kept`), and, where
-- every child is strictly younger than its parent, demand 3 (`Back`). It is shown move by move in this form. Definitions only. Assumes nothing.
use Rattle.std.specs.Prelude.{◌≡◌, false, ℕ, ◌+◌, ◌≤◌}
use Rattle.tree.specs.Tree.{Tree, height}
use Rattle.tree.specs.Valid.{Valid, Strict}
use Rattle.rules.specs.Moves.{Reversible, Choice, Listed, declines, made, ratio_of}
use Rattle.reversal.specs.Reversed.{returning_in, Turned}

-- u is a valid tree of n nodes, in which every tip has its age in t
pub record Kept (n : ℕ) (t u : Tree) : Type 0 where
  pub valid : Valid n u
  pub tips : (k : ℕ) → k + k ≤ n → height u k ≡ height t k

-- every choice that the move m admits on a valid tree makes a tree that is kept, whatever the heights of children
abbrev pub Keeps : Reversible → Type 0
Keeps m = (n : ℕ) (t : Tree) → Valid n t → (c : Choice m) → Listed n m t c → declines n m t c ≡ false → Kept n t (made n m t c)

-- the tree made is kept, and the returning choice is admitted there and gives t back, the ratio turned over
pub record Back (n : ℕ) (m : Reversible) (t : Tree) (c : Choice m) : Type 0 where
  pub kept : Kept n t (made n m t c)
  pub listed : Listed n m (made n m t c) (returning_in n m t c)
  pub free : declines n m (made n m t c) (returning_in n m t c) ≡ false
  pub tree : made n m (made n m t c) (returning_in n m t c) ≡ t
  pub ratio : Turned (ratio_of n m t c) (ratio_of n m (made n m t c) (returning_in n m t c))

-- so it is for every choice that the move m admits on a strictly dated tree
abbrev pub Reverses : Reversible → Type 0
Reverses m = (n : ℕ) (t : Tree) → Valid n t → Strict n t → (c : Choice m) → Listed n m t c → declines n m t c ≡ false → Back n m t c
