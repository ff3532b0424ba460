-- Two facts that code over the slices of a tree asks again and again: a number read from a slice of u16 is one of usize (`wide16`), and the
-- place after a node's first child is its second's (`next_place`). Assumes nothing.
use Rattle.std.specs.Prelude.{◌≡◌, List, ℕ, ◌+◌, get_or}
use Rattle.std.proofs.Common.{ap, add-one, Fits}
use Rattle.std.proofs.Math.Facts.{Fits-widen}
use Rattle.std.specs.Int.{w16, w64}
use Rattle.tree.specs.Tree.{second_in}

-- in the form in which the cast of an element asks it
pub wide16 : (xs : List ℕ) (i : ℕ) → ((j : ℕ) → Fits w16 (get_or xs j 0)) → Fits w64 (get_or xs i 0)
wide16 xs i h = Fits-widen tt (h i)

pub next_place : (pairs : List ℕ) (k : ℕ) → get_or pairs (k + k + 1) 0 ≡ second_in pairs k
next_place pairs k = ap (λ (x : ℕ). get_or pairs x 0) (add-one (k + k))
