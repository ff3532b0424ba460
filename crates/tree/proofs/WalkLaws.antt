-- The ways through the code that counts the nodes of a subtree. Assumes nothing.
use mathlib.Core.Path.{◌≡◌}
use mathlib.Core.List.{List}
use Prim.Native.Nat.{ℕ, suc, ◌+◌, ◌-◌, ◌≤◌, ◌<◌}
use native.Mathlib.Omega.{arith}
use native.Mathlib.Numerals.{add-one}
use lib.ListN.{length, get_or, length-append}
use borrow.Author.Tests.{lt-ltb, le-ltb}
use Rattle.tree.specs.Tree.{second_in, subtree}
use Rattle.tree.specs.Given.{Inside}

down-suc : (d : ℕ) → (d ≡ 0 → ⊥) → d ≡ suc (d - 1)
down-suc d h = omega arith

module _ (n : ℕ) (pairs : List ℕ) (k : ℕ) where
  pub inside-first : Inside n pairs k → n < k + k → Inside n pairs (get_or pairs (k + k) 0)
  inside-first s i = record { few = s.few; twice = s.twice; node = s.one k s.node i; one = s.one; two = s.two }

  pub inside-second : Inside n pairs k → n < k + k → Inside n pairs (get_or pairs (k + k + 1) 0)
  inside-second s i = record { few = s.few; twice = s.twice; node = rw add-one (s.two k s.node i); one = s.one; two = s.two }

  module _ (d left : ℕ) where
    pub walk-flat : d ≡ 0 → left ≡ left - length (subtree d n pairs k)
    unfolding subtree
    walk-flat h = rw h (omega arith)

    pub walk-spent : left ≡ 0 → left ≡ left - length (subtree d n pairs k)
    walk-spent h = rw h (omega arith)

    pub walk-tip : (d ≡ 0 → ⊥) → k + k ≤ n → left - 1 ≡ left - length (subtree d n pairs k)
    unfolding subtree
    walk-tip h i = rw (down-suc d h, le-ltb _ _ i) (omega arith)

    pub walk-both : (l r : ℕ) → (d ≡ 0 → ⊥) → n < k + k → l ≡ (left - 1) - length (subtree (d - 1) n pairs (get_or pairs (k + k) 0))
        → r ≡ l - length (subtree (d - 1) n pairs (get_or pairs (k + k + 1) 0)) → r ≡ left - length (subtree d n pairs k)
    unfolding subtree
    walk-both l r h i a b =
        let b' : r ≡ l - length (subtree (d - 1) n pairs (second_in pairs k)) = rw add-one at b in
        rw (down-suc d h, lt-ltb _ _ i) (simp (length-append, length-append) (omega arith))

pub ruleset walk_laws = (walk-flat, walk-spent, walk-tip, walk-both, inside-first, inside-second)
