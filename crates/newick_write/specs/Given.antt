-- What the contracts inside newick_write say: a node's children with the lengths of their branches, the space that is left for a text, and ages that are
-- printed so far. Definitions only. Assumes nothing.
use Rattle.std.specs.Prelude.{◌≡◌, cond, List, ℕ, ◌-◌, ◌≤◌, ◌<◌, ltb, length, get_or, Float, Option, Some, None}
use Rattle.std.specs.Float.{nan}
use Rattle.real.specs.Printed.{printed_of}
use Rattle.tree.specs.Tree.{first_in, second_in}
use Rattle.newick.specs.Copies.{Aged, too_old, aged}
use Rattle.newick_write.specs.declared.Children.{Children}

-- a node's children with the lengths of their branches
unfoldable pub children_of : List ℕ → List ℕ → ℕ → Children
children_of pairs ages k = record {
  first = first_in pairs k;
  second = second_in pairs k;
  upper = get_or ages k 0 - get_or ages (first_in pairs k) 0;
  lower = get_or ages k 0 - get_or ages (second_in pairs k) 0;
}

-- the space that so many bytes more leave
abbrev pub space_after : Option ℕ → ℕ → Option ℕ
space_after (Some left) count = cond (ltb left count) None (Some (left - count))
space_after None count = None

-- ages that were all printed, or not
abbrev pub aged_in : Option (Unit {0}) → List ℕ → Aged
aged_in (Some tt) ages = aged ages
aged_in None ages = too_old

-- the first k ages are printed
pub record Printing (heights : List Float) (ages : List ℕ) (k : ℕ) : Type 0 where
  pub fit : k ≤ length heights
  pub long : length ages ≡ length heights
  pub done : (j : ℕ) → j < k → printed_of (get_or heights j nan) ≡ Some (get_or ages j 0)
