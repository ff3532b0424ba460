-- The ways through `slot_of`: the root, a first child and a second child, and two that no node which stands somewhere goes. Assumes nothing.
use mathlib.Core.Path.{◌≡◌, sym, ◌∙◌}
use mathlib.Core.List.{List}
use Prim.Native.Nat.{ℕ, ◌+◌, ◌≤◌, ◌<◌}
use native.Mathlib.Numerals.{add-one}
use native.Mathlib.Omega.{arith}
use lib.ListN.{length, get_or}
use mir.Syntax.{w16, w64}
use mir.Val.{Fits}
use mir.Facts.{Fits-of_lt}
use Rattle.tree.specs.PlaceLaws.{wide16}
use Rattle.tree.specs.Tree.{nodes_of, parent}
use Rattle.edits.specs.Slots.{slot_of, bare}
use Rattle.edits.specs.SlotLaws.{slot-root, slot-first, slot-second}
use Rattle.edits.specs.Needs.{Stands}

module _ (pairs parents : List ℕ) (root c : ℕ) where
  pub root-at : Stands pairs parents root c → c ≡ root → length pairs ≡ slot_of (nodes_of pairs) (bare pairs parents root) c
  root-at s e = sym (slot-root (nodes_of pairs) (bare pairs parents root) c e ∙ omega arith)

  pub first-at : (c ≡ root → ⊥) → get_or pairs (get_or parents c 0 + get_or parents c 0) 0 ≡ c
      → get_or parents c 0 + get_or parents c 0 ≡ slot_of (nodes_of pairs) (bare pairs parents root) c
  unfolding parent
  first-at d e = sym (slot-first (nodes_of pairs) (bare pairs parents root) c d e)

  pub second_at : (c ≡ root → ⊥) → (get_or pairs (get_or parents c 0 + get_or parents c 0) 0 ≡ c → ⊥)
      → get_or parents c 0 + get_or parents c 0 + 1 ≡ slot_of (nodes_of pairs) (bare pairs parents root) c
  unfolding parent
  second_at d e = rw add-one (sym (slot-second (nodes_of pairs) (bare pairs parents root) c d e))

  pub no-pair : Stands pairs parents root c → (c ≡ root → ⊥) → length pairs ≤ get_or parents c 0 + get_or parents c 0
      → 0 ≡ slot_of (nodes_of pairs) (bare pairs parents root) c
  no-pair s d h = let p : get_or parents c 0 < length parents = s.under d in absurd (omega arith)

  pub no_node : Stands pairs parents root c → length parents ≤ c → 0 ≡ slot_of (nodes_of pairs) (bare pairs parents root) c
  no_node s h = absurd (omega arith)

-- twice a number of 16 bits, and one more
module _ (xs : List ℕ) (i : ℕ) (h : (j : ℕ) → Fits w16 (get_or xs j 0)) where
  pub pair_fits : Fits w64 (get_or xs i 0 + get_or xs i 0)
  pair_fits = let p : Fits w16 (get_or xs i 0) = h i in Fits-of_lt (omega arith)

  pub next_fits : Fits w64 (get_or xs i 0 + get_or xs i 0 + 1)
  next_fits = let p : Fits w16 (get_or xs i 0) = h i in Fits-of_lt (omega arith)

pub ruleset slot_of_laws = (wide16, root-at, first-at, second_at, no-pair, no_node, pair_fits, next_fits)
