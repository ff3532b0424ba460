-- No height times a factor overflows where the root's does not (`height-finite`). Assumes nothing.
use Rattle.std.specs.Prelude.{ℕ, ◌<◌, T, Float}
use Rattle.std.specs.Float.{binary64}
use Rattle.std.specs.Float.Ieee.{mul}
use Rattle.std.specs.Float.Ieee.Scale.{finite}
use Rattle.real.specs.ProductLaws.{product-finite}
use Rattle.tree.specs.Tree.{Tree, height}
use Rattle.tree.specs.Valid.{Valid}
use Rattle.accepted.specs.RootLaws.{root-highest}

-- where the root's height times f is finite, so is every other
pub height-finite : {n : ℕ} {t : Tree} → Valid n t → (f : Float) → T (finite (mul binary64 (height t t.root) f)) → (c : ℕ) → c < n → T (finite (mul binary64 (height t c) f))
height-finite {n} {t} v f h c C =
    product-finite (height t c) (height t t.root) f (v.dated.number c C) (v.dated.number t.root v.root_node) (v.dated.positive c C) (root-highest v c C) h
