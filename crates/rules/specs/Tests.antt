-- What the lines list, as tests that can be run; TestLaws shows that they agree with the lists of Rules. Definitions only. Assumes nothing.
use Rattle.std.specs.Prelude.{Bool, not, ◌&&◌, ◌||◌, ℕ, ltb, eqb, length, Float}
use Rattle.std.specs.Float.Ieee.Scale.{finite}
use Rattle.real.specs.Real.{max_of}
use Rattle.tree.specs.Tree.{Tree, tips_of, inner, parent, height, sibling}
use Rattle.rules.specs.Rules.{floor, within, branches, lowers, slide_declines, grand, hosts, ceiling}
use Rattle.rules.specs.Moves.{Reversible, NodeHeight, SubtreeSlide, NarrowExchange, WideExchange, WilsonBalding, Choice, declines}

-- k is a node and not the root
abbrev pub non_root : ℕ → Tree → ℕ → Bool
non_root n t k = ltb k n && not (eqb k t.root)

-- a node other than the root, internal, and a height in its interval
unfoldable pub node_height_lists : ℕ → Tree → ℕ → Float → Bool
node_height_lists n t k x = non_root n t k && (inner n k && within (floor t k) x (height t (parent t k)))

-- a node other than the root, a finite height, and an index of a branch where one is picked
unfoldable pub slide_lists : ℕ → Tree → ℕ → Float → ℕ → Bool
slide_lists n t i x index =
    non_root n t i && (finite x && (not (lowers t i x) || (slide_declines n t i x || ltb index (length (branches n t x (sibling t i))))))

-- a grandparent
unfoldable pub narrow_lists : ℕ → Tree → ℕ → Bool
narrow_lists n t g = ltb g n && grand n t g

-- two different nodes other than the root
unfoldable pub wide_lists : ℕ → Tree → ℕ → ℕ → Bool
wide_lists n t i j = non_root n t i && (non_root n t j && not (eqb i j))

-- a node other than the root, another that can be gone onto, and a height in its interval where that is not the root
unfoldable pub wilson_lists : ℕ → Tree → ℕ → ℕ → Float → Bool
wilson_lists n t i j x =
    let asked = eqb j t.root || within (max_of (height t i) (height t j)) x (height t (parent t j)) in
    non_root n t i && (ltb j n && (not (eqb j i) && (hosts t i j && asked)))

-- a tip and a height in its interval
unfoldable pub tip_age_lists : ℕ → Tree → ℕ → Float → Float → Float → Bool
tip_age_lists n t k least greatest x = ltb k (tips_of n) && within least x (ceiling t k greatest)

-- of the five reversible moves
abbrev pub lists : ℕ → (m : Reversible) → Tree → Choice m → Bool
lists n NodeHeight t c = node_height_lists n t c.node c.height
lists n SubtreeSlide t c = slide_lists n t c.node c.height c.index
lists n NarrowExchange t c = narrow_lists n t c.node
lists n WideExchange t c = wide_lists n t c.i c.j
lists n WilsonBalding t c = wilson_lists n t c.i c.j c.height

-- ""Admits" means: within these lists and not declined"
abbrev pub admits : ℕ → (m : Reversible) → Tree → Choice m → Bool
admits n m t c = lists n m t c && not (declines n m t c)
