-- The rules of the moves, along the lines of document 01's "What each move chooses". For each move: what its line lists, when it declines,
-- the tree that a choice makes, and the ratio. t is a tree of n nodes. Definitions only. Assumes nothing.
use Rattle.std.specs.Prelude.{◌≡◌, ◌≢◌, Bool, false, not, ◌&&◌, ◌||◌, cond, List, [], ◌∷◌, ◌++◌, ℕ, zero, suc, ◌+◌, ◌-◌, ◌<◌, T, eqb, length, get_or, pos, negsuc, ◌-ℤ◌, Float}
use Rattle.std.specs.Float.{binary64}
use Rattle.std.specs.Float.Ieee.{lt, le, eq, mul, sub}
use Rattle.std.specs.Float.Ieee.Scale.{finite}
use Rattle.answer.specs.declared.Ratio.{Ratio}
use Rattle.answer.specs.declared.Ratio.TheVariants.{Even, Counts, Lengths, Power}
use Rattle.real.specs.Real as Real
use Rattle.real.specs.Real.{max_of, min_of}
use Rattle.tree.specs.Tree.{Tree, tips_of, inner, first, second, parent, height, sibling}
use Rattle.edits.specs.Slots.{swap, rotate, set_height}

-- ---- for several moves

-- how many nodes are internal
abbrev pub internals : ℕ → ℕ
internals n = n - tips_of n

-- "one internal node"
abbrev pub one_internal : ℕ → Bool
one_internal n = eqb (internals n) 1

-- the height of the taller child
abbrev pub floor : Tree → ℕ → Float
floor t k = max_of (height t (first t k)) (height t (second t k))

-- a height from lower to upper: "Interval ends are included; older and younger go by value"
abbrev pub within : Float → Float → Float → Bool
within lower x upper = le lower x && le x upper

-- i's parent P "goes onto another branch", the one over j: "the sibling first takes P's side under P's old parent, or becomes root; then P
-- takes the side of the branch's lower node, or becomes root, and that node the sibling's side in P". Nothing else is written but the height, so
-- that "The moved node stays on its own side, and no other pair changes"
unfoldable pub regraft : ℕ → Tree → ℕ → ℕ → Float → Tree
regraft n t i j x = set_height (rotate n t (sibling t i) (parent t i) j) (parent t i) x

-- ---- NodeHeight

-- "an internal node other than the root; a height from its taller child's to its parent's"
pub record NodeHeightListed (n : ℕ) (t : Tree) (k : ℕ) (x : Float) : Type 0 where
  pub node : k < n
  pub internal : n < k + k
  pub under : k ≢ t.root
  pub interval : T (within (floor t k) x (height t (parent t k)))

-- "Declined if there is one internal node"
abbrev pub node_height_declines : ℕ → Bool
node_height_declines n = one_internal n

-- "The chosen height goes to the node"
abbrev pub height_moved : Tree → ℕ → Float → Tree
height_moved t k x = set_height t k x

-- ---- SubtreeSlide

-- "Upwards": the new height x is above that of i's parent P
abbrev pub rises : Tree → ℕ → Float → Bool
rises t i x = lt (height t (parent t i)) x

-- "the ancestral branch whose lower end is below that height and whose upper end is not", from k's own upwards; the root's has no upper end.
-- A branch is named by its lower node. depth is how far to look at most: n is enough, a tree of n nodes being less than n deep
unfoldable pub climb : ℕ → Tree → Float → ℕ → ℕ
climb zero t x k = k
climb (suc depth) t x k = cond (not (eqb k t.root) && lt (height t (parent t k)) x) (climb depth t x (parent t k)) k

-- the branch from k to its child c, where its "child is below the new height" and its "parent is not"
abbrev pub spanning : Tree → Float → ℕ → ℕ → List ℕ
spanning t x k c = cond (lt (height t c) x && not (lt (height t k) x)) (c ∷ []) []

-- the branches under k that span x, "in left-first order", no further down than depth; `crossing` "counts below a node by calling on both
-- children"
unfoldable pub crossing : ℕ → ℕ → Tree → Float → ℕ → List ℕ
crossing zero n t x k = []
crossing (suc depth) n t x k =
    let a = first t k in
    let b = second t k in
    cond (inner n k) ((spanning t x k a ++ crossing depth n t x a) ++ (spanning t x k b ++ crossing depth n t x b)) []

-- all of them
abbrev pub branches : ℕ → Tree → Float → ℕ → List ℕ
branches n t x k = crossing n n t x k

-- "Downwards, declined if the node is above the new height"; of the branches under S, "declined if none"
unfoldable pub slide_declines : ℕ → Tree → ℕ → Float → Bool
slide_declines n t i x =
    let s = sibling t i in
    not (rises t i x) && (lt x (height t i) || (lt x (height t s) && eqb (length (branches n t x s)) 0))

-- downwards, "if the sibling S is above it", P needs one of the branches under S
abbrev pub lowers : Tree → ℕ → Float → Bool
lowers t i x = not (rises t i x) && lt x (height t (sibling t i))

-- "a non-root node; a finite new height for its parent P", and an index where a branch is "picked by index"
pub record SlideListed (n : ℕ) (t : Tree) (i : ℕ) (x : Float) (index : ℕ) : Type 0 where
  pub node : i < n
  pub under : i ≢ t.root
  pub number : T (finite x)
  pub picked : T (lowers t i x) → slide_declines n t i x ≡ false → index < length (branches n t x (sibling t i))

-- the branch onto which P goes: its own, named by P itself, where "only the height changes". An index that is listed is below the list's length
-- wherever it is read
unfoldable pub slide_to : ℕ → Tree → ℕ → Float → ℕ → ℕ
slide_to n t i x index =
    cond (rises t i x) (climb n t x (parent t i)) (cond (lowers t i x) (get_or (branches n t x (sibling t i)) index 0) (parent t i))

-- "The chosen height goes to the node, to P or to p"
unfoldable pub slid : ℕ → Tree → ℕ → Float → ℕ → Tree
slid n t i x index =
    let to = slide_to n t i x index in
    cond (eqb to (parent t i)) (set_height t (parent t i) x) (regraft n t i to x)

-- "1 over k up, k over 1 down, even if no branch changed; k counts the branches listed under the sibling for the lower of P's two heights,
-- before a slide down, after a slide up"
unfoldable pub slide_ratio : ℕ → Tree → ℕ → Float → ℕ → Ratio
slide_ratio n t i x index =
    let u = slid n t i x index in
    let up = Counts 1 (length (branches n u (height t (parent t i)) (sibling u i))) in
    let down = Counts (length (branches n t x (sibling t i))) 1 in
    cond (eqb (slide_to n t i x index) (parent t i)) Even (cond (rises t i x) up down)

-- ---- NarrowExchange

-- "an internal node with an internal child"
unfoldable pub grand : ℕ → Tree → ℕ → Bool
grand n t k = inner n k && (inner n (first t k) || inner n (second t k))

-- "its taller child (the first if equal)"
abbrev pub taller : Tree → ℕ → ℕ
taller t g = cond (lt (height t (first t g)) (height t (second t g))) (second t g) (first t g)

-- the other one
abbrev pub uncle : Tree → ℕ → ℕ
uncle t g = cond (lt (height t (first t g)) (height t (second t g))) (first t g) (second t g)

-- "one side of that"; "`coin` is the top bit, 1 taking the first side"
abbrev pub side_of : Tree → Bool → ℕ → ℕ
side_of t coin k = cond coin (first t k) (second t k)

-- "an internal node with an internal child"; "one side of that" is either
pub record NarrowListed (n : ℕ) (t : Tree) (g : ℕ) : Type 0 where
  pub node : g < n
  pub grandparent : T (grand n t g)

-- "Declined if one internal node exists or the taller child is a tip"
unfoldable pub narrow_declines : ℕ → Tree → ℕ → Bool
narrow_declines n t g = one_internal n || not (inner n (taller t g))

-- "That child and the uncle change places"
unfoldable pub narrowed : ℕ → Tree → ℕ → Bool → Tree
narrowed n t g coin = swap n t (side_of t coin (taller t g)) (uncle t g)

-- how many of the first m nodes are grandparents
unfoldable pub grands : ℕ → Tree → ℕ → ℕ
grands n t zero = 0
grands n t (suc m) = cond (grand n t m) (suc (grands n t m)) (grands n t m)

-- "such grandparents before over after"
unfoldable pub narrow_ratio : ℕ → Tree → ℕ → Bool → Ratio
narrow_ratio n t g coin = Counts (grands n t n) (grands n (narrowed n t g coin) n)

-- ---- WideExchange

-- "distinct non-root i, j"
pub record WideListed (n : ℕ) (t : Tree) (i j : ℕ) : Type 0 where
  pub node_i : i < n
  pub node_j : j < n
  pub under_i : i ≢ t.root
  pub under_j : j ≢ t.root
  pub apart : i ≢ j

-- "Declined if p = q, i = q, j = p, h(j) ≥ h(p) or h(i) ≥ h(q)"
unfoldable pub wide_declines : Tree → ℕ → ℕ → Bool
wide_declines t i j =
    let p = parent t i in
    let q = parent t j in
    eqb p q || eqb i q || eqb j p || le (height t p) (height t j) || le (height t q) (height t i)

-- "i and j change places, each onto the other's side"
abbrev pub widened : ℕ → Tree → ℕ → ℕ → Tree
widened n t i j = swap n t i j

-- ---- WilsonBalding

-- "that is the root or has a parent q taller than i"
abbrev pub hosts : Tree → ℕ → ℕ → Bool
hosts t i j = eqb j t.root || lt (height t i) (height t (parent t j))

-- "non-root i with parent p; j other than i that is the root or has a parent q taller than i", and a "Height from max(h(i), h(j)) to h(q)",
-- where there is a q
pub record WilsonListed (n : ℕ) (t : Tree) (i j : ℕ) (x : Float) : Type 0 where
  pub node_i : i < n
  pub node_j : j < n
  pub under_i : i ≢ t.root
  pub apart : j ≢ i
  pub host : T (hosts t i j)
  pub interval : j ≢ t.root → T (within (max_of (height t i) (height t j)) x (height t (parent t j)))

-- from max(h(i), h(j)) to h(q)
abbrev pub range : Tree → ℕ → ℕ → ℕ → Float
range t i j q = sub binary64 (height t q) (max_of (height t i) (height t j))

-- "to h(q), the new range"
unfoldable pub new_range : Tree → ℕ → ℕ → Float
new_range t i j = range t i j (parent t j)

-- "the old is from max(h(i), h(sibling)) to p's parent"
unfoldable pub old_range : Tree → ℕ → Float
old_range t i = range t i (sibling t i) (parent t (parent t i))

-- "Declined if j or p is the root, or q = p, j = p, q = i, or either range is zero"
unfoldable pub wilson_declines : Tree → ℕ → ℕ → Bool
wilson_declines t i j =
    let p = parent t i in
    let q = parent t j in
    eqb j t.root || eqb p t.root || eqb q p || eqb j p || eqb q i || eq (new_range t i j) Real.zero || eq (old_range t i) Real.zero

-- "in WilsonBalding p goes onto j's branch", and has the chosen height there
abbrev pub wilson_moved : ℕ → Tree → ℕ → ℕ → Float → Tree
wilson_moved n t i j x = regraft n t i j x

-- "new range over old"
abbrev pub wilson_ratio : Tree → ℕ → ℕ → Ratio
wilson_ratio t i j = Lengths (new_range t i j) (old_range t i)

-- ---- RootScale

-- "f being `scaler`"; the root's new height
abbrev pub root_height : Tree → Float → Float
root_height t f = mul binary64 (height t t.root) f

-- "root: if under a child"
unfoldable pub root_scale_declines : Tree → Float → Bool
root_scale_declines t f = lt (root_height t f) (floor t t.root)

-- the root has it
abbrev pub root_scaled : Tree → Float → Tree
root_scaled t f = set_height t t.root (root_height t f)

-- "Scales: k = −1"
abbrev pub root_scale_ratio : Float → Ratio
root_scale_ratio f = Power f (negsuc 0)

-- ---- TreeScale

-- of the first m nodes the internal ones are scaled; no line says that it declines
unfoldable pub scaled_to : ℕ → Tree → Float → ℕ → Tree
scaled_to n t f zero = t
scaled_to n t f (suc m) = cond (inner n m) (set_height (scaled_to n t f m) m (mul binary64 (height t m) f)) (scaled_to n t f m)

-- all of them
abbrev pub tree_scaled : ℕ → Tree → Float → Tree
tree_scaled n t f = scaled_to n t f n

-- "TreeScale k = internal nodes − 2"
abbrev pub tree_scale_ratio : ℕ → Float → Ratio
tree_scale_ratio n f = Power f (pos (internals n) -ℤ pos 2)

-- ---- TipAge

-- "the lower of greatest age and parent's"
abbrev pub ceiling : Tree → ℕ → Float → Float
ceiling t k greatest = min_of greatest (height t (parent t k))

-- "a tip; a height from its least age to the lower of greatest age and parent's"
pub record TipAgeListed (n : ℕ) (t : Tree) (k : ℕ) (least greatest x : Float) : Type 0 where
  pub tip : k < tips_of n
  pub interval : T (within least x (ceiling t k greatest))

-- "Declined if that has no length"
unfoldable pub tip_age_declines : Tree → ℕ → Float → Float → Bool
tip_age_declines t k least greatest = le (ceiling t k greatest) least

-- "The chosen height goes to the node"
abbrev pub tip_moved : Tree → ℕ → Float → Tree
tip_moved t k x = set_height t k x

-- "tip ages are even"
abbrev pub tip_age_ratio : Ratio
tip_age_ratio = Even
