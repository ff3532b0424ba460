-- A tree of n nodes in order, said outright: sizes, who is whose child, a way up to the root from every node, and heights that do not fall
-- on that way. accepted/AcceptedLaws shows that these are the trees that `Tree::new` accepts. Definitions only. Assumes nothing.
use Rattle.std.specs.Prelude.{◌≡◌, ◌≢◌, ◌⊎◌, not, ℕ, ◌+◌, ◌%◌, ◌≤◌, ◌<◌, T, length}
use Rattle.std.specs.Float.Ieee.{lt, le}
use Rattle.std.specs.Float.Ieee.Scale.{finite}
use Rattle.real.specs.Real as Real
use Rattle.tree.specs.Tree.{Tree, no_node, first, second, parent, height}

pub record Sized (n : ℕ) (t : Tree) : Type 0 where
  pub some : 3 ≤ n
  pub few : n ≤ 4095
  pub odd : n % 2 ≡ 1
  pub pairs : length t.pairs ≡ n + n
  pub parents : length t.parents ≡ n
  pub heights : length t.heights ≡ n

-- node k has two children, and is the parent of both
pub record Inner (n : ℕ) (t : Tree) (k : ℕ) : Type 0 where
  pub first_node : first t k < n
  pub second_node : second t k < n
  pub two : first t k ≢ second t k
  pub first_parent : parent t (first t k) ≡ k
  pub second_parent : parent t (second t k) ≡ k

-- node c has a parent, and is one of its children
pub record Below (n : ℕ) (t : Tree) (c : ℕ) : Type 0 where
  pub parent_node : parent t c < n
  pub parent_inner : n < parent t c + parent t c
  pub side : (c ≡ first t (parent t c)) ⊎ (c ≡ second t (parent t c))

-- from node k the parents lead to the root
pub data Reach (t : Tree) : ℕ → Type 0 where
  here : {k : ℕ} → k ≡ t.root → Reach t k
  up : {k : ℕ} → k ≢ t.root → Reach t (parent t k) → Reach t k

-- a height is a number that is not negative, and no higher than the parent's: "Parent equal in height to its child is accepted"
pub record Dated (n : ℕ) (t : Tree) : Type 0 where
  pub number : (c : ℕ) → c < n → T (finite (height t c))
  pub positive : (c : ℕ) → c < n → T (not (lt (height t c) Real.zero))
  pub ordered : (c : ℕ) → c < n → c ≢ t.root → T (le (height t c) (height t (parent t c)))

-- the tips come first: k is one where 2k is at most n
pub record Valid (n : ℕ) (t : Tree) : Type 0 where
  pub sized : Sized n t
  pub tip_first : (k : ℕ) → k + k ≤ n → first t k ≡ no_node
  pub tip_second : (k : ℕ) → k + k ≤ n → second t k ≡ no_node
  pub inner : (k : ℕ) → k < n → n < k + k → Inner n t k
  pub root_node : t.root < n
  pub root_parent : parent t t.root ≡ no_node
  pub below : (c : ℕ) → c < n → c ≢ t.root → Below n t c
  pub joined : (c : ℕ) → c < n → Reach t c
  pub dated : Dated n t

-- every child is strictly younger than its parent
abbrev pub Strict : ℕ → Tree → Type 0
Strict n t = (c : ℕ) → c < n → c ≢ t.root → T (lt (height t c) (height t (parent t c)))
