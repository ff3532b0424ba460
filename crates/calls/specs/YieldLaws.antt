-- What the draws of the moves give: a node other than the root (`non-root-yields`), an internal node (`internal-yields`), and of a number that is
-- drawn again, that it passes the test as well (random/DrawLaws `until-yields`). Assumes nothing.
use Rattle.std.specs.Prelude.{◌≡◌, ◌≢◌, not, ℕ, ◌+◌, ◌%◌, ◌<◌, eqb}
use Rattle.std.proofs.Common.{arith}
use Rattle.random.specs.Draw.{below, pick}
use Rattle.random.specs.Lawful.{Yields}
use Rattle.random.proofs.DrawLaws.{until-yields, map-yields, below-yields}
use Rattle.tree.specs.Tree.{tips_of}
use Rattle.tree.specs.ScanLaws.{neqb→ne}
use Rattle.rules.specs.Rules.{internals}
use Rattle.calls.specs.Draws.{non_root, internal}

-- k is a node of n other than the root
pub record NonRoot (n root k : ℕ) : Type 0 where
  pub node : k < n
  pub under : k ≢ root

-- k is an internal node of n
pub record Internal (n k : ℕ) : Type 0 where
  pub node : k < n
  pub inner : n < k + k

-- such a node is drawn
pub non-root-yields : (n root : ℕ) → Yields (NonRoot n root) (pick (non_root n root))
unfolding non_root
non-root-yields n root s k u e =
    let p = until-yields (λ j. j < n) (λ j. not (eqb j root)) (below n) (below-yields n) s k u e in
    record { node = p.1; under = neqb→ne k root (rw p.0 tt) }

-- such a node is drawn, n being odd
pub internal-yields : (n : ℕ) → n % 2 ≡ 1 → Yields (Internal n) (pick (internal n))
unfolding internal
internal-yields n h = map-yields (λ j. j < internals n) (Internal n) (λ j. tips_of n + j) (below (internals n)) (below-yields (internals n))
    (λ j p. record { node = omega arith; inner = omega arith })
