-- The Yule density of a tree: its terms before the logarithm is taken, along `yule_log_density` of speciation.rs. Definitions only. Assumes nothing.
use Rattle.std.specs.Prelude.{Bool, not, ◌||◌, cond, ℕ, zero, suc, ◌-◌, Float, Result, Ok, Err}
use Rattle.std.specs.Float.{binary64}
use Rattle.std.specs.Float.Ieee.{eq, add, mul}
use Rattle.real.specs.Real as Real
use Rattle.real.specs.Real.{positive}
use Rattle.tree.specs.Tree.{Tree, nodes_of, tips_of, inner, height}
use Rattle.tree.specs.New.{validated}
use Rattle.tree.specs.Bounded.{every}
use Rattle.answer.specs.declared.Refusal.{Refusal}
use Rattle.speciation.specs.declared.Density.TheVariants as Densities
use Rattle.speciation.specs.declared.Density.{Density}

-- tip k is at the present; −0.0 is zero
abbrev pub present_at : Tree → ℕ → Bool
present_at t k = eq (height t k) Real.zero

-- minus infinity "under the Rust's conditions": a rate that is not finite or not above 0, or a tip that is not at the present
unfoldable pub vanishes : Tree → Float → Bool
vanishes t rate = not (positive rate) || not (every (present_at t) (tips_of (nodes_of t.pairs)))

-- the internal heights among the first m nodes, added in the order of the nodes from 0.0
unfoldable pub total_to : ℕ → Tree → ℕ → Float
total_to n t zero = Real.zero
total_to n t (suc m) = cond (inner n m) (add binary64 (total_to n t m) (height t m)) (total_to n t m)

-- and the root's once more
unfoldable pub total : Tree → Float
total t = let n = nodes_of t.pairs in add binary64 (total_to n t n) (height t t.root)

-- "else (tips − 1), the rate, and rate times total"
unfoldable pub yule : Tree → Float → Result Density Refusal
yule t rate = cond (vanishes t rate) (Ok Densities.MinusInfinity) (Ok (Densities.Terms (tips_of (nodes_of t.pairs) - 1) rate (mul binary64 rate (total t))))

abbrev pub or_refused : Result (Unit {0}) Refusal → Result Density Refusal → Result Density Refusal
or_refused (Ok tt) d = d
or_refused (Err why) d = Err why

-- "any f64 for Yule": only the tree can be refused
unfoldable pub yule_call : Tree → Float → Result Density Refusal
yule_call t rate = or_refused (validated t) (yule t rate)
