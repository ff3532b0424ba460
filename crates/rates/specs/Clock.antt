-- The relaxed clock: a standard deviation sigma, and "One rate per node but the root", which is also the place of node n − 1 where that is not the
-- root. What `RelaxedClock::new` makes, the rate of a node's branch, and the two ways to set a part. Definitions only. Assumes nothing.
use Rattle.std.specs.Prelude.{Bool, true, false, ◌&&◌, cond, List, ℕ, leb, ltb, eqb, length, get_or, set, Float, Result, Ok, Err}
use Rattle.std.specs.Float.{nan}
use Rattle.answer.specs.declared.Refusal.TheVariants.{Parameter}
use Rattle.real.specs.Real.{one, positive}
use Rattle.tree.specs.Bounded.{every}
use Rattle.rates.specs.declared.SigmaSet.{SigmaSet}
use Rattle.answer.specs.declared.Refusal.{Refusal}

-- ---- `RelaxedClock::new`

-- rate i is finite and positive
abbrev pub positive_at : List Float → ℕ → Bool
positive_at rates i = positive (get_or rates i nan)

-- "clock as `RelaxedClock::new`": sigma and all rates are finite and positive, and there are two rates or more
unfoldable pub clock_fits : Float → List Float → Bool
clock_fits sigma rates = positive sigma && leb 2 (length rates) && every (positive_at rates) (length rates)

unfoldable pub new_call : Float → List Float → Result (Unit {0}) Refusal
new_call sigma rates = cond (clock_fits sigma rates) (Ok tt) (Err (Parameter 0))

-- ---- `branch_rate`

-- the place of a node's rate: "node n − 1, when not the root, uses the root's place", n − 1 being the number of rates
abbrev pub place_of : ℕ → ℕ → ℕ → ℕ
place_of count node root = cond (eqb node count) root node

-- the root's own branch has the rate 1
unfoldable pub rate_of : List Float → ℕ → ℕ → Float
rate_of rates node root = cond (eqb node root) one (get_or rates (place_of (length rates) node root) nan)

-- "Node or root above the rate count [...] gives refusal 5"
unfoldable pub branch_rate_call : Float → List Float → ℕ → ℕ → Result Float Refusal
branch_rate_call sigma rates node root =
    cond (clock_fits sigma rates && leb node (length rates) && leb root (length rates)) (Ok (rate_of rates node root)) (Err (Parameter 0))

-- ---- `set_sigma`, `set_rate`: "any f64", and whether it was stored

unfoldable pub set_sigma_call : Float → List Float → Float → SigmaSet
set_sigma_call sigma rates new =
    cond (clock_fits sigma rates) (record { stored = Ok (positive new); sigma = cond (positive new) new sigma }) (record { stored = Err (Parameter 0); sigma = sigma })

-- what `set_rate` leaves: its answer, and the lent rates
pub record RateSet : Type 0 where
  pub stored : Result Bool Refusal
  pub rates : List Float

abbrev pub rate_set : Result Bool Refusal → List Float → RateSet
rate_set stored rates = record { stored = stored; rates = rates }

-- "a `set_rate` index at or past it, gives refusal 5"
unfoldable pub set_rate_call : Float → List Float → ℕ → Float → RateSet
set_rate_call sigma rates index new =
    cond (clock_fits sigma rates && ltb index (length rates)) (cond (positive new) (rate_set (Ok true) (set rates index new)) (rate_set (Ok false) rates))
    (rate_set (Err (Parameter 0)) rates)
