-- What TipAge draws, in the order of `Dating::propose_age`, and its call. Definitions only. Assumes nothing.
use Rattle.std.specs.Prelude.{cond, ◌&&◌, List, ℕ, Float, Result}
use Rattle.random.specs.declared.Random.{Random}
use Rattle.random.specs.Draw.{allowed, below, Draw, return, draw, ◌>>=◌}
use Rattle.tree.specs.Tree.{Tree, nodes_of, tips_of}
use Rattle.rules.specs.Rules.{ceiling, tip_age_declines, tip_moved, tip_age_ratio}
use Rattle.calls.specs.Call.{Reply, makes, Outcome, declined, moved, run_call, Called, leaves}
use Rattle.calls.specs.Draws.{drawn_height}
use Rattle.process.specs.declared.FossilizedBirthDeath.{FossilizedBirthDeath}
use Rattle.process.specs.Process.{process_finite}
use Rattle.ages.specs.declared.TipAge.{TipAge}
use Rattle.ages.specs.Ages.{age_of, table_checked}
use Rattle.answer.specs.declared.Refusal.{Refusal}

-- "a height from its least age to the lower of greatest age and parent's. Declined if that has no length."
unfoldable pub ageing : Tree → ℕ → TipAge → Draw (Reply Outcome)
ageing t k a =
    cond (tip_age_declines t k a.minimum a.maximum) (return (makes declined))
    (drawn_height k a.minimum (ceiling t k a.maximum) (λ x. moved (tip_moved t k x) tip_age_ratio))

-- "a tip", then its height
unfoldable pub tip_age : List Float → List Float → Tree → Draw (Reply Outcome)
tip_age minima maxima t = do
  k ← draw (below (tips_of (nodes_of t.pairs)))
  ageing t k (age_of minima maxima k)

-- the checks of the call, in the order of the refusals
unfoldable pub ages_checked : List Float → List Float → FossilizedBirthDeath → Tree → ℕ → Result (Unit {0}) Refusal
ages_checked minima maxima p t allowance = table_checked p minima maxima t (process_finite p && allowed allowance)

unfoldable pub tip_age_call : List Float → List Float → FossilizedBirthDeath → Tree → Random → ℕ → Called
tip_age_call minima maxima p t g allowance = leaves t g (run_call (ages_checked minima maxima p t allowance) (tip_age minima maxima t) g allowance)
