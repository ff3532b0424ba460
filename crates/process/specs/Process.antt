-- The priors of the fossilized birth–death process: which moves' parameters are estimated, and which priors are in order, along `estimates` and
-- `ProcessPriors::validate` of dating/process.rs, which document 01 ports as they are; and the limits of the fields. Definitions only. Assumes nothing.
use Rattle.std.specs.Prelude.{Bool, true, false, not, ◌&&◌, ◌||◌, cond, Float, Option, Some, None, Result, Ok, Err}
use Rattle.std.specs.Float.{binary64}
use Rattle.std.specs.Float.Ieee.{of_bits}
use Rattle.std.specs.Float.Ieee.Scale.{finite}
use Rattle.answer.specs.declared.Refusal.TheVariants.{Parameter}
use Rattle.real.specs.Real.{positive}
use Rattle.rules.specs.Rules.{within}
use Rattle.kinds.specs.declared.Move.{Move}
use Rattle.kinds.specs.declared.Move.TheVariants as Moves
use Rattle.process.specs.declared.FossilizedBirthDeath.{FossilizedBirthDeath}
use Rattle.process.specs.declared.ProcessPriors.{ProcessPriors}
use Rattle.answer.specs.declared.Refusal.{Refusal}

-- ---- what may be missing

abbrev pub is_given : Option Float → Bool
is_given None = false
is_given (Some x) = true

abbrev pub are_given : Option (Float × Float) → Bool
are_given None = false
are_given (Some (a, b)) = true

-- it passes the test, or it is missing
abbrev pub passes : (Float → Bool) → Option Float → Bool
passes test None = true
passes test (Some x) = test x

abbrev pub both_pass : (Float → Bool) → Option (Float × Float) → Bool
both_pass test None = true
both_pass test (Some (a, b)) = test a && test b

-- ---- `estimates`

-- whether the parameter that a move changes has a prior
abbrev pub estimates : ProcessPriors → Move → Bool
estimates p Moves.FbdBirthScale = is_given p.birth_rate_mean
estimates p Moves.FbdDeathScale = is_given p.death_rate_mean
estimates p Moves.FbdSamplingScale = is_given p.fossil_sampling_rate_mean
estimates p Moves.FbdRhoLogit = are_given p.present_sampling_beta
estimates p Moves.FbdOriginScale = is_given p.origin_excess_mean
estimates p Moves.TipAge = false
estimates p Moves.ClockRateScale = false
estimates p Moves.NodeHeight = false
estimates p Moves.SubtreeSlide = false
estimates p Moves.NarrowExchange = false
estimates p Moves.WideExchange = false
estimates p Moves.WilsonBalding = false
estimates p Moves.RootScale = false
estimates p Moves.TreeScale = false
estimates p Moves.BirthDifferenceScale = false
estimates p Moves.RelativeDeathScale = false
estimates p Moves.GammaShapeScale = false
estimates p Moves.ClockSigmaScale = false
estimates p Moves.BranchRateScale = false
estimates p Moves.NodeTimeRates = false
estimates p Moves.RootTimeRates = false
estimates p Moves.ClockSigmaRates = false
estimates p Moves.NarrowExchangeRates = false
estimates p Moves.BirthRateScale = false
estimates p Moves.MorphologyRateScale = false

-- ---- `ProcessPriors::validate`

-- the four means
abbrev pub every_mean : ((Option Float) → Bool) → ProcessPriors → Bool
every_mean test p = test p.birth_rate_mean && test p.death_rate_mean && test p.fossil_sampling_rate_mean && test p.origin_excess_mean

-- a beta shape is from 0.001 to 1000
abbrev pub shapely : Float → Bool
shapely x = within (of_bits binary64 0x3f50_624d_d2f1_a9fc) x (of_bits binary64 0x408f_4000_0000_0000)

-- at least one parameter is estimated
abbrev pub some_given : ProcessPriors → Bool
some_given p = not (every_mean (λ x. not (is_given x)) p) || are_given p.present_sampling_beta

unfoldable pub priors_fit : ProcessPriors → Bool
priors_fit p = every_mean (passes positive) p && both_pass shapely p.present_sampling_beta && some_given p

-- "its `Err` is a 5"
unfoldable pub priors_call : ProcessPriors → Result (Unit {0}) Refusal
priors_call p = cond (priors_fit p) (Ok tt) (Err (Parameter 0))

-- ---- limits

-- "parameters and process fields finite"
unfoldable pub priors_finite : ProcessPriors → Bool
priors_finite p = every_mean (passes finite) p && both_pass finite p.present_sampling_beta

unfoldable pub process_finite : FossilizedBirthDeath → Bool
process_finite p = finite p.birth && finite p.death && finite p.fossil_sampling && finite p.present_sampling && finite p.origin
