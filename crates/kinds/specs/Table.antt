-- rove's 25 moves: the tuning that each starts with, and whether it changes the process, the tree and the tree's shape. Written from `initial_tuning`,
-- `changes_fbd`, `changes_tree` and `changes_topology` of mcmc/moves.rs, which document 01 ports as they are. Definitions only. Assumes nothing.
use Rattle.std.specs.Prelude.{Bool, true, false, Option, Some, None, Float}
use Rattle.std.specs.Float.{binary64}
use Rattle.std.specs.Float.Ieee.{of_bits}
use Rattle.kinds.specs.declared.Move.{Move}
use Rattle.kinds.specs.declared.Move.TheVariants as Moves

pub record Row : Type 0 where
  pub tuning : Option Float
  pub fbd : Bool
  pub tree : Bool
  pub topology : Bool

abbrev row : Option Float → Bool → Bool → Bool → Row
row tuning fbd tree topology = record { tuning = tuning; fbd = fbd; tree = tree; topology = topology }

-- 1.0, 0.75 and 0.5
abbrev pub whole : Option Float
whole = Some (of_bits binary64 0x3ff0_0000_0000_0000)

abbrev pub three_quarters : Option Float
three_quarters = Some (of_bits binary64 0x3fe8_0000_0000_0000)

abbrev pub half : Option Float
half = Some (of_bits binary64 0x3fe0_0000_0000_0000)

-- tuning, then whether it changes the process, the tree, the shape
abbrev pub row_of : Move → Row
row_of Moves.FbdBirthScale = row three_quarters true false false
row_of Moves.FbdDeathScale = row three_quarters true false false
row_of Moves.FbdSamplingScale = row three_quarters true false false
row_of Moves.FbdRhoLogit = row three_quarters true false false
row_of Moves.FbdOriginScale = row three_quarters true false false
row_of Moves.TipAge = row None false true false
row_of Moves.ClockRateScale = row three_quarters false false false
row_of Moves.NodeHeight = row None false true false
row_of Moves.SubtreeSlide = row whole false true true
row_of Moves.NarrowExchange = row None false true true
row_of Moves.WideExchange = row None false true true
row_of Moves.WilsonBalding = row None false true true
row_of Moves.RootScale = row three_quarters false true false
row_of Moves.TreeScale = row three_quarters false true false
row_of Moves.BirthDifferenceScale = row three_quarters false false false
row_of Moves.RelativeDeathScale = row three_quarters false false false
row_of Moves.GammaShapeScale = row half false false false
row_of Moves.ClockSigmaScale = row half false false false
row_of Moves.BranchRateScale = row half false false false
row_of Moves.NodeTimeRates = row None false true false
row_of Moves.RootTimeRates = row three_quarters false true false
row_of Moves.ClockSigmaRates = row half false false false
row_of Moves.NarrowExchangeRates = row None false true true
row_of Moves.BirthRateScale = row three_quarters false false false
row_of Moves.MorphologyRateScale = row three_quarters false false false
