-- Yule densities on tree F as rows of one statement on the definition (`yule-rows`): document 01's row, zeros of the other sign, and what
-- vanishes. Assumes nothing.
use Rattle.std.specs.Prelude.{◌≡◌, refl, Ok, Err}
use Rattle.std.specs.Float.{nan, binary64}
use Rattle.std.specs.Float.Ieee.{of_bits, lt, le, eq, add, mul, round}
use Rattle.answer.specs.declared.Refusal.TheVariants.{Height}
use Rattle.real.specs.Real as Real
use Rattle.tree.specs.Tree.{parent, height, subtree}
use Rattle.tree.specs.New.{validated, judged, scanned, scan, visit, then_adopt, adopt, joined, roots, agree, misdated, lowest}
use Rattle.tree.specs.Bounded.{every}
use Rattle.rules.specs.Samples.{0·0, −0·0, 0·5, 1·0, 2·0, 2·5, 3·0, F, F-at}
use Rattle.speciation.specs.Yule.{vanishes, total_to, total, yule, yule_call}
use Rattle.speciation.specs.declared.Density.TheVariants as Densities

pub record YuleRows : Type 0 where
  -- "Yule on F at 0.5: 2, 0.5, 2.5"
  pub F-at-half : yule_call F 0·5 ≡ Ok (Densities.Terms 2 0·5 2·5)
  -- a tip at −0.0 is at the present
  pub tip_minus_zero : yule_call (F-at −0·0 0·0 0·0 1·0 2·0) 0·5 ≡ Ok (Densities.Terms 2 0·5 2·5)
  -- bits that tell the order of the sum: nodes 3 and 4 at 0.1 and 0.9, at the rate 0.3
  pub rounded : yule_call (F-at 0·0 0·0 0·0 (of_bits binary64 0x3fb9_9999_9999_999a) (of_bits binary64 0x3fec_cccc_cccc_cccd)) (of_bits binary64 0x3fd3_3333_3333_3333)
      ≡ Ok (Densities.Terms 2 (of_bits binary64 0x3fd3_3333_3333_3333) (of_bits binary64 0x3fe2_3d70_a3d7_0a3d))
  -- one at 0.5 is not, and a rate of 0 is not positive
  pub tip_above : yule_call (F-at 0·0 0·5 0·0 1·0 2·0) 0·5 ≡ (Ok Densities.MinusInfinity)
  pub rate_zero : yule_call F 0·0 ≡ (Ok Densities.MinusInfinity)
  -- nor is one that is not finite
  pub rate_infinite : yule_call F Real.infinity ≡ (Ok Densities.MinusInfinity)
  pub rate_nan : yule_call F nan ≡ (Ok Densities.MinusInfinity)
  -- a tree that is not in order is refused first
  pub tree_first : yule_call (F-at 0·0 0·0 3·0 1·0 2·0) 0·0 ≡ Err (Height 2)

-- each by computation
pub yule-rows : YuleRows
unfolding validated judged scanned scan visit then_adopt adopt joined roots subtree agree misdated lowest parent height
    every vanishes total_to total yule yule_call of_bits lt le eq add mul round
yule-rows = record {
  F-at-half = refl;
  tip_minus_zero = refl;
  rounded = refl;
  tip_above = refl;
  rate_zero = refl;
  rate_infinite = refl;
  rate_nan = refl;
  tree_first = refl;
}
