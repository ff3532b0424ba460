-- The words in which ScalingLaws says what a scale's answer comes from: a drawn factor makes a new value that the line admits (`Scales`), or one that it does
-- not (`Declines`). Definitions only. Assumes nothing.
use Rattle.std.specs.Prelude.{◌≡◌, Bool, true, false, negsuc, Float}
use Rattle.answer.specs.declared.Ratio.{Ratio}
use Rattle.answer.specs.declared.Ratio.TheVariants.{Power}
use Rattle.calls.specs.Chosen.{Factor}
use Rattle.calls.specs.Change.{Change, declined, scaled}

-- a factor that a uniform gives makes x, which is admitted; "Scales: k = −1"
pub record Scales (tuning : Float) (make : Float → Float) (admits : Float → Bool) (x : Float) (r : Ratio) : Type 0 where
  pub factor : Float
  pub drawn : Factor tuning factor
  pub new : make factor ≡ x
  pub admitted : admits x ≡ true
  pub ratio : Power factor (negsuc 0) ≡ r

-- what it makes is not admitted
pub record Declines (tuning : Float) (make : Float → Float) (admits : Float → Bool) : Type 0 where
  pub factor : Float
  pub drawn : Factor tuning factor
  pub outside : admits (make factor) ≡ false

-- what drawing a factor may end in
pub data Scaling (tuning : Float) (make : Float → Float) (admits : Float → Bool) : Change Float → Type 0 where
  is_scaled : {x : Float} {r : Ratio} → Scales tuning make admits x r → Scaling tuning make admits (scaled x r)
  is_declined : Declines tuning make admits → Scaling tuning make admits declined

-- the same of a part, the rest of P standing beside it
pub data Placed {P : Type 0} (put : Float → P) (tuning : Float) (make : Float → Float) (admits : Float → Bool) : Change P → Type 0 where
  is_placed : {x : Float} {r : Ratio} → Scales tuning make admits x r → Placed put tuning make admits (scaled (put x) r)
  is_kept : Declines tuning make admits → Placed put tuning make admits declined

-- what P was left by a scale of a part of it
pub record PartScales {P : Type 0} (put : Float → P) (tuning : Float) (make : Float → Float) (admits : Float → Bool) (after : P) (r : Ratio) : Type 0 where
  pub new : Float
  pub is : put new ≡ after
  pub scales : Scales tuning make admits new r
