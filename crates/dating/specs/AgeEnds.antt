-- The words in which AgeDemands says what a call of TipAge comes from, along document 01's rule: a moved answer is a drawn tip and height that the
-- rule admits (`AgeAdmitted`), a declined one a drawn tip for which it declines (`AgeDeclined`), an 8 a drawn height outside its interval
-- (`AgeStrays`). Definitions only. Assumes nothing.
use Rattle.std.specs.Prelude.{◌≡◌, true, false, List, ℕ, ◌<◌, Float}
use Rattle.answer.specs.declared.Ratio.{Ratio}
use Rattle.tree.specs.Tree.{Tree, nodes_of, tips_of}
use Rattle.rules.specs.Rules.{within, ceiling, TipAgeListed, tip_age_declines, tip_moved, tip_age_ratio}
use Rattle.calls.specs.Call.{Reply, makes, outside, Outcome, declined, moved}
use Rattle.calls.specs.Chosen.{Between}
use Rattle.ages.specs.declared.TipAge.{TipAge}
use Rattle.ages.specs.Ages.{age_of}

-- x is drawn from a tip's least age to the lower of its greatest and its parent's
abbrev pub AgeDrawn : Tree → ℕ → TipAge → Float → Type 0
AgeDrawn t k a x = Between a.minimum (ceiling t k a.maximum) x

-- a tip and a height that the rule admits, and that make of t the tree u with the ratio r; the root stays
pub record AgeAdmitted (minima maxima : List Float) (t u : Tree) (r : Ratio) : Type 0 where
  pub tip : ℕ
  pub height : Float
  pub listed : TipAgeListed (nodes_of t.pairs) t tip (age_of minima maxima tip).minimum (age_of minima maxima tip).maximum height
  pub drawn : AgeDrawn t tip (age_of minima maxima tip) height
  pub free : tip_age_declines t tip (age_of minima maxima tip).minimum (age_of minima maxima tip).maximum ≡ false
  pub tree : tip_moved t tip height ≡ u
  pub root : u.root ≡ t.root
  pub ratio : tip_age_ratio ≡ r

-- a tip for which the rule declines
pub record AgeDeclined (minima maxima : List Float) (t : Tree) : Type 0 where
  pub tip : ℕ
  pub node : tip < tips_of (nodes_of t.pairs)
  pub declines : tip_age_declines t tip (age_of minima maxima tip).minimum (age_of minima maxima tip).maximum ≡ true

-- the tip k, for which the rule does not decline, with a drawn height outside its interval
pub record AgeStrays (minima maxima : List Float) (t : Tree) (k : ℕ) : Type 0 where
  pub node : k < tips_of (nodes_of t.pairs)
  pub free : tip_age_declines t k (age_of minima maxima k).minimum (age_of minima maxima k).maximum ≡ false
  pub height : Float
  pub drawn : AgeDrawn t k (age_of minima maxima k) height
  pub strays : within (age_of minima maxima k).minimum height (ceiling t k (age_of minima maxima k).maximum) ≡ false

-- what the program may end in
pub data AgeExplained (minima maxima : List Float) (t : Tree) : Reply Outcome → Type 0 where
  is_moved : {u : Tree} {r : Ratio} → AgeAdmitted minima maxima t u r → AgeExplained minima maxima t (makes (moved u r))
  is_declined : AgeDeclined minima maxima t → AgeExplained minima maxima t (makes declined)
  is_outside : {k : ℕ} → AgeStrays minima maxima t k → AgeExplained minima maxima t (outside k)
