-- TipAge keeps a tree valid (`tip-age-valid`), a tip's ages being in order (`Sound`), as they are of a tip that is not at fault (`sound-age`). Assumes
-- nothing.
use Rattle.std.specs.Prelude.{◌≡◌, false, not, ◌&&◌, ◌||◌, List, ℕ, ◌+◌, ◌≤◌, ◌<◌, T, Float}
use Rattle.std.proofs.Common.{arith}
use Rattle.std.specs.Float.Ieee.{lt, le, eq}
use Rattle.std.specs.Float.Ieee.Scale.{finite}
use Rattle.std.proofs.lemmas.Bool.{not-false}
use Rattle.real.specs.Real as Real
use Rattle.real.specs.OrderLaws.{min-finite, of-le-min, not_negative}
use Rattle.real.specs.SignedLaws.{NotNegative}
use Rattle.tree.specs.Tree.{Tree, tips_of, parent, height}
use Rattle.tree.specs.Valid.{Valid}
use Rattle.accepted.specs.RootLaws.{root-inner}
use Rattle.rules.specs.Rules.{ceiling, TipAgeListed, tip_moved}
use Rattle.reversal.specs.FailedLaws.{passed, failed, or-first, or-second, lt-false}
use Rattle.reversal.specs.IntervalLaws.{within_low, within-high, within-finite}
use Rattle.reversal.specs.DatedLaws.{set-tip-valid}
use Rattle.process.specs.declared.FossilizedBirthDeath.{FossilizedBirthDeath}
use Rattle.ages.specs.declared.TipAge.{TipAge}
use Rattle.ages.specs.Ages.{age_of, misaged, unsampled, at_fault}

-- a tip's ages are finite and not negative, and the least is not above the greatest
pub record Sound (a : TipAge) : Type 0 where
  pub least : NotNegative a.minimum
  pub greatest : NotNegative a.maximum
  pub ordered : T (le a.minimum a.maximum)

-- so are those of a tip that is not at fault
pub sound-age : (p : FossilizedBirthDeath) (minima maxima : List Float) (k : ℕ) → at_fault p minima maxima k ≡ false → Sound (age_of minima maxima k)
unfolding at_fault misaged
sound-age p minima maxima k e =
    let a = age_of minima maxima k in
    let b1 = not (finite a.minimum) in
    let b2 = not (finite a.maximum) in
    let b3 = lt a.minimum Real.zero in
    let b4 = lt a.maximum a.minimum in
    let b5 = le p.origin a.maximum in
    let b6 = eq a.minimum Real.zero && lt Real.zero a.maximum in
    let e6 = or-first (b1 || b2 || b3 || b4 || b5 || b6) (unsampled p.present_sampling a) e in
    let e5 = or-first (b1 || b2 || b3 || b4 || b5) b6 e6 in
    let e4 = or-first (b1 || b2 || b3 || b4) b5 e5 in
    let e3 = or-first (b1 || b2 || b3) b4 e4 in
    let e2 = or-first (b1 || b2) b3 e3 in
    let A : T (finite a.minimum) = passed _ (not-false (finite a.minimum) (or-first b1 b2 e2)) in
    let B : T (finite a.maximum) = passed _ (not-false (finite a.maximum) (or-second b1 b2 e2)) in
    let P : T (not b3) = failed b3 (or-second (b1 || b2) b3 e3) in
    let O : T (le a.minimum a.maximum) = lt-false a.maximum a.minimum B A (or-second (b1 || b2 || b3) b4 e4) in
    record {
      least = record { number = A; positive = P };
      greatest = record { number = B; positive = not_negative a.minimum a.maximum A B P O };
      ordered = O;
    }

-- what a listed choice of TipAge makes of a valid tree is valid
pub tip-age-valid : {n : ℕ} {t : Tree} → Valid n t → (k : ℕ) (a : TipAge) → Sound a → (x : Float) → TipAgeListed n t k a.minimum a.maximum x
    → Valid n (tip_moved t k x)
tip-age-valid {n} {t} v k a s x l = set-tip-valid v k K tip x X
    (not_negative a.minimum x s.least.number X s.least.positive (within_low a.minimum x top l.interval))
    (λ d. (of-le-min a.maximum (height t (parent t k)) x s.greatest.number H X (within-high a.minimum x top l.interval)).1)
  where
    tip : k + k ≤ n
    tip = let h : k < tips_of n = l.tip in omega (arith, h, v.sized.odd)

    K : k < n
    K = let some = v.sized.some in omega arith

    top : Float
    top = ceiling t k a.maximum

    H : T (finite (height t (parent t k)))
    H = v.dated.number (parent t k) (v.below k K (λ e. (let r = root-inner v in omega arith))).parent_node

    X : T (finite x)
    X = within-finite a.minimum x top s.least.number (min-finite a.maximum (height t (parent t k)) s.greatest.number H) l.interval
