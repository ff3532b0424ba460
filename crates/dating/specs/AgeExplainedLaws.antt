-- TipAge's program ends in what its rule explains (`age-explained`). Assumes nothing.
use Rattle.std.specs.Prelude.{◌≡◌, refl, Bool, true, false, List, ℕ, ◌<◌, Float}
use denote.Floats.{passes}
use Rattle.random.specs.Draw.{below, run}
use Rattle.random.specs.Lawful.{Yields}
use Rattle.random.proofs.DrawLaws.{return-yields, below-yields}
use Rattle.tree.specs.Tree.{Tree, nodes_of, tips_of}
use Rattle.edits.specs.Slots.{set_height}
use Rattle.rules.specs.Rules.{within, ceiling, tip_age_declines, tip_moved, tip_age_ratio}
use Rattle.calls.specs.Call.{Reply, makes, Outcome, moved}
use Rattle.calls.specs.StepLaws.{cond-yields, number-yields, height-yields}
use Rattle.ages.specs.declared.TipAge.{TipAge}
use Rattle.ages.specs.Ages.{age_of}
use Rattle.dating.specs.TipAge.{ageing, tip_age}
use Rattle.dating.specs.AgeEnds.{AgeDrawn, AgeExplained, is_moved, is_declined, is_outside}

moved-root : (t : Tree) (k : ℕ) (x : Float) → (tip_moved t k x).root ≡ t.root
unfolding set_height
moved-root t k x = refl

-- what the program of TipAge ends in is explained by its rule
pub age-explained : (minima maxima : List Float) (t : Tree) → Yields (AgeExplained minima maxima t) (run (tip_age minima maxima t))
unfolding tip_age ageing
age-explained minima maxima t =
    number-yields Q (below tips) _ (below-yields tips)
    (λ k h. cond-yields Q (declines k) _ _ (λ d. return-yields Q _ (is_declined (record { tip = k; node = h; declines = d })))
    (λ d. height-yields Q k (age k).minimum (ceiling t k (age k).maximum) _ (λ x b w. inside k h d x b w)
    (λ x b w. is_outside (record { node = h; free = d; height = x; drawn = b; strays = w }))))
  where
    Q : Reply Outcome → Type 0
    Q = AgeExplained minima maxima t

    tips : ℕ
    tips = tips_of (nodes_of t.pairs)

    age : ℕ → TipAge
    age k = age_of minima maxima k

    declines : ℕ → Bool
    declines k = tip_age_declines t k (age k).minimum (age k).maximum

    inside : (k : ℕ) → k < tips → declines k ≡ false → (x : Float) → AgeDrawn t k (age k) x → within (age k).minimum x (ceiling t k (age k).maximum) ≡ true
        → Q (makes (moved (tip_moved t k x) tip_age_ratio))
    inside k h d x b w = is_moved (record {
      tip = k;
      height = x;
      listed = record { tip = h; interval = passes _ w };
      drawn = b;
      free = d;
      tree = refl;
      root = moved-root t k x;
      ratio = refl;
    })
