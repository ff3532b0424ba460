-- `heights::tree_scale_turn` meets its contract. Assumes nothing.
use borrow.Author.Rules.{rules}
use Rattle.heights.proofs.MildLaws.{heights_mild_laws, scaled-mild}
use Rattle.random.specs.Draw.{uniform}
use Rattle.calls.proofs.HarmlessLaws.{program-stepped}
use Rattle.random.proofs.DrawLaws.{stepped-refl}
use Rattle.heights.proofs.TreeScaleLaws.{tree_scale_laws, tree-not-finite}
use Rattle.heights.proofs.tree_scale_turn.Goals as goal

pub returns-in_default : goal.returns-in_default
returns-in_default c = record { decided = λ v. search (tree_scale_laws, rules); mild = search (heights_mild_laws, rules) }

pub returns-then-not-is_scalable : goal.returns-then-not-is_scalable
returns-then-not-is_scalable c = record { decided = λ v. search (tree_scale_laws, rules); mild = search (heights_mild_laws, rules) }

pub returns-then-is_finite : goal.returns-then-is_finite
returns-then-is_finite c =
    record {
      decided = λ v. search (tree_scale_laws, rules);
      mild = scaled-mild _ _ _ _ _ _ (program-stepped _ _ (stepped-refl _) uniform _ _ c.in-Some.ensures) _;
    }

pub returns-else-is_finite : goal.returns-else-is_finite
returns-else-is_finite c =
    record {
      decided = λ v. tree-not-finite _ _ _ _ _ _ v _ _ c.in-Some.ensures _ c.scaler-f.ensures _ c.is_finite.ensures c.if-is_finite.false _ c.lowest_overflow.ensures;
      mild = search (heights_mild_laws, rules);
    }
