-- `heights::root_scale_turn` meets its contract. Assumes nothing.
use borrow.Author.Rules.{rules}
use Rattle.heights.proofs.MildLaws.{heights_mild_laws}
use Rattle.heights.proofs.RangeLaws.{kin_laws}
use Rattle.heights.proofs.RootScaleLaws.{root_scale_laws, root_declined}
use Rattle.heights.proofs.root_scale_turn.Goals as goal

pub returns-in_default : goal.returns-in_default
returns-in_default c = record { decided = λ v. search (kin_laws, root_scale_laws, rules); mild = search (heights_mild_laws, rules) }

pub returns-then-not-has_children : goal.returns-then-not-has_children
returns-then-not-has_children c = record { decided = λ v. search (kin_laws, root_scale_laws, rules); mild = search (heights_mild_laws, rules) }

pub returns-then-not-is_finite : goal.returns-then-not-is_finite
returns-then-not-is_finite c = record { decided = λ v. search (kin_laws, root_scale_laws, rules); mild = search (heights_mild_laws, rules) }

pub returns-then-x-floor : goal.returns-then-x-floor
returns-then-x-floor c =
    record {
      decided = λ v.
          root_declined _ _ _ _ _ _ _ _ c.in-Some.ensures _ c.scaler-f.ensures _ c.is_finite.ensures c.if-not-is_finite.false _ c.floor.ensures c.if-x-floor.true _
          c.stay-then-x-floor.ensures;
      mild = search (heights_mild_laws, rules);
    }

pub returns : goal.returns
returns c = record { decided = λ v. search (kin_laws, root_scale_laws, rules); mild = search (heights_mild_laws, rules) }
