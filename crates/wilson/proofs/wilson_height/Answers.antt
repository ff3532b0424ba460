-- `wilson::wilson_height` meets its contract. Assumes nothing.
use borrow.Author.Rules.{rules}
use Rattle.calls.proofs.HarmlessLaws.{mild_laws}
use Rattle.wilson.proofs.OntoLaws.{height_laws, height-out, height-moved}
use Rattle.wilson.proofs.wilson_height.Goals as goal

pub returns-in_default : goal.returns-in_default
returns-in_default c = record { decided = λ v. search (height_laws, rules); mild = search (mild_laws, rules) }

pub returns-in_default-height_on : goal.returns-in_default-height_on
returns-in_default-height_on c =
    record {
      decided = λ v. height-out _ _ _ _ _ _ _ _ _ _ c.in-Some.ensures c.in_default-height_on.ensures _ c.parent.ensures;
      mild = search (mild_laws, rules);
    }

pub returns : goal.returns
returns c =
    record {
      decided = λ v. height-moved _ _ _ _ _ _ _ _ _ _ c.in-Some.ensures _ _ v _ c.in-Some-height_on.ensures _ _ _ _ c.regraft-top.ensures;
      mild = search (mild_laws, rules);
    }
