-- `wilson::wilson_onto` meets its contract. Assumes nothing.
use borrow.Author.Rules.{rules}
use Rattle.calls.proofs.HarmlessLaws.{mild_laws}
use Rattle.wilson.proofs.OntoLaws.{onto_laws, onto-height}
use Rattle.wilson.proofs.wilson_onto.Goals as goal

pub returns-in_default : goal.returns-in_default
returns-in_default c = record { decided = λ v. search (onto_laws, rules); mild = search (mild_laws, rules) }

pub returns : goal.returns
returns c =
    record {
      decided = λ v. onto-height _ _ _ _ _ _ _ _ _ _ c.in-Some.ensures v _ c.wilson_height.ensures;
      mild = search (mild_laws, rules);
    }
