-- `wilson::wilson_balding_turn` meets its contract. Assumes nothing.
use borrow.Author.Rules.{rules}
use Rattle.calls.proofs.HarmlessLaws.{mild_laws}
use Rattle.wilson.proofs.TurnLaws.{turn_laws, turn-onto}
use Rattle.wilson.proofs.wilson_balding_turn.Goals as goal

pub returns-in_default : goal.returns-in_default
returns-in_default c = record { decided = λ v. search (turn_laws, rules); mild = search (mild_laws, rules) }

pub returns-in_default-host : goal.returns-in_default-host
returns-in_default-host c = record { decided = λ v. search (turn_laws, rules); mild = search (mild_laws, rules) }

pub returns : goal.returns
returns c =
    record {
      decided = λ v. turn-onto _ _ _ _ _ _ _ c.in-Some.ensures _ _ c.in-Some-host.ensures v _ c.wilson_onto.ensures;
      mild = search (mild_laws, rules);
    }
