-- `exchanges::narrow_exchange_turn` meets its contract. Assumes nothing.
use borrow.Author.Rules.{rules}
use Rattle.exchanges.proofs.MildLaws.{exchange_mild_laws}
use Rattle.exchanges.proofs.NarrowLaws.{narrow_turn_laws, turn-done}
use Rattle.exchanges.proofs.narrow_exchange_turn.Goals as goal

pub returns-then-is_one_internal : goal.returns-then-is_one_internal
returns-then-is_one_internal c = record { decided = λ v. search (narrow_turn_laws, rules); mild = search (exchange_mild_laws, rules) }

pub returns-in_default : goal.returns-in_default
returns-in_default c = record { decided = λ v. search (narrow_turn_laws, rules); mild = search (exchange_mild_laws, rules) }

pub returns : goal.returns
returns c =
    record {
      decided = λ v. turn-done _ _ _ _ _ _ c.is_one_internal.ensures c.if-is_one_internal.false _ _ c.in-Some.ensures v _ c.narrow_under.ensures.decided;
      mild = search (exchange_mild_laws, rules);
    }
