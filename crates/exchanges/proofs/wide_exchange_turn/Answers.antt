-- `exchanges::wide_exchange_turn` meets its contract. Assumes nothing.
use borrow.Author.Rules.{rules}
use Rattle.exchanges.proofs.MildLaws.{exchange_mild_laws}
use Rattle.exchanges.proofs.WideLaws.{wide_laws, wide-moved}
use Rattle.exchanges.proofs.wide_exchange_turn.Goals as goal

pub returns-in_default : goal.returns-in_default
returns-in_default c = record { decided = λ v. search (wide_laws, rules); mild = search (exchange_mild_laws, rules) }

pub returns-in_default-apart : goal.returns-in_default-apart
returns-in_default-apart c = record { decided = λ v. search (wide_laws, rules); mild = search (exchange_mild_laws, rules) }

pub returns-then-wide_declines : goal.returns-then-wide_declines
returns-then-wide_declines c = record { decided = λ v. search (wide_laws, rules); mild = search (exchange_mild_laws, rules) }

pub returns : goal.returns
returns c =
    record {
      decided = λ v. wide-moved _ _ _ _ _ _ _ c.in-Some.ensures _ _ c.in-Some-apart.ensures _ c.wide_declines.ensures c.if-wide_declines.false v _ _ _ c.exchange-top.ensures;
      mild = search (exchange_mild_laws, rules);
    }
