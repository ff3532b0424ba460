-- `exchanges::narrow_under` meets its contract. Assumes nothing.
use borrow.Author.Rules.{rules}
use Rattle.exchanges.proofs.MildLaws.{exchange_mild_laws}
use Rattle.exchanges.proofs.NarrowLaws.{under_laws, under_moved}
use Rattle.exchanges.proofs.narrow_under.Goals as goal

pub returns-then-narrow_declines : goal.returns-then-narrow_declines
returns-then-narrow_declines c = record { decided = λ v. search (under_laws, rules); mild = search (exchange_mild_laws, rules) }

pub returns-in_default : goal.returns-in_default
returns-in_default c = record { decided = λ v. search (under_laws, rules); mild = search (exchange_mild_laws, rules) }

pub returns : goal.returns
returns c =
    record {
      decided = λ v.
          under_moved _ _ _ _ _ _ c.narrow_declines.ensures c.if-narrow_declines.false _ _ _ _ c.in-Some.ensures v _ _ _ c.narrow.ensures.decided;
      mild = search (exchange_mild_laws, rules);
    }
