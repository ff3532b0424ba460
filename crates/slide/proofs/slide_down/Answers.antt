-- `slide::slide_down` meets its contract. Assumes nothing.
use borrow.Author.Rules.{rules}
use Rattle.calls.proofs.HarmlessLaws.{mild_laws}
use Rattle.slide.proofs.SlideLaws.{down-above, down-past, down-stays}
use Rattle.slide.proofs.slide_down.Goals as goal

pub returns-then-x-height : goal.returns-then-x-height
returns-then-x-height c = record { decided = λ v. search (down-above, rules); mild = search (mild_laws, rules) }

pub returns-then-x-height-2 : goal.returns-then-x-height-2
returns-then-x-height-2 c = record { decided = λ v. search (down-past, rules); mild = search (mild_laws, rules) }

pub returns : goal.returns
returns c =
    record {
      decided = λ v.
          down-stays _ _ _ _ _ _ v.goes _ c.height.ensures c.if-x-height.false _ v.above _ c.other-sibling.ensures _ c.height-2.ensures c.if-x-height-2.false _
          c.set_height.ensures c.args.s;
      mild = search (mild_laws, rules);
    }
