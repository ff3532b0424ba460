-- `slide::slide_under` meets its contract. Assumes nothing.
use borrow.Author.Rules.{rules}
use Rattle.calls.proofs.HarmlessLaws.{mild_laws}
use Rattle.slide.proofs.SlideLaws.{under_none, under-spent, under_goes}
use Rattle.slide.proofs.slide_under.Goals as goal

pub returns-then-count-eq0 : goal.returns-then-count-eq0
returns-then-count-eq0 c = record { decided = λ v. search (under_none, rules); mild = search (mild_laws, rules) }

pub returns-in_default : goal.returns-in_default
returns-in_default c = record { decided = λ v. under-spent _ _ _ _ _ _ _ v _ c.count-count.ensures _ c.if-count-eq0.false c.in_default.ensures; mild = search (mild_laws, rules) }

pub returns : goal.returns
returns c =
    record {
      decided = λ v.
          under_goes _ _ _ _ _ _ _ v _ c.count-count.ensures _ c.if-count-eq0.false _ _ c.in-Some.ensures _ c.branch-child.ensures _ _ _ _ c.regraft-top.ensures;
      mild = search (mild_laws, rules);
    }
