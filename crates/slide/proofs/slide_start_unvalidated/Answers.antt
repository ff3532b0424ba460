-- `slide::slide_start_unvalidated` meets its contract. Assumes nothing.
use borrow.Author.Rules.{rules}
use Rattle.slide.proofs.StartLaws.{start_laws, start-out, start-drawn}
use Rattle.slide.proofs.slide_start_unvalidated.Goals as goal

pub returns-in-Err : goal.returns-in-Err
returns-in-Err c = search (start_laws, rules)

pub returns-in_default-draw_start : goal.returns-in_default-draw_start
returns-in_default-draw_start c =
    start-out _ _ _ _ _ c.tree.view_is _ _ _ c.check_limits.ensures c.in_default.is c.in_default-draw_start.ensures _ c.turn_back-in_default-draw_start.ensures

pub returns : goal.returns
returns c = start-drawn _ _ _ _ _ c.tree.view_is _ _ _ c.check_limits.ensures c.in_default.is _ _ _ _ c.in-Some.ensures
