-- `order::postorder` meets its contract: what is filled is a valid tree's. Assumes nothing.
use Rattle.order.proofs.FillLaws.{postorder-fills}
use Rattle.order.proofs.postorder.Goals as goal

pub fill-requires : goal.fill-requires
fill-requires c = postorder-fills c.args.tree.now _ _ c.tree.view_is c.if-order-n.false _ c.validate.ensures c.in_ok-validate.was
