-- `heights::node_height_turn` meets its contract. Assumes nothing.
use borrow.Author.Rules.{rules}
use Rattle.heights.proofs.MildLaws.{heights_mild_laws}
use Rattle.heights.proofs.RangeLaws.{kin_laws, passed}
use Rattle.heights.proofs.NodeHeightLaws.{node_height_laws, turn-kinless}
use Rattle.heights.proofs.node_height_turn.Goals as goal

pub returns-then-not-is_shaped : goal.returns-then-not-is_shaped
returns-then-not-is_shaped c = record { decided = λ v. search (kin_laws, node_height_laws, rules); mild = search (heights_mild_laws, rules) }

pub returns-then-n-lt2 : goal.returns-then-n-lt2
returns-then-n-lt2 c = record { decided = λ v. search (kin_laws, node_height_laws, rules); mild = search (heights_mild_laws, rules) }

pub returns-in_default : goal.returns-in_default
returns-in_default c = record { decided = λ v. search (kin_laws, node_height_laws, rules); mild = search (heights_mild_laws, rules) }

pub place-requires : goal.place-requires
place-requires c = passed _ c.has_kin.result c.has_kin.ensures c.if-has_kin.true

pub returns-then-has_kin : goal.returns-then-has_kin
returns-then-has_kin c = record { decided = λ v. search (kin_laws, node_height_laws, rules); mild = search (heights_mild_laws, rules) }

pub returns-else-has_kin : goal.returns-else-has_kin
returns-else-has_kin c =
    record {
      decided = λ v. turn-kinless _ _ _ _ _ v c.if-n-lt2.false _ _ c.in-Some.ensures _ c.has_kin.ensures c.if-has_kin.false _;
      mild = search (heights_mild_laws, rules);
    }
