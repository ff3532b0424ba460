-- `copying::copy_tree` meets its contract, by what `tree::new` said. Assumes nothing.
use Rattle.accepted.specs.NewLaws.{new-made}
use Rattle.copying.proofs.TreeLaws.{tree-refused}
use Rattle.copying.proofs.copy_tree.Goals as goal

pub copy_accepted-requires : goal.copy_accepted-requires
copy_accepted-requires c = new-made _ _ _ _ c.requires _ c.new.ensures c.in-Ok.root c.in-Ok.is

pub returns-in-Err : goal.returns-in-Err
returns-in-Err c = tree-refused _ _ _ _ c.requires _ c.new.ensures _ _ c.in-Err.why c.in-Err.is c.put_refusal.ensures
