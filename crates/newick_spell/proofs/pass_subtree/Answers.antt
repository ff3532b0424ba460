-- `newick_spell::pass_subtree` meets its contract. Assumes nothing.
use Rattle.std.proofs.Common.{rules}
use Rattle.newick_spell.proofs.PassLaws.{pass_laws}
use Rattle.newick_spell.proofs.pass_subtree.Goals as goal

pub returns-in-Ok : goal.returns-in-Ok
returns-in-Ok c = search (pass_laws, rules)

pub returns-in-Err : goal.returns-in-Err
returns-in-Err c = search (pass_laws, rules)
