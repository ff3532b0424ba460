-- `newick_spell::close_one` meets its contract. Assumes nothing.
use Rattle.std.proofs.Common.{rules}
use Rattle.newick_spell.proofs.PassLaws.{close_laws}
use Rattle.newick_spell.proofs.close_one.Goals as goal

pub returns-then-not-is_sign : goal.returns-then-not-is_sign
returns-then-not-is_sign c = search (close_laws, rules)

pub returns-then-outer-eq0 : goal.returns-then-outer-eq0
returns-then-outer-eq0 c = search (close_laws, rules)

pub returns-in-Ok : goal.returns-in-Ok
returns-in-Ok c = search (close_laws, rules)

pub returns-in-Err : goal.returns-in-Err
returns-in-Err c = search (close_laws, rules)
