-- `newick_spell::close_all` meets its contract. Assumes nothing.
use Rattle.std.proofs.Common.{rules}
use Rattle.newick_spell.proofs.PassLaws.{close_laws}
use Rattle.newick_spell.proofs.close_all.Goals as goal

pub returns-then-not-is_sign : goal.returns-then-not-is_sign
returns-then-not-is_sign c = search (close_laws, rules)
