-- `newick_spell::pass_branch` meets its contract. Assumes nothing.
use Rattle.std.proofs.Common.{rules}
use Rattle.newick_spell.proofs.TokenLaws.{token_laws}
use Rattle.newick_spell.proofs.pass_branch.Goals as goal

pub returns-else-is_sign : goal.returns-else-is_sign
returns-else-is_sign c = search (token_laws, rules)
