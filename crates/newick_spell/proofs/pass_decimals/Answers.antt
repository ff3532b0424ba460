-- `newick_spell::pass_decimals` meets its contract. Assumes nothing.
use Rattle.std.proofs.Common.{rules}
use Rattle.newick_spell.proofs.TokenLaws.{token_laws}
use Rattle.newick_spell.proofs.pass_decimals.Goals as goal

pub returns-then-not-is_digit : goal.returns-then-not-is_digit
returns-then-not-is_digit c = search (token_laws, rules)

pub returns-then-not-is_digit-2 : goal.returns-then-not-is_digit-2
returns-then-not-is_digit-2 c = search (token_laws, rules)

pub returns-then-not-is_digit-3 : goal.returns-then-not-is_digit-3
returns-then-not-is_digit-3 c = search (token_laws, rules)
