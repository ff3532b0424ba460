-- `newick_spell::spell_end` meets its contract. Assumes nothing.
use Rattle.std.proofs.Common.{rules}
use Rattle.newick_spell.proofs.PassLaws.{end_laws}
use Rattle.newick_spell.proofs.spell_end.Goals as goal

pub returns-then-not-is_sign : goal.returns-then-not-is_sign
returns-then-not-is_sign c = search (end_laws, rules)

pub returns-then-after-text : goal.returns-then-after-text
returns-then-after-text c = search (end_laws, rules)

pub returns-else-after-text : goal.returns-else-after-text
returns-else-after-text c = search (end_laws, rules)
