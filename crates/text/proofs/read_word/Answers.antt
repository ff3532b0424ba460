-- `text::read_word` meets its contract. Assumes nothing.
use Rattle.std.proofs.Common.{rules}
use Rattle.text.proofs.ReadLaws.{word_laws}
use Rattle.text.proofs.read_word.Goals as goal

pub returns-then-d-ge16 : goal.returns-then-d-ge16
returns-then-d-ge16 c = search (word_laws, rules)

pub overflow_mul-n : goal.overflow_mul-n
overflow_mul-n c = search (word_laws, rules)

pub overflow_add-n : goal.overflow_add-n
overflow_add-n c = search (word_laws, rules)

pub loop-b-preserved : goal.loop-b-preserved
loop-b-preserved c = search (word_laws, rules)
