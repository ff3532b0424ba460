-- `newick_file::file_all` meets its contract. Assumes nothing.
use borrow.Author.Rules.{rules}
use Rattle.newick_file.proofs.PassLaws.{pass_laws}
use Rattle.newick_file.proofs.file_all.Goals as goal

pub loop-b-preserved : goal.loop-b-preserved
loop-b-preserved c = (search rules, search rules, search rules, search rules, search (pass_laws, rules))
