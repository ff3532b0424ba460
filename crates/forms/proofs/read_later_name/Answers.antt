-- `forms::read_later_name` meets its contract. Assumes nothing.
use Rattle.forms.proofs.LineLaws.{name_laws}
use borrow.Author.Rules.{rules}
use Rattle.forms.proofs.read_later_name.Goals as goal

pub returns-in-Some : goal.returns-in-Some
returns-in-Some c = search (name_laws, rules) depth 7

pub returns-in-Some-read_literal : goal.returns-in-Some-read_literal
returns-in-Some-read_literal c = search (name_laws, rules) depth 7

pub returns-in-Some-read_literal-2 : goal.returns-in-Some-read_literal-2
returns-in-Some-read_literal-2 c = search (name_laws, rules) depth 7

pub returns : goal.returns
returns c = search (name_laws, rules) depth 7
