-- `forms::read_words` meets its contract. Assumes nothing.
use Rattle.forms.proofs.LineLaws.{words-three, words-four}
use Rattle.forms.proofs.read_words.Goals as goal

pub returns-in_err-d : goal.returns-in_err-d
returns-in_err-d c = words-three _ _ _ c.read_word.ensures _ _ _ c.in_ok-a.was c.read_next_word.ensures _ _ _ c.in_ok-b.was c.read_next_word-2.ensures _ _ _ c.in_ok-c.was c.read_next_word-3.ensures _ c.in_err-d.was c.from_residual-in_err-d.ensures

pub returns : goal.returns
returns c = words-four _ _ _ c.read_word.ensures _ _ _ c.in_ok-a.was c.read_next_word.ensures _ _ _ c.in_ok-b.was c.read_next_word-2.ensures _ _ _ c.in_ok-c.was c.read_next_word-3.ensures _ _ c.in_ok-d.was
