-- What the pass answers of a text, by the reader of crate newick. Definitions only. Assumes nothing.
use Rattle.std.specs.Prelude.{List, [], ℕ, ◌-◌, length, Result, Ok, Err}
use Rattle.newick.specs.Newick.{start, sub, name, made, colon, whole, point, tenths, hundredths, branch, done, Run, forbidden, reached, run}
use Rattle.newick_spell.specs.declared.Misspelling.TheVariants as Misspellings
use Rattle.newick_spell.specs.declared.Misspelling.{Misspelling}

-- of a text of so many bytes, by what is left of it where a byte is forbidden, or by where its end leaves the reader
abbrev pub spelling_in : ℕ → Run → Result (Unit {0}) Misspelling
spelling_in long (forbidden rest) = Err (Misspellings.Forbidden (long - length rest))
spelling_in long (reached start fs) = (Err Misspellings.Unfinished)
spelling_in long (reached sub fs) = (Err Misspellings.Unfinished)
spelling_in long (reached (name k) fs) = (Err Misspellings.Unfinished)
spelling_in long (reached (made t) fs) = (Err Misspellings.Unfinished)
spelling_in long (reached (colon t) fs) = (Err Misspellings.Unfinished)
spelling_in long (reached (whole t w) fs) = (Err Misspellings.Unfinished)
spelling_in long (reached (point t w) fs) = (Err Misspellings.Unfinished)
spelling_in long (reached (tenths t w) fs) = (Err Misspellings.Unfinished)
spelling_in long (reached (hundredths t w) fs) = (Err Misspellings.Unfinished)
spelling_in long (reached (branch t x) fs) = (Err Misspellings.Unfinished)
spelling_in long (reached (done t) fs) = (Ok tt)

unfoldable pub spelling_of : List ℕ → Result (Unit {0}) Misspelling
spelling_of s = spelling_in (length s) (run start [] s)
