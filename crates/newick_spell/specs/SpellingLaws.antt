-- What each answer says to a caller: of what the text says by crate newick (`forbidden-reading`, `unfinished-reading`, `spelled-reading`), and of a text that
-- is spelled to its end, that a reader comes to a value with it (`spelled-run`). Assumes nothing.
use Rattle.std.specs.Prelude.{◌≡◌, refl, ℕ, length, Result, Ok, Err}
use Rattle.std.proofs.Math.Path.{ap, subst}
use Rattle.std.proofs.Common.{◌∙◌}
use mathlib.Core.List.{List, []}
use Rattle.newick.specs.Newick.{Newick, Frame, start, sub, name, made, colon, whole, point, tenths, hundredths, branch, done, Run, forbidden, reached, run}
use Rattle.newick.specs.PlaceLaws.{run-fine}
use Rattle.newick.specs.Reading.{faulty, ended, judged_run, reading}
use Rattle.newick_spell.specs.Spelling.{spelling_in, spelling_of}
use Rattle.newick_spell.specs.declared.Misspelling.TheVariants as Misspellings
use Rattle.newick_spell.specs.declared.Misspelling.{Misspelling}

-- what an answer says of a run over so many bytes
abbrev Says : ℕ → Run → Result (Unit {0}) Misspelling → Type 0
Says long x (Err (Misspellings.Forbidden p)) = judged_run long x ≡ faulty p
Says long x (Err Misspellings.Unfinished) = judged_run long x ≡ faulty long
Says long x (Ok tt) = (t : Newick) × (fs : List Frame) × (x ≡ reached (done t) fs)

said : (long : ℕ) (x : Run) → Says long x (spelling_in long x)
said long (forbidden rest) = refl
said long (reached start fs) = refl
said long (reached sub fs) = refl
said long (reached (name k) fs) = refl
said long (reached (made t) fs) = refl
said long (reached (colon t) fs) = refl
said long (reached (whole t w) fs) = refl
said long (reached (point t w) fs) = refl
said long (reached (tenths t w) fs) = refl
said long (reached (hundredths t w) fs) = refl
said long (reached (branch t x) fs) = refl
said long (reached (done t) fs) = (t, fs, refl)

module _ (s : List ℕ) where
  answer-says : (a : Result (Unit {0}) Misspelling) → spelling_of s ≡ a → Says (length s) (run start [] s) a
  unfolding spelling_of
  answer-says a e = subst (Says (length s) (run start [] s)) e (said (length s) (run start [] s))

  pub forbidden-reading : (p : ℕ) → spelling_of s ≡ Err (Misspellings.Forbidden p) → reading s ≡ faulty p
  unfolding reading
  forbidden-reading p e = answer-says (Err (Misspellings.Forbidden p)) e

  pub unfinished-reading : spelling_of s ≡ (Err Misspellings.Unfinished) → reading s ≡ faulty (length s)
  unfolding reading
  unfinished-reading e = answer-says (Err Misspellings.Unfinished) e

  pub spelled-reading : (t : Newick) → run start [] s ≡ reached (done t) [] → reading s ≡ ended (length s) t
  unfolding reading
  spelled-reading t e = ap (judged_run (length s)) e

  -- a reader that is done has no parenthesis open
  pub spelled-run : spelling_of s ≡ (Ok tt) → (t : Newick) × (run start [] s ≡ reached (done t) [])
  spelled-run e =
      let r = answer-says (Ok tt) e in
      (r.0, r.2 ∙ ap (reached (done r.0)) (run-fine s start [] (done r.0) r.1 refl r.2))
