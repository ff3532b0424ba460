-- What a text says, by change request S-1: the value of an acceptable one, or the place of its fault. Definitions only. Assumes nothing.
use Rattle.std.specs.Prelude.{Bool, cond, ◌&&◌, List, [], ◌∷◌, ℕ, ◌-◌, ◌^◌, ltb, leb, length}
use Rattle.tree.specs.Bounded.{every}
use Rattle.newick.specs.Newick.{Newick, start, sub, name, made, colon, whole, point, tenths, hundredths, branch, done, Run, forbidden, reached, run}
use Rattle.newick.specs.Numbering.{tips_in, times, reach}

-- "2 to 2,048 tips and root age below 2^53 thousandths"; of as many tips as there are, each number below their count is one's (a text has two tips at least,
-- and that none then occurs twice is `all_named` of NamedLaws)
unfoldable pub acceptable : Newick → Bool
acceptable t = leb (tips_in t) 2048 && every (λ j. ltb 0 (times j t)) (tips_in t) && ltb (reach t) (2 ^ 53)

pub data Reading : Type 0 where
  faulty : ℕ → Reading
  says : Newick → Reading

-- a text of so many bytes that is spelled to its end
abbrev pub ended : ℕ → Newick → Reading
ended long t = cond (acceptable t) (says t) (faulty long)

-- "the place, from 0, of the first byte its spelling [...] forbids, or the text's length if only its end, tip numbers, tip count or root age is at fault"
abbrev pub judged_run : ℕ → Run → Reading
judged_run long (forbidden rest) = faulty (long - length rest)
judged_run long (reached (done t) []) = ended long t
judged_run long (reached (done t) (f ∷ fs)) = faulty long
judged_run long (reached start fs) = faulty long
judged_run long (reached sub fs) = faulty long
judged_run long (reached (name k) fs) = faulty long
judged_run long (reached (made t) fs) = faulty long
judged_run long (reached (colon t) fs) = faulty long
judged_run long (reached (whole t w) fs) = faulty long
judged_run long (reached (point t w) fs) = faulty long
judged_run long (reached (tenths t w) fs) = faulty long
judged_run long (reached (hundredths t w) fs) = faulty long
judged_run long (reached (branch t x) fs) = faulty long

unfoldable pub reading : List ℕ → Reading
reading s = judged_run (length s) (run start [] s)
