-- What the code asks of a text and of the room it is read in. Definitions only. Assumes nothing.
use Rattle.std.specs.Prelude.{◌≡◌, List, [], ℕ, suc, ◌+◌, ◌≤◌}
use Rattle.newick.specs.Newick.{Newick, start, done, reached, run}
use Rattle.newick_file.specs.Filing.{closes}

-- the text is spelled to its end
pub record Whole (s : List ℕ) : Type 0 where
  pub value : Newick
  pub ran : run start [] s ≡ reached (done value) []

-- and has so many tips
pub record Few (s : List ℕ) (tips : ℕ) : Type 0 where
  pub whole : Whole s
  pub count : tips ≡ suc (closes s)
  pub few : tips ≤ 2048

-- and there are as many slots p, lengths u and tips e as it needs
pub record Works (s : List ℕ) (tips p u e : ℕ) : Type 0 where
  pub text : Few s tips
  pub pairs : p ≡ u + u
  pub ups : suc u ≡ tips + tips
  pub seen : e ≡ tips
