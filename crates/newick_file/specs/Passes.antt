-- What the code of the second pass promises, and what its loop keeps. Definitions only. Assumes nothing.
use Rattle.std.specs.Prelude.{◌≡◌, Bool, List, ℕ, ◌≤◌, length, drop}
use Rattle.newick_file.specs.declared.Filer.{Filer}
use Rattle.newick_file.specs.Filing.{Filing, filing, file}

-- what a pass filled
pub record Built (ps us : List ℕ) (se : List Bool) (F : Filing) : Type 0 where
  pub pairs : ps ≡ F.pairs
  pub ups : us ≡ F.ups
  pub seen : se ≡ F.seen

-- so far; the rest of the pass gives F
pub record Files (s : List ℕ) (i : ℕ) (q : Filer) (ps us st : List ℕ) (se : List Bool) (F : Filing) : Type 0 where
  pub fit : i ≤ length s
  pub rest : file (filing ps us st se q) (drop i s) ≡ F
