-- What comes of a state file whose tree is copied: the Newick text of the tree, without a line end, or a refusal as the listing prints it. Definitions only.
-- Assumes nothing.
use Rattle.std.specs.Prelude.{cond, List, ℕ, ltb, length}
use Rattle.answer.specs.declared.Refusal.TheVariants.{Parameter, Line}
use Rattle.tree.specs.Tree.{Tree}
use Rattle.tree.specs.New.{New, refused, made, new_tree}
use Rattle.newick.specs.Copies.{Aged, too_old, aged, ages_of, tree_text}
use Rattle.statefile.specs.StateFile.{Reading, faulty, read, state_file}
use Rattle.report.specs.Report.{refused_text}

-- "An age of 2^43 or more is a 5"
abbrev pub aged_text : Tree → Aged → List ℕ
aged_text t too_old = refused_text (Parameter 0)
aged_text t (aged ages) = tree_text t.pairs t.root ages

-- "Write an accepted tree into a lent buffer": the tree's text
unfoldable pub copy_text : Tree → List ℕ
copy_text t = aged_text t (ages_of t.heights)

-- the tree that the pairs and heights make, if they make one
unfoldable pub tree_copy : New → List ℕ
tree_copy (refused why) = refused_text why
tree_copy (made t) = copy_text t

-- of a file that is of its form only the tree is looked at: nothing is asked of its draws, node and tuning
unfoldable pub read_copy : Reading → List ℕ
read_copy (faulty line) = refused_text (Line line)
read_copy (read state) = tree_copy (new_tree state.pairs state.heights)

-- "0 for over 131,072 bytes": the limit
unfoldable pub file_copy : ℕ → List ℕ → List ℕ
file_copy limit file = cond (ltb limit (length file)) (refused_text (Line 0)) (read_copy (state_file file))
