-- `newick_file::file_all` meets its contract. Assumes nothing.
use Rattle.std.proofs.Common.{◌≡◌, length}
use Rattle.newick_file.specs.Filing.{file, begun}
use Rattle.newick_file.specs.Passes.{Files}
use Rattle.newick_file.proofs.file_all.Given as goal

abbrev pub invariant-loop-b : goal.invariant-loop-b
invariant-loop-b l =
    (length l.pairs ≡ length l.initial.pairs) × (length l.ups ≡ length l.initial.ups) × (length l.stack ≡ length l.initial.stack) × (length l.seen ≡ length l.initial.seen)
    × Files l.text l.b-index l.q l.pairs l.ups l.stack l.seen (file (begun l.tips l.initial.pairs l.initial.ups l.initial.stack l.initial.seen) l.text)
