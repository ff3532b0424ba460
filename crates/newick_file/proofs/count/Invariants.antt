-- `newick_file::count` meets its contract. Assumes nothing.
use Rattle.std.proofs.Common.{◌≡◌, ◌+◌, ◌≤◌, drop}
use Rattle.newick_file.specs.Filing.{closes}
use Rattle.newick_file.proofs.count.Given as goal

abbrev pub invariant-loop-b : goal.invariant-loop-b
invariant-loop-b l = record { few : l.n ≤ l.b-index; rest : l.n + closes (drop l.b-index l.text) ≡ closes l.text }
