-- `wilson::host` meets its contract. Assumes nothing.
use mathlib.Core.Path.{◌≡◌}
use Rattle.random.specs.Draw.{pick}
use Rattle.tree.specs.Given.{dates_in}
use Rattle.moves.specs.Programs.{host}
use Rattle.wilson.proofs.host.Given as goal

abbrev pub invariant-loop-j : goal.invariant-loop-j
invariant-loop-j l =
    pick (host l.n (dates_in l.parents l.heights l.root) l.i) l.fn.s ≡ pick (host l.n (dates_in l.parents l.heights l.root) l.i) l.s

abbrev pub decreases-loop-j : goal.decreases-loop-j
decreases-loop-j l = l.s.left
