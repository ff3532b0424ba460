-- `marks::put_marks` meets its contract. The loop has made marks of the first `tip` bytes. Assumes nothing.
use Rattle.std.proofs.Common.{◌≡◌, length, take}
use Rattle.marks.specs.Marks.{marks_of}
use Rattle.marks.proofs.put_marks.Given as goal

abbrev pub invariant-loop-tip : goal.invariant-loop-tip
invariant-loop-tip l = (length l.marks ≡ length l.members) × (take l.tip l.marks ≡ marks_of (take l.tip l.members))
