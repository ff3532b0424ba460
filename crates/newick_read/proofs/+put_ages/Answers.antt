-- `newick_read::put_ages` meets its contract. Assumes nothing.
use Rattle.std.proofs.Common.{◌∙◌, ap}
use mathlib.Core.List.{List}
use Prim.Native.Nat.{ℕ}
use lib.ListN.{set}
use Rattle.newick_read.proofs.NodeLaws.{ages-none, ages-tip, ages-join}
use Rattle.newick_read.proofs.+put_ages.Goals as goal
use Rattle.newick_read.proofs.+put_ages.Goals.{then-depth-ne0+then-tips-node, else-depth-ne0, else-depth-ne0-via-then-depth-ne0+else-tips-node, else-depth-ne0-via-else-depth-ne0}

pub returns : goal.returns
returns t c =
    let set-in = λ (l : List ℕ). set l c.args.node c.args.h in
    elim c.if-depth-ne0.branch [
      | then-depth-ne0+then-tips-node w ↦
          ages-join _ _ _ _ _ _ _ _ w.if-depth-ne0.true w.if-tips-node.true _ _ w.first-a.ensures w.second-b.ensures _ _ w.child_age.ensures
          w.child_age-then-tips-node.ensures _ _ w.put_ages.ensures w.put_ages-then-tips-node.ensures (c.put.ensures ∙ ap set-in w.ages-is)
      | else-depth-ne0 w ↦ elim w.else-depth-ne0.branch [
        | else-depth-ne0-via-then-depth-ne0+else-tips-node x ↦
            ages-tip _ _ _ _ _ _ _ _ x.if-depth-ne0.true x.if-tips-node.false (c.put.ensures ∙ ap set-in w.ages-is)
        | else-depth-ne0-via-else-depth-ne0 x ↦ ages-none _ _ _ _ _ _ _ _ x.if-depth-ne0.false (c.put.ensures ∙ ap set-in w.ages-is)
      ]
    ]
