-- The ways through the copy of a tree, by what `tree::new` said of its pairs and heights, and what the writer answered of an accepted one (`handed-copy`).
-- Assumes nothing.
use mathlib.Core.Path.{◌≡◌, refl, ap, ◌∙◌}
use mathlib.Core.Bool.{Bool, true, false, cond}
use mathlib.Core.List.{List, ◌++◌}
use Prim.Native.Nat.{ℕ}
use lib.Dec.{ltb}
use lib.ListN.{length, drop}
use lib.Ieee.{Float}
use Rattle.answer.specs.declared.Refusal.{Refusal}
use Rattle.tree.specs.Tree.{Tree, nodes_of}
use Rattle.tree.specs.New.{new_tree, Accepted, new_call}
use Rattle.tree.specs.Given.{tree_of, new_given}
use Rattle.accepted.specs.AcceptedLaws.{accepted-valid}
use Rattle.accepted.specs.NewLaws.{new-refused, new-made}
use Rattle.accepted.specs.ValidatedLaws.{valid-fine}
use Rattle.newick.specs.Copies.{Aged, too_old, aged, ages_of, tree_text, CopyCall, copied, placed, copy_aged, copy_judged, copy_call}
use Rattle.report.specs.Report.{refused_text, Delivery, delivery, delivered}
use Rattle.copying.specs.Copying.{aged_text, copy_text, tree_copy}
use Rattle.copying.specs.Given.{handed}
use Rattle.std.specs.Prelude.{Result, Ok, Err}
use Rattle.newick.specs.declared.CopyError.TheVariants as CopyErrors
use Rattle.newick.specs.declared.CopyError.{CopyError}

-- ---- the writer's answer

-- r is the answer, out the slice after it
module _ (r : Result ℕ CopyError) (out : List ℕ) where
  pub told-bytes : (count : ℕ) → r ≡ Ok count → delivery count out ≡ handed r out
  told-bytes count y = rw y

  pub told-refused : (why : Refusal) → r ≡ Err (CopyErrors.Refused why) → (d : Delivery) → d ≡ delivered out (refused_text why) → d ≡ handed r out
  told-refused why y d f = rw y f

  pub told-room : r ≡ (Err CopyErrors.Room) → delivery 0 out ≡ handed r out
  told-room y = rw y

pub ruleset told_laws = (told-bytes, told-refused, told-room)

handed-placed : (out s : List ℕ) → handed (placed out s).answer (placed out s).out ≡ delivered out s
unfolding placed delivered
handed-placed out s = go (ltb (length out) (length s))
  where
    text : List ℕ
    text = s ++ drop (length s) out

    call : Bool → CopyCall
    call b = cond b (copied (Err CopyErrors.Room) out) (copied (Ok (length s)) text)

    go : (b : Bool) → handed (call b).answer (call b).out ≡ cond b (delivery 0 out) (delivery (length s) text)
    go true = refl
    go false = refl

module _ (t : Tree) (out : List ℕ) where
  handed-aged : (x : Aged) → handed (copy_aged t out x).answer (copy_aged t out x).out ≡ delivered out (aged_text t x)
  handed-aged too_old = refl
  handed-aged (aged ages) = handed-placed out (tree_text t.pairs t.root ages)

  -- an accepted tree is not judged otherwise by the writer
  pub handed-copy : Accepted t → (r : Result ℕ CopyError) (after : List ℕ) → copied r after ≡ copy_call t out
      → (d : Delivery) → d ≡ handed r after → d ≡ delivered out (copy_text t)
  unfolding copy_call copy_text
  handed-copy a r after e d f =
      let fine = valid-fine (nodes_of t.pairs) t (accepted-valid t a) in
      let g : copied r after ≡ copy_aged t out (ages_of t.heights) = e ∙ ap (copy_judged t out) fine in
      f ∙ ap (λ (c : CopyCall). handed c.answer c.out) g ∙ handed-aged (ages_of t.heights)

-- ---- the tree

-- r and ps are what `tree::new` answered and the parents after it
module _ (pairs parents ps : List ℕ) (heights : List Float) (each : length parents ≡ nodes_of pairs) (r : Result ℕ Refusal)
    (e : new_given r ps ≡ new_call pairs heights parents) where
  module _ (out : List ℕ) (d : Delivery) where
    pub tree-refused : (why : Refusal) → r ≡ Err why → d ≡ delivered out (refused_text why) → d ≡ delivered out (tree_copy (new_tree pairs heights))
    unfolding tree_copy
    tree-refused why y h = rw (new-refused pairs parents ps heights each r e why y) h

    pub tree-made : (root : ℕ) → r ≡ Ok root → d ≡ delivered out (copy_text (tree_of pairs ps heights root))
        → d ≡ delivered out (tree_copy (new_tree pairs heights))
    unfolding tree_copy
    tree-made root y h = rw (new-made pairs parents ps heights each r e root y) h

pub ruleset tree_laws = (new-made, tree-refused, tree-made)
