-- How many places the pairs of a tree take: two each (`slots-long`), with the tips' marks two for each node (`tips-long`). Assumes nothing.
use Rattle.std.specs.Prelude.{◌≡◌, refl, List, [], ◌∷◌, ℕ, ◌+◌, ◌-◌, ◌*◌, length, replicate}
use Rattle.std.proofs.Common.{ap, ◌∙◌, arith, length-append}
use Rattle.std.proofs.lemmas.List.{length-replicate}
use Rattle.tree.specs.Tree.{no_node}
use Rattle.statefile.specs.StateFile.{slots, with_tips, nodes_for}

pub slots-long : (l : List (ℕ × ℕ)) → length (slots l) ≡ 2 * length l
unfolding slots
slots-long [] = refl
slots-long ((a, b) ∷ l) = let e = slots-long l in omega arith

pub tips-long : (tips : ℕ) (l : List (ℕ × ℕ)) → length l ≡ tips - 1 → length (with_tips tips l) ≡ 2 * nodes_for tips
tips-long tips l e =
    length-append (replicate (2 * tips) no_node) (slots l)
    ∙ (λ i. length-replicate {A = ℕ} (2 * tips) no_node i + slots-long l i)
    ∙ ap (λ (y : ℕ). 2 * tips + 2 * y) e
    ∙ omega arith
