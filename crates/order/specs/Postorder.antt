-- `postorder` as it is called: the answer, and the lent slice afterwards. The order itself is `postorder` of tree/Tree. Definitions only.
-- Assumes nothing.
use Rattle.std.specs.Prelude.{cond, List, ℕ, eqb, length, Result, Ok, Err}
use Rattle.answer.specs.declared.Refusal.TheVariants.{Size}
use Rattle.tree.specs.Tree.{Tree, nodes_of, postorder}
use Rattle.tree.specs.New.{validated}
use Rattle.answer.specs.declared.Refusal.{Refusal}

pub record PostorderCall : Type 0 where
  pub answer : Result (Unit {0}) Refusal
  pub order : List ℕ

abbrev pub postorder_given : Result (Unit {0}) Refusal → List ℕ → PostorderCall
postorder_given answer order = record { answer = answer; order = order }

abbrev pub postorder_answered : Tree → List ℕ → Result (Unit {0}) Refusal → PostorderCall
postorder_answered t order (Ok tt) = postorder_given (Ok tt) (postorder t)
postorder_answered t order (Err why) = postorder_given (Err why) order

-- a slice that has not one place for each node is refusal 1, as lengths that disagree are
unfoldable pub postorder_call : Tree → List ℕ → PostorderCall
postorder_call t order =
    let n = nodes_of t.pairs in
    postorder_answered t order (cond (eqb (length order) n) (validated t) (Err (Size n)))
