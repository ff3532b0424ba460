-- That a call that passed its checks ends as Ends says, whatever its program (`run_ends`); and that what a call leaves is what it made, or the tree as it
-- came (`left_so`). Assumes nothing.
use Rattle.std.specs.Prelude.{◌≡◌, refl, ◌⊎◌, ℕ, Result, Ok}
use Rattle.std.proofs.Common.{sym, subst, inl, inr, arith}
use Rattle.answer.specs.declared.Refusal.{Refusal}
use Rattle.answer.specs.declared.Refusal.TheVariants as Refusals
use Rattle.answer.specs.declared.Moved.{Moved}
use Rattle.answer.specs.declared.Answer.{Answer}
use Rattle.answer.specs.declared.Answer.TheVariants as Answers
use Rattle.random.specs.declared.Random.{Random}
use Rattle.random.specs.Generator.{after}
use Rattle.random.specs.Draw.{Draw}
use Rattle.tree.specs.Tree.{Tree}
use Rattle.calls.specs.Call.{Reply, Ending, refused, given, run_call, Outcome, declined, moved, Called, called_on, leaves}
use Rattle.calls.proofs.RunLaws.{run-refused}
use Rattle.moves.specs.Ends.{tree_after, Ends, moves, declines, refuses, root_after, tree_left}

-- a call that passed its checks ends as moved, as declined, or in refusal 6, 7 or 8
pub run_ends : (t : Tree) (program : Draw (Reply Outcome)) (g : Random) (v : Result (Unit {0}) Refusal) → v ≡ (Ok tt) → (a : ℕ) → Ends (leaves t g (run_call v program g a)).answer
unfolding leaves
run_ends t program g v y a = go (run_call v program g a) refl
  where
    numbered : (why : Refusal) → (why ≡ Refusals.Allowance a) ⊎ ((k : ℕ) × ((why ≡ Refusals.NotFinite k) ⊎ (why ≡ Refusals.Outside k))) → Ends (Answers.Refused why)
    numbered why (inl e) = rw e (refuses (Refusals.Allowance a) (omega arith) (omega arith))
    numbered why (inr (k, inl e)) = rw e (refuses (Refusals.NotFinite k) (omega arith) (omega arith))
    numbered why (inr (k, inr e)) = rw e (refuses (Refusals.Outside k) (omega arith) (omega arith))

    go : (x : Ending Outcome) → run_call v program g a ≡ x → Ends (leaves t g x).answer
    go (refused why) e = numbered why (run-refused program g v y a why e)
    go (given declined d h) e = declines d
    go (given (moved u r) d h) e = moves (record { root = u.root; draws = d; ratio = r })

-- what holds of a tree, and of what a call that moved made of it, holds of what the call leaves, if it leaves the tree as it came where it did not move
pub left_so : (P : Tree → Type 0) (t : Tree) (g : Random) (c : Called) → ((v : Moved) → c.answer ≡ Answers.Moved v → P (tree_after c v.root))
    → ((draws : ℕ) → c.answer ≡ Answers.Declined draws → c ≡ called_on (Answers.Declined draws) (after draws g) t)
    → ((why : Refusal) → c.answer ≡ Answers.Refused why → c ≡ called_on (Answers.Refused why) g t) → P t → P (tree_left c t.root)
left_so P t g c made kept back p = go c.answer refl
  where
    go : (x : Answer) → c.answer ≡ x → P (tree_left c t.root)
    go (Answers.Moved v) e = subst (λ (x : Answer). P (tree_after c (root_after x t.root))) (sym e) (made v e)
    go (Answers.Declined draws) e = subst (λ (d : Called). P (tree_left d t.root)) (sym (kept draws e)) p
    go (Answers.Refused why) e = subst (λ (d : Called). P (tree_left d t.root)) (sym (back why e)) p
