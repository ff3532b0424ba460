-- The ways through the answer of a state, by what `tree::new` said of its tree. Assumes nothing.
use mathlib.Core.Path.{◌≡◌, ap, ◌∙◌}
use mathlib.Core.List.{List}
use Prim.Native.Nat.{ℕ}
use lib.ListN.{length}
use lib.Ieee.{Float}
use Rattle.answer.specs.declared.Refusal.{Refusal}
use Rattle.random.specs.declared.Random.{Random}
use Rattle.random.specs.Generator.{from_state}
use Rattle.tree.specs.Tree.{nodes_of}
use Rattle.tree.specs.New.{made, new_tree, new_call}
use Rattle.tree.specs.Given.{tree_of, new_given}
use Rattle.accepted.specs.NewLaws.{new-refused, new-made}
use Rattle.calls.specs.declared.Answered.{Answered}
use Rattle.calls.specs.Call.{Called, called}
use Rattle.moves.specs.Moves.{UnvalidatedCall}
use Rattle.statefile.specs.declared.Head.{Head}
use Rattle.statefile.specs.StateFile.{move_of, state_of, words_of}
use Rattle.report.specs.Report.{refused_text, answer_text, called_text, Delivery, delivered}
use Rattle.respond.specs.Respond.{tree_reply, state_reply}
use Rattle.respond.specs.Given.{nodes}
use Rattle.std.specs.Prelude.{Result, Ok, Err}

-- ---- the text

module _ (head : Head) (pairs parents ps : List ℕ) (heights : List Float) (each : length parents ≡ nodes_of pairs) (r : Result ℕ Refusal)
    (e : new_given r ps ≡ new_call pairs heights parents) (out : List ℕ) (d : Delivery) where
  pub state-refused : (why : Refusal) → r ≡ Err why → d ≡ delivered out (refused_text why) → d ≡ delivered out (state_reply (state_of head (nodes pairs heights)))
  unfolding tree_reply
  state-refused why y h = rw (new-refused pairs parents ps heights each r e why y) h

  -- a, us, vs and hs are what the move answered and left
  pub state-made : (root : ℕ) → r ≡ Ok root → (g : Random) → g ≡ from_state (words_of head.supplied.words) → (a : Answered) (us vs : List ℕ) (hs : List Float)
      → UnvalidatedCall (move_of head.asked.kind head.asked.node head.asked.tuning) (tree_of pairs ps heights root) g head.supplied.draws
      (called a.answer a.random us vs hs)
      → d ≡ delivered out (answer_text a.answer a.random us hs) → d ≡ delivered out (state_reply (state_of head (nodes pairs heights)))
  unfolding tree_reply
  state-made root y g eg a us vs hs f h =
      let n : new_tree pairs heights ≡ made (tree_of pairs ps heights root) = new-made pairs parents ps heights each r e root y in
      let c = f.decided n in
      rw (n, ← eg) (h ∙ ap (λ (x : Called). delivered out (called_text x)) c)
