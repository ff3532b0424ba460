-- How a call goes: what it is given is checked, its program of draws is run within the allowance, and what the program ends in is given, or the
-- call is turned back. A program ends in a value, or in the 7 or the 8 that it meets, so that past the checks only 6, 7 and 8 can turn a call
-- back. Definitions only. Assumes nothing.
use Rattle.std.specs.Prelude.{Bool, cond, ◌&&◌, List, ℕ, ◌-◌, Float, Result, Ok, Err}
use Rattle.answer.specs.declared.Refusal.{Refusal}
use Rattle.answer.specs.declared.Refusal.TheVariants.{Parameter, Allowance, NotFinite, Outside}
use Rattle.answer.specs.declared.Ratio.{Ratio}
use Rattle.answer.specs.declared.Answer.{Answer}
use Rattle.answer.specs.declared.Answer.TheVariants as Answers
use Rattle.random.specs.declared.Random.{Random}
use Rattle.random.specs.Draw.{Draw, Drawn, spent, got, run, supply_of, allowed}
use Rattle.tree.specs.Tree.{Tree}
use Rattle.tree.specs.New.{validated}

-- ---- any call

-- what a program ends in: a value; or a node "whose new height is not finite", or whose "drawn height is outside its interval"
pub data Reply (A : Type 0) : Type 0 where
  makes : A → Reply A
  not_finite : ℕ → Reply A
  outside : ℕ → Reply A

-- how a call ends: turned back; or with a value, the draws made and the generator after them
pub data Ending (A : Type 0) : Type 0 where
  refused : Refusal → Ending A
  given : A → ℕ → Random → Ending A

-- 6 where "the Rust would make more draws than allowed"; 7 and 8 as the program meets them
unfoldable pub ended : {A : Type 0} → ℕ → Drawn (Reply A) → Ending A
ended allowance spent = refused (Allowance allowance)
ended allowance (got (not_finite k) s) = refused (NotFinite k)
ended allowance (got (outside k) s) = refused (Outside k)
ended allowance (got (makes a) s) = given a (allowance - s.left) s.random

-- the draws that a run leaves: none where more are needed
abbrev pub left_of : {A : Type 0} → Drawn A → ℕ
left_of spent = 0
left_of (got a s) = s.left

-- the draws that a program makes within an allowance, whatever it ends in
abbrev pub draws_made : {A : Type 0} → Draw A → Random → ℕ → ℕ
draws_made program g allowance = allowance - left_of (run program (supply_of g allowance))

-- "Order: 9, then 1 to 5": what the first of two checks refuses is refused
abbrev pub and_then : Result (Unit {0}) Refusal → Result (Unit {0}) Refusal → Result (Unit {0}) Refusal
and_then (Err why) next = Err why
and_then (Ok tt) next = next

-- 5: "a parameter outside its limits"; the allowance is one
abbrev pub limited : Bool → ℕ → Result (Unit {0}) Refusal
limited limits allowance = cond (limits && allowed allowance) (Ok tt) (Err (Parameter 0))

-- the tree, then whether its other parameters are within their limits
unfoldable pub checked : Bool → Tree → ℕ → Result (Unit {0}) Refusal
checked limits t allowance = and_then (validated t) (limited limits allowance)

-- "then 6 to 8 as the move meets them"
abbrev pub past : {A : Type 0} → Result (Unit {0}) Refusal → Ending A → Ending A
past (Err why) e = refused why
past (Ok tt) e = e

-- a call that was checked, with a program
abbrev pub run_call : {A : Type 0} → Result (Unit {0}) Refusal → Draw (Reply A) → Random → ℕ → Ending A
run_call verdict program g allowance = past verdict (ended allowance (run program (supply_of g allowance)))

-- a call on the tree t with a program that was made for it
unfoldable pub call_of : {A : Type 0} → Bool → Draw (Reply A) → Tree → Random → ℕ → Ending A
call_of limits program t g allowance = run_call (checked limits t allowance) program g allowance

-- ---- a call of a tree move

-- "Declined is the Rust's `None`"
pub data Outcome : Type 0 where
  declined : Outcome
  moved : Tree → Ratio → Outcome

-- what a call leaves: its answer, the generator, and the lent slices
pub record Called : Type 0 where
  pub answer : Answer
  pub random : Random
  pub pairs : List ℕ
  pub parents : List ℕ
  pub heights : List Float

abbrev pub called : Answer → Random → List ℕ → List ℕ → List Float → Called
called a g pairs parents heights = record { answer = a; random = g; pairs = pairs; parents = parents; heights = heights }

abbrev pub called_on : Answer → Random → Tree → Called
called_on a g t = called a g t.pairs t.parents t.heights

-- "Returned, buffers untouched, generator as given"; declined, "tree and parameters unchanged, generator advanced by the draws made"
unfoldable pub leaves : Tree → Random → Ending Outcome → Called
leaves t g (refused why) = called_on (Answers.Refused why) g t
leaves t g (given declined draws h) = called_on (Answers.Declined draws) h t
leaves t g (given (moved u r) draws h) = called_on (Answers.Moved (record { root = u.root; draws = draws; ratio = r })) h u

unfoldable pub tree_call : Bool → Draw (Reply Outcome) → Tree → Random → ℕ → Called
tree_call limits program t g allowance = leaves t g (call_of limits program t g allowance)
