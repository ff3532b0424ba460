-- What holds of an unvalidated call, and of the turn in it, on any slices, be they a tree or not: this is what a host may rely on where its tree is not
-- accepted, and which answer is given there is undecided. Definitions only. Assumes nothing.
use Rattle.std.specs.Prelude.{◌≡◌, Bool, false, ◌&&◌, ℕ, ◌≤◌, length}
use Rattle.answer.specs.declared.Refusal.{Refusal}
use Rattle.answer.specs.declared.Refusal.TheVariants.{Parameter}
use Rattle.answer.specs.declared.Ratio.{Ratio}
use Rattle.answer.specs.declared.Answer.TheVariants as Answers
use Rattle.answer.specs.Answers.{draws_of}
use Rattle.random.specs.declared.Random.{Random}
use Rattle.random.specs.declared.Supply.{Supply}
use Rattle.random.specs.Generator.{after}
use Rattle.random.specs.Draw.{Draw, allowed}
use Rattle.random.specs.Lawful.{Stepped}
use Rattle.tree.specs.Tree.{Tree}
use Rattle.tree.specs.New.{Accepted}
use Rattle.calls.specs.declared.Turned.TheVariants as Turns
use Rattle.calls.specs.Call.{Reply, Outcome, Called, called_on, tree_call}
use Rattle.calls.specs.Given.{After, after_on}

-- the slices of two trees have the same lengths
pub record SameLengths (t u : Tree) : Type 0 where
  pub pairs : length u.pairs ≡ length t.pairs
  pub parents : length u.parents ≡ length t.parents
  pub heights : length u.heights ≡ length t.heights

-- ---- a call

-- of the slices of t, with parameters that are within their limits or not, the generator g and an allowance, a call leaves c
pub record Harmless (limits : Bool) (t : Tree) (g : Random) (allowance : ℕ) (c : Called) : Type 0 where
  -- 5: "a parameter outside its limits", as the checked call refuses it
  pub limited : limits && allowed allowance ≡ false → c ≡ called_on (Answers.Refused (Parameter 0)) g t
  -- "buffers untouched, generator as given"
  pub refused : (why : Refusal) → c.answer ≡ Answers.Refused why → c ≡ called_on (Answers.Refused why) g t
  -- "tree and parameters unchanged, generator advanced by the draws made"
  pub declined : (draws : ℕ) → c.answer ≡ Answers.Declined draws → c ≡ called_on (Answers.Declined draws) (after draws g) t
  -- the generator is stepped as often as the answer says that draws were made, which is no more than are allowed
  pub steps : c.random ≡ after (draws_of c.answer) g
  pub within : draws_of c.answer ≤ allowance
  pub pairs : length c.pairs ≡ length t.pairs
  pub parents : length c.parents ≡ length t.parents
  pub heights : length c.heights ≡ length t.heights

-- what an unvalidated call leaves: of an accepted tree what the checked call leaves, and of any slices what is harmless
pub record Unvalidated (limits : Bool) (program : Draw (Reply Outcome)) (t : Tree) (g : Random) (allowance : ℕ) (c : Called) : Type 0 where
  pub decided : Accepted t → c ≡ tree_call limits program t g allowance
  pub harmless : Harmless limits t g allowance c

-- ---- a turn

-- on the slices of t, from the supply s: a turn that moved or declined has stepped the generator as often as it made draws, and one that did not move
-- leaves the slices as they came
pub data Mild (t : Tree) (s : Supply) : After → Type 0 where
  moves : (root : ℕ) (r : Ratio) (u : Supply) (w : Tree) → Stepped s u → SameLengths t w → Mild t s (after_on (Turns.Moved root r) u w)
  declines : (u : Supply) → Stepped s u → Mild t s (after_on Turns.Declined u t)
  spends : (u : Supply) → Mild t s (after_on Turns.Spent u t)
  overflows : (k : ℕ) (u : Supply) → Mild t s (after_on (Turns.NotFinite k) u t)
  strays : (k : ℕ) (u : Supply) → Mild t s (after_on (Turns.Outside k) u t)

-- what a turn leaves: where what it asks for holds, what it is to make, and on any slices what is mild
pub record Turning (asks : Type 0) (made : After) (t : Tree) (s : Supply) (a : After) : Type 0 where
  pub decided : asks → a ≡ made
  pub mild : Mild t s a
