-- Calls on parameters, which take no tree: their limits are checked, the program is run within the allowance, and the parameters are handed back,
-- scaled or as they came. Nothing but 5 and 6 can turn such a call back. Definitions only. Assumes nothing.
use Rattle.std.specs.Prelude.{Bool, ℕ}
use Rattle.answer.specs.declared.Ratio.{Ratio}
use Rattle.answer.specs.declared.Proposal.{Proposal}
use Rattle.answer.specs.declared.Proposal.TheVariants as Proposals
use Rattle.random.specs.declared.Random.{Random}
use Rattle.random.specs.Draw.{Draw, return, ◌>>=◌}
use Rattle.calls.specs.Call.{Reply, makes, Ending, refused, given, limited, run_call}

-- what a program makes of parameters P: "Declined is the Rust's `None`"; or new ones, with their ratio
pub data Change (P : Type 0) : Type 0 where
  declined : Change P
  scaled : P → Ratio → Change P

-- a part of Q is P, and the rest of Q stays
abbrev pub in_place : {P Q : Type 0} → (P → Q) → Change P → Change Q
in_place put declined = declined
in_place put (scaled v r) = scaled (put v) r

unfoldable pub on_part : {P Q : Type 0} → (P → Q) → Draw (Change P) → Draw (Change Q)
on_part put program = program >>= (λ c. return (in_place put c))

-- what a call leaves: its answer, the generator, and the parameters
pub record Proposed (P : Type 0) : Type 0 where
  pub answer : Proposal
  pub random : Random
  pub value : P

abbrev pub proposed : {P : Type 0} → Proposal → Random → P → Proposed P
proposed a g v = record { answer = a; random = g; value = v }

-- "tree and parameters unchanged, generator advanced by the draws made"; refused, "generator as given"
unfoldable pub keeps : {P : Type 0} → P → Random → Ending (Change P) → Proposed P
keeps v g (refused why) = proposed (Proposals.Refused why) g v
keeps v g (given declined draws h) = proposed (Proposals.Declined draws) h v
keeps v g (given (scaled w r) draws h) = proposed (Proposals.Scaled draws r) h w

-- no program on parameters ends in a 7 or an 8
unfoldable pub replying : {A : Type 0} → Draw A → Draw (Reply A)
replying program = program >>= (λ a. return (makes a))

unfoldable pub value_call : {P : Type 0} → Bool → Draw (Change P) → P → Random → ℕ → Proposed P
value_call limits program v g allowance = keeps v g (run_call (limited limits allowance) (replying program) g allowance)
