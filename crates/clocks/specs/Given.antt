-- The form in which the code of the scales of a clock hands on what the definitions say. Definitions only. Assumes nothing.
use Rattle.answer.specs.declared.Proposal.{Proposal}
use Rattle.random.specs.declared.Random.{Random}
use Rattle.clocks.specs.declared.RatesScaled.{RatesScaled}

-- an answer with the generator, the rates being lent
abbrev pub rates_after : Proposal → Random → RatesScaled
rates_after proposal g = record { proposal = proposal; random = g }
