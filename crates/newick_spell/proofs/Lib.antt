-- The laws that the proofs of newick_spell share: one for each way through a function, and what they come from.
mod SpotLaws
mod SideLaws
mod MoveLaws
mod TurnLaws
mod TokenLaws
mod PassLaws
