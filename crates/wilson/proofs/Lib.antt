-- The laws that the proofs of wilson share: one for each way through a function.
mod HostLaws
mod OntoLaws
mod TurnLaws
