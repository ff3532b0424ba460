-- The laws that the proofs of slide share: one for each way through a function. RunLaws says how the slide to a height runs, for SlideLaws.
mod StartLaws
mod RunLaws
mod SlideLaws
mod CallLaws
