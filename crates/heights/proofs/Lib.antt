-- The laws that the proofs of heights share: one for each way through a function.
mod RangeLaws
mod MildLaws
mod NodeHeightLaws
mod RootScaleLaws
mod TreeScaleLaws
