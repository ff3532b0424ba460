-- What the contracts of nodes cite.
pub mod Nodes
