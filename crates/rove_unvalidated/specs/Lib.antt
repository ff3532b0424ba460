-- Unvalidated has the definitions that the contracts of rove_unvalidated cite, HostLaws what a host may take from them.
pub mod Unvalidated
pub mod HostLaws
