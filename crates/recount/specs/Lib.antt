-- What the contract of `recount_run` cites, and the laws of a check written.
pub mod Recount
