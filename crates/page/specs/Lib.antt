-- Laws that the proofs of encode and syndrome use.
pub mod Calls
