-- Laws that the proofs of the opening, and of what follows it, use.
pub mod Opened
