-- What the proofs of the call pass cite.
pub mod Once
