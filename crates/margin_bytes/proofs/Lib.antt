-- What the loops over the symbols of a branch share.
pub mod Turns
