-- What the functions that walk over the symbols of a branch share.
pub mod Turns
