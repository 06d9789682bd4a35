-- The code that parameters and a table stand for, and its sizes.
pub mod Codes
pub mod Sizes
