-- The laws of positions that are read from bytes, and of the calls with them.
pub mod Positions
pub mod Reads
