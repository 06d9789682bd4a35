-- The laws of the vote's loops.
pub mod Leading
pub mod Counters
pub mod Others
