-- The laws of the vote by counters.
pub mod Reading
pub mod Filling
