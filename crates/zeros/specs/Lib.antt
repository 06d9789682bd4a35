-- The zeros at the checks of every data symbol, and the laws of the functions that count them.
pub mod Counts
pub mod Counting
pub mod Runs
