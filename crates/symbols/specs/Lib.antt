-- Laws for the sums.
pub mod Sums
