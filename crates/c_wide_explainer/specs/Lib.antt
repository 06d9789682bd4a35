-- Lengths by what is counted.
pub mod Fits
