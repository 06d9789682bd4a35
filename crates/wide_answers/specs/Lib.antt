-- The code of wide symbols, and the answers by what is counted.
pub mod Own
pub mod Fits
