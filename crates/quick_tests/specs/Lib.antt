-- The estimates of a data symbol, counted where they stand.
pub mod Counting
