-- The syndrome of data and checks that are read apart.
pub mod Parts
