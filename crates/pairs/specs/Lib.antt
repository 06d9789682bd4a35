-- The number of two bytes.
pub mod Two
