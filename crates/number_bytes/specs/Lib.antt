-- The laws of numbers that are written as bytes.
pub mod Words
