-- The number of four bytes.
pub mod Four
