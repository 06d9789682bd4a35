-- The numbers of symbols that are lent in parts.
pub mod Halves
