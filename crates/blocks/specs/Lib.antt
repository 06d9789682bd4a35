-- The laws of blocks of data symbols.
pub mod Blocks
