-- What a block's step is, and its laws.
pub mod Weakest
pub mod Blocks
