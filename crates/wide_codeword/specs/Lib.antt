-- The rows of wide symbols, branch by branch.
pub mod Parts
