-- What the contracts over sums of rows cite, and their laws.
pub mod Sums
pub mod Rest
pub mod Checks
