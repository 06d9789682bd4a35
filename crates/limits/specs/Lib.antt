-- What the contracts of the limits name.
pub mod Sizes
