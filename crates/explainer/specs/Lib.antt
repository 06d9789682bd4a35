-- What the contracts of explain name.
pub mod Explained
