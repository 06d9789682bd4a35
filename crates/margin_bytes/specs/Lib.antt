-- The laws of margins that are written as bytes.
pub mod Fronts
pub mod Phases
