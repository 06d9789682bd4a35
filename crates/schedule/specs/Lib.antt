-- Laws of the list of thresholds, for the loops over it.
pub mod Thresholds
