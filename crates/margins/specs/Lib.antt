-- The laws of the functions that tell margins.
pub mod Margins
