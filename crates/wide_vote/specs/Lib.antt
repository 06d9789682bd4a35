-- The laws of the quick test by low bytes.
pub mod Lows
