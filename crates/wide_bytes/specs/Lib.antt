-- Symbols written from the front, and where they stand among bytes.
pub mod Turns
pub mod Places
