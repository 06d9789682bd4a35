-- The laws of entries as structs and as bytes.
pub mod Entries
