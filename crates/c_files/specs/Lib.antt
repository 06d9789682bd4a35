-- The laws of lists that are read from bytes.
pub mod Lists
