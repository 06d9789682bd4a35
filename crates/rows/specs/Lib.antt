-- Laws for the rows.
pub mod Rows
