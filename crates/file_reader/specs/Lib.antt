-- The laws of the reader's loops and answers.
pub mod Turns
