-- Lemmas for the tests.
pub mod Small
