-- Laws of a page whose data symbols are replaced, and of the outer checks that are written so.
pub mod Words
pub mod OuterChecks
