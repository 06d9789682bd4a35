-- What symbols of any width stand for.
pub mod Numbers
