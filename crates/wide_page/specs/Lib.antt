-- What the calls on pages of symbols work on.
pub mod Works
