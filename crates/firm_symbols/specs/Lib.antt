-- Margins in two phases, and blocks that are passed over.
pub mod Phases
