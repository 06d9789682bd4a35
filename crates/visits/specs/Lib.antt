-- What the contracts of the visits cite, and their laws.
pub mod Decisions
pub mod Progress
pub mod Settled
