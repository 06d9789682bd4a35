-- What the contracts of the passes cite, and their laws.
pub mod Runs
