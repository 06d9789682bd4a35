-- What the contracts of the grounds cite, and their laws.
pub mod Told
