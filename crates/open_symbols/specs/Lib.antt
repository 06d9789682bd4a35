-- What the contracts of the search for open symbols cite, and its laws.
pub mod Settled
