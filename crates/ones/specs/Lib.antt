-- What the contracts of the vote on bits cite, and their laws.
pub mod Pages
pub mod Words
