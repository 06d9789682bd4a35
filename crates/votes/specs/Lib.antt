-- What a round of votes returns, and the laws of its loop.
pub mod Checksum
pub mod Rounds
