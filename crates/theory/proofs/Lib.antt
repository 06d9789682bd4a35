-- Theorems that rest on a law that an edit of must-fail/ changes, and with them all of Statements, which a reviewer reads.
pub mod Voting
pub mod Recovery
pub mod Schedule
pub mod Margins
pub mod OuterCheck
pub mod BitVote
pub mod WideBytes
pub mod FileBytes
pub mod Files
pub mod Statements
pub mod InBlocks
