-- The counts of a tally, and of what decode hands back.
pub mod Counts
