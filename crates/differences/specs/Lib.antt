-- What the contracts of the comparison of differences name, and the laws that its proofs use.
pub mod Marks
pub mod Positions
pub mod Folded
