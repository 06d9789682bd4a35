-- What the table check's contracts name, and the laws that its proofs use.
pub mod Table
