-- The laws of the writer's loops and answers.
pub mod Steps
