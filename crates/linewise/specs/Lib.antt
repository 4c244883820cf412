pub mod Cutting
pub mod Answers
pub mod Paths
