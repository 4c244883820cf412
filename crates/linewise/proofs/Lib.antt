pub mod Cutting
pub mod Tables
pub mod Answers
pub mod Runs
pub mod Paths
pub mod Rows
