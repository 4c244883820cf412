pub mod Writing
pub mod Sweeping
pub mod Flipping
pub mod Levels
pub mod Storing
