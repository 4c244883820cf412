pub mod Ruled
pub mod Members
pub mod Conditions
