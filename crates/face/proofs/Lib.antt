-- What a foreign caller hears; no function needs it.
pub mod Theorems
pub mod Parts
