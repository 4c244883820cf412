-- Theorems: what RFC 9535 selects is what the walk finds.
pub mod Machine
pub mod Derive
pub mod Trace
pub mod Stretches
pub mod Verdicts
pub mod Characters
pub mod Names
pub mod Parts
pub mod Values
pub mod Elements
pub mod Members
pub mod Steps
pub mod Paths
pub mod Sample
pub mod EndToEnd
