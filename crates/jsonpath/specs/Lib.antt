pub mod Select
pub mod Demand2
pub mod EndToEnd
