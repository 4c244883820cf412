pub mod Word
pub mod Bytes
pub mod Bits
pub mod Faults
pub mod Layout
