pub mod Coding
pub mod Block
pub mod Escape
pub mod Swinging
pub mod Guessing
pub mod Marking
pub mod Spreading
pub mod SettingBits
