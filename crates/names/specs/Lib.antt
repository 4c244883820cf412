pub mod Spelling
pub mod Spells
pub mod Helpers
