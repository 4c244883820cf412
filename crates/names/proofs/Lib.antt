-- Laws of spelling, for this crate and those above.
pub mod Comparing
pub mod SpellingLaws
pub mod Spelled
pub mod Rows
