-- Laws of words, for this crate and those above.
pub mod Filling
pub mod ClassLaws
pub mod Lanes
pub mod Parities
pub mod EscapeLaw
pub mod SwingLaws
pub mod MarkLaws
pub mod SpreadLaws
