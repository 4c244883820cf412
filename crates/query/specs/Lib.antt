pub mod Answer
pub mod Item
pub mod Items
pub mod Helpers
pub mod Walk
pub mod Answers
pub mod Outcomes
