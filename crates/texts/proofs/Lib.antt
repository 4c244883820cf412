-- Theorems about the texts of RFC 8259.
pub mod Padded
pub mod Tests
pub mod MachineLaws
pub mod CompleteTokens
pub mod Completeness
pub mod DepthLaws
pub mod Languages
pub mod ByteLaws
pub mod NumberLaws
pub mod Gathering
pub mod Backwards
pub mod Finishing
pub mod Reaching
pub mod Judging
pub mod Trials
pub mod Characters
