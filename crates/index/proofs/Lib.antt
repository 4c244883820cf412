-- Laws that this crate's functions share.
pub mod SeekLaws
pub mod SettleLaws
pub mod StepLaws
pub mod AnswerLaws
pub mod CheckLaws
pub mod Signed
pub mod DepthLaws
pub mod OpenLaws
pub mod CloseLaws
pub mod NumberLaws
pub mod Cases
pub mod Differs
pub mod FrameLaws
pub mod LocalityLaws
pub mod OutcomeLaws
