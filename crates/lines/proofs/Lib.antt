pub mod LineLaws
pub mod TableLaws
pub mod FrontLaws
pub mod WhereLaws
pub mod VerdictLaws
pub mod FeedLaws
