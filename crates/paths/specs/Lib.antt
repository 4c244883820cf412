pub mod Places
pub mod Grammar
pub mod Path
pub mod Helpers
