-- Laws of words written over, for this crate and those above.
pub mod WriteLaws
pub mod ScanLaws
pub mod LentLaws
